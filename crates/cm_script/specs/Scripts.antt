-- The script of a text, or the first record that it is refused for (own; CSV is the kit's).
use Rattle.std.specs.Prelude.{ℕ, ◌≡◌, ◌+◌, ◌<◌, ◌==◌, ◌&&◌, ◌||◌, Bool, true, false, List, [], ◌∷◌, All, length, nat_lt, nat_le, Option, Some, None, Result, Ok, Err, codes, if◌then◌else◌}
use Rattle.std.specs.Str.{bytes_eq}
use Rattle.cm_geo.specs.declared.geo.Geo.{Geo}
use Rattle.cm_geo.specs.declared.limits.TheConstants.{MAX_KEY_BYTES, MAX_RUN_CHUNKS, MAX_VALUE_BYTES}
use Rattle.cm_geo.specs.Need.{need}
use Rattle.cm_plain.specs.Limits.{KeepsLimits}
use Rattle.cm_plain.specs.declared.op.Op.{Op}
use Rattle.cm_plain.specs.declared.op.Op.TheVariants as op
use Rattle.cm_script.specs.declared.limits.TheConstants.{MAX_CALLERS, MAX_SCRIPT_BYTES, MAX_SCRIPT_LINES, MAX_SCRIPT_LISTS}
use Rattle.cm_script.specs.declared.line.Line.{Line}
use Rattle.cm_script.specs.declared.stop.LineCause.{LineCause}
use Rattle.cm_script.specs.declared.stop.LineCause.TheVariants as cause
use Rattle.cm_script.specs.declared.stop.ScriptStop.{ScriptStop}
use Rattle.cm_script.specs.declared.stop.ScriptStop.TheVariants as stop
use Rattle.cm_script.specs.declared.verb.Verb.{Verb}
use Rattle.cm_script.specs.declared.verb.Verb.TheVariants as verb
use Rattle.cm_script.specs.Numbers.{number_below}
use Rattle.cm_script.specs.Rows.{records_of}

-- the operation of a word
unfoldable pub verb_of : List ℕ → Option Verb
verb_of word =
    if bytes_eq word (codes "put") then Some verb.Put
    else (if bytes_eq word (codes "get") then Some verb.Get
    else (if bytes_eq word (codes "put-if-absent") then Some verb.PutIfAbsent
    else (if bytes_eq word (codes "replace") then Some verb.Replace
    else (if bytes_eq word (codes "replace-if") then Some verb.ReplaceIf
    else (if bytes_eq word (codes "remove") then Some verb.Remove
    else (if bytes_eq word (codes "remove-if") then Some verb.RemoveIf
    else (if bytes_eq word (codes "count") then Some verb.Count
    else (if bytes_eq word (codes "list") then Some verb.List
    else (if bytes_eq word (codes "sweep") then Some verb.Sweep
    else None)))))))))

-- a result, unless a test refuses it first
abbrev pub unless : Bool → LineCause → Result Op LineCause → Result Op LineCause
unless true why result = Err why
unless false why result = result

abbrev pub is_empty : List ℕ → Bool
is_empty text = length text == 0

-- a key or a prefix has too many bytes; a value has
abbrev pub is_long_key : List ℕ → Bool
is_long_key key = nat_lt MAX_KEY_BYTES (length key)

abbrev pub is_long_value : List ℕ → Bool
is_long_value value = nat_lt MAX_VALUE_BYTES (length value)

-- a key and a value that is written make an entry of too many chunks
abbrev pub is_large : Geo → List ℕ → List ℕ → Bool
is_large geo key value = nat_lt MAX_RUN_CHUNKS (need geo (length key) (length value))

-- an operation on a key
abbrev pub op_on_key : List ℕ → Op → Result Op LineCause
op_on_key key asked = unless (is_empty key) cause.Argument (unless (is_long_key key) cause.TooLarge (Ok asked))

-- an operation that writes a value under a key
abbrev pub op_with_value : Geo → List ℕ → List ℕ → Op → Result Op LineCause
op_with_value geo key value asked =
    unless (is_empty key) cause.Argument (unless (is_long_key key || (is_long_value value || is_large geo key value)) cause.TooLarge (Ok asked))

-- an operation on the segment that a field names
abbrev pub op_on_segment : Option ℕ → (ℕ → Op) → Bool → Result Op LineCause
op_on_segment None asked is_too_large = Err cause.Argument
op_on_segment (Some segment) asked is_too_large = unless is_too_large cause.TooLarge (Ok (asked segment))

-- the operation of a word and the fields behind it, where so many `list` records stand before it
abbrev pub op_of : Geo → ℕ → Verb → List (List ℕ) → Result Op LineCause
op_of geo lists verb.Put (key ∷ value ∷ []) = op_with_value geo key value (op.Put key value)
op_of geo lists verb.Get (key ∷ []) = op_on_key key (op.Get key)
op_of geo lists verb.PutIfAbsent (key ∷ value ∷ []) = op_with_value geo key value (op.PutIfAbsent key value)
op_of geo lists verb.Replace (key ∷ value ∷ []) = op_with_value geo key value (op.Replace key value)
op_of geo lists verb.ReplaceIf (key ∷ expected ∷ value ∷ []) =
    unless (is_empty key) cause.Argument (unless (is_long_value expected) cause.TooLarge (op_with_value geo key value (op.ReplaceIf key expected value)))
op_of geo lists verb.Remove (key ∷ []) = op_on_key key (op.Remove key)
op_of geo lists verb.RemoveIf (key ∷ expected ∷ []) =
    unless (is_empty key) cause.Argument (unless (is_long_value expected) cause.TooLarge (op_on_key key (op.RemoveIf key expected)))
op_of geo lists verb.Count (segment ∷ []) = op_on_segment (number_below geo.segments segment) (λ number. op.Count number) false
op_of geo lists verb.List (segment ∷ []) = op_on_segment (number_below geo.segments segment) (λ number. op.List number) (nat_le MAX_SCRIPT_LISTS lists)
op_of geo lists verb.Sweep (segment ∷ prefix ∷ []) = op_on_segment (number_below geo.segments segment) (λ number. op.Sweep number prefix) (is_long_key prefix)
op_of geo lists _ _ = Err cause.Argument

abbrev pub line_by : ℕ → Result Op LineCause → Result Line LineCause
line_by caller (Ok asked) = Ok (record { caller = caller; op = asked })
line_by caller (Err why) = Err why

abbrev pub line_with : Geo → ℕ → Option ℕ → Option Verb → List (List ℕ) → Result Line LineCause
line_with geo lists None verb arguments = Err cause.Caller
line_with geo lists (Some caller) None arguments = Err cause.Op
line_with geo lists (Some caller) (Some verb) arguments = line_by caller (op_of geo lists verb arguments)

-- the line of a record's fields, or the first cause that refuses it: three to five fields, a caller, an operation, its arguments, their sizes
abbrev pub line_of : Geo → ℕ → List (List ℕ) → Result Line LineCause
line_of geo lists (caller ∷ word ∷ argument ∷ arguments) =
    if nat_lt 2 (length arguments) then Err cause.Csv
    else line_with geo lists (number_below MAX_CALLERS caller) (verb_of word) (argument ∷ arguments)
line_of geo lists _ = Err cause.Csv

abbrev pub is_list : Op → Bool
is_list (op.List segment) = true
is_list _ = false

-- how many `list` records there are after one more record
abbrev pub lists_with : ℕ → Result Line LineCause → ℕ
lists_with lists (Ok line) = if is_list line.op then lists + 1 else lists
lists_with lists (Err why) = lists

-- why a text is no script
pub data Refusal : Type 0 where
  too_long : Refusal
  refused : ℕ → LineCause → Refusal

abbrev pub with_line : Line → Result (List Line) Refusal → Result (List Line) Refusal
with_line line (Ok lines) = Ok (line ∷ lines)
with_line line (Err why) = Err why

-- a record's line and then those behind it, or its refusal
abbrev pub line_then : ℕ → Result Line LineCause → Result (List Line) Refusal → Result (List Line) Refusal
line_then number (Ok line) later = with_line line later
line_then number (Err why) later = Err (refused number why)

-- the lines of records that are numbered from here on, with so many `list` records before them, or the first refused one
abbrev pub lines_from : Geo → ℕ → ℕ → List (List (List ℕ)) → Result (List Line) Refusal
lines_from geo number lists [] = Ok []
lines_from geo number lists (row ∷ rows) =
    let line = line_of geo lists row in
    line_then number line (lines_from geo (number + 1) (lists_with lists line) rows)

-- the script of a text: its length and its number of records are tested before any record
abbrev pub script_of : Geo → List ℕ → Result (List Line) Refusal
script_of geo bytes =
    if nat_lt MAX_SCRIPT_BYTES (length bytes) then Err too_long
    else (if nat_lt MAX_SCRIPT_LINES (length (records_of bytes)) then Err too_long else lines_from geo 1 0 (records_of bytes))

-- why there is no script; want of memory is free
abbrev pub StopsScript : Geo → List ℕ → ScriptStop → Type 0
StopsScript geo bytes stop.TooLong = script_of geo bytes ≡ Err too_long
StopsScript geo bytes (stop.Refused line why) = script_of geo bytes ≡ Err (refused line why)
StopsScript geo bytes stop.NoMemory = Unit {0}

-- a line that was read for a geometry: its caller is one, and it keeps the limits
pub record IsLineFor (geo : Geo) (line : Line) : Type 0 where
  pub caller : line.caller < MAX_CALLERS
  pub limits : KeepsLimits geo line.op

-- a script that was read for a geometry: each line is
abbrev pub IsFor : Geo → List Line → Type 0
IsFor geo lines = All (IsLineFor geo) lines
