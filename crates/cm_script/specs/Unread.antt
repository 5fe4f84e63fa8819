-- What becomes of a script of which a part was read (own).
use Rattle.std.specs.Prelude.{ℕ, ◌≡◌, ◌<◌, ◌≤◌, ◌++◌, List, length, Option, Some, None, Result, Ok, Err}
use Rattle.cm_geo.specs.declared.geo.Geo.{Geo}
use Rattle.cm_script.specs.declared.limits.TheConstants.{MAX_SCRIPT_LINES}
use Rattle.cm_script.specs.declared.line.Line.{Line}
use Rattle.cm_script.specs.declared.read.SoFar.{SoFar}
use Rattle.cm_script.specs.declared.stop.LineCause.{LineCause}
use Rattle.cm_script.specs.declared.stop.ScriptStop.{ScriptStop}
use Rattle.cm_script.specs.declared.stop.ScriptStop.TheVariants as stop
use Rattle.cm_script.specs.Scripts.{Refusal, refused, lines_from}

-- these lines and then those of a result
abbrev pub after : List Line → Result (List Line) Refusal → Result (List Line) Refusal
after lines (Ok later) = Ok (lines ++ later)
after lines (Err why) = Err why

-- the refusal of a record, or else these lines and then those of the records to come
abbrev pub unless_refused : Option (ℕ × LineCause) → List Line → Result (List Line) Refusal → Result (List Line) Refusal
unless_refused None lines later = after lines later
unless_refused (Some (line, cause)) lines later = Err (refused line cause)

-- the script, where the records from this number on are to come
abbrev pub script_from : Geo → SoFar → ℕ → List (List (List ℕ)) → Result (List Line) Refusal
script_from geo so_far number later = unless_refused so_far.refused so_far.lines.items (lines_from geo number so_far.lists later)

-- why the records are no script; want of memory is free
abbrev pub StopsReading : Geo → List (List (List ℕ)) → ScriptStop → Type 0
StopsReading geo rows stop.TooLong = MAX_SCRIPT_LINES < length rows
StopsReading geo rows (stop.Refused line cause) = (length rows ≤ MAX_SCRIPT_LINES) × (lines_from geo 1 0 rows ≡ Err (refused line cause))
StopsReading geo rows stop.NoMemory = Unit {0}
