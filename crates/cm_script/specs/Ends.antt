-- How callers end before their records do (own).
use Rattle.std.specs.Prelude.{ℕ, ◌≡◌, ◌⊎◌, ◌==◌, Bool, true, false, List, [], ◌∷◌, ◌++◌, filter, Option, Some, None}
use Rattle.cm_geo.specs.declared.geo.Geo.{Geo}
use Rattle.cm_plain.specs.Limits.{segment_of}
use Rattle.cm_script.specs.declared.line.Line.{Line}
use Rattle.cm_script.specs.declared.report.CallerEnd.{CallerEnd}
use Rattle.cm_script.specs.declared.report.How.{How}
use Rattle.cm_script.specs.declared.report.How.TheVariants as how
use Rattle.cm_script.specs.Answers.{Front, Numbered, is_sweep, line_at}

abbrev pub is_dead : How → Bool
is_dead how.Dead = true
is_dead how.Stopped = false

-- the ends by death
abbrev pub dead_ends : List CallerEnd → List CallerEnd
dead_ends ends = filter (λ end. is_dead end.how) ends

-- an end names the first record that isn't answered whole: the first without receipts, or a sweep on its way
pub record NamesNext (end : CallerEnd) (front : Front) : Type 0 where
  pub asked : Numbered
  pub later : List Numbered
  -- there is such a record
  pub rest_is : front.rest ≡ asked ∷ later
  -- its number is named
  pub line_is : end.line ≡ asked.0

-- a death names the last record that is answered whole, a sweep: its closing died
pub record NamesClosing (end : CallerEnd) (front : Front) : Type 0 where
  pub asked : Numbered
  pub earlier : List Numbered
  -- the caller died
  pub dead : end.how ≡ how.Dead
  -- no receipt stands behind those of that record
  pub last : front.part ≡ []
  -- there is such a record
  pub done_is : front.done ≡ earlier ++ asked ∷ []
  -- it is a sweep
  pub sweep : is_sweep asked.1.op ≡ true
  -- its number is named
  pub line_is : end.line ≡ asked.0

-- a caller that came so far has this end, or none: without one, all its records are answered whole
abbrev pub EndsAt : ℕ → Front → Option CallerEnd → Type 0
EndsAt caller front None = front.rest ≡ []
EndsAt caller front (Some end) = (end.caller ≡ caller) × (NamesNext end front ⊎ NamesClosing end front)

-- the record of an end is of this segment
abbrev pub is_line_in : Geo → ℕ → Option Line → Bool
is_line_in geo segment None = false
is_line_in geo segment (Some line) = segment_of geo line.op == segment

abbrev pub is_end_in : Geo → List Line → ℕ → CallerEnd → Bool
is_end_in geo script segment end = is_line_in geo segment (line_at script end.line)

-- the ends by death at records of a segment
abbrev pub dead_ends_in : Geo → List Line → List CallerEnd → ℕ → List CallerEnd
dead_ends_in geo script ends segment = filter (is_end_in geo script segment) (dead_ends ends)
