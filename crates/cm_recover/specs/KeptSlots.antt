-- What is kept of the words of a map, whatever stands in them (Chronicle Map's way in outline, with rules that are own).
use Rattle.std.specs.Prelude.{ℕ, ◌==◌, List, [], ◌∷◌, ◌++◌, length, filter}
use Rattle.std.specs.List.{fold}
use Rattle.cm_geo.specs.declared.geo.Geo.{Geo}
use Rattle.cm_plain.specs.declared.placed.Placed.{Placed}
use Rattle.cm_plain.specs.States.{State}
use Rattle.cm_plain.specs.Changes.{with_entry}
use Rattle.cm_recover.specs.declared.cause.Cause.{Cause}
use Rattle.cm_recover.specs.declared.cause.Cause.TheVariants as cause
use Rattle.cm_recover.specs.OccupiedSlots.{OccupiedSlot, occupied_slots}
use Rattle.cm_recover.specs.AllowedPlaces.{allowed_places}
use Rattle.cm_recover.specs.Judgements.{Judgement, is_dropped, is_kept, judgement}

-- of some slots: the entries that are kept, in the order of their runs, and for what the others are dropped
pub record KeptEntries : Type 0 where
  pub entries : List Placed
  pub drops : List Cause

-- with one more slot, by what becomes of it
abbrev pub kept_with : Geo → KeptEntries → Judgement → KeptEntries
kept_with geo kept (is_dropped why) = record { entries = kept.entries; drops = kept.drops ++ why ∷ [] }
kept_with geo kept (is_kept entry) = record { entries = with_entry geo entry kept.entries; drops = kept.drops }

-- of these slots of a segment, one after the other, beside what is kept of earlier ones
abbrev pub kept_of : Geo → ℕ → List ℕ → List ℕ → KeptEntries → List OccupiedSlot → KeptEntries
kept_of geo segment words allowed_places before slots = fold (λ kept at. kept_with geo kept (judgement geo segment words allowed_places kept.entries at)) before slots

-- of all slots of a segment
unfoldable pub kept_in : Geo → (ℕ → List ℕ) → ℕ → KeptEntries
kept_in geo words_of segment =
    kept_of geo segment (words_of segment) (allowed_places geo words_of segment) (record { entries = []; drops = [] }) (occupied_slots geo (words_of segment))

-- the state that is kept of a segment
abbrev pub kept_state : Geo → (ℕ → List ℕ) → ℕ → State
kept_state geo words_of segment = record { chain = allowed_places geo words_of segment; entries = (kept_in geo words_of segment).entries }

-- the place of a cause in the order in which they are asked
abbrev pub rank : Cause → ℕ
rank cause.Allowance = 0
rank cause.Range = 1
rank cause.Lengths = 2
rank cause.Checksum = 3
rank cause.Padding = 4
rank cause.Segment = 5
rank cause.Fingerprint = 6
rank cause.Duplicate = 7
rank cause.Overlap = 8

-- how many slots of a segment are dropped for a cause
abbrev pub drops_for : Geo → (ℕ → List ℕ) → ℕ → Cause → ℕ
drops_for geo words_of segment why = length (filter (λ other. rank other == rank why) (kept_in geo words_of segment).drops)
