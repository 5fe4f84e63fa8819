-- How far a search along the slots of a tier has come over a memory (own).
use Rattle.std.specs.Prelude.{ℕ, ◌≢◌, ◌<◌, ◌≤◌, List, None}
use Rattle.cm_geo.specs.declared.geo.Geo.{Geo}
use Rattle.cm_plain.specs.Slots.{slot_in}
use Rattle.cm_words.specs.Memory.{FitsNotes, MemSeen}
use Rattle.cm_lookup.specs.Probing.{IsPassed, probe}

-- the slots from so many steps on were passed
abbrev pub ArePassed : MemSeen → Geo → ℕ → ℕ → ℕ → ℕ → Type 0
ArePassed m geo place fingerprint from to =
    (words : List ℕ) → FitsNotes m words → (steps : ℕ) → from ≤ steps → steps < to → IsPassed geo words place fingerprint steps

-- the slots of fewer steps are not empty
abbrev pub AreSome : MemSeen → Geo → ℕ → ℕ → ℕ → Type 0
AreSome m geo place fingerprint to =
    (words : List ℕ) → FitsNotes m words → (steps : ℕ) → steps < to → slot_in geo words place (probe geo fingerprint steps) ≢ None
