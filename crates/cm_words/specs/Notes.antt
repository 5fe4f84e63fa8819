-- Notes of each word of a segment, out of the words of the map (own).
use Rattle.std.specs.Prelude.{ℕ, ◌≡◌, ◌+◌, Bool, IsTrue, true, false, Option, Some, None, List, slice_index, if◌then◌else◌, nat_lt}
use Rattle.std.proofs.Common.{◌∙◌, subst, sym}
use Rattle.cm_geo.specs.declared.geo.Geo.{Geo}
use Rattle.cm_geo.specs.Addresses.{words_in_segment}
use Rattle.cm_words.specs.Memory.{MemSeen, Note}

-- the notes of a segment that starts here, from the present and the first words of the map
abbrev pub notes_in : Geo → ℕ → List ℕ → List ℕ → ℕ → Option Note
notes_in geo start present first at =
    if nat_lt at (words_in_segment geo) then Some (record { present = slice_index present (start + at); first = slice_index first (start + at) }) else None

-- a law: of a memory that isn't shared nothing is asked for the lock word
abbrev pub IsNo : Bool → Type 0
IsNo true = ⊥
IsNo false = Unit {0}

pub not_shared : (m : MemSeen) → m.setting.shared ≡ false → IsTrue m.setting.shared → m.noted 0 ≡ None
not_shared m alone shared = absurd (subst IsNo (sym alone ∙ shared) tt)
