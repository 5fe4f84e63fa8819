-- What a caller has of each list of words that fits after a removal, and after one that died.
use Rattle.std.proofs.Common.{◌≡◌, ℕ, List, subst}
use Rattle.cm_geo.specs.declared.geo.Geo.{Geo}
use Rattle.cm_words.specs.Memory.{FitsNotes, MemSeen, origin}
use Rattle.cm_lookup.specs.Removals.{CanLose, Removes, ShiftsPart}
use Rattle.cm_plain.specs.Lawful.{KeepsSlotLaw}
use Rattle.cm_lookup.proofs.LostEntry.{Rearranged, shift_rearranges}
use Rattle.cm_lookup.proofs.PartialShift.{IsMidway, midway}
use Rattle.cm_lookup.proofs.PartialShift.PartOrWhole.{part, whole}
use Rattle.cm_lookup.proofs.RemovalLoop.{IsHere, here_is_tier}

-- a list from before, of which a slot was removed
pub record CameWithout (old now : MemSeen) (geo : Geo) (place slot : ℕ) (words before : List ℕ) : Type 0 where
  pub fits : FitsNotes old before
  pub origin_is : origin now words ≡ origin old before
  pub law : CanLose geo before place slot → KeepsSlotLaw geo words place
  pub moved : CanLose geo before place slot → Rearranged geo before words place slot
  pub around : CanLose geo before place slot → IsMidway geo before words place slot

pub came_without : (old now : MemSeen) (geo : Geo) (place slot : ℕ) (words : List ℕ) → IsHere old geo place slot → Removes old now geo place slot → FitsNotes now words
    → (before : List ℕ) × CameWithout old now geo place slot words before
came_without old now geo place slot words here removes fits =
    let far = removes.came words fits in (
      far.0,
      record {
        fits = far.1.fits;
        origin_is = far.1.origin;
        law = λ can. (far.1.relates.lost can).law;
        moved = λ can. subst (λ (ws : List ℕ). Rearranged geo far.0 ws place slot) far.1.relates.by.leads (shift_rearranges geo far.0 place slot far.1.relates.stores (here_is_tier old geo place slot far.0 here far.1.fits) (far.1.relates.whole can));
        around = λ can. subst (λ (ws : List ℕ). IsMidway geo far.0 ws place slot) far.1.relates.by.leads (midway geo far.0 place slot far.1.relates.stores (here_is_tier old geo place slot far.0 here far.1.fits) (whole (far.1.relates.whole can)));
      },
    )

-- a list from before, of which a slot was being removed
pub record CameOnTheWay (old now : MemSeen) (geo : Geo) (place slot : ℕ) (words before : List ℕ) : Type 0 where
  pub fits : FitsNotes old before
  pub origin_is : origin now words ≡ origin old before
  pub around : IsMidway geo before words place slot

pub came_on_the_way : (old now : MemSeen) (geo : Geo) (place slot : ℕ) (words : List ℕ) → IsHere old geo place slot → ShiftsPart old now geo place slot → FitsNotes now words
    → (before : List ℕ) × CameOnTheWay old now geo place slot words before
came_on_the_way old now geo place slot words here shifted fits =
    let far = shifted.2.came words fits in (
      far.0,
      record {
        fits = far.1.fits;
        origin_is = far.1.origin;
        around = subst (λ (ws : List ℕ). IsMidway geo far.0 ws place slot) far.1.relates.by.leads
            (midway geo far.0 place slot far.1.relates.made (here_is_tier old geo place slot far.0 here far.1.fits) (part shifted.0 shifted.1 far.1.relates.shift));
      },
    )
