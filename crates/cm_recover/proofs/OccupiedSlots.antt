-- Which slots recovery visits.
use Rattle.std.proofs.Common.{◌≡◌, ◌≢◌, ℕ, ◌*◌, ◌<◌, ◌⊎◌, List, Option, Some, None, refl, ap, sym, subst, ◌∙◌, arith, inl, inr}
use Rattle.std.specs.List.{range_with_len}
use Rattle.std.specs.Option.{option_map}
use Rattle.cm_geo.specs.declared.geo.Geo.{Geo}
use Rattle.cm_plain.specs.Slots.{Slot, slot_in}
use Rattle.cm_plain.specs.FoundChains.{chain_of}
use Rattle.cm_plain.proofs.Each.{Pairs}
use Rattle.cm_plain.proofs.ListElements.{In, in_range, joined_from, joined_to, mapped_from, mapped_to, pairs_joined, pairs_mapped, range_differs, range_from}
use Rattle.cm_recover.specs.OccupiedSlots.{OccupiedSlot, occupied_slots, occupied_at, occupied_in}

-- a slot that isn't empty stands in a tier of the chain
pub record StandsIn (geo : Geo) (words : List ℕ) (at : OccupiedSlot) : Type 0 where
  pub chained : In at.place (chain_of geo words).places
  pub inside : at.number < 2 * geo.chunks
  pub slot_is : slot_in geo words at.place at.number ≡ Some at.slot

-- what is known of one that was found at a place and number
record IsHere (geo : Geo) (words : List ℕ) (place number : ℕ) (at : OccupiedSlot) : Type 0 where
  place_is : at.place ≡ place
  number_is : at.number ≡ number
  slot_is : slot_in geo words at.place at.number ≡ Some at.slot

is_here : (geo : Geo) (words : List ℕ) (place number : ℕ) (at : OccupiedSlot) → occupied_at geo words place number ≡ Some at → IsHere geo words place number at
is_here geo words place number at e = by (slot_in geo words place number) refl e
  where
    by : (slot : Option Slot) → slot_in geo words place number ≡ slot → option_map (λ (slot : Slot). let o : OccupiedSlot = record { place = place; number = number; slot = slot } in o) slot ≡ Some at → IsHere geo words place number at
    by None is e = cc e
    by (Some slot) is e =
        let made : OccupiedSlot = record { place = place; number = number; slot = slot } in
        let e' : Some made ≡ Some at = e in
        let same : made ≡ at = cc e' in
        record {
          place_is = sym (ap (λ (o : OccupiedSlot). o.place) same);
          number_is = sym (ap (λ (o : OccupiedSlot). o.number) same);
          slot_is = subst (λ (o : OccupiedSlot). slot_in geo words o.place o.number ≡ Some o.slot) same is;
        }

-- one of the tier at a place
in_tier : (geo : Geo) (words : List ℕ) (place : ℕ) (at : OccupiedSlot) → In at (occupied_in geo words place) → (number : ℕ) × (number < 2 * geo.chunks) × IsHere geo words place number at
in_tier geo words place at i =
    let is = mapped_from (occupied_at geo words place) (range_with_len 0 (2 * geo.chunks)) at i in
    (is.from, omega (arith, (range_from 0 (2 * geo.chunks) is.from is.is_in).1), is_here geo words place is.from at is.gives)

-- each slot that is visited stands there
pub occupied_from : (geo : Geo) (words : List ℕ) (at : OccupiedSlot) → In at (occupied_slots geo words) → StandsIn geo words at
unfolding occupied_slots
occupied_from geo words at i =
    let is = joined_from (occupied_in geo words) (chain_of geo words).places at i in
    let here = in_tier geo words is.from at is.within in
    record {
      chained = subst (λ (p : ℕ). In p (chain_of geo words).places) (sym here.2.place_is) is.is_in;
      inside = subst (λ (n : ℕ). n < 2 * geo.chunks) (sym here.2.number_is) here.1;
      slot_is = here.2.slot_is;
    }

-- and each that stands there is visited
pub occupied_to : (geo : Geo) (words : List ℕ) (place number : ℕ) (slot : Slot) → In place (chain_of geo words).places → number < 2 * geo.chunks → slot_in geo words place number ≡ Some slot
    → In (record { place = place; number = number; slot = slot }) (occupied_slots geo words)
unfolding occupied_slots
occupied_to geo words place number slot chained inside e =
    let at : OccupiedSlot = record { place = place; number = number; slot = slot } in
    let made : occupied_at geo words place number ≡ Some at = rw e refl in
    joined_to (occupied_in geo words) (chain_of geo words).places place at chained
    (mapped_to (occupied_at geo words place) (range_with_len 0 (2 * geo.chunks)) number at (in_range 0 (2 * geo.chunks) number (omega arith) (omega arith)) made)

-- two slots are different ones
abbrev pub IsElsewhere : OccupiedSlot → OccupiedSlot → Type 0
IsElsewhere at other = (at.place ≢ other.place) ⊎ (at.number ≢ other.number)

-- each is visited once
pub occupied_once : (geo : Geo) (words : List ℕ) → Pairs (λ place other. place ≢ other) (chain_of geo words).places → Pairs IsElsewhere (occupied_slots geo words)
unfolding occupied_slots
occupied_once geo words differ =
    pairs_joined IsElsewhere (occupied_in geo words) (chain_of geo words).places
    (λ place. pairs_mapped IsElsewhere (occupied_at geo words place) (range_with_len 0 (2 * geo.chunks))
    (λ n n' at at' ne e e'. inr (λ same. ne (sym (is_here geo words place n at e).number_is ∙ same ∙ (is_here geo words place n' at' e').number_is)))
    (range_differs 0 (2 * geo.chunks)))
    (λ p p' at at' ne i i'. inl (λ same. ne (sym (in_tier geo words p at i).2.place_is ∙ same ∙ (in_tier geo words p' at' i').2.place_is)))
    differ
