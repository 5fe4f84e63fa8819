-- How far back the slots before one aren't empty, and what it says of the slot law.
use Rattle.std.proofs.Common.{◌≡◌, ◌≢◌, ℕ, ◌+◌, ◌-◌, ◌*◌, ◌%◌, ◌<◌, ◌≤◌, ◌⊎◌, true, false, List, Option, Some, None, is_none, is_some, bit_and, refl, sym, ap, ◌∙◌, arith, inl, inr}
use Rattle.std.proofs.lemmas.Bool.{cases_eq}
use Rattle.std.proofs.Math.Nat.{add-mod_right, mod-eq_of_lt}
use Rattle.cm_geo.specs.declared.geo.Geo.{Geo}
use Rattle.cm_geo.specs.Hash.{home_in}
use Rattle.cm_geo.proofs.Ranges.{chunks_range}
use Rattle.cm_plain.specs.Slots.{Slot, slot_in}
use Rattle.cm_plain.specs.Lawful.{slot_behind, steps_between}
use Rattle.cm_lookup.specs.Rings.{Ring}
use Rattle.cm_lookup.proofs.RingArithmetic.{ring_slot_is, ring_steps_below, ring_steps_is}
use Rattle.std.proofs.Common.{mod-lt}
use Rattle.cm_lookup.specs.declared.hit.SlotParts.{SlotParts}
use Rattle.cm_lookup.proofs.Masks.{mask_between}
use Rattle.cm_check.specs.Quiets.{slot_seen}
use Rattle.cm_check.specs.SlotLaws.{is_cut_off, is_gap}
use Rattle.cm_check.specs.SlotReads.{IsReach, slot_before}
use Rattle.cm_check.proofs.RangeTests.{below_none, below_some}

-- a ring of so many slots
abbrev ring_for : ℕ → Ring
ring_for size = record { size = size; home = λ word. 0 }

-- a slot so many steps before one is so many behind it, round the end
before_is : (size number steps : ℕ) → number < size → 1 ≤ steps → steps ≤ size
    → ((number < steps) × (slot_before size number steps + steps ≡ number + size)) ⊎ ((steps ≤ number) × (slot_before size number steps + steps ≡ number))
before_is size number steps below some short = elim (cases_le steps number) [
  | inl near ↦
      (let e : number + size - steps ≡ number - steps + size = omega arith in
      let f : number - steps < size = omega arith in
      let is : slot_before size number steps ≡ number - steps = ap (λ (n : ℕ). n % size) e ∙ (add-mod_right (number - steps) size ∙ mod-eq_of_lt f) in
      inr (near, omega (arith, is)))
  | inr far ↦
      (let f : number + size - steps < size = omega arith in
      let is : slot_before size number steps ≡ number + size - steps = mod-eq_of_lt f in
      inl (far, omega (arith, is)))
]
  where
    cases_le : (a b : ℕ) → (a ≤ b) ⊎ (b < a)
    cases_le a b = grind arith

-- a slot on the way from a home to a slot lies before it
behind_before : (size home number steps : ℕ) → home < size → number < size → steps < steps_between size home number
    → slot_behind size home steps ≡ slot_before size number (steps_between size home number - steps)
behind_before size home number steps home_low low inside =
    let ring : Ring = ring_for size in
    let short = ring_steps_below ring home number (omega arith) in
    by_numbers size home number steps (steps_between size home number) (slot_behind size home steps) (slot_before size number (steps_between size home number - steps)) home_low low inside short
    (ring_steps_is ring home number home_low low) (ring_slot_is ring home steps home_low (omega (arith, inside, short)))
    (before_is size number (steps_between size home number - steps) low (omega (arith, inside)) (omega (arith, short)))
  where
    by_numbers : (size home number steps way a b : ℕ) → home < size → number < size → steps < way → way < size
        → ((home ≤ number) × (way + home ≡ number)) ⊎ ((number < home) × (way + home ≡ number + size))
        → ((home + steps < size) × (a ≡ home + steps)) ⊎ ((size ≤ home + steps) × (a + size ≡ home + steps))
        → ((number < way - steps) × (b + (way - steps) ≡ number + size)) ⊎ ((way - steps ≤ number) × (b + (way - steps) ≡ number)) → a ≡ b
    by_numbers size home number steps way a b home_low low inside short (inl p) (inl q) (inl r) = omega arith
    by_numbers size home number steps way a b home_low low inside short (inl p) (inl q) (inr r) = omega arith
    by_numbers size home number steps way a b home_low low inside short (inl p) (inr q) (inl r) = omega arith
    by_numbers size home number steps way a b home_low low inside short (inl p) (inr q) (inr r) = omega arith
    by_numbers size home number steps way a b home_low low inside short (inr p) (inl q) (inl r) = omega arith
    by_numbers size home number steps way a b home_low low inside short (inr p) (inl q) (inr r) = omega arith
    by_numbers size home number steps way a b home_low low inside short (inr p) (inr q) (inl r) = omega arith
    by_numbers size home number steps way a b home_low low inside short (inr p) (inr q) (inr r) = omega arith

-- the test of a gap
gap_none : (slot : Option Slot) → slot ≢ None → is_none slot ≡ false
gap_none None some = absurd (some refl)
gap_none (Some slot) some = refl

-- a slot whose home lies within the reach is not cut off
pub reached_by : (geo : Geo) (words : List ℕ) (place number reach : ℕ) (slot : Slot) → number < 2 * geo.chunks → slot_in geo words place number ≡ Some slot → IsReach geo words place number reach
    → steps_between (2 * geo.chunks) (home_in geo slot.fingerprint) number ≤ reach → is_cut_off geo words place number ≡ false
unfolding is_cut_off
reached_by geo words place number reach slot below e is within =
    let size : ℕ = 2 * geo.chunks in
    let home_low : home_in geo slot.fingerprint < size = mod-lt slot.fingerprint (omega (arith, chunks_range geo)) in
    let way : ℕ = steps_between (2 * geo.chunks) (home_in geo slot.fingerprint) number in
    let short : steps_between (2 * geo.chunks) (home_in geo slot.fingerprint) number < 2 * geo.chunks = ring_steps_below (ring_for size) (home_in geo slot.fingerprint) number (omega (arith, chunks_range geo)) in
    rw e (below_none (is_gap geo words place slot.fingerprint) (steps_between (2 * geo.chunks) (home_in geo slot.fingerprint) number)
    (λ steps inside. (let same = behind_before size (home_in geo slot.fingerprint) number steps home_low below inside in
    rw same (gap_none (slot_in geo words place (slot_before size number (way - steps))) (is.occupied (way - steps) (omega (arith, inside)) (omega (arith, within)) (omega (arith, short)))))))

-- one whose home lies behind it is
pub cut_off_by : (geo : Geo) (words : List ℕ) (place number reach : ℕ) (slot : Slot) → number < 2 * geo.chunks → slot_in geo words place number ≡ Some slot → IsReach geo words place number reach
    → reach < steps_between (2 * geo.chunks) (home_in geo slot.fingerprint) number → is_cut_off geo words place number ≡ true
unfolding is_cut_off
cut_off_by geo words place number reach slot below e is beyond =
    let size : ℕ = 2 * geo.chunks in
    let way : ℕ = steps_between (2 * geo.chunks) (home_in geo slot.fingerprint) number in
    let home_low : home_in geo slot.fingerprint < size = mod-lt slot.fingerprint (omega (arith, chunks_range geo)) in
    let short : steps_between (2 * geo.chunks) (home_in geo slot.fingerprint) number < 2 * geo.chunks = ring_steps_below (ring_for size) (home_in geo slot.fingerprint) number (omega (arith, chunks_range geo)) in
    let inside : way - (reach + 1) < way = omega (arith, beyond) in
    let same = behind_before size (home_in geo slot.fingerprint) number (way - (reach + 1)) home_low below inside in
    let back : way - (way - (reach + 1)) ≡ reach + 1 = omega (arith, beyond) in
    let empty : slot_in geo words place (slot_behind size (home_in geo slot.fingerprint) (way - (reach + 1))) ≡ None =
    ap (slot_in geo words place) (same ∙ ap (slot_before size number) back) ∙ is.ends (omega (arith, beyond, short)) in
    rw e (below_some (is_gap geo words place slot.fingerprint) (steps_between (2 * geo.chunks) (home_in geo slot.fingerprint) number) (way - (reach + 1)) inside (ap is_none empty))

-- an empty slot isn't cut off
pub empty_reached : (geo : Geo) (words : List ℕ) (place number : ℕ) → slot_in geo words place number ≡ None → is_cut_off geo words place number ≡ false
unfolding is_cut_off
empty_reached geo words place number e = rw e refl

-- the slot before the next one is this one
this_before : (size number : ℕ) → number < size → slot_before size (number + 1) 1 ≡ number
this_before size number below =
    let e : number + 1 + size - 1 ≡ number + size = omega arith in
    ap (λ (n : ℕ). n % size) e ∙ (add-mod_right number size ∙ mod-eq_of_lt below)

-- one slot further
pub reach_more : (geo : Geo) (words : List ℕ) (place number reach : ℕ) → number < 2 * geo.chunks → slot_in geo words place number ≢ None → IsReach geo words place number reach → IsReach geo words place (number + 1) (reach + 1)
reach_more geo words place number reach below some is =
    let size : ℕ = 2 * geo.chunks in
    record {
      occupied = λ steps nonzero within short. elim (cases_eq steps 1) [
        | inl first ↦ (let e : slot_before size (number + 1) steps ≡ number = ap (slot_before size (number + 1)) first ∙ this_before size number below in λ none. some (ap (slot_in geo words place) (sym e) ∙ none))
        | inr later ↦
            (let e : number + 1 + size - steps ≡ number + size - (steps - 1) = omega arith in
            λ none. is.occupied (steps - 1) (omega arith) (omega arith) (omega arith) (ap (λ (n : ℕ). slot_in geo words place (n % size)) (sym e) ∙ none))
      ];
      ends = λ short. (let e : number + 1 + size - (reach + 1 + 1) ≡ number + size - (reach + 1) = omega arith in ap (λ (n : ℕ). slot_in geo words place (n % size)) e ∙ is.ends (omega (arith, short)));
    }

pub reach_none : (geo : Geo) (words : List ℕ) (place number : ℕ) → number < 2 * geo.chunks → slot_in geo words place number ≡ None → IsReach geo words place (number + 1) 0
reach_none geo words place number below none = record {
  occupied = λ steps nonzero within short. absurd (omega arith);
  ends = λ short. ap (slot_in geo words place) (this_before (2 * geo.chunks) number below) ∙ none;
}

-- the reach of the first slot, from the last slots of the tier
pub reach_of_first : (geo : Geo) (words : List ℕ) (place reach : ℕ) → ((behind : ℕ) → behind < reach → slot_in geo words place (2 * geo.chunks - 1 - behind) ≢ None)
    → (reach < 2 * geo.chunks → slot_in geo words place (2 * geo.chunks - 1 - reach) ≡ None) → IsReach geo words place 0 reach
reach_of_first geo words place reach some ends =
    let size : ℕ = 2 * geo.chunks in
    record {
      occupied = λ steps nonzero within short.
          (let e : slot_before size 0 steps ≡ size - 1 - (steps - 1) = last_slots size steps nonzero (omega (arith, chunks_range geo)) in
          λ none. some (steps - 1) (omega arith) (ap (slot_in geo words place) (sym e) ∙ none));
      ends = λ short. (let e : slot_before size 0 (reach + 1) ≡ size - 1 - reach = last_slots size (reach + 1) (omega arith) (omega (arith, chunks_range geo)) ∙ ap (λ (n : ℕ). size - 1 - n) (omega arith) in ap (slot_in geo words place) e ∙ ends short);
    }
  where
    last_slots : (size steps : ℕ) → 1 ≤ steps → 1 ≤ size → slot_before size 0 steps ≡ size - 1 - (steps - 1)
    last_slots size steps nonzero some =
        let e : 0 + size - steps ≡ size - 1 - (steps - 1) = omega arith in
        let f : size - 1 - (steps - 1) < size = omega arith in
        ap (λ (n : ℕ). n % size) e ∙ mod-eq_of_lt f

-- the way from a home to a slot, by the mask of a tier's slots
pub way_is : (geo : Geo) (number chunks home fingerprint : ℕ) → chunks ≡ geo.chunks → home ≡ home_in geo fingerprint
    → bit_and (number + 2 * chunks - home) (2 * chunks - 1) ≡ steps_between (2 * geo.chunks) (home_in geo fingerprint) number
way_is geo number chunks home fingerprint e f = rw (e, f) (mask_between geo (home_in geo fingerprint) number)

-- no slot, as it is read
pub seen_none : (parts : Option SlotParts) → is_some parts ≡ false → slot_seen parts ≡ None
seen_none None e = refl
seen_none (Some parts) e = cc e

pub seen_some : (parts : Option SlotParts) → is_some parts ≡ true → slot_seen parts ≢ None
seen_some None e = cc e
seen_some (Some parts) e = λ f. cc f
