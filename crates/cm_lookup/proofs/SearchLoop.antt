-- A search along the slots of a tier over a memory.
use Rattle.std.proofs.Common.{◌≡◌, ◌≢◌, ℕ, ◌+◌, ◌-◌, ◌*◌, ◌%◌, ◌^◌, ◌<◌, ◌≤◌, List, None, sym, subst, ap, ◌∙◌, arith, inl, inr, bit_and}
use Rattle.std.proofs.lemmas.Bool.{cases_lt}
use Rattle.cm_geo.specs.declared.geo.Geo.{Geo}
use Rattle.cm_geo.specs.Addresses.{slot_at, words_in_segment}
use Rattle.cm_geo.proofs.AddressOrder.{slot_in_range}
use Rattle.cm_geo.specs.Hash.{home_in}
use Rattle.cm_plain.specs.Slots.{slot_in}
use Rattle.cm_words.specs.Memory.{FitsNotes, MemSeen}
use Rattle.cm_words.specs.Effects.{Reads, Knows}
use Rattle.cm_words.proofs.FittingLists.{known_word}
use Rattle.cm_lookup.specs.Passing.{ArePassed, AreSome}
use Rattle.cm_lookup.specs.Probing.{HasNoHit, IsFirstEmpty, IsFirstHit, IsHit, IsPassed, PointsTo, probe}
use Rattle.cm_lookup.specs.Tiers.{HasEmptySlot}
use Rattle.cm_lookup.proofs.Finding.{is_empty, is_hit, is_passed, is_some, probe_below, round_meets}
use Rattle.cm_lookup.proofs.Masks.{mask_behind}
use Rattle.cm_lookup.proofs.Tiers.{slot_from_first, slot_inner}

-- the slot at a number of steps, by the code's mask
pub at_probe : (geo : Geo) (home slots fingerprint steps : ℕ) → home ≡ home_in geo fingerprint → slots ≡ 2 * geo.chunks → bit_and (home + steps) (slots - 1) ≡ probe geo fingerprint steps
at_probe geo home slots fingerprint steps home_is slots_is = rw (home_is, slots_is) (mask_behind geo (home_in geo fingerprint) steps)

-- and its address, counted from the tier's first slot
pub at_probe_from : (geo : Geo) (place first home slots fingerprint steps : ℕ) → first ≡ slot_at geo place 0 → home ≡ home_in geo fingerprint → slots ≡ 2 * geo.chunks
    → first + bit_and (home + steps) (slots - 1) ≡ slot_at geo place (probe geo fingerprint steps)
at_probe_from geo place first home slots fingerprint steps first_is home_is slots_is = slot_from_first geo place first _ first_is ∙ ap (slot_at geo place) (at_probe geo home slots fingerprint steps home_is slots_is)

-- it lies in the segment
pub probe_in_range : (m : MemSeen) (geo : Geo) (place first home slots fingerprint steps : ℕ) → place < geo.tiers → m.setting.geo ≡ geo → first ≡ slot_at geo place 0 → home ≡ home_in geo fingerprint → slots ≡ 2 * geo.chunks
    → first + bit_and (home + steps) (slots - 1) < words_in_segment m.setting.geo
probe_in_range m geo place first home slots fingerprint steps place_below geo_is first_is home_is slots_is =
    rw (geo_is, at_probe_from geo place first home slots fingerprint steps first_is home_is slots_is) (slot_in_range geo place (probe geo fingerprint steps) place_below (probe_below geo fingerprint steps))

-- one more index
one_more : (P : ℕ → Type 0) (low high : ℕ) → ((k : ℕ) → low ≤ k → k < high → P k) → P high → (k : ℕ) → low ≤ k → k < high + 1 → P k
one_more P low high below here k above within = elim (cases_lt k high) [
  | inl less ↦ below k above less
  | inr more ↦ (let e : high ≡ k = omega arith in subst P e here)
]

-- ---- find

pub passed_more : (a b : MemSeen) (geo : Geo) (place fingerprint from to at word : ℕ) → ArePassed a geo place fingerprint from to → Reads a b → at ≡ slot_at geo place (probe geo fingerprint to) → Knows b at word → word ≢ 0
    → ((chunk : ℕ) → PointsTo word fingerprint geo.chunks chunk → ⊥) → ArePassed b geo place fingerprint from (to + 1)
passed_more a b geo place fingerprint from to at word passed reads at_is knows occupied fails words fits =
    one_more (λ steps. IsPassed geo words place fingerprint steps) from to (passed words (reads.fits words fits))
    (is_passed geo words place fingerprint to word (known_word b _ at word (slot_inner geo place _) at_is knows words fits) occupied
    (λ upper low below. fails (word % 2 ^ 32 - 1) (record { upper = upper; lower = omega arith; below = omega arith })))

pub finds_hit : (a b : MemSeen) (geo : Geo) (place fingerprint from steps slot chunk at word : ℕ) → ArePassed a geo place fingerprint from steps → Reads a b → slot ≡ probe geo fingerprint steps → at ≡ slot_at geo place slot → Knows b at word
    → from ≤ steps → steps < 2 * geo.chunks → PointsTo word fingerprint geo.chunks chunk
    → (words : List ℕ) → FitsNotes b words → IsFirstHit geo words place fingerprint from (record { steps = steps; slot = slot; chunk = chunk })
finds_hit a b geo place fingerprint from steps slot chunk at word passed reads slot_is at_is knows not_before inside points words fits = record {
  not_before = not_before;
  inside = inside;
  hits = subst (λ (c : ℕ). IsHit geo words place fingerprint (record { steps = steps; slot = slot; chunk = c })) (one_less (word % 2 ^ 32) chunk points.lower)
      (is_hit geo words place fingerprint steps slot word slot_is (known_word b _ at word (slot_inner geo place _) at_is knows words fits) points.upper (omega (arith, points.lower)) (omega (arith, points.lower, points.below)));
  before = passed words (reads.fits words fits);
}
  where
    one_less : (low chunk : ℕ) → low ≡ chunk + 1 → low - 1 ≡ chunk
    one_less low chunk e = omega arith

pub finds_empty : (a b : MemSeen) (geo : Geo) (place fingerprint from steps at word : ℕ) → ArePassed a geo place fingerprint from steps → Reads a b → at ≡ slot_at geo place (probe geo fingerprint steps) → Knows b at word → word ≡ 0
    → from ≤ steps → steps < 2 * geo.chunks → (words : List ℕ) → FitsNotes b words → HasNoHit geo words place fingerprint from
finds_empty a b geo place fingerprint from steps at word passed reads at_is knows none not_before inside words fits = record {
  end = steps;
  not_before = not_before;
  inside = omega arith;
  empty = λ _. is_empty geo words place (probe geo fingerprint steps) (known_word b _ at word (slot_inner geo place _) at_is knows words fits ∙ none);
  before = passed words (reads.fits words fits);
}

pub finds_round : (m : MemSeen) (geo : Geo) (place fingerprint from steps : ℕ) → ArePassed m geo place fingerprint from steps → from ≤ 2 * geo.chunks → 2 * geo.chunks ≤ steps
    → (words : List ℕ) → FitsNotes m words → HasNoHit geo words place fingerprint from
finds_round m geo place fingerprint from steps passed not_before past words fits = record {
  end = 2 * geo.chunks;
  not_before = not_before;
  inside = omega arith;
  empty = λ less. absurd (omega arith);
  before = λ k above below. passed words fits k above (omega arith);
}

-- ---- free_slot

pub some_more : (a b : MemSeen) (geo : Geo) (place fingerprint to at word : ℕ) → AreSome a geo place fingerprint to → Reads a b → at ≡ slot_at geo place (probe geo fingerprint to) → Knows b at word → word ≢ 0
    → AreSome b geo place fingerprint (to + 1)
some_more a b geo place fingerprint to at word passed reads at_is knows occupied words fits steps below =
    one_more (λ steps. slot_in geo words place (probe geo fingerprint steps) ≢ None) 0 to (λ k _ less. passed words (reads.fits words fits) k less)
    (is_some geo words place (probe geo fingerprint to) (λ e. occupied (sym (known_word b _ at word (slot_inner geo place _) at_is knows words fits) ∙ e))) steps (omega arith) below

pub first_is_empty : (a b : MemSeen) (geo : Geo) (place fingerprint steps slot at word : ℕ) → AreSome a geo place fingerprint steps → Reads a b → slot ≡ probe geo fingerprint steps → at ≡ slot_at geo place slot → Knows b at word → word ≡ 0
    → steps < 2 * geo.chunks → (words : List ℕ) → FitsNotes b words → HasEmptySlot geo words place → IsFirstEmpty geo words place fingerprint slot
first_is_empty a b geo place fingerprint steps slot at word passed reads slot_is at_is knows none inside words fits has = record {
  steps = steps;
  inside = inside;
  slot_is = slot_is;
  empty = is_empty geo words place slot (known_word b _ at word (slot_inner geo place _) at_is knows words fits ∙ none);
  before = passed words (reads.fits words fits);
}

pub none_is_empty : (m : MemSeen) (geo : Geo) (place fingerprint steps slot : ℕ) → AreSome m geo place fingerprint steps → 2 * geo.chunks ≤ steps
    → (words : List ℕ) → FitsNotes m words → HasEmptySlot geo words place → IsFirstEmpty geo words place fingerprint slot
none_is_empty m geo place fingerprint steps slot passed past words fits has = absurd (round_meets geo words place fingerprint has (λ k below. passed words fits k (omega arith)))
