-- What a search along a tier's slots finds.
use Rattle.std.proofs.Common.{◌≡◌, ◌≢◌, ℕ, ◌+◌, ◌-◌, ◌*◌, ◌/◌, ◌%◌, ◌^◌, ◌<◌, ◌≤◌, List, get_or, refl, sym, ap, ◌∙◌, arith, inl, inr, Some, None, mod-lt}
use Rattle.std.proofs.lemmas.Bool.{cases_lt, cases_order}
use Rattle.cm_geo.specs.declared.geo.Geo.{Geo}
use Rattle.cm_geo.specs.Addresses.{slot_at}
use Rattle.cm_geo.specs.Hash.{home_in}
use Rattle.cm_geo.proofs.Ranges.{chunks_range}
use Rattle.cm_plain.specs.Slots.{Slot, slot_in}
use Rattle.cm_plain.specs.Lawful.{KeepsSlotLaw, steps_between}
use Rattle.cm_lookup.specs.declared.hit.Hit.{Hit}
use Rattle.cm_lookup.specs.Probing.{HasNoHit, IsFirstEmpty, IsFirstHit, IsHit, IsPassed, probe}
use Rattle.cm_lookup.specs.Tiers.{HasEmptySlot, ring_of}
use Rattle.cm_lookup.proofs.RingArithmetic.{ring_slot-ring_steps, ring_steps_below}
use Rattle.cm_lookup.proofs.SlotWords.{half_chunk, slot_empty, slot_parts, slot_some}

-- ---- by the words of the slots

-- a probe is a slot of the tier
pub probe_below : (geo : Geo) (fingerprint steps : ℕ) → probe geo fingerprint steps < 2 * geo.chunks
probe_below geo fingerprint steps = mod-lt (home_in geo fingerprint + steps) (omega (arith, chunks_range geo))

-- a hit, by the halves of the word
pub is_hit : (geo : Geo) (words : List ℕ) (place fingerprint steps slot word : ℕ) → slot ≡ probe geo fingerprint steps → get_or words (slot_at geo place slot) 0 ≡ word
    → word / 2 ^ 32 ≡ fingerprint → 0 < word % 2 ^ 32 → word % 2 ^ 32 ≤ geo.chunks
    → IsHit geo words place fingerprint (record { steps = steps; slot = slot; chunk = word % 2 ^ 32 - 1 })
is_hit geo words place fingerprint steps slot word slot_is word_is upper occupied below = record {
  slot_is = slot_is;
  found = slot_some geo words place slot word word_is (omega arith)
      ∙ rw (upper, (half_chunk (word % 2 ^ 32) (word % 2 ^ 32 - 1)).1 (omega arith)) refl;
  below = omega arith;
}

-- the halves of the word of a hit
hit_halves : (geo : Geo) (words : List ℕ) (place fingerprint : ℕ) (hit : Hit) → IsHit geo words place fingerprint hit
    → (get_or words (slot_at geo place hit.slot) 0 / 2 ^ 32 ≡ fingerprint) × (get_or words (slot_at geo place hit.slot) 0 % 2 ^ 32 ≡ hit.chunk + 1)
hit_halves geo words place fingerprint hit hits =
    let parts = slot_parts geo words place hit.slot (record { fingerprint = fingerprint; chunk = Some hit.chunk }) hits.found in
    (sym parts.1, (half_chunk (get_or words (slot_at geo place hit.slot) 0 % 2 ^ 32) hit.chunk).0 (sym parts.2))

-- a slot that is passed, by its word
pub is_passed : (geo : Geo) (words : List ℕ) (place fingerprint steps word : ℕ) → get_or words (slot_at geo place (probe geo fingerprint steps)) 0 ≡ word → word ≢ 0
    → (word / 2 ^ 32 ≡ fingerprint → 0 < word % 2 ^ 32 → word % 2 ^ 32 ≤ geo.chunks → ⊥) → IsPassed geo words place fingerprint steps
is_passed geo words place fingerprint steps word word_is occupied fails = record {
  occupied = λ empty. occupied (sym word_is ∙ (slot_empty geo words place (probe geo fingerprint steps)).0 empty);
  other = λ hit same hits. none hit hits (hits.slot_is ∙ ap (probe geo fingerprint) same);
}
  where
    none : (hit : Hit) → IsHit geo words place fingerprint hit → hit.slot ≡ probe geo fingerprint steps → ⊥
    none hit hits there =
        let halves = hit_halves geo words place fingerprint hit hits in
        let same : get_or words (slot_at geo place hit.slot) 0 ≡ word = ap (λ (k : ℕ). get_or words (slot_at geo place k) 0) there ∙ word_is in
        fails (ap (λ (w : ℕ). w / 2 ^ 32) (sym same) ∙ halves.0) (omega (arith, halves.1, ap (λ (w : ℕ). w % 2 ^ 32) same, hits.below)) (omega (arith, halves.1, ap (λ (w : ℕ). w % 2 ^ 32) same, hits.below))

-- an empty one, by its word
pub is_empty : (geo : Geo) (words : List ℕ) (place slot : ℕ) → get_or words (slot_at geo place slot) 0 ≡ 0 → slot_in geo words place slot ≡ None
is_empty geo words place slot e = (slot_empty geo words place slot).1 e

-- and one that isn't
pub is_some : (geo : Geo) (words : List ℕ) (place slot : ℕ) → get_or words (slot_at geo place slot) 0 ≢ 0 → slot_in geo words place slot ≢ None
is_some geo words place slot occupied e = occupied ((slot_empty geo words place slot).0 e)

-- ---- exactly one answer

-- two first hits are one
pub one_first_hit : (geo : Geo) (words : List ℕ) (place fingerprint from : ℕ) (a b : Hit) → IsFirstHit geo words place fingerprint from a → IsFirstHit geo words place fingerprint from b → a ≡ b
one_first_hit geo words place fingerprint from a b one other = elim (cases_order a.steps b.steps) [
  | inr apart ↦ elim apart [
    | inl less ↦ absurd ((other.before a.steps one.not_before less).other a refl one.hits)
    | inr more ↦ absurd ((one.before b.steps other.not_before more).other b refl other.hits)
  ]
  | inl same ↦
      let slots : a.slot ≡ b.slot = one.hits.slot_is ∙ (ap (probe geo fingerprint) same ∙ sym other.hits.slot_is) in
      let words_a = hit_halves geo words place fingerprint a one.hits in
      let words_b = hit_halves geo words place fingerprint b other.hits in
      let chunks : a.chunk ≡ b.chunk = omega (arith, words_a.1, words_b.1, ap (λ (k : ℕ). get_or words (slot_at geo place k) 0 % 2 ^ 32) slots) in
      alike a.steps b.steps a.slot b.slot a.chunk b.chunk same slots chunks
]
  where
    alike : (s t i j c d : ℕ) → s ≡ t → i ≡ j → c ≡ d → ◌≡◌ {A = Hit} (record { steps = s; slot = i; chunk = c }) (record { steps = t; slot = j; chunk = d })
    alike s t i j c d e f g = rw (e, f, g) refl

-- where there is no hit, there is no first one
pub no_first_hit : (geo : Geo) (words : List ℕ) (place fingerprint from : ℕ) (hit : Hit) → HasNoHit geo words place fingerprint from → IsFirstHit geo words place fingerprint from hit → ⊥
no_first_hit geo words place fingerprint from hit none first = elim (cases_order hit.steps none.end) [
  | inl same ↦
      let empty : slot_in geo words place (probe geo fingerprint none.end) ≡ None = none.empty (omega (arith, first.inside)) in
      let there : hit.slot ≡ probe geo fingerprint none.end = first.hits.slot_is ∙ ap (probe geo fingerprint) same in
      let clash : Some (record { fingerprint = fingerprint; chunk = Some hit.chunk }) ≡ None = sym first.hits.found ∙ (ap (slot_in geo words place) there ∙ empty) in
      cc clash
  | inr apart ↦ elim apart [
    | inl less ↦ (none.before hit.steps first.not_before less).other hit refl first.hits
    | inr more ↦ (first.before none.end none.not_before more).occupied (none.empty (omega (arith, first.inside)))
  ]
]

-- two first empty slots are one
pub one_first_empty : (geo : Geo) (words : List ℕ) (place fingerprint a b : ℕ) → IsFirstEmpty geo words place fingerprint a → IsFirstEmpty geo words place fingerprint b → a ≡ b
one_first_empty geo words place fingerprint a b one other = elim (cases_order one.steps other.steps) [
  | inl same ↦ one.slot_is ∙ (ap (probe geo fingerprint) same ∙ sym other.slot_is)
  | inr apart ↦ elim apart [
    | inl less ↦ absurd (other.before one.steps less (ap (slot_in geo words place) (sym one.slot_is) ∙ one.empty))
    | inr more ↦ absurd (one.before other.steps more (ap (slot_in geo words place) (sym other.slot_is) ∙ other.empty))
  ]
]

-- ---- what the slot law gives

-- each slot of a tier is a probe
pub slot_is_probe : (geo : Geo) (fingerprint number : ℕ) → number < 2 * geo.chunks
    → (steps_between (2 * geo.chunks) (home_in geo fingerprint) number < 2 * geo.chunks) × (probe geo fingerprint (steps_between (2 * geo.chunks) (home_in geo fingerprint) number) ≡ number)
slot_is_probe geo fingerprint number below =
    let occupied : 0 < 2 * geo.chunks = omega (arith, chunks_range geo) in
    (ring_steps_below (ring_of geo) (home_in geo fingerprint) number occupied, ring_slot-ring_steps (ring_of geo) (home_in geo fingerprint) number (mod-lt fingerprint occupied) below)

-- a whole round meets an empty slot
pub round_meets : (geo : Geo) (words : List ℕ) (place fingerprint : ℕ) → HasEmptySlot geo words place → ((steps : ℕ) → steps < 2 * geo.chunks → slot_in geo words place (probe geo fingerprint steps) ≢ None) → ⊥
round_meets geo words place fingerprint empty none =
    let there = slot_is_probe geo fingerprint empty.0 empty.1 in
    none (steps_between (2 * geo.chunks) (home_in geo fingerprint) empty.0) there.0 (ap (slot_in geo words place) there.1 ∙ empty.2)

-- in a tier that keeps the slot law, a search from the home on passes no slot of its fingerprint
pub law_finds : (geo : Geo) (words : List ℕ) (place fingerprint from number chunk : ℕ) → KeepsSlotLaw geo words place → number < 2 * geo.chunks → chunk < geo.chunks
    → slot_in geo words place number ≡ Some (record { fingerprint = fingerprint; chunk = Some chunk }) → HasNoHit geo words place fingerprint from → steps_between (2 * geo.chunks) (home_in geo fingerprint) number < from
law_finds geo words place fingerprint from number chunk law below chunk_below is none =
    let there = slot_is_probe geo fingerprint number below in
    let steps : ℕ = steps_between (2 * geo.chunks) (home_in geo fingerprint) number in
    elim (cases_lt (steps_between (2 * geo.chunks) (home_in geo fingerprint) number) from) [
      | inl before ↦ before
      | inr not_before ↦ elim (cases_lt (steps_between (2 * geo.chunks) (home_in geo fingerprint) number) none.end) [
        | inl inside ↦ absurd ((none.before (steps_between (2 * geo.chunks) (home_in geo fingerprint) number) not_before inside).other
            (record { steps = steps_between (2 * geo.chunks) (home_in geo fingerprint) number; slot = number; chunk = chunk }) refl (record { slot_is = sym there.1; found = is; below = chunk_below }))
        | inr behind ↦ absurd (ends (none.empty (omega (arith, there.0))) behind there.1)
      ]
    ]
  where
    clash : (slot : Slot) → Some slot ≡ None → ⊥
    clash slot e = cc e

    ends : slot_in geo words place (probe geo fingerprint none.end) ≡ None → none.end ≤ steps_between (2 * geo.chunks) (home_in geo fingerprint) number
        → probe geo fingerprint (steps_between (2 * geo.chunks) (home_in geo fingerprint) number) ≡ number → ⊥
    ends empty behind there = elim (cases_lt none.end (steps_between (2 * geo.chunks) (home_in geo fingerprint) number)) [
      | inl less ↦ law number (record { fingerprint = fingerprint; chunk = Some chunk }) below is none.end less empty
      | inr more ↦ (let same : none.end ≡ steps_between (2 * geo.chunks) (home_in geo fingerprint) number = omega arith in
          clash (record { fingerprint = fingerprint; chunk = Some chunk }) (sym is ∙ (ap (slot_in geo words place) (sym there ∙ ap (probe geo fingerprint) (sym same)) ∙ empty)))
    ]
