-- How many slots of a tier aren't empty, and how many of some tiers together.
use Rattle.std.proofs.Common.{◌≡◌, ℕ, ◌+◌, ◌*◌, ◌≤◌, ◌==◌, not, Bool, true, false, List, [], ◌∷◌, length, filter, Option, Some, None, is_some, refl, ap, subst, ◌∙◌, arith, zero, suc, inl, inr, length-append}
use Rattle.std.specs.List.{range_with_len}
use Rattle.std.proofs.lemmas.Bool.{cases_Bool}
use Rattle.std.proofs.lemmas.List.Elements.{filter-append}
use Rattle.cm_geo.specs.declared.geo.Geo.{Geo}
use Rattle.cm_geo.specs.Addresses.{tier_at}
use Rattle.cm_plain.specs.Slots.{slot_in, word_at}
use Rattle.cm_lookup.specs.declared.hit.SlotParts.{SlotParts}
use Rattle.cm_check.specs.CountLaws.{occupied_among, tier_count_in}
use Rattle.cm_check.specs.Findings.{Begins}
use Rattle.cm_check.specs.Quiets.{slot_seen}
use Rattle.cm_check.proofs.RangeTests.{range_more}

-- none of no slots
pub occupied_none : (geo : Geo) (words : List ℕ) (place : ℕ) → occupied_among geo words place 0 ≡ 0
unfolding occupied_among
occupied_none geo words place = refl

-- one slot more
more_of : (test : ℕ → Bool) (count : ℕ) → length (filter test (range_with_len 0 (count + 1))) ≡ length (filter test (range_with_len 0 count)) + length (filter test (count ∷ []))
more_of test count = ap (λ (xs : List ℕ). length (filter test xs)) (range_more count) ∙ (ap (λ (xs : List ℕ). length xs) (filter-append test (range_with_len 0 count) (count ∷ [])) ∙ length-append (filter test (range_with_len 0 count)) (filter test (count ∷ [])))

pub occupied_some : (geo : Geo) (words : List ℕ) (place count : ℕ) → is_some (slot_in geo words place count) ≡ true → occupied_among geo words place (count + 1) ≡ occupied_among geo words place count + 1
unfolding occupied_among
occupied_some geo words place count e = more_of (λ number. is_some (slot_in geo words place number)) count ∙ rw e refl

pub occupied_same : (geo : Geo) (words : List ℕ) (place count : ℕ) → is_some (slot_in geo words place count) ≡ false → occupied_among geo words place (count + 1) ≡ occupied_among geo words place count
unfolding occupied_among
occupied_same geo words place count e = more_of (λ number. is_some (slot_in geo words place number)) count ∙ rw e (omega arith)

-- no more than there are slots
pub occupied_within : (geo : Geo) (words : List ℕ) (place count : ℕ) → occupied_among geo words place count ≤ count
unfolding occupied_among
occupied_within geo words place count = within (λ number. is_some (slot_in geo words place number)) 0 count
  where
    within : (test : ℕ → Bool) (low count : ℕ) → length (filter test (range_with_len low count)) ≤ count
    within test low zero = omega arith
    within test low (suc count) = (let rest = within test (low + 1) count in elim (cases_Bool (test low)) [
      | inl passes ↦ rw passes (omega (arith, rest))
      | inr fails ↦ rw fails (omega (arith, rest))
    ])

-- whether a slot is read
pub seen_is : (parts : Option SlotParts) → is_some (slot_seen parts) ≡ is_some parts
seen_is None = refl
seen_is (Some parts) = refl

-- a count that is named
pub count_named : (geo : Geo) (words : List ℕ) (place at word count x : ℕ) → at ≡ tier_at geo place + 1 → word ≡ word_at words at → count ≡ occupied_among geo words place (2 * geo.chunks)
    → Begins (filter (λ here. not (word == count)) (at ∷ [])) x → Begins (tier_count_in geo words place) x
count_named geo words place at word count x e f g begins =
    let one : Begins (filter (λ here. not (word_at words at == count)) (at ∷ [])) x = subst (λ (w : ℕ). Begins (filter (λ here. not (w == count)) (at ∷ [])) x) f begins in
    let two : Begins (filter (λ here. not (word_at words at == occupied_among geo words place (2 * geo.chunks))) (at ∷ [])) x = subst (λ (n : ℕ). Begins (filter (λ here. not (word_at words at == n)) (at ∷ [])) x) g one in
    subst (λ (n : ℕ). Begins (filter (λ here. not (word_at words n == occupied_among geo words place (2 * geo.chunks))) (n ∷ [])) x) e two

pub count_unnamed : (geo : Geo) (words : List ℕ) (place at word count : ℕ) → at ≡ tier_at geo place + 1 → word ≡ word_at words at → count ≡ occupied_among geo words place (2 * geo.chunks)
    → filter (λ here. not (word == count)) (at ∷ []) ≡ [] → tier_count_in geo words place ≡ []
count_unnamed geo words place at word count e f g none =
    let one : filter (λ here. not (word_at words at == count)) (at ∷ []) ≡ [] = subst (λ (w : ℕ). filter (λ here. not (w == count)) (at ∷ []) ≡ []) f none in
    let two : filter (λ here. not (word_at words at == occupied_among geo words place (2 * geo.chunks))) (at ∷ []) ≡ [] = subst (λ (n : ℕ). filter (λ here. not (word_at words at == n)) (at ∷ []) ≡ []) g one in
    subst (λ (n : ℕ). filter (λ here. not (word_at words n == occupied_among geo words place (2 * geo.chunks))) (n ∷ []) ≡ []) e two
