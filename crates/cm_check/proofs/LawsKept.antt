-- What it says that a law is broken at no word.
use Rattle.std.proofs.Common.{◌≡◌, ℕ, ◌+◌, ◌*◌, ◌/◌, ◌<◌, ◌==◌, not, Bool, true, false, List, [], ◌∷◌, Contains, map, filter, refl, ap, ◌∙◌, arith, inl, inr}
use Rattle.std.specs.List.{range_with_len}
use Rattle.std.proofs.lemmas.Bool.Decides.{eqb_tells}
use Rattle.cm_geo.specs.declared.geo.Geo.{Geo}
use Rattle.cm_geo.specs.Addresses.{bits_at, slot_at, tier_at}
use Rattle.cm_plain.specs.Slots.{word_at}
use Rattle.cm_plain.proofs.States.{place_low}
use Rattle.cm_plain.proofs.ListElements.{In, in_from, in_kept_to, in_range, in_to, range_from}
use Rattle.cm_check.specs.declared.law.Law.{Law}
use Rattle.cm_check.specs.LawOrder.{broken_at, words_broken}
use Rattle.cm_check.specs.Places.{chain_in, is_linked, linked_places}
use Rattle.cm_check.specs.SlotLaws.{gap_broken, is_astray, is_cut_off, is_overlapping, overlap_broken, slot_broken, slots_where}
use Rattle.cm_check.specs.CountLaws.{are_bits_wrong, bits_broken, bits_in, counts_of, is_bit_wrong, occupied_among, segment_count_broken, tier_count_broken, tier_count_in}
use Rattle.cm_geo.proofs.Ranges.{chunks_whole}
use Rattle.cm_check.proofs.RangeTests.{any_none, fails_in}
use Rattle.cm_check.specs.SlotReads.{AreCounted, AreReached, AreRightful, AreRunsApart}
use Rattle.cm_check.proofs.AnyChain.{chain_of_any}
use Rattle.cm_check.proofs.LinkedPlaces.{linked_there, there_linked}
use Rattle.cm_check.proofs.FirstFound.{filter_none, joined_none, mapped_none, none_joined, none_passes, passes}

-- no word, with or without its law
pub words_named_none : (law : Law) (geo : Geo) (segment : ℕ) (words : List ℕ) → map (broken_at segment law) (words_broken geo segment words law) ≡ [] → words_broken geo segment words law ≡ []
words_named_none law geo segment words none = mapped_none (broken_at segment law) (words_broken geo segment words law) none

-- no slot of a tier
pub slots_none : (geo : Geo) (place : ℕ) (test : ℕ → Bool) (number : ℕ) → slots_where geo place test ≡ [] → number < 2 * geo.chunks → test number ≡ false
slots_none geo place test number none below =
    none_passes test (range_with_len 0 (2 * geo.chunks)) number (mapped_none (slot_at geo place) (filter test (range_with_len 0 (2 * geo.chunks))) none) (in_range 0 (2 * geo.chunks) number (omega arith) (omega arith))

pub none_slots : (geo : Geo) (place : ℕ) (test : ℕ → Bool) → ((number : ℕ) → number < 2 * geo.chunks → test number ≡ false) → slots_where geo place test ≡ []
none_slots geo place test fails =
    ap (map (slot_at geo place)) (filter_none test (range_with_len 0 (2 * geo.chunks)) (λ number i. fails number (omega (arith, (range_from 0 (2 * geo.chunks) number i).1))))

-- a place of the chain is among the linked ones, and back
pub place_linked : (geo : Geo) (words : List ℕ) (place : ℕ) → Contains (chain_in geo words) place → In place (linked_places geo words)
place_linked geo words place there =
    in_kept_to (is_linked (chain_in geo words)) (range_with_len 0 geo.tiers) place (in_range 0 geo.tiers place (omega arith) (let low = place_low (chain_of_any geo words) place there in omega (arith, low))) (there_linked (chain_in geo words) place there)

pub linked_in : (geo : Geo) (words : List ℕ) (place : ℕ) → In place (linked_places geo words) → Contains (chain_in geo words) place
linked_in geo words place i = linked_there (chain_in geo words) place (passes (is_linked (chain_in geo words)) (range_with_len 0 geo.tiers) place i)

pub slots_kept : (geo : Geo) (segment : ℕ) (words : List ℕ) → slot_broken geo segment words ≡ [] → AreRightful geo segment words
unfolding slot_broken
slots_kept geo segment words none place there number below =
    slots_none geo place (is_astray geo segment words place) number
    (none_joined (λ place. slots_where geo place (is_astray geo segment words place)) (linked_places geo words) place none (place_linked geo words place there)) below

pub gaps_kept : (geo : Geo) (words : List ℕ) → gap_broken geo words ≡ [] → AreReached geo words
unfolding gap_broken
gaps_kept geo words none place there number below =
    slots_none geo place (is_cut_off geo words place) number
    (none_joined (λ place. slots_where geo place (is_cut_off geo words place)) (linked_places geo words) place none (place_linked geo words place there)) below

pub overlaps_kept : (geo : Geo) (words : List ℕ) → overlap_broken geo words ≡ [] → AreRunsApart geo words
unfolding overlap_broken
overlaps_kept geo words none place there number below =
    slots_none geo place (is_overlapping geo words place) number
    (none_joined (λ place. slots_where geo place (is_overlapping geo words place)) (chain_in geo words) place none (in_from (chain_in geo words) place there)) below

-- numbers that a test tells to be the same
pub same_number : (a b : ℕ) → not (a == b) ≡ false → a ≡ b
same_number a b e = elim (eqb_tells a b) [
  | inl same ↦ same.1
  | inr fails ↦ (let clash : true ≡ false = rw fails.0 at e in cc clash)
]

pub counts_kept : (geo : Geo) (words : List ℕ) → tier_count_broken geo words ≡ [] → AreCounted geo words
unfolding tier_count_broken
counts_kept geo words none place there =
    same_number (word_at words (tier_at geo place + 1)) (occupied_among geo words place (2 * geo.chunks))
    (none_passes (λ at. not (word_at words at == occupied_among geo words place (2 * geo.chunks))) ((tier_at geo place + 1) ∷ []) (tier_at geo place + 1)
    (none_joined (tier_count_in geo words) (linked_places geo words) place none (place_linked geo words place there)) (inl refl))

-- ---- and back

pub none_astray : (geo : Geo) (segment : ℕ) (words : List ℕ) → AreRightful geo segment words → slot_broken geo segment words ≡ []
unfolding slot_broken
none_astray geo segment words kept =
    joined_none (λ place. slots_where geo place (is_astray geo segment words place)) (linked_places geo words) (λ place i. none_slots geo place (is_astray geo segment words place) (kept place (linked_in geo words place i)))

pub none_cut_off : (geo : Geo) (words : List ℕ) → AreReached geo words → gap_broken geo words ≡ []
unfolding gap_broken
none_cut_off geo words kept =
    joined_none (λ place. slots_where geo place (is_cut_off geo words place)) (linked_places geo words) (λ place i. none_slots geo place (is_cut_off geo words place) (kept place (linked_in geo words place i)))

pub none_overlapping : (geo : Geo) (words : List ℕ) → AreRunsApart geo words → overlap_broken geo words ≡ []
unfolding overlap_broken
none_overlapping geo words kept =
    joined_none (λ place. slots_where geo place (is_overlapping geo words place)) (chain_in geo words) (λ place i. none_slots geo place (is_overlapping geo words place) (kept place (in_to (chain_in geo words) place i)))

pub none_miscounted : (geo : Geo) (words : List ℕ) → AreCounted geo words → tier_count_broken geo words ≡ []
unfolding tier_count_broken
none_miscounted geo words counted =
    joined_none (tier_count_in geo words) (linked_places geo words) (λ place i.
    filter_none (λ at. not (word_at words at == occupied_among geo words place (2 * geo.chunks))) ((tier_at geo place + 1) ∷ []) (λ at j. only place (linked_in geo words place i) at j))
  where
    same : (a b : ℕ) → a ≡ b → not (a == b) ≡ false
    same a b e = elim (eqb_tells a b) [
      | inl yes' ↦ rw yes'.0 refl
      | inr fails ↦ absurd (fails.1 e)
    ]

    only : (place : ℕ) → Contains (chain_in geo words) place → (at : ℕ) → In at ((tier_at geo place + 1) ∷ []) → not (word_at words at == occupied_among geo words place (2 * geo.chunks)) ≡ false
    only place there at (inl e) = same (word_at words at) (occupied_among geo words place (2 * geo.chunks)) (ap (word_at words) e ∙ counted place there)
    only place there at (inr j) = absurd j

pub segment_count_kept : (geo : Geo) (words : List ℕ) → segment_count_broken geo words ≡ [] → word_at words 2 ≡ counts_of geo words (chain_in geo words)
unfolding segment_count_broken
segment_count_kept geo words none = same_number (word_at words 2) (counts_of geo words (chain_in geo words)) (none_passes (λ at. not (word_at words at == counts_of geo words (chain_in geo words))) (2 ∷ []) 2 none (inl refl))

pub segment_count_none : (geo : Geo) (words : List ℕ) → word_at words 2 ≡ counts_of geo words (chain_in geo words) → segment_count_broken geo words ≡ []
unfolding segment_count_broken
segment_count_none geo words e = filter_none (λ at. not (word_at words at == counts_of geo words (chain_in geo words))) (2 ∷ []) (λ at j. only at j)
  where
    same : (a b : ℕ) → a ≡ b → not (a == b) ≡ false
    same a b e = elim (eqb_tells a b) [
      | inl yes' ↦ rw yes'.0 refl
      | inr fails ↦ absurd (fails.1 e)
    ]

    only : (at : ℕ) → In at (2 ∷ []) → not (word_at words at == counts_of geo words (chain_in geo words)) ≡ false
    only at (inl f) = same (word_at words at) (counts_of geo words (chain_in geo words)) (ap (word_at words) f ∙ e)
    only at (inr j) = absurd j

-- the bits
pub bits_kept : (geo : Geo) (words : List ℕ) (place chunk : ℕ) → bits_broken geo words ≡ [] → Contains (chain_in geo words) place → chunk < geo.chunks → is_bit_wrong geo words place chunk ≡ false
unfolding bits_broken are_bits_wrong
bits_kept geo words place chunk none there below =
    let here = none_joined (bits_in geo words) (linked_places geo words) place none (place_linked geo words place there) in
    let word_low : chunk / 64 < geo.chunks / 64 = omega (arith, below, chunks_whole geo) in
    let right = none_passes (are_bits_wrong geo words place) (range_with_len 0 (geo.chunks / 64)) (chunk / 64) (mapped_none (bits_at geo place) (filter (are_bits_wrong geo words place) (range_with_len 0 (geo.chunks / 64))) here) (in_range 0 (geo.chunks / 64) (chunk / 64) (omega arith) (omega (arith, word_low))) in
    fails_in (is_bit_wrong geo words place) (range_with_len (64 * (chunk / 64)) 64) chunk right (in_range (64 * (chunk / 64)) 64 chunk (omega arith) (omega arith))

pub bits_none : (geo : Geo) (words : List ℕ) → ((place chunk : ℕ) → Contains (chain_in geo words) place → chunk < geo.chunks → is_bit_wrong geo words place chunk ≡ false) → bits_broken geo words ≡ []
unfolding bits_broken are_bits_wrong
bits_none geo words right =
    joined_none (bits_in geo words) (linked_places geo words) (λ place i. ap (map (bits_at geo place)) (filter_none (are_bits_wrong geo words place) (range_with_len 0 (geo.chunks / 64)) (λ word j.
    (let low = range_from 0 (geo.chunks / 64) word j in
    any_none (is_bit_wrong geo words place) (range_with_len (64 * word) 64) (λ chunk k. (let inside = range_from (64 * word) 64 chunk k in right place chunk (linked_in geo words place i) (omega (arith, low.1, inside.1, chunks_whole geo))))))))
