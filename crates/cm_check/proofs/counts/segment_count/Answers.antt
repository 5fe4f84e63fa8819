-- Each count is that of a tier's slots, so the sum is small.
use Rattle.std.proofs.Common.{◌≡◌, ℕ, ◌+◌, ◌*◌, ◌<◌, ◌≤◌, List, length, get_or, arith, ap, ◌∙◌, subst, Contains, not, ◌==◌, filter, [], ◌∷◌, Result}
use Rattle.std.proofs.lemmas.List.{take_all}
use Rattle.std.proofs.lemmas.List.Sums.{sum_by_more}
use Rattle.cm_geo.specs.Addresses.{tier_at, words_in_segment}
use Rattle.cm_geo.proofs.Ranges.{chunks_range, tiers_range}
use Rattle.cm_plain.specs.Slots.{word_at}
use Rattle.cm_plain.proofs.ListElements.{in_to}
use Rattle.cm_plain.proofs.States.{place_low}
use Rattle.cm_check.specs.Findings.{NamesFirst}
use Rattle.cm_check.specs.Places.{chain_in}
use Rattle.cm_check.specs.CountLaws.{counts_of, occupied_among, segment_count_broken}
use Rattle.cm_check.specs.Quiets.{geo_of, words_of}
use Rattle.cm_check.proofs.QuietReads.{chain_is}
use Rattle.cm_check.proofs.HeadWords.{head_inside, segment_few}
use Rattle.cm_check.proofs.KeySearch.{in_at}
use Rattle.cm_check.proofs.CountReads.{occupied_within}
use Rattle.cm_check.proofs.counts.segment_count.Goals as goal

-- a place of the list that was read is one of the chain
chained : (chain places : List ℕ) (k : ℕ) → places ≡ chain → k < length places → Contains chain (get_or places k 0)
chained chain places k e below = subst (λ (xs : List ℕ). Contains xs (get_or places k 0)) e (in_to places (get_or places k 0) (in_at places k 0 below))

pub tier_at-requires : goal.tier_at-requires
tier_at-requires c =
    let q = c.args.quiet.now in
    record { place = rw c.geo.ensures (place_low (chain_is q) (get_or c.places-places.result.now c.loop-place.place-index 0) (chained (chain_in (geo_of q) (words_of q)) c.places-places.result.now c.loop-place.place-index c.places-places.ensures c.loop-place-test.true)) }

pub overflow_add-tier_at : goal.overflow_add-tier_at
overflow_add-tier_at c = omega (arith, c.tier_at.ensures.in_range, ap (λ g. words_in_segment g) c.geo.ensures, segment_few (geo_of c.args.quiet.now))

-- the chain is short
few_places : (chain places : List ℕ) (tiers : ℕ) → places ≡ chain → length chain ≤ tiers → tiers ≤ 8 → length places ≤ 8
few_places chain places tiers e h k = omega (arith, ap (λ (xs : List ℕ). length xs) e)

pub overflow_add-count : goal.overflow_add-count
overflow_add-count c =
    let q = c.args.quiet.now in
    let there = chained (chain_in (geo_of q) (words_of q)) c.places-places.result.now c.loop-place.place-index c.places-places.ensures c.loop-place-test.true in
    let place : ℕ = get_or c.places-places.result.now c.loop-place.place-index 0 in
    let at : c.tier_at.result ≡ tier_at (geo_of q) place = c.tier_at.ensures.value ∙ ap (λ g. tier_at g place) c.geo.ensures in
    let count : c.word-count.result ≡ occupied_among (geo_of q) (words_of q) place (2 * (geo_of q).chunks) = c.word-count.ensures ∙ (ap (λ (n : ℕ). word_at (words_of q) (n + 1)) at ∙ c.requires place there) in
    let few = few_places (chain_in (geo_of q) (words_of q)) c.places-places.result.now (geo_of q).tiers c.places-places.ensures (chain_is q).within_limit (tiers_range (geo_of q)).1 in
    omega (arith, count, occupied_within (geo_of q) (words_of q) place (2 * (geo_of q).chunks), chunks_range (geo_of q), c.loop-place.invariant.short, few, c.loop-place-test.true)

pub loop-place-preserved : goal.loop-place-preserved
loop-place-preserved c =
    let q = c.args.quiet.now in
    let there = chained (chain_in (geo_of q) (words_of q)) c.places-places.result.now c.loop-place.place-index c.places-places.ensures c.loop-place-test.true in
    let place : ℕ = get_or c.places-places.result.now c.loop-place.place-index 0 in
    let at : c.tier_at.result ≡ tier_at (geo_of q) place = c.tier_at.ensures.value ∙ ap (λ g. tier_at g place) c.geo.ensures in
    let word : c.word-count.result ≡ word_at (words_of q) (tier_at (geo_of q) place + 1) = c.word-count.ensures ∙ ap (λ (n : ℕ). word_at (words_of q) (n + 1)) at in
    let count : c.word-count.result ≡ occupied_among (geo_of q) (words_of q) place (2 * (geo_of q).chunks) = word ∙ c.requires place there in
    let more = sum_by_more (λ place. word_at (words_of q) (tier_at (geo_of q) place + 1)) c.places-places.result.now c.loop-place.place-index 0 c.loop-place-test.true in
    record {
      is = omega (arith, c.loop-place.invariant.is, word, more);
      short = omega (arith, count, occupied_within (geo_of q) (words_of q) place (2 * (geo_of q).chunks), chunks_range (geo_of q), c.loop-place.invariant.short);
    }

pub word-requires : goal.word-requires
word-requires c = omega (arith, head_inside (geo_of c.args.quiet.now))

-- the sum over all of them
named_sum : (words places chain : List ℕ) (word sum sum' : ℕ) (result : Result (Unit {0}) ℕ) → word ≡ word_at words 2 → sum ≡ sum' → NamesFirst (filter (λ here. not (word == sum)) (2 ∷ [])) result → NamesFirst (filter (λ at. not (word_at words at == sum')) (2 ∷ [])) result
named_sum words places chain word sum sum' result e f named =
    subst (λ (n : ℕ). NamesFirst (filter (λ at. not (word_at words at == n)) (2 ∷ [])) result) f (subst (λ (w : ℕ). NamesFirst (filter (λ here. not (w == sum)) (2 ∷ [])) result) e named)

pub returns : goal.returns
unfolding segment_count_broken
returns c =
    let q = c.args.quiet.now in
    let whole : c.loop-place.count ≡ counts_of (geo_of q) (words_of q) (chain_in (geo_of q) (words_of q)) =
    c.loop-place.invariant.is ∙ (ap (λ (xs : List ℕ). counts_of (geo_of q) (words_of q) xs) (take_all c.loop-place.place-index c.places-places.result.now c.loop-place-test.false) ∙ ap (λ (xs : List ℕ). counts_of (geo_of q) (words_of q) xs) c.places-places.ensures) in
    named_sum (words_of q) [] [] c.word.result c.loop-place.count (counts_of (geo_of q) (words_of q) (chain_in (geo_of q) (words_of q))) c.named_unless.result c.word.ensures whole c.named_unless.ensures
