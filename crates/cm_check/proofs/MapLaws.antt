-- The laws of a whole map.
use Rattle.std.proofs.Common.{◌≡◌, ℕ, ◌+◌, ◌-◌, ◌<◌, ◌≤◌, true, false, List, [], ◌∷◌, length, nat_lt, refl, ap, ◌∙◌, arith}
use Rattle.std.specs.List.{range_with_len, sum_by}
use Rattle.std.proofs.lemmas.Bool.Decides.{nat_tests}
use Rattle.std.proofs.lemmas.List.Sums.{sum_by-append}
use Rattle.cm_geo.specs.declared.geo.Geo.{Geo}
use Rattle.cm_words.specs.Maps.{MapWords, segment_in}
use Rattle.cm_check.specs.declared.quiet.Quiet.{Quiet}
use Rattle.cm_check.specs.LawOrder.{breaks_in, extra_before}
use Rattle.cm_check.specs.Places.{chain_in}
use Rattle.cm_check.specs.Quiets.{geo_of, words_of}
use Rattle.cm_check.proofs.QuietReads.{words_new}
use Rattle.cm_check.proofs.RangeTests.{range_more}

-- the breaks of a segment that was made of words
pub breaks_new : (quiet : Quiet) (map : MapWords) (segment : ℕ) → quiet.words.now ≡ map → quiet.segment ≡ segment → breaks_in (geo_of quiet) quiet.segment (words_of quiet) ≡ breaks_in map.geo segment (segment_in map segment)
breaks_new quiet map segment e f =
    let words = words_new quiet map segment e f in
    ap (λ (m : MapWords). breaks_in m.geo quiet.segment (words_of quiet)) e ∙ (ap (λ (s : ℕ). breaks_in map.geo s (words_of quiet)) f ∙ ap (breaks_in map.geo segment) words)

-- no segment, and one more
pub extra_none : (geo : Geo) (words_of : ℕ → List ℕ) → extra_before geo words_of 0 ≡ 0
unfolding extra_before
extra_none geo words_of = refl

pub extra_more : (geo : Geo) (words_of : ℕ → List ℕ) (segment : ℕ) → extra_before geo words_of (segment + 1) ≡ extra_before geo words_of segment + (length (chain_in geo (words_of segment)) - 1)
unfolding extra_before
extra_more geo words_of segment =
    let f : ℕ → ℕ = λ earlier. length (chain_in geo (words_of earlier)) - 1 in
    ap (sum_by f) (range_more segment) ∙ (sum_by-append f (range_with_len 0 segment) (segment ∷ []) ∙ ap (λ (n : ℕ). sum_by f (range_with_len 0 segment) + n) (one f))
  where
    one : (f : ℕ → ℕ) → sum_by f (segment ∷ []) ≡ f segment
    one f = omega arith

-- the test of the allowance
pub allowed : (extra most : ℕ) → extra ≤ most → nat_lt most extra ≡ false
allowed extra most h = grind (arith, nat_tests)

pub beyond : (extra most : ℕ) → most < extra → nat_lt most extra ≡ true
beyond extra most h = grind (arith, nat_tests)

-- the further tiers of a segment that was made of words
pub extra_new : (quiet : Quiet) (map : MapWords) (segment extra : ℕ) → quiet.words.now ≡ map → quiet.segment ≡ segment → extra ≡ length (chain_in (geo_of quiet) (words_of quiet)) - 1 → extra ≡ length (chain_in map.geo (segment_in map segment)) - 1
extra_new quiet map segment extra e f is =
    is ∙ (ap (λ (m : MapWords). length (chain_in m.geo (words_of quiet)) - 1) e ∙ ap (λ (words : List ℕ). length (chain_in map.geo words) - 1) (words_new quiet map segment e f))
