-- No law of a map is broken exactly where the map is lawful.
use Rattle.std.proofs.Common.{◌≡◌, ℕ, ◌+◌, ◌-◌, ◌<◌, ◌≤◌, ◌↔◌, false, List, [], length, map, filter, flat_map, nat_lt, drop, refl, ap, arith, zero, suc, length-drop}
use Rattle.std.specs.List.{range_with_len, sum_by}
use Rattle.std.proofs.lemmas.List.{length-take-le}
use Rattle.std.proofs.lemmas.Bool.Decides.{nat_tests}
use Rattle.cm_geo.specs.declared.geo.Geo.{Geo}
use Rattle.cm_geo.specs.Addresses.{words_in_segment}
use Rattle.cm_geo.proofs.Ranges.{segments_range}
use Rattle.cm_plain.specs.FoundChains.{KeepsAllowance, chain_of}
use Rattle.cm_plain.proofs.ListElements.{in_range, range_from}
use Rattle.cm_words.specs.Maps.{IsWhole, MapWords, segment_in, words_before}
use Rattle.cm_words.proofs.MapPlaces.{segment_inside}
use Rattle.cm_check.specs.declared.law.Law.TheVariants.{Allowance}
use Rattle.cm_words.specs.LawfulMaps.{IsLawfulMap}
use Rattle.cm_check.specs.LawOrder.{allowance_broken, breaks, breaks_in, broken_at, extra_before}
use Rattle.cm_check.specs.Places.{chain_in}
use Rattle.cm_check.proofs.FirstFound.{append_none, filter_none, joined_none, mapped_none, none_joined, none_passes}
use Rattle.cm_check.proofs.LawfulSegments.{lawful_of_none, none_of_lawful}
use Rattle.cm_check.proofs.MapLaws.{allowed, extra_more}

-- a segment has as many words as its geometry says
segment_long : (words : MapWords) (segment : ℕ) → IsWhole words → segment < words.geo.segments → length (segment_in words segment) ≡ words_in_segment words.geo
segment_long words segment whole here =
    let inside = (segment_inside words.geo segment here).0 in
    length-take-le (words_in_segment words.geo) (drop (words_before words.geo segment) words.words) (omega (arith, inside, whole, length-drop (words_before words.geo segment) words.words))

-- ---- the allowance

-- more segments have no fewer further tiers
rising_extra : (geo : Geo) (words_of : ℕ → List ℕ) (segment more : ℕ) → extra_before geo words_of segment ≤ extra_before geo words_of (segment + more)
rising_extra geo words_of segment zero = (let e : segment + 0 ≡ segment = omega arith in omega (arith, ap (extra_before geo words_of) e))
rising_extra geo words_of segment (suc more) =
    let rest = rising_extra geo words_of segment more in
    let e : segment + suc more ≡ segment + more + 1 = omega arith in
    omega (arith, rest, ap (extra_before geo words_of) e, extra_more geo words_of (segment + more))

-- those of all segments
all_extra : (geo : Geo) (words_of : ℕ → List ℕ) → extra_before geo words_of geo.segments ≡ sum_by (λ segment. length (chain_of geo (words_of segment)).places - 1) (range_with_len 0 geo.segments)
unfolding extra_before chain_in
all_extra geo words_of = refl

allowance_kept : (geo : Geo) (words_of : ℕ → List ℕ) → allowance_broken geo words_of ≡ [] → KeepsAllowance geo words_of
unfolding allowance_broken
allowance_kept geo words_of none =
    let some = (segments_range geo).0 in
    let last = none_passes (λ segment. nat_lt geo.extra (extra_before geo words_of (segment + 1))) (range_with_len 0 geo.segments) (geo.segments - 1)
    (mapped_none (λ segment. broken_at segment Allowance 0) (filter (λ segment. nat_lt geo.extra (extra_before geo words_of (segment + 1))) (range_with_len 0 geo.segments)) none)
    (in_range 0 geo.segments (geo.segments - 1) (omega arith) (omega (arith, some))) in
    let e : geo.segments - 1 + 1 ≡ geo.segments = omega (arith, some) in
    let within = not_beyond (extra_before geo words_of (geo.segments - 1 + 1)) geo.extra last in
    omega (arith, within, ap (extra_before geo words_of) e, all_extra geo words_of)
  where
    not_beyond : (extra most : ℕ) → nat_lt most extra ≡ false → extra ≤ most
    not_beyond extra most e = grind (arith, nat_tests)

allowance_none : (geo : Geo) (words_of : ℕ → List ℕ) → KeepsAllowance geo words_of → allowance_broken geo words_of ≡ []
unfolding allowance_broken
allowance_none geo words_of keeps =
    ap (map (λ segment. broken_at segment Allowance 0)) (filter_none (λ segment. nat_lt geo.extra (extra_before geo words_of (segment + 1))) (range_with_len 0 geo.segments) (λ segment i.
    (let inside = range_from 0 geo.segments segment i in
    let rising = rising_extra geo words_of (segment + 1) (geo.segments - (segment + 1)) in
    let e : segment + 1 + (geo.segments - (segment + 1)) ≡ geo.segments = omega (arith, inside.1) in
    allowed (extra_before geo words_of (segment + 1)) geo.extra (omega (arith, rising, ap (extra_before geo words_of) e, all_extra geo words_of, keeps)))))

-- ---- the map

pub lawful_map : (words : MapWords) → IsWhole words → (breaks words ≡ []) ↔ IsLawfulMap words
unfolding breaks
lawful_map words whole = (
  λ none. (let parts = append_none (flat_map (λ segment. breaks_in words.geo segment (segment_in words segment)) (range_with_len 0 words.geo.segments)) (allowance_broken words.geo (segment_in words)) none in
      record {
        segments = λ segment here. lawful_of_none words.geo segment (segment_in words segment) (segment_long words segment whole here)
            (none_joined (λ segment. breaks_in words.geo segment (segment_in words segment)) (range_with_len 0 words.geo.segments) segment parts.0 (in_range 0 words.geo.segments segment (omega arith) (omega (arith, here))));
        allowance = allowance_kept words.geo (segment_in words) parts.1;
      }),
  λ lawful.
      (let one = joined_none (λ segment. breaks_in words.geo segment (segment_in words segment)) (range_with_len 0 words.geo.segments)
      (λ segment i. none_of_lawful words.geo segment (segment_in words segment) (lawful.segments segment (let inside = range_from 0 words.geo.segments segment i in omega (arith, inside.1)))) in
      rw (one, allowance_none words.geo (segment_in words) lawful.allowance) refl),
)
