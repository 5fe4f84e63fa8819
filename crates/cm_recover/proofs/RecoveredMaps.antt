-- The segments of a map, recovered one after the other.
use Rattle.std.proofs.Common.{◌≡◌, ◌≢◌, ℕ, ◌+◌, ◌-◌, ◌<◌, ◌≤◌, ◌^◌, All, drop, List, [], ◌∷◌, ◌++◌, length, get_or, Some, refl, ap, sym, subst, ◌∙◌, inl, inr, arith, add-one, length-append}
use Rattle.std.specs.List.{range_with_len, slice_get, sum_by}
use Rattle.std.proofs.lemmas.Bool.{cases_eq, cases_lt}
use Rattle.std.proofs.lemmas.List.{get_or_append_left}
use Rattle.std.proofs.lemmas.Option.{get_or_from_slice_get, slice_get-get_or, slice_get_within}
use Rattle.std.proofs.Math.Seq.{get_or-append_seam}
use Rattle.std.proofs.lemmas.List.Elements.{All-drop, All-take}
use Rattle.cm_geo.specs.Addresses.{words_in_segment}
use Rattle.cm_geo.specs.declared.geo.Geo.{Geo}
use Rattle.cm_plain.specs.declared.found.SegFound.{SegFound}
use Rattle.cm_plain.specs.FoundChains.{chain_of}
use Rattle.cm_plain.specs.Lawful.{Lawful}
use Rattle.cm_words.specs.Maps.{IsWhole, MapWords, segment_in, words_before}
use Rattle.cm_recover.specs.AllowedPlaces.{extra_before}
use Rattle.cm_recover.specs.KeptSlots.{kept_state}
use Rattle.cm_recover.specs.Recovered.{Recovered}
use Rattle.cm_recover.specs.Tallies.{IsFoundIn, IsRecovered}
use Rattle.cm_recover.proofs.SegmentWords.{part_long}
use Rattle.cm_recover.proofs.SecondRecovery.{sum_more}

-- the segments before this one are recovered, the others are as they were, and so many tiers more are covered
pub record AreRecovered (old now : MapWords) (end extra : ℕ) (found : List SegFound) : Type 0 where
  pub geo_is : now.geo ≡ old.geo
  pub length_is : length found ≡ end
  pub lawful : (segment : ℕ) → segment < end → Lawful old.geo segment (segment_in now segment) 0 (kept_state old.geo (segment_in old) segment)
  pub rest : (segment : ℕ) → end ≤ segment → segment < old.geo.segments → segment_in now segment ≡ segment_in old segment
  pub told : (segment : ℕ) (one : SegFound) → slice_get found segment ≡ Some one → IsFoundIn old.geo (segment_in old) segment one
  pub extra_is : extra ≡ old.geo.extra - extra_before old.geo (segment_in old) end

pub recovered_none : (old : MapWords) (extra : ℕ) → extra ≡ old.geo.extra → AreRecovered old old 0 extra []
recovered_none old extra is = record {
  geo_is = refl;
  length_is = refl;
  lawful = λ segment below. absurd (omega arith);
  rest = λ segment h below. refl;
  told = λ segment one e. absurd (none segment one e);
  extra_is = (let none : extra_before old.geo (segment_in old) 0 ≡ 0 = refl in omega (arith, is, none));
}
  where
    none : (segment : ℕ) (one : SegFound) → slice_get [] segment ≡ Some one → ⊥
    none segment one e = cc e

-- what is told of each of some segments, with one more
push_told : (P : ℕ → SegFound → Type 0) (found : List SegFound) (one : SegFound)
    → ((segment : ℕ) (it : SegFound) → slice_get found segment ≡ Some it → P segment it) → P (length found) one
    → (segment : ℕ) (it : SegFound) → slice_get (found ++ one ∷ []) segment ≡ Some it → P segment it
push_told P found one told last segment it e = elim (cases_lt segment (length found)) [
  | inl earlier ↦
      (let same : get_or found segment it ≡ it = sym (get_or_append_left found (one ∷ []) it segment earlier)
      ∙ get_or_from_slice_get (found ++ one ∷ []) segment it it e in
      told segment it (slice_get-get_or found segment it earlier ∙ ap (λ (x : SegFound). Some x) same))
  | inr behind ↦
      (let within : segment < length (found ++ one ∷ []) = slice_get_within (found ++ one ∷ []) segment it e in
      let here : segment ≡ length found = omega (arith, within, behind, length-append found (one ∷ [])) in
      let same : one ≡ it = sym (get_or-append_seam found one [] it)
      ∙ (ap (λ (n : ℕ). get_or (found ++ one ∷ []) n it) (sym here) ∙ get_or_from_slice_get (found ++ one ∷ []) segment it it e) in
      subst (λ (n : ℕ). P n it) (sym here) (subst (P (length found)) same last))
]

pub recovered_more : (old now later : MapWords) (end extra left : ℕ) (found : List SegFound) (one : SegFound) → end < old.geo.segments
    → AreRecovered old now end extra found → later.geo ≡ now.geo
    → ((other : ℕ) → other < now.geo.segments → other ≢ end → segment_in later other ≡ segment_in now other)
    → left ≡ extra - (length (chain_of now.geo (segment_in now end)).places - 1)
    → ((words_of : ℕ → List ℕ) → words_of end ≡ segment_in now end → extra ≡ now.geo.extra - extra_before now.geo words_of end
    → IsRecovered now.geo words_of end (segment_in later end) one)
    → AreRecovered old later (end + 1) left (found ++ one ∷ [])
recovered_more old now later end extra left found one here was geo_same others left_is recovered =
    let was_here : segment_in now end ≡ segment_in old end = was.rest end (omega arith) here in
    let it : IsRecovered old.geo (segment_in old) end (segment_in later end) one =
    (subst (λ (g : Geo). (words_of : ℕ → List ℕ) → words_of end ≡ segment_in now end → extra ≡ g.extra - extra_before g words_of end
    → IsRecovered g words_of end (segment_in later end) one) was.geo_is recovered)
    (segment_in old) (sym was_here) was.extra_is in
    let others' : (other : ℕ) → other < old.geo.segments → other ≢ end → segment_in later other ≡ segment_in now other =
    subst (λ (g : Geo). (other : ℕ) → other < g.segments → other ≢ end → segment_in later other ≡ segment_in now other) was.geo_is others in
    record {
      geo_is = geo_same ∙ was.geo_is;
      length_is = length-append found (one ∷ []) ∙ ap (λ (n : ℕ). n + 1) was.length_is;
      lawful = λ segment below. elim (cases_eq segment end) [
        | inl same ↦ subst (λ (s : ℕ). Lawful old.geo s (segment_in later s) 0 (kept_state old.geo (segment_in old) s)) (sym same) it.lawful
        | inr differ ↦ subst (λ (ws : List ℕ). Lawful old.geo segment ws 0 (kept_state old.geo (segment_in old) segment))
            (sym (others' segment (omega (arith, below, here)) differ))
            (was.lawful segment (before segment below differ))
      ];
      rest = λ segment h below. others' segment below (apart segment h) ∙ was.rest segment (omega (arith, h)) below;
      told = push_told (IsFoundIn old.geo (segment_in old)) found one was.told
          (subst (λ (s : ℕ). IsFoundIn old.geo (segment_in old) s one) (sym was.length_is) it.found_is);
      extra_is = fewer (subst (λ (g : Geo). left ≡ extra - (length (chain_of g (segment_in now end)).places - 1)) was.geo_is left_is) was_here;
    }
  where
    fewer : left ≡ extra - (length (chain_of old.geo (segment_in now end)).places - 1) → segment_in now end ≡ segment_in old end
        → left ≡ old.geo.extra - extra_before old.geo (segment_in old) (end + 1)
    fewer is same =
        let part : ℕ → ℕ = λ earlier. length (chain_of old.geo (segment_in old earlier)).places - 1 in
        let here : length (chain_of old.geo (segment_in now end)).places - 1 ≡ part end = ap
        (λ (ws : List ℕ). length (chain_of old.geo ws).places - 1) same in
        let e : part (0 + end) ≡ part end = ap part (omega arith) in
        let all : sum_by part (range_with_len 0 (end + 1)) ≡ sum_by part (range_with_len 0 end) + part (0 + end) = ap
        (λ (n : ℕ). sum_by part (range_with_len 0 n)) (add-one end) ∙ sum_more part 0 end in
        let less : left ≡ extra - part end = is ∙ ap (λ (n : ℕ). extra - n) here in
        let was_is : extra ≡ old.geo.extra - sum_by part (range_with_len 0 end) = was.extra_is in
        let now_is : left ≡ old.geo.extra - (sum_by part (range_with_len 0 end) + part end) = omega (arith, less, was_is) in
        now_is ∙ ap (λ (n : ℕ). old.geo.extra - n) (omega (arith, all, e))

    before : (s : ℕ) → s < end + 1 → s ≢ end → s < end
    before s h d = omega arith

    apart : (s : ℕ) → end + 1 ≤ s → s ≢ end
    apart s h e = omega arith

-- all of them
pub all_recovered : (old now : MapWords) (end extra : ℕ) (found : List SegFound) → old.geo.segments ≤ end → AreRecovered old now end extra found
    → IsWhole now → All (λ word. word < 2 ^ 64) now.words
    → Recovered old.geo (segment_in old) (segment_in now)
all_recovered old now end extra found past was whole fit = record {
  words = λ segment below. record {
    length_is = part_long now segment whole (subst (λ (g : Geo). segment < g.segments) (sym was.geo_is) below) ∙ ap words_in_segment was.geo_is;
    fit = All-take (λ word. word < 2 ^ 64) (words_in_segment now.geo) (drop (words_before now.geo segment) now.words)
        (All-drop (λ word. word < 2 ^ 64) (words_before now.geo segment) now.words fit);
  };
  lawful = λ segment below. was.lawful segment (omega (arith, below, past));
}
