-- How many claim words are owned.
use Rattle.std.proofs.Common.{◌≡◌, ℕ, zero, suc, ◌+◌, ◌<◌, ◌≤◌, ◌==◌, List, [], ◌∷◌, All, drop, take, length, get_or, count_by, nat_lt, refl, sym, ap, ◌∙◌, subst, arith}
use Rattle.std.proofs.lemmas.Bool.{cases_eq}
use Rattle.std.proofs.lemmas.List.{drop_more, get_or-drop}
use Rattle.std.proofs.lemmas.List.Elements.{All-weaker}
use Rattle.std.proofs.lemmas.List.Sums.{sum_by-cons, sum_by_more}
use Rattle.std.proofs.Math.Seq.{take-length}
use Rattle.std.proofs.Common.{inl, inr, length-drop}
use mathlib.Core.Option.{some}
use lib.ListN.{get_elem?}
use Rattle.cm_geo.proofs.Ranges.{segments_range}
use Rattle.cm_geo.specs.declared.geo.Geo.{Geo}
use Rattle.cm_yard.specs.declared.view.OwnedWord.{OwnedWord}
use Rattle.cm_yard.specs.declared.view.View.{View}
use Rattle.cm_yard.specs.Claims.{HasFoundAll}
use Rattle.cm_yard.specs.Rule.{AreClaims, IsOwned, claims_of, owners_of}
use Rattle.cm_yard.specs.Words.{claim_at, owned_in, words_in_yard}
use Rattle.cm_yard.proofs.Claiming.{owners_few, owners_one}
use Rattle.cm_words.proofs.ListSums.{at_inside, at_read, one_if, one_if_other, one_if_same}

-- a sum over the numbers below n
upto : (ℕ → ℕ) → ℕ → ℕ
upto f zero = 0
upto f (suc n) = upto f n + f n

-- equal terms have equal sums
upto_same : (f g : ℕ → ℕ) (n : ℕ) → ((j : ℕ) → j < n → f j ≡ g j) → upto f n ≡ upto g n
unfolding upto
upto_same f g zero h = refl
upto_same f g (suc n) h = let r = upto_same f g n (λ j less. h j (omega arith)) in let e = h n (omega arith) in omega arith

-- the sum of sums
upto_plus : (f g : ℕ → ℕ) (n : ℕ) → upto (λ j. f j + g j) n ≡ upto f n + upto g n
unfolding upto
upto_plus f g zero = refl
upto_plus f g (suc n) = let r = upto_plus f g n in omega arith

-- of terms that are 0
upto_none : (n : ℕ) → upto (λ j. 0) n ≡ 0
unfolding upto
upto_none zero = refl
upto_none (suc n) = let r = upto_none n in omega arith

-- of ones
upto_ones : (n : ℕ) → upto (λ j. 1) n ≡ n
unfolding upto
upto_ones zero = refl
upto_ones (suc n) = let r = upto_ones n in omega arith

-- of terms of at most 1
upto_few : (f : ℕ → ℕ) (n : ℕ) → ((j : ℕ) → f j ≤ 1) → upto f n ≤ n
unfolding upto
upto_few f zero h = omega arith
upto_few f (suc n) h = let r = upto_few f n h in let e = h n in omega arith

-- a number that isn't below n doesn't count
upto_below : (k n : ℕ) → n ≤ k → upto (λ j. one_if k j) n ≡ 0
unfolding upto
upto_below k zero h = refl
upto_below k (suc n) h = let r = upto_below k n (omega arith) in let e = one_if_other k n (λ z. omega arith) in omega arith

-- one that is counts once
upto_one : (k n : ℕ) → k < n → upto (λ j. one_if k j) n ≡ 1
unfolding upto
upto_one k zero h = absurd (omega arith)
upto_one k (suc n) h = elim (cases_eq k n) [
  | inl e ↦ (let r = upto_below k n (omega arith) in let i = one_if_same k n e in omega arith)
  | inr ne ↦ (let r = upto_one k n (omega arith) in let i = one_if_other k n ne in omega arith)
]

-- how often each index is claimed, added up, is how many claims there are
upto_claims : (n : ℕ) (os : List OwnedWord) → All (λ (o : OwnedWord). o.index < n) os → upto (λ j. count_by (λ (o : OwnedWord). o.index == j) os) n ≡ length os
upto_claims n [] all = upto_none n
upto_claims n (o ∷ os) all =
    let r = upto_claims n os (λ k d less. all (suc k) d (omega arith)) in
    let one = upto_one o.index n (all 0 o (omega arith)) in
    let plus = upto_plus (λ j. one_if o.index j) (λ j. count_by (λ (p : OwnedWord). p.index == j) os) n in
    let same = upto_same (λ j. count_by (λ (p : OwnedWord). p.index == j) (o ∷ os)) (λ j. one_if o.index j + count_by (λ (p : OwnedWord). p.index == j) os) n
    (λ j less. sum_by-cons (λ (p : OwnedWord). one_if p.index j) o os) in
    omega arith

-- the owned words of a list, by index
upto_words : (xs : List ℕ) (n : ℕ) → n ≤ length xs → count_by (λ word. nat_lt 0 word) (take n xs) ≡ upto (λ j. owners_of (get_or xs j 0)) n
unfolding upto
upto_words xs zero h = refl
upto_words xs (suc n) h =
    let r = upto_words xs n (omega arith) in
    let m = sum_by_more owners_of xs n 0 (omega arith) in
    let one : n + 1 ≡ suc n = omega arith in
    subst (λ (k : ℕ). count_by (λ word. nat_lt 0 word) (take k xs) ≡ upto (λ j. owners_of (get_or xs j 0)) n + owners_of (get_or xs n 0)) one (omega arith)

-- and of a yard
owned_upto : (geo : Geo) (words : List ℕ) → length words ≡ words_in_yard geo → owned_in geo words ≡ upto (λ j. owners_of (claim_at geo words j)) geo.extra
owned_upto geo words long =
    let xs : List ℕ = drop geo.segments words in
    let len : length xs ≡ geo.extra = (let d = length-drop geo.segments words in omega arith) in
    let whole : take geo.extra xs ≡ xs = subst (λ (n : ℕ). take n xs ≡ xs) len (take-length xs) in
    let all = upto_words xs geo.extra (omega arith) in
    ap (count_by (λ word. nat_lt 0 word)) (sym whole) ∙ (all ∙ upto_same (λ j. owners_of (get_or xs j 0)) (λ j. owners_of (claim_at geo words j)) geo.extra (λ j less. ap owners_of (get_or-drop geo.segments words j 0)))

module _ (geo : Geo) (first words : List ℕ) (v : View) (many_first : length first ≡ words_in_yard geo) (length_is : length words ≡ words_in_yard geo) (k : AreClaims geo first words (v ∷ [])) where
  -- what is owned was owned at the start, or given
  pub owned_sum : owned_in geo words ≡ owned_in geo first + length v.claims
  owned_sum =
      let all : All (IsOwned geo words) v.claims = (k.each 0 v (omega arith)).given in
      let now = owned_upto geo words length_is in
      let start = owned_upto geo first many_first in
      let claims = upto_claims geo.extra v.claims (All-weaker (IsOwned geo words) (λ (o : OwnedWord). o.index < geo.extra) (λ o is. is.there) v.claims all) in
      let plus = upto_plus (λ j. owners_of (claim_at geo first j)) (λ j. claims_of j v) geo.extra in
      let same = upto_same (λ j. owners_of (claim_at geo words j)) (λ j. owners_of (claim_at geo first j) + claims_of j v) geo.extra
      (λ j less. let o = k.once j less in let c = sum_by-cons (claims_of j) v [] in omega arith) in
      omega arith

  -- there are no more owned words than claim words
  pub owned_few : owned_in geo words ≤ geo.extra
  owned_few = let now = owned_upto geo words length_is in let within = upto_few (λ j. owners_of (claim_at geo words j)) geo.extra (λ j. owners_few (claim_at geo words j)) in omega arith

  -- where each was found owned, all are
  pub owned_all : HasFoundAll geo.extra v → owned_in geo words ≡ geo.extra
  owned_all found =
      let all : All (IsOwned geo words) v.misses = (k.each 0 v (omega arith)).found in
      let now = owned_upto geo words length_is in
      let same = upto_same (λ j. owners_of (claim_at geo words j)) (λ j. 1) geo.extra
      (λ j less.
      let any = found j less in
      let is = subst (IsOwned geo words) any.3 (all any.0 any.1 any.2) in
      owners_one (claim_at geo words j) (λ none. let word = is.word in let e : claim_at geo words any.1.index ≡ claim_at geo words j = ap (claim_at geo words) any.4 in absurd (omega arith))) in
      let ones = upto_ones geo.extra in
      omega arith

-- the owned words from a place on are those behind it, and one where it is owned
pub owned_step : (words : List ℕ) (i word : ℕ) → get_elem? words i ≡ some word → count_by (λ w. nat_lt 0 w) (drop i words) ≡ owners_of word + count_by (λ w. nat_lt 0 w) (drop (i + 1) words)
owned_step words i word at =
    let m = drop_more words i word (at_inside words i word at) in
    let is : drop i words ≡ word ∷ drop (i + 1) words = m ∙ ap (λ (w : ℕ). w ∷ drop (i + 1) words) (at_read words i word word at) in
    ap (count_by (λ w. nat_lt 0 w)) is ∙ sum_by-cons owners_of word (drop (i + 1) words)

-- a yard has at least one word
pub some_words : (geo : Geo) → 0 < words_in_yard geo
some_words geo = let s = segments_range geo in omega arith
