-- What a claim has done so far: the claim words that it found owned.
use Rattle.std.proofs.Common.{◌≡◌, ℕ, zero, suc, ◌+◌, ◌<◌, List, [], ◌∷◌, ◌++◌, Any, length, get_or, map, refl, sym, ap, ◌∙◌, subst, arith, append_assoc, length-append}
use Rattle.std.specs.List.{range_with_len}
use Rattle.std.proofs.lemmas.List.{append-nil, get_or-append-add, length-map, map-append}
use Rattle.std.proofs.lemmas.List.FromFn.{get_or-range_with_len, length-range_with_len}
use Rattle.cm_yard.specs.declared.view.OwnedWord.{OwnedWord}
use Rattle.cm_yard.specs.declared.view.View.{View}
use Rattle.cm_yard.specs.Claims.{FindsOwned, HasFoundAll}
use Rattle.cm_yard.specs.Views.{with_misses}

-- nothing was found yet
pub finds_none : (v : View) → FindsOwned v v 0
finds_none v = record { words = []; in_order = refl; view = λ i. record v { events = same i; misses = nothing i } }
  where
    same : v.events ≡ v.events + 0
    same = omega arith

    nothing : v.misses ≡ v.misses ++ []
    nothing = sym (append-nil v.misses)

-- numbers that are counted from 0 on
plus : (n : ℕ) → 0 + n ≡ n
plus n = omega arith

-- a range with one number more
range_more : (a n : ℕ) → range_with_len a (suc n) ≡ range_with_len a n ++ (a + n) ∷ []
range_more a zero = let e : a ≡ a + 0 = omega arith in ap (λ (k : ℕ). k ∷ []) e
range_more a (suc n) = let e : (a + 1) + n ≡ a + suc n = omega arith in ap (λ (t : List ℕ). a ∷ t) (range_more (a + 1) n ∙ ap (λ (k : ℕ). range_with_len (a + 1) n ++ k ∷ []) e)

-- the next one was found owned too
pub finds_more : (old mid now : View) (n segment : ℕ) → FindsOwned old mid n → now ≡ with_misses mid (record { index = n; segment = segment } ∷ []) → FindsOwned old now (n + 1)
finds_more old mid now n segment k is =
    let o : OwnedWord = record { index = n; segment = segment } in
    let one : suc n ≡ n + 1 = omega arith in
    record {
      words = k.words ++ o ∷ [];
      in_order = map-append (λ (w : OwnedWord). w.index) k.words (o ∷ []) ∙ (ap (λ (t : List ℕ). t ++ n ∷ []) k.in_order ∙ (ap (λ (j : ℕ). range_with_len 0 n ++ j ∷ []) (sym (plus n)) ∙ (sym (range_more 0 n) ∙ ap (range_with_len 0) one)));
      view = is ∙ (ap (λ (v : View). with_misses v (o ∷ [])) k.view ∙ joined k.words o);
    }
  where
    joined : (ws : List OwnedWord) (o : OwnedWord) → with_misses (with_misses old ws) (o ∷ []) ≡ with_misses old (ws ++ o ∷ [])
    joined ws o = λ i. record old { events = more ws o i; misses = append_assoc old.misses ws (o ∷ []) i }
      where
        more : (ws : List OwnedWord) (o : OwnedWord) → (old.events + length ws) + 1 ≡ old.events + length (ws ++ o ∷ [])
        more ws o = let l = length-append ws (o ∷ []) in omega arith

-- after the answer Spent each was found owned
pub finds_all : (old now : View) (extra : ℕ) → FindsOwned old now extra → HasFoundAll extra now
finds_all old now extra k = λ index less.
    let o : OwnedWord = get_or k.words index (record { index = 0; segment = 0 }) in
    let length_is : length k.words ≡ extra = sym (length-map k.words (λ (w : OwnedWord). w.index)) ∙ (ap length k.in_order ∙ length-range_with_len 0 extra) in
    let inside : index < length k.words = omega arith in
    let is : o.index ≡ index = index_at k.words index inside ∙ (ap (λ (t : List ℕ). get_or t index 0) k.in_order ∙ (get_or-range_with_len 0 extra index 0 less ∙ plus index)) in
    let l = length-append old.misses k.words in
    subst (λ (v : View). Any (λ (w : OwnedWord). w.index ≡ index) v.misses) (sym k.view)
    (length old.misses + index, o, (omega arith), get_or-append-add old.misses k.words index o ∙ same k.words index o inside, is)
  where
    index_at : (ws : List OwnedWord) (i : ℕ) → i < length ws → (get_or ws i (record { index = 0; segment = 0 })).index ≡ get_or (map (λ (w : OwnedWord). w.index) ws) i 0
    index_at [] i less = absurd (omega arith)
    index_at (w ∷ ws) zero less = refl
    index_at (w ∷ ws) (suc i) less = index_at ws i (omega arith)

    same : (ws : List OwnedWord) (i : ℕ) (d : OwnedWord) → i < length ws → get_or ws i d ≡ get_or ws i (record { index = 0; segment = 0 })
    same [] i d less = absurd (omega arith)
    same (w ∷ ws) zero d less = refl
    same (w ∷ ws) (suc i) d less = same ws i d (omega arith)
