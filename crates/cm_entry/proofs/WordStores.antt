-- Stores of words one after the other, and what they leave in a list.
use Rattle.std.proofs.Common.{◌≡◌, ◌≢◌, ℕ, zero, suc, ◌+◌, ◌<◌, ◌≤◌, ◌⊎◌, List, [], ◌∷◌, ◌++◌, length, take, drop, get_or, slice_set, refl, ap, sym, ◌∙◌, arith, inl, inr, get_or-set_other, get_or-set_same, length-set}
use Rattle.std.proofs.lemmas.List.{get_or-drop, get_or-take, length-drop, length-take-le, take-append-drop, take_more, drop_more}
use Rattle.std.proofs.lemmas.List.FromFn.{fill_by_all}
use Rattle.cm_words.specs.Stores.{WordStore, after_stores, store_at}
use Rattle.cm_entry.specs.EntryStores.{stores_from}

-- stores of words, and of words behind them
pub stores_append : (at : ℕ) (xs ys : List ℕ) → stores_from at (xs ++ ys) ≡ stores_from at xs ++ stores_from (at + length xs) ys
stores_append at [] ys = ap (λ (n : ℕ). stores_from n ys) (nothing at)
  where
    nothing : (n : ℕ) → n ≡ n + 0
    nothing n = omega arith
stores_append at (x ∷ xs) ys = ap (λ (rest : List WordStore). store_at at x ∷ rest) (stores_append (at + 1) xs ys ∙ ap (λ (n : ℕ). stores_from (at + 1) xs ++ stores_from n ys) (one_more at (length xs)))
  where
    one_more : (n m : ℕ) → n + 1 + m ≡ n + suc m
    one_more n m = omega arith

taken_len : (number : ℕ) (words : List ℕ) → number < length words → length (take number words) ≡ number
taken_len number words inside = length-take-le number words (omega arith)

-- one word more
pub stores_more : (at number : ℕ) (words : List ℕ) → number < length words → stores_from at (take (number + 1) words) ≡ stores_from at (take number words) ++ store_at (at + number) (get_or words number 0) ∷ []
stores_more at number words inside =
    ap (stores_from at) (take_more words number 0 inside) ∙ (stores_append at (take number words) (get_or words number 0 ∷ [])
    ∙ ap (λ (n : ℕ). stores_from at (take number words) ++ store_at (at + n) (get_or words number 0) ∷ []) (taken_len number words inside))

-- the stores up to one, that one, and those behind it
pub stores_split : (at number : ℕ) (words : List ℕ) → number < length words
    → stores_from at words ≡ stores_from at (take number words) ++ store_at (at + number) (get_or words number 0) ∷ stores_from (at + number + 1) (drop (number + 1) words)
stores_split at number words inside =
    ap (stores_from at) (sym (take-append-drop number words) ∙ ap (λ (rest : List ℕ). take number words ++ rest) (drop_more words number 0 inside))
    ∙ (stores_append at (take number words) (get_or words number 0 ∷ drop (number + 1) words)
    ∙ ap (λ (n : ℕ). stores_from at (take number words) ++ store_at (at + n) (get_or words number 0) ∷ stores_from (at + n + 1) (drop (number + 1) words)) (taken_len number words inside))

-- stores leave a list as long as it was
pub after_len : (words : List ℕ) (stores : List WordStore) → length (after_stores words stores) ≡ length words
after_len words [] = refl
after_len words (s ∷ stores) = after_len (slice_set words s.at s.word) stores ∙ length-set words s.at s.word

-- and the words before and behind them
pub after_other : (words : List ℕ) (at : ℕ) (stored : List ℕ) (other : ℕ) → (other < at) ⊎ (at + length stored ≤ other) → get_or (after_stores words (stores_from at stored)) other 0 ≡ get_or words other 0
after_other words at [] other apart = refl
after_other words at (w ∷ stored) other apart =
    let ne : other ≢ at = differ at (length stored) other apart in
    after_other (slice_set words at w) (at + 1) stored other (next at (length stored) other apart) ∙ get_or-set_other words at other w 0 ne
  where
    differ : (at n other : ℕ) → (other < at) ⊎ (at + suc n ≤ other) → other ≢ at
    differ at n other (inl before) = omega arith
    differ at n other (inr behind) = omega arith

    next : (at n other : ℕ) → (other < at) ⊎ (at + suc n ≤ other) → (other < at + 1) ⊎ (at + 1 + n ≤ other)
    next at n other (inl before) = inl (omega arith)
    next at n other (inr behind) = inr (omega arith)

-- where they were made their words stand
pub after_here : (words : List ℕ) (at : ℕ) (stored : List ℕ) (number : ℕ) → at + length stored ≤ length words → number < length stored → get_or (after_stores words (stores_from at stored)) (at + number) 0 ≡ get_or stored number 0
after_here words at [] number within inside = absurd (omega arith)
after_here words at (w ∷ stored) zero within inside =
    let there : at < length words = omega arith in
    ap (λ (n : ℕ). get_or (after_stores (slice_set words at w) (stores_from (at + 1) stored)) n 0) (nothing at) ∙ (after_other (slice_set words at w) (at + 1) stored at (inl (omega arith)) ∙ get_or-set_same words at w 0 there)
  where
    nothing : (n : ℕ) → n + 0 ≡ n
    nothing n = omega arith
after_here words at (w ∷ stored) (suc number) within inside =
    let long : at + 1 + length stored ≤ length (slice_set words at w) = rw length-set (omega arith) in
    ap (λ (n : ℕ). get_or (after_stores (slice_set words at w) (stores_from (at + 1) stored)) n 0) (one_more at number) ∙ after_here (slice_set words at w) (at + 1) stored number long (omega arith)
  where
    one_more : (n m : ℕ) → n + suc m ≡ n + 1 + m
    one_more n m = omega arith

-- a part of a list, word by word
pub part_is : (words part : List ℕ) (at count : ℕ) → length part ≡ count → at + count ≤ length words → ((k : ℕ) → k < count → get_or words (at + k) 0 ≡ get_or part k 0) → take count (drop at words) ≡ part
part_is words part at count long within same =
    let enough : count ≤ length (drop at words) = (let l = length-drop at words in omega (arith, l)) in
    fill_by_all (λ k. get_or part k 0) (take count (drop at words)) count 0 (length-take-le count (drop at words) enough)
    (λ k inside. get_or-take count (drop at words) k 0 inside ∙ (get_or-drop at words k 0 ∙ same k inside))
    ∙ sym (fill_by_all (λ k. get_or part k 0) part count 0 long (λ k inside. refl))

-- the same part of two lists
pub part_same : (xs ys : List ℕ) (at count : ℕ) → at + count ≤ length xs → at + count ≤ length ys → ((k : ℕ) → k < count → get_or xs (at + k) 0 ≡ get_or ys (at + k) 0) → take count (drop at xs) ≡ take count (drop at ys)
part_same xs ys at count within within' same =
    let enough : count ≤ length (drop at ys) = (let l = length-drop at ys in omega (arith, l)) in
    part_is xs (take count (drop at ys)) at count (length-take-le count (drop at ys) enough) within
    (λ k inside. same k inside ∙ sym (get_or-take count (drop at ys) k 0 inside ∙ get_or-drop at ys k 0))
