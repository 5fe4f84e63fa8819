-- The chain of words in which a chain was ended early.
use Rattle.std.proofs.Common.{◌≡◌, ◌≢◌, ℕ, zero, suc, ◌+◌, ◌-◌, ◌<◌, ◌≤◌, ◌==◌, ◌||◌, true, false, List, [], ◌∷◌, ◌++◌, length, get_or, take, nat_le, refl, ap, sym, subst, ◌∙◌, inl, inr, arith, append_assoc, length-append}
use Rattle.std.specs.List.{list_any}
use Rattle.std.proofs.lemmas.Bool.{cases_Bool, cases_eq}
use Rattle.std.proofs.lemmas.List.{append-nil, get_or_append_left}
use Rattle.std.proofs.Math.Seq.{take-append-add, take-append_seam}
use Rattle.cm_geo.specs.declared.geo.Geo.{Geo}
use Rattle.cm_geo.specs.Addresses.{tier_at}
use Rattle.cm_plain.specs.Slots.{word_at}
use Rattle.cm_plain.specs.FoundChains.{FoundChain, chain_from, chain_of}
use Rattle.cm_recover.specs.Clearing.{IsCleared}
use Rattle.cm_recover.proofs.SettledTiers.{take_past}

-- a chain goes on behind the places that were found
record GoesOnFrom (before all : List ℕ) : Type 0 where
  rest : List ℕ
  all_is : all ≡ before ++ rest

goes_on_from : (links : ℕ) (geo : Geo) (words before : List ℕ) (place : ℕ) → GoesOnFrom before (chain_from links geo words before place).places
goes_on_from zero geo words before place = record { rest = []; all_is = sym (append-nil before) }
goes_on_from (suc links) geo words before place =
    let next : ℕ = word_at words (tier_at geo place) in
    elim (cases_Bool (next == 0)) [
      | inl ends ↦ rw ends (record { rest = []; all_is = sym (append-nil before) })
      | inr goes ↦ elim (cases_Bool (nat_le geo.tiers next || list_any (λ earlier. earlier == next) before)) [
        | inl cut ↦ rw (goes, cut) (record { rest = []; all_is = sym (append-nil before) })
        | inr on ↦
            (let further = goes_on_from links geo words (before ++ next ∷ []) next in
            rw (goes, on) (record { rest = next ∷ further.rest; all_is = further.all_is ∙ append_assoc before (next ∷ []) further.rest }))
      ]
    ]

-- the links of the first places are the same, and the last of them has none
record IsEnded (geo : Geo) (places old words : List ℕ) : Type 0 where
  links : (number : ℕ) → number + 1 < length places
      → word_at words (tier_at geo (get_or places number 0)) ≡ word_at old (tier_at geo (get_or places number 0))
  last : word_at words (tier_at geo (get_or places (length places - 1) 0)) ≡ 0

-- where the chain ends with these places
ends_here : (links : ℕ) (geo : Geo) (places old words before : List ℕ) (place : ℕ) → IsEnded geo places old words → places ≡ before
    → get_or before (length before - 1) 0 ≡ place
    → chain_from links geo words before place ≡ record { places = places; cut = false }
ends_here zero geo places old words before place ended same place_is = rw same refl
ends_here (suc links) geo places old words before place ended same place_is =
    let last : word_at words (tier_at geo place) ≡ 0 =
    subst (λ (p : ℕ). word_at words (tier_at geo p) ≡ 0) (ap (λ (ps : List ℕ). get_or ps (length ps - 1) 0) same ∙ place_is) ended.last in
    rw (same, last) refl

-- on from a place
ended_from : (links : ℕ) (geo : Geo) (most : ℕ) (places old words before : List ℕ) (place : ℕ) → IsEnded geo places old words
    → get_or before (length before - 1) 0 ≡ place → 1 ≤ length before → length before ≤ most
    → places ≡ take most (chain_from links geo old before place).places
    → chain_from links geo words before place ≡ record { places = places; cut = false }
ended_from zero geo most places old words before place ended place_is some within is = ends_here zero geo places old words before place ended
    (is ∙ take_past most before within) place_is
ended_from (suc links) geo most places old words before place ended place_is some within is =
    elim (cases_eq (length before) most) [
      | inl full ↦
          (let all = goes_on_from (suc links) geo old before place in
          ends_here (suc links) geo places old words before place ended
          (is ∙ (ap (λ (ps : List ℕ). take most ps) all.all_is
          ∙ (ap (λ (n : ℕ). take n (before ++ all.rest)) (sym full) ∙ take-append_seam before all.rest))) place_is)
      | inr short ↦
          (let next : ℕ = word_at old (tier_at geo place) in
          elim (cases_Bool (next == 0)) [
            | inl ends ↦ ends_here (suc links) geo places old words before place ended
                (is ∙ (ap (λ (c : FoundChain). take most c.places) (stops ends) ∙ take_past most before within)) place_is
            | inr goes ↦ elim (cases_Bool (nat_le geo.tiers next || list_any (λ earlier. earlier == next) before)) [
              | inl cut ↦ ends_here (suc links) geo places old words before place ended
                  (is ∙ (ap (λ (c : FoundChain). take most c.places) (breaks goes cut) ∙ take_past most before within)) place_is
              | inr on ↦
                  (let further = goes_on_from links geo old (before ++ next ∷ []) next in
                  let is' : places ≡ take most (chain_from links geo old (before ++ next ∷ []) next).places = is
                  ∙ ap (λ (c : FoundChain). take most c.places) (follows goes on) in
                  let longer : length (before ++ next ∷ []) ≡ length before + 1 = length-append before (next ∷ []) in
                  let link : word_at words (tier_at geo place) ≡ next = same_link next further.rest
                  (is' ∙ ap (λ (ps : List ℕ). take most ps) further.all_is) short in
                  rw (link, goes, on) (ended_from links geo most places old words (before ++ next ∷ []) next ended (newest next)
                  (omega (arith, longer)) (omega (arith, longer, within, short)) is'))
            ]
          ])
    ]
  where
    stops : (word_at old (tier_at geo place) == 0) ≡ true → chain_from (suc links) geo old before place ≡ record { places = before; cut = false }
    stops e = rw e refl

    breaks : (word_at old (tier_at geo place) == 0) ≡ false
        → (nat_le geo.tiers (word_at old (tier_at geo place)) || list_any (λ earlier. earlier == word_at old (tier_at geo place)) before) ≡ true
        → chain_from (suc links) geo old before place ≡ record { places = before; cut = true }
    breaks e f = rw (e, f) refl

    follows : (word_at old (tier_at geo place) == 0) ≡ false
        → (nat_le geo.tiers (word_at old (tier_at geo place)) || list_any (λ earlier. earlier == word_at old (tier_at geo place)) before) ≡ false
        → chain_from (suc links) geo old before place ≡ chain_from links geo old (before ++ word_at old (tier_at geo place) ∷ [])
        (word_at old (tier_at geo place))
    follows e f = rw (e, f) refl

    newest : (next : ℕ) → get_or (before ++ next ∷ []) (length (before ++ next ∷ []) - 1) 0 ≡ next
    newest next =
        let e : length (before ++ next ∷ []) - 1 ≡ length before = omega (arith, length-append before (next ∷ [])) in
        ap (λ (n : ℕ). get_or (before ++ next ∷ []) n 0) e ∙ last before
      where
        last : (xs : List ℕ) → get_or (xs ++ next ∷ []) (length xs) 0 ≡ next
        last [] = refl
        last (x ∷ xs) = last xs

    -- the place isn't the last one, so its link is the same
    same_link : (next : ℕ) (rest : List ℕ) → places ≡ take most ((before ++ next ∷ []) ++ rest) → length before ≢ most
        → word_at words (tier_at geo place) ≡ word_at old (tier_at geo place)
    same_link next rest all short =
        let longer : length (before ++ next ∷ []) ≡ length before + 1 = length-append before (next ∷ []) in
        let split : places ≡ (before ++ next ∷ []) ++ take (most - (length before + 1)) rest = all
        ∙ front (before ++ next ∷ []) rest (omega (arith, longer, within, short)) longer in
        let many : length places ≡ length (before ++ next ∷ []) + length (take (most - (length before + 1)) rest) = ap
        (λ (ps : List ℕ). length ps) split ∙ length-append (before ++ next ∷ []) (take (most - (length before + 1)) rest) in
        let here : get_or places (length before - 1) 0 ≡ place =
        ap (λ (ps : List ℕ). get_or ps (length before - 1) 0) (split ∙ append_assoc before (next ∷ []) (take (most - (length before + 1)) rest))
        ∙ (get_or_append_left before (next ∷ take (most - (length before + 1)) rest) 0 (length before - 1) (omega (arith, some)) ∙ place_is) in
        subst (λ (p : ℕ). word_at words (tier_at geo p) ≡ word_at old (tier_at geo p)) here
        (ended.links (length before - 1) (omega (arith, many, longer, some)))
      where
        front : (xs ys : List ℕ) → length xs ≤ most → length xs ≡ length before + 1
            → take most (xs ++ ys) ≡ xs ++ take (most - (length before + 1)) ys
        front xs ys h e =
            let n : most ≡ length xs + (most - (length before + 1)) = omega arith in
            ap (λ (k : ℕ). take k (xs ++ ys)) n ∙ take-append-add xs ys (most - (length before + 1))

-- the chain of cleared words
pub cleared_chain : (geo : Geo) (more : ℕ) (places old words : List ℕ) → places ≡ take (1 + more) (chain_of geo old).places
    → IsCleared geo places old words → chain_of geo words ≡ record { places = places; cut = false }
unfolding chain_of
cleared_chain geo more places old words is cleared =
    ended_from geo.tiers geo (1 + more) places old words (0 ∷ []) 0 (record { links = cleared.links; last = cleared.last }) refl (omega arith)
    (omega arith) is
