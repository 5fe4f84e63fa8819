-- What stays where one view changes, and words that a record does not read.
use Rattle.std.proofs.Common.{◌≡◌, ℕ, ◌+◌, ◌<◌, ◌≤◌, List, All, Contains, set, sym, ap, ◌∙◌, subst, arith, get_or-set_other}
use Rattle.std.proofs.lemmas.List.Elements.{All-set, All-weaker}
use mathlib.Core.Option.{some}
use lib.ListN.{get_elem?}
use Rattle.cm_geo.specs.declared.geo.Geo.{Geo}
use Rattle.cm_yard.specs.declared.view.OwnedWord.{OwnedWord}
use Rattle.cm_yard.specs.declared.view.StopNumber.{StopNumber}
use Rattle.cm_yard.specs.declared.view.View.{View}
use Rattle.cm_yard.specs.Rule.{AreClaims, AreStops, IsFound, IsInForce, IsOwned, IsRaised, KnowsClaims, KnowsStops, claims_of, owners_of}
use Rattle.cm_yard.specs.Words.{claim_at, stop_at}
use Rattle.cm_words.proofs.ListSums.{all_at, any_set, sum_same}

-- these words have the same claim words
abbrev pub SameClaims : Geo → List ℕ → List ℕ → Type 0
SameClaims geo words words' = (index : ℕ) → index < geo.extra → claim_at geo words' index ≡ claim_at geo words index

-- these words have the same stop words
abbrev pub SameStops : Geo → List ℕ → List ℕ → Type 0
SameStops geo words words' = (segment : ℕ) → segment < geo.segments → stop_at words' segment ≡ stop_at words segment

-- what is owned by the claim words is so by the same ones
pub owned_same : (geo : Geo) (words words' : List ℕ) → SameClaims geo words words' → (o : OwnedWord) → IsOwned geo words o → IsOwned geo words' o
owned_same geo words words' same o is = record { there = is.there; here = is.here; word = same o.index is.there ∙ is.word }

-- and likewise what is in force
pub stopped_same : (geo : Geo) (words words' : List ℕ) → SameStops geo words words' → (s : StopNumber) → IsInForce geo words s → IsInForce geo words' s
stopped_same geo words words' same s is = record { here = is.here; above = is.above; within = is.within; stands = λ none. is.stands (sym (same s.segment is.here) ∙ none) }

-- a change of a stop word keeps the claim words
pub stop_keeps : (geo : Geo) (words : List ℕ) (segment n : ℕ) → segment < geo.segments → SameClaims geo words (set words segment n)
stop_keeps geo words segment n here index inside = get_or-set_other words segment (geo.segments + index) n 0 (λ e. omega arith)

-- a change of a claim word keeps the stop words
pub claim_keeps : (geo : Geo) (words : List ℕ) (index n : ℕ) → SameStops geo words (set words (geo.segments + index) n)
claim_keeps geo words index n segment here = get_or-set_other words (geo.segments + index) segment n 0 (λ e. omega arith)

-- a raised number stays raised
pub raised_more : (views : List View) (id : ℕ) (v w : View) → get_elem? views id ≡ some v → ((s : StopNumber) → Contains v.raises s → Contains w.raises s) → (s : StopNumber) → IsRaised views s → IsRaised (set views id w) s
raised_more views id v w at more s raised = any_set (λ (u : View). Contains u.raises s) views id v w at (more s) raised

module _ (geo : Geo) (first words words' : List ℕ) (views : List View) (id : ℕ) (v w : View) (at : get_elem? views id ≡ some v) where
  -- the claim words stay, and so do the claims given to this seat; what it found owned is owned
  pub claims_frame : SameClaims geo words words' → w.claims ≡ v.claims → All (IsOwned geo words) w.misses → AreClaims geo first words views → AreClaims geo first words' (set views id w)
  claims_frame same given found k = record {
    once = λ index inside.
        ap (λ (n : ℕ). owners_of (claim_at geo first index) + n) (sum_same (claims_of index) views id v w at (count_same index))
        ∙ (k.once index inside ∙ ap owners_of (sym (same index inside)));
    within = λ index inside. subst (λ (n : ℕ). n ≤ geo.segments) (sym (same index inside)) (k.within index inside);
    stays = λ index inside some_there. same index inside ∙ k.stays index inside some_there;
    each = All-set (KnowsClaims geo words') views id w (record { given = still w.claims (subst (All (IsOwned geo words)) (sym given) (all_at (KnowsClaims geo words) views id v at k.each).given); found = still w.misses found })
        (All-weaker (KnowsClaims geo words) (KnowsClaims geo words') (λ u has. record { given = still u.claims has.given; found = still u.misses has.found }) views k.each);
  }
    where
      still : (os : List OwnedWord) → All (IsOwned geo words) os → All (IsOwned geo words') os
      still os all = All-weaker (IsOwned geo words) (IsOwned geo words') (owned_same geo words words' same) os all

      count_same : (index : ℕ) → claims_of index w ≡ claims_of index v
      count_same index = ap (λ (os : List OwnedWord). claims_of index (record v { claims = os })) given

  -- the stop words stay, and so does what this seat raised; what it found was raised
  pub stops_frame : SameStops geo words words' → w.raises ≡ v.raises → All (IsFound views) w.stops → AreStops geo words views → AreStops geo words' (set views id w)
  stops_frame same raises found k = record {
    from = λ segment here stands.
        let e = same segment here in
        more _ (subst (λ (n : ℕ). IsRaised views (record { segment = segment; number = n })) (sym e) (k.from segment here (λ none. stands (e ∙ none))));
    each = All-set (KnowsStops geo words' (set views id w)) views id w (record { raised = still w.raises (subst (All (IsInForce geo words)) (sym raises) (all_at (KnowsStops geo words views) views id v at k.each).raised); found = still_found w.stops found })
        (All-weaker (KnowsStops geo words views) (KnowsStops geo words' (set views id w)) (λ u has. record { raised = still u.raises has.raised; found = still_found u.stops has.found }) views k.each);
  }
    where
      more : (s : StopNumber) → IsRaised views s → IsRaised (set views id w) s
      more = raised_more views id v w at (λ s has. subst (λ (ss : List StopNumber). Contains ss s) (sym raises) has)

      still_found : (ss : List StopNumber) → All (IsFound views) ss → All (IsFound (set views id w)) ss
      still_found ss all = All-weaker (IsFound views) (IsFound (set views id w)) (λ s has some. more s (has some)) ss all

      still : (ss : List StopNumber) → All (IsInForce geo words) ss → All (IsInForce geo words') ss
      still ss all = All-weaker (IsInForce geo words) (IsInForce geo words') (stopped_same geo words words' same) ss all
