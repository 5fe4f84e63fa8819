-- Splits, joins, the start and the end of a yard.
use Rattle.std.proofs.Common.{◌≡◌, ◌≢◌, ℕ, ◌+◌, ◌<◌, ◌≤◌, ◌==◌, if◌then◌else◌, List, [], ◌∷◌, ◌++◌, All, Any, Contains, length, set, sum, refl, sym, ap, ◌∙◌, subst, ⊎_elim, arith, length-append, length-set, get_or-set_other, get_or-set_same, inl, inr}
use Rattle.std.proofs.lemmas.Bool.{cases_eq}
use Rattle.std.proofs.lemmas.List.{set-get_or}
use Rattle.std.proofs.lemmas.List.Elements.{All-append, All-nil, All-push, All-set, All-weaker, Contains-append_left, Contains-append_right}
use Rattle.std.proofs.lemmas.List.Sums.{sum_by-append, sum_by-cons, sum_by_push}
use mathlib.Core.Option.{none, some, some-injective}
use lib.ListN.{get_elem?}
use Rattle.atomic_table.specs.Table.{Allows, Final, Joins, Seen, Splits, keeps, opening, step}
use Rattle.atomic_table.proofs.Lists.{at_index, at_set}
use Rattle.cm_geo.specs.declared.geo.Geo.{Geo}
use Rattle.cm_yard.specs.declared.view.Key.{Key}
use Rattle.cm_yard.specs.declared.view.OwnedWord.{OwnedWord}
use Rattle.cm_yard.specs.declared.view.StopNumber.{StopNumber}
use Rattle.cm_yard.specs.declared.view.View.{View}
use Rattle.cm_yard.specs.Ends.{AllJoined, Closes}
use Rattle.cm_yard.specs.Rule.{AreClaims, AreStops, CountsExchanges, IsFound, IsInForce, IsOwned, IsRaised, IsSeat, IsYard, KnowsClaims, KnowsStops, claims_of, count_of, own_count}
use Rattle.cm_yard.specs.Steps.{NotesNumber, SeatState}
use Rattle.cm_yard.specs.Views.{child, new_view, root_view, spent_view, with_due, with_joined, without_due}
use Rattle.cm_yard.specs.Words.{claim_at, first_words, stop_at}
use Rattle.cm_yard.proofs.Owners.{first_few, first_length, first_stops}
use Rattle.cm_yard.proofs.Frames.{claims_frame, stops_frame}
use Rattle.cm_yard.proofs.Numbering.{alone, others, seats_due, seats_join, seats_split}
use Rattle.cm_words.proofs.ListSums.{all_at, all_one, any_alone, any_one, any_snoc, at_inside, sum_alone, sum_set}

-- a load notes the number of the next seat
pub numbering : (key : Key) (slots id : ℕ) (me : SeatState) (n : ℕ) → me.0.number ≡ 64 → me.0.due ≡ [] → count_of n me.0.made ≡ 0 → Allows (IsYard key) slots id me 0 (λ n. n) (NotesNumber n (step slots 0 0 0 none) me)
numbering key slots id me n is none_due never s r _ at _ =
    let v = me.0 in let w = with_due v n in (
      w,
      keeps,
      tt,
      subst (λ (ws : List ℕ). IsYard key (record { words = ws; homes = s.homes; views = set s.views id w })) (sym (set-get_or s.words 0 0)) record {
        length_is = r.length_is;
        claims = claims_frame key.geo key.first s.words s.words s.views id v w at (λ j inside. refl) refl (all_at (KnowsClaims key.geo s.words) s.views id v at r.claims.each).found r.claims;
        counts = All-set CountsExchanges s.views id w (all_at CountsExchanges s.views id v at r.counts) r.counts;
        stops = stops_frame key.geo key.first s.words s.words s.views id v w at (λ j inside. refl) refl (all_at (KnowsStops key.geo s.words s.views) s.views id v at r.stops.each).found r.stops;
        seats = seats_due s.views r.seats id v at n is none_due never;
      },
      (refl, refl),
    )

-- a seat more that has noted nothing
claims_fresh : (geo : Geo) (first words : List ℕ) (views : List View) (n : ℕ) → AreClaims geo first words views → AreClaims geo first words (views ++ new_view n ∷ [])
claims_fresh geo first words views n k = record {
  once = λ index inside. (let p = sum_by_push (claims_of index) views (new_view n) in let o = k.once index inside in omega arith);
  within = k.within;
  stays = k.stays;
  each = All-push (KnowsClaims geo words) views (new_view n) k.each record { given = All-nil (IsOwned geo words); found = All-nil (IsOwned geo words) };
}

-- which is so of stop words too
stops_fresh : (geo : Geo) (words : List ℕ) (views : List View) (n : ℕ) → AreStops geo words views → AreStops geo words (views ++ new_view n ∷ [])
stops_fresh geo words views n k = record {
  from = λ segment here stands. more _ (k.from segment here stands);
  each = All-push (KnowsStops geo words (views ++ new_view n ∷ [])) views (new_view n)
      (All-weaker (KnowsStops geo words views) (KnowsStops geo words (views ++ new_view n ∷ [])) (λ u has. record { raised = has.raised; found = All-weaker (IsFound views) (IsFound (views ++ new_view n ∷ [])) (λ t was some. more t (was some)) u.stops has.found }) views k.each)
      record { raised = All-nil (IsInForce geo words); found = All-nil (IsFound (views ++ new_view n ∷ [])) };
}
  where
    more : (s : StopNumber) → IsRaised views s → IsRaised (views ++ new_view n ∷ []) s
    more s = any_snoc (λ (u : View). Contains u.raises s) views (new_view n)

-- a split
pub splits : (key : Key) (id : ℕ) (v : View) (n : ℕ) → v.number ≡ 64 → v.due ≡ n ∷ [] → n < 64 → Splits (IsYard key) id v (without_due v) (child v)
splits key id v n is due small s r at =
    let w = without_due v in let mid = set s.views id w in record {
      length_is = r.length_is;
      claims = claims_fresh key.geo key.first s.words mid (child v).number (claims_frame key.geo key.first s.words s.words s.views id v w at (λ j inside. refl) refl (all_at (KnowsClaims key.geo s.words) s.views id v at r.claims.each).found r.claims);
      counts = All-push CountsExchanges mid (child v) (All-set CountsExchanges s.views id w (all_at CountsExchanges s.views id v at r.counts) r.counts) refl;
      stops = stops_fresh key.geo s.words mid (child v).number (stops_frame key.geo key.first s.words s.words s.views id v w at (λ j inside. refl) refl (all_at (KnowsStops key.geo s.words s.views) s.views id v at r.stops.each).found r.stops);
      seats = seats_split s.views r.seats id v at n is due small;
    }

-- what one of two seats has, the first has once it took over what the other had
any_joined : {X : Type 0} (P : X → Type 0) (l : List X) (i j : ℕ) (v o w z : X) → j ≢ i → get_elem? l i ≡ some v → get_elem? l j ≡ some o → (P v → P w) → (P o → P w) → Any P l → Any P (set (set l i w) j z)
any_joined P l i j v o w z apart at there first second any =
    let k = any.0 in let x = any.1 in let less = any.2 in
    let is = at_index l k x less (sym any.3) in
    elim (cases_eq k i) [
      | inl e ↦ now (first (subst P (some-injective x v (sym is ∙ (ap (λ (n : ℕ). get_elem? l n) e ∙ at))) any.4))
      | inr ne ↦ elim (cases_eq k j) [
        | inl e ↦ now (second (subst P (some-injective x o (sym is ∙ (ap (λ (n : ℕ). get_elem? l n) e ∙ there))) any.4))
        | inr ne2 ↦ (k, x, (let a = length-set (set l i w) j z in let b = length-set l i w in omega arith), get_or-set_other (set l i w) j k z x ne2 ∙ (get_or-set_other l i k w x ne ∙ any.3), any.4)
      ]
    ]
  where
    now : P w → Any P (set (set l i w) j z)
    now h =
        let inside = at_inside l i v at in
        (i, w, (let a = length-set (set l i w) j z in let b = length-set l i w in omega arith), get_or-set_other (set l i w) j i z w (λ e. apart (sym e)) ∙ get_or-set_same l i w w inside, h)

module _ (geo : Geo) (first words : List ℕ) (views : List View) (id other : ℕ) (v o : View) (apart : other ≢ id) (at : get_elem? views id ≡ some v) (at_other : get_elem? views other ≡ some o) (there : get_elem? (set views id (with_joined v o)) other ≡ some o) where
  -- the two lists of claims become one
  claims_join : AreClaims geo first words views → AreClaims geo first words (set (set views id (with_joined v o)) other spent_view)
  claims_join k =
      let w = with_joined v o in let mid = set views id w in record {
        once = λ j inside.
            (let a = sum_set (claims_of j) views id v w at in let b = sum_set (claims_of j) mid other o spent_view there in
            let p : claims_of j w ≡ claims_of j v + claims_of j o = sum_by-append (λ (c : OwnedWord). if c.index == j then 1 else 0) v.claims o.claims in
            let n = k.once j inside in omega arith);
        within = k.within;
        stays = k.stays;
        each = (let mine = all_at (KnowsClaims geo words) views id v at k.each in let theirs = all_at (KnowsClaims geo words) views other o at_other k.each in
            All-set (KnowsClaims geo words) mid other spent_view (record { given = All-nil (IsOwned geo words); found = All-nil (IsOwned geo words) })
            (All-set (KnowsClaims geo words) views id w (record { given = All-append (IsOwned geo words) v.claims o.claims mine.given theirs.given; found = All-append (IsOwned geo words) v.misses o.misses mine.found theirs.found }) k.each));
      }

  -- and so do the notes of stop words
  stops_join : AreStops geo words views → AreStops geo words (set (set views id (with_joined v o)) other spent_view)
  stops_join k =
      let w = with_joined v o in let mid = set views id w in let last = set mid other spent_view in
      let found : (ss : List StopNumber) → All (IsFound views) ss → All (IsFound last) ss = λ ss all. All-weaker (IsFound views) (IsFound last) (λ t was some. more t (was some)) ss all in record {
        from = λ segment here stands. more _ (k.from segment here stands);
        each = (let mine = all_at (KnowsStops geo words views) views id v at k.each in let theirs = all_at (KnowsStops geo words views) views other o at_other k.each in
            All-set (KnowsStops geo words last) mid other spent_view (record { raised = All-nil (IsInForce geo words); found = All-nil (IsFound last) })
            (All-set (KnowsStops geo words last) views id w
            (record { raised = All-append (IsInForce geo words) v.raises o.raises mine.raised theirs.raised; found = All-append (IsFound last) v.stops o.stops (found v.stops mine.found) (found o.stops theirs.found) })
            (All-weaker (KnowsStops geo words views) (KnowsStops geo words last) (λ u has. record { raised = has.raised; found = found u.stops has.found }) views k.each)));
      }
    where
      more : (s : StopNumber) → IsRaised views s → IsRaised (set (set views id (with_joined v o)) other spent_view) s
      more s = any_joined (λ (u : View). Contains u.raises s) views id other v o (with_joined v o) spent_view apart at at_other
          (Contains-append_left v.raises o.raises s) (Contains-append_right v.raises o.raises s)

-- a join
pub joins : (key : Key) (id : ℕ) (v : View) (other : ℕ) (o : View) → v.number ≡ 64 → o.number ≤ 64 → Joins (IsYard key) id v other o (with_joined v o) spent_view
joins key id v other o is live s r at apart there =
    let w = with_joined v o in
    let mid : List View = set s.views id w in
    let at_other : get_elem? s.views other ≡ some o = ⊎_elim (λ (t : (other ≡ id) × (w ≡ o)). absurd (apart t.0)) (λ (t : (other ≢ id) × (get_elem? s.views other ≡ some o)). t.1) (at_set s.views id other w o there) in
    let not_root = others s.views r.seats id v at is other o apart at_other in
    let ev = all_at CountsExchanges s.views id v at r.counts in
    let eo = all_at CountsExchanges s.views other o at_other r.counts in
    let lc = length-append v.claims o.claims in
    let lm = length-append v.misses o.misses in record {
      length_is = r.length_is;
      claims = claims_join key.geo key.first s.words s.views id other v o apart at at_other there r.claims;
      counts = All-set CountsExchanges mid other spent_view refl (All-set CountsExchanges s.views id w (omega arith) r.counts);
      stops = stops_join key.geo key.first s.words s.views id other v o apart at at_other there r.stops;
      seats = seats_join s.views r.seats id v at other o is (omega arith) at_other there;
    }

-- at the end, where all seats that were made were joined, the root knows all
pub closes : (key : Key) (id : ℕ) (v : View) (ws : List ℕ) (xs : List (Unit {0})) → v.number ≡ 64 → AllJoined v → Final (Seen (IsYard key) id v) ws xs → Closes key v ws
closes key id v ws xs is all f =
    let s = f.0 in let r = f.1.0 in let at = f.1.1 in
    let rest = alone s.views r.seats id v at is all in
    let one : (t : StopNumber) → IsRaised s.views t → IsRaised (v ∷ []) t = λ t raised.
    any_one (λ (u : View). Contains u.raises t) v
    (any_alone (λ (u : View). Contains u.raises t) s.views id v at (λ j u ne h has. no_raise t (subst (λ (x : View). Contains x.raises t) (rest j u ne h) has)) raised) in
    subst (Closes key v) f.2 record {
      length_is = r.length_is;
      claims = record {
        once = λ index inside.
            (let e = sum_alone (claims_of index) s.views id v at (λ j u ne h. ap (claims_of index) (rest j u ne h)) in let c = sum_by-cons (claims_of index) v [] in let o = r.claims.once index inside in omega arith);
        within = r.claims.within;
        stays = r.claims.stays;
        each = all_one (KnowsClaims key.geo s.words) v (all_at (KnowsClaims key.geo s.words) s.views id v at r.claims.each);
      };
      counts = all_at CountsExchanges s.views id v at r.counts;
      stops = record {
        from = λ segment here stands. one _ (r.stops.from segment here stands);
        each = (let mine = all_at (KnowsStops key.geo s.words s.views) s.views id v at r.stops.each in
            all_one (KnowsStops key.geo s.words (v ∷ [])) v record { raised = mine.raised; found = All-weaker (IsFound s.views) (IsFound (v ∷ [])) (λ t was some. one t (was some)) v.stops mine.found });
      };
    }
  where
    no_raise : (t : StopNumber) → Contains spent_view.raises t → ⊥
    no_raise t has = let less = has.1 in absurd (omega arith)

-- a number below 64 isn't the root's own
root_other : (n : ℕ) → n < 64 → own_count n root_view ≡ 0
root_other n small = grind arith

-- the rule at the start
pub opens : (key : Key) (linked : List ℕ) → length linked ≡ key.geo.segments → sum linked ≤ key.geo.extra → key.first ≡ first_words key.geo linked → IsYard key (opening key.first [] root_view)
opens key linked long within is = record {
  length_is = ap length is ∙ first_length key.geo linked long within;
  claims = record {
    once = λ index inside. (let c = sum_by-cons (claims_of index) root_view [] in omega arith);
    within = λ index inside. subst (λ (ws : List ℕ). claim_at key.geo ws index ≤ key.geo.segments) (sym is) (first_few key.geo linked long within index inside);
    stays = λ index inside some_there. refl;
    each = all_one (KnowsClaims key.geo key.first) root_view record { given = All-nil (IsOwned key.geo key.first); found = All-nil (IsOwned key.geo key.first) };
  };
  counts = all_one CountsExchanges root_view refl;
  stops = record {
    from = λ segment here stands. absurd (stands (ap (λ (ws : List ℕ). stop_at ws segment) is ∙ first_stops key.geo linked long within segment here));
    each = all_one (KnowsStops key.geo key.first (root_view ∷ [])) root_view record { raised = All-nil (IsInForce key.geo key.first); found = All-nil (IsFound (root_view ∷ [])) };
  };
  seats = record {
    one_root = refl;
    once = λ n. omega arith;
    living = λ n small. (let e = root_other n small in omega arith);
    each = all_one IsSeat root_view record { within = omega arith; only_root = λ ne. absurd (ne refl); nothing = λ e. absurd (omega arith) };
  };
}
