-- A raise and a load of a stop word keep the rule.
use Rattle.std.proofs.Common.{◌≡◌, ◌≢◌, ℕ, ◌<◌, ◌≤◌, List, [], ◌∷◌, All, Contains, length, set, get_or, refl, sym, ap, ◌∙◌, subst, arith, length-set, get_or-set_other, get_or-set_same}
use Rattle.std.proofs.lemmas.List.{set-get_or}
use Rattle.std.proofs.lemmas.List.Elements.{All-push, All-set, All-weaker, Contains-append_left, Contains-push}
use mathlib.Core.Logic.{dite}
use mathlib.Core.Option.{none, some}
use native.Mathlib.Decide.{ℕ_discrete}
use lib.ListN.{get_elem?}
use Rattle.atomic_table.specs.Table.{Allows, keeps, step}
use Rattle.cm_geo.specs.declared.geo.Geo.{Geo}
use Rattle.cm_yard.specs.declared.view.Key.{Key}
use Rattle.cm_yard.specs.declared.view.StopNumber.{StopNumber}
use Rattle.cm_yard.specs.declared.view.View.{View}
use Rattle.cm_yard.specs.Rule.{AreStops, CountsExchanges, IsFound, IsInForce, IsRaised, IsYard, KnowsClaims, KnowsStops}
use Rattle.cm_yard.specs.Steps.{FindsStop, RaisesStop, SeatState}
use Rattle.cm_yard.specs.Views.{with_raise, with_stop}
use Rattle.cm_yard.specs.Words.{stop_at, words_in_yard}
use Rattle.cm_yard.proofs.Frames.{claims_frame, raised_more, stop_keeps, stops_frame}
use Rattle.cm_yard.proofs.Numbering.{seats_frame}
use Rattle.cm_words.proofs.ListSums.{all_at, any_has}

-- a number in a segment
abbrev note_of : ℕ → ℕ → StopNumber
note_of a n = record { segment = a; number = n }

-- with equal parts it is one
same_note : (a b n m : ℕ) → a ≡ b → n ≡ m → note_of a n ≡ note_of b m
same_note a b n m e f = λ i. record { segment = e i; number = f i }

module _ (geo : Geo) (words : List ℕ) (segment number : ℕ) (here : segment < geo.segments) (above : 0 < number) (within : number ≤ 2) (long : length words ≡ words_in_yard geo) where
  -- that word after the store
  set_here : stop_at (set words segment number) segment ≡ number
  set_here = get_or-set_same words segment number 0 (omega arith)

  -- the other words after it
  set_there : (j : ℕ) → j ≢ segment → stop_at (set words segment number) j ≡ stop_at words j
  set_there j ne = get_or-set_other words segment j number 0 ne

  -- what was raised before is in force still
  still : (s : StopNumber) → IsInForce geo words s → IsInForce geo (set words segment number) s
  still s is = record {
    here = is.here;
    above = is.above;
    within = is.within;
    stands = λ none. dite (ℕ_discrete s.segment segment)
        (λ e. let w = ap (stop_at (set words segment number)) e ∙ set_here in absurd (omega arith))
        (λ ne. is.stands (sym (set_there s.segment ne) ∙ none));
  }

  -- a number is stored, and the seat notes that it raised it
  pub stops_raised : (views : List View) (id : ℕ) (v : View) → get_elem? views id ≡ some v → AreStops geo words views → AreStops geo (set words segment number) (set views id (with_raise v segment number))
  stops_raised views id v at k =
      let w = with_raise v segment number in
      let note : StopNumber = record { segment = segment; number = number } in
      let more = raised_more views id v w at (λ s has. Contains-append_left v.raises (note ∷ []) s has) in record {
        from = λ j inside stands. dite (ℕ_discrete j segment)
            (λ e.
            let is : stop_at (set words segment number) j ≡ number = ap (stop_at (set words segment number)) e ∙ set_here in
            subst (IsRaised (set views id w)) (same_note segment j number (stop_at (set words segment number) j) (sym e) (sym is))
            (any_has (λ (u : View). Contains u.raises note) views id v w at (Contains-push v.raises note)))
            (λ ne.
            let is = set_there j ne in
            more _ (subst (λ (n : ℕ). IsRaised views (record { segment = j; number = n })) (sym is) (k.from j inside (λ none. stands (is ∙ none)))));
        each = (let knows : (u : View) → KnowsStops geo words views u → KnowsStops geo (set words segment number) (set views id w) u = λ u has. record {
          raised = All-weaker (IsInForce geo words) (IsInForce geo (set words segment number)) still u.raises has.raised;
          found = All-weaker (IsFound views) (IsFound (set views id w)) (λ t was some. more t (was some)) u.stops has.found;
        } in
            let mine = knows v (all_at (KnowsStops geo words views) views id v at k.each) in
            All-set (KnowsStops geo (set words segment number) (set views id w)) views id w
            (record {
              raised = All-push (IsInForce geo (set words segment number)) v.raises note mine.raised record { here = here; above = above; within = within; stands = λ none. absurd (omega (arith, set_here)) };
              found = mine.found;
            })
            (All-weaker (KnowsStops geo words views) (KnowsStops geo (set words segment number) (set views id w)) knows views k.each));
      }

module _ (key : Key) (slots id : ℕ) (me : SeatState) (live : me.0.number ≢ 65) (segment : ℕ) (here : segment < key.geo.segments) where
  -- a raise
  pub raising : (number : ℕ) → 0 < number → number ≤ 2 → Allows (IsYard key) slots id me segment (λ _. number) (λ _. RaisesStop (step slots segment number 0 none) me number)
  raising number above within s r _ at _ =
      let v = me.0 in
      let w = with_raise v segment number in (
        w,
        keeps,
        tt,
        record {
          length_is = length-set s.words segment number ∙ r.length_is;
          claims = claims_frame key.geo key.first s.words (set s.words segment number) s.views id v w at (stop_keeps key.geo s.words segment number here) refl (all_at (KnowsClaims key.geo s.words) s.views id v at r.claims.each).found r.claims;
          counts = All-set CountsExchanges s.views id w (all_at CountsExchanges s.views id v at r.counts) r.counts;
          stops = stops_raised key.geo s.words segment number here above within r.length_is s.views id v at r.stops;
          seats = seats_frame s.views r.seats id v at w live refl refl refl refl;
        },
        (refl, refl),
      )

  -- a stop word is at most 2
  stop_few : (words : List ℕ) (views : List View) → AreStops key.geo words views → stop_at words segment ≤ 2
  stop_few words views k = dite (ℕ_discrete (stop_at words segment) 0)
      (λ e. omega arith)
      (λ ne.
      let raised = k.from segment here ne in
      let v = raised.1 in let has = raised.4 in
      let all : All (IsInForce key.geo words) v.raises = subst (λ (u : View). All (IsInForce key.geo words) u.raises) raised.3 (k.each raised.0 raised.1 raised.2).raised in
      let one : IsInForce key.geo words (record { segment = segment; number = stop_at words segment }) = subst (IsInForce key.geo words) has.2 (all has.0 _ has.1) in
      one.within)

  -- a load
  pub finding : Allows (IsYard key) slots id me segment (λ n. n) (FindsStop (step slots segment 0 0 none) me)
  finding s r _ at _ =
      let v = me.0 in
      let number : ℕ = get_or s.words segment 0 in
      let w = with_stop v segment number in
      let same : set s.words segment number ≡ s.words = set-get_or s.words segment 0 in
      let note : StopNumber = record { segment = segment; number = number } in (
        w,
        keeps,
        tt,
        subst (λ (ws : List ℕ). IsYard key (record { words = ws; homes = s.homes; views = set s.views id w })) (sym same) record {
          length_is = r.length_is;
          claims = claims_frame key.geo key.first s.words s.words s.views id v w at (λ j inside. refl) refl (all_at (KnowsClaims key.geo s.words) s.views id v at r.claims.each).found r.claims;
          counts = All-set CountsExchanges s.views id w (all_at CountsExchanges s.views id v at r.counts) r.counts;
          stops = stops_frame key.geo key.first s.words s.words s.views id v w at (λ j inside. refl) refl (All-push (IsFound s.views) v.stops note (all_at (KnowsStops key.geo s.words s.views) s.views id v at r.stops.each).found (λ stands. r.stops.from segment here stands)) r.stops;
          seats = seats_frame s.views r.seats id v at w live refl refl refl refl;
        },
        (refl, refl, stop_few s.words s.views r.stops),
      )
