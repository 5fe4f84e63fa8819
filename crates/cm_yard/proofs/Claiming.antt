-- An exchange of a claim word keeps the rule.
use Rattle.std.proofs.Common.{◌≡◌, ◌≢◌, ℕ, ◌+◌, ◌-◌, ◌<◌, ◌≤◌, List, [], ◌∷◌, All, length, set, get_or, sum_by, eqb, eq-eqb, ne_eqb, refl, sym, ap, ◌∙◌, subst, arith, length-set, length-append, get_or-set_other, get_or-set_same}
use Rattle.std.proofs.lemmas.List.{set-get_or}
use Rattle.std.proofs.lemmas.List.Elements.{All-push, All-set, All-weaker}
use Rattle.std.proofs.lemmas.List.Sums.{sum_by_push}
use mathlib.Core.Logic.{dite}
use mathlib.Core.Option.{none, some}
use native.Mathlib.Decide.{dec_lt, ℕ_discrete}
use prog.Atomic.{either}
use lib.ListN.{get_elem?}
use Rattle.atomic_table.specs.Table as table
use Rattle.atomic_table.specs.Table.{Allows, keeps, step, stepped}
use Rattle.cm_geo.specs.declared.geo.Geo.{Geo}
use Rattle.cm_yard.specs.declared.view.Key.{Key}
use Rattle.cm_yard.specs.declared.view.OwnedWord.{OwnedWord}
use Rattle.cm_yard.specs.declared.view.View.{View}
use Rattle.cm_yard.specs.Rule.{AreClaims, CountsExchanges, IsOwned, IsYard, KnowsClaims, KnowsStops, claims_of, owners_of}
use Rattle.cm_yard.specs.Steps.{ExchangesClaim, SeatState}
use Rattle.cm_yard.specs.Views.{with_claim, with_misses}
use Rattle.cm_yard.specs.Words.{claim_at, words_in_yard}
use Rattle.cm_yard.proofs.Frames.{claim_keeps, claims_frame, stops_frame}
use Rattle.cm_yard.proofs.Numbering.{seats_frame}
use Rattle.cm_words.proofs.ListSums.{all_at, one_if, one_if_other, one_if_same, sum_none, sum_set}

-- a claim word that is 0 counts for no owner
pub owners_none : (word : ℕ) → word ≡ 0 → owners_of word ≡ 0
owners_none word e = grind arith

-- any other counts for one
pub owners_one : (word : ℕ) → word ≢ 0 → owners_of word ≡ 1
owners_one word ne = grind arith

-- none counts for more
pub owners_few : (word : ℕ) → owners_of word ≤ 1
owners_few word = grind arith

-- one claim more counts for its own index alone
claims_push : (j : ℕ) (v : View) (index segment : ℕ) → claims_of j (with_claim v index segment) ≡ claims_of j v + one_if index j
claims_push j v index segment = sum_by_push (λ (o : OwnedWord). one_if o.index j) v.claims (record { index = index; segment = segment })

module _ (geo : Geo) (first words : List ℕ) (index segment : ℕ) (there : index < geo.extra) (here : segment < geo.segments) (free : claim_at geo words index ≡ 0) (long : length words ≡ words_in_yard geo) where
  -- that word after the exchange
  set_here : claim_at geo (set words (geo.segments + index) (segment + 1)) index ≡ segment + 1
  set_here = get_or-set_same words (geo.segments + index) (segment + 1) 0 (omega arith)

  -- the other words after it
  set_there : (j : ℕ) → j ≢ index → claim_at geo (set words (geo.segments + index) (segment + 1)) j ≡ claim_at geo words j
  set_there j ne = get_or-set_other words (geo.segments + index) (geo.segments + j) (segment + 1) 0 (λ e. ne (omega arith))

  -- what was owned isn't the word that was free
  owned_stays : (o : OwnedWord) → IsOwned geo words o → IsOwned geo (set words (geo.segments + index) (segment + 1)) o
  owned_stays o is = record {
    there = is.there;
    here = is.here;
    word = set_there o.index (λ e. let w = is.word in let z : claim_at geo words o.index ≡ 0 = ap (claim_at geo words) e ∙ free in absurd (omega arith)) ∙ is.word;
  }

  -- so each seat knows what it knew
  stays : (u : View) → KnowsClaims geo words u → KnowsClaims geo (set words (geo.segments + index) (segment + 1)) u
  stays u has = record {
    given = All-weaker (IsOwned geo words) (IsOwned geo (set words (geo.segments + index) (segment + 1))) owned_stays u.claims has.given;
    found = All-weaker (IsOwned geo words) (IsOwned geo (set words (geo.segments + index) (segment + 1))) owned_stays u.misses has.found;
  }

  -- a free claim word becomes this seat's
  pub claims_given : (views : List View) (id : ℕ) (v : View) → get_elem? views id ≡ some v → AreClaims geo first words views
      → AreClaims geo first (set words (geo.segments + index) (segment + 1)) (set views id (with_claim v index segment))
  claims_given views id v at k =
      let w = with_claim v index segment in record {
        once = λ j inside.
            (let t = sum_set (claims_of j) views id v w at in let p = claims_push j v index segment in let o = k.once j inside in dite (ℕ_discrete j index)
            (λ e.
            let z = owners_none (claim_at geo words j) (ap (claim_at geo words) e ∙ free) in
            let one = owners_one (claim_at geo (set words (geo.segments + index) (segment + 1)) j) (λ none. let s = ap (claim_at geo (set words (geo.segments + index) (segment + 1))) e ∙ set_here in absurd (omega arith)) in
            let i = one_if_same index j (sym e) in
            omega arith)
            (λ ne. let same = ap owners_of (set_there j ne) in let i = one_if_other index j (λ e. ne (sym e)) in omega arith));
        within = λ j inside. dite (ℕ_discrete j index)
            (λ e. let s = ap (claim_at geo (set words (geo.segments + index) (segment + 1))) e ∙ set_here in omega arith)
            (λ ne. let s = set_there j ne in let f = k.within j inside in omega arith);
        stays = λ j inside some_there. (let s = k.stays j inside some_there in
            set_there j (λ e. some_there (sym s ∙ (ap (claim_at geo words) e ∙ free))) ∙ s);
        each = (let mine = stays v (all_at (KnowsClaims geo words) views id v at k.each) in
            All-set (KnowsClaims geo (set words (geo.segments + index) (segment + 1))) views id w
            (record {
              given = All-push (IsOwned geo (set words (geo.segments + index) (segment + 1))) v.claims (record { index = index; segment = segment }) mine.given record { there = there; here = here; word = set_here };
              found = mine.found;
            })
            (All-weaker (KnowsClaims geo words) (KnowsClaims geo (set words (geo.segments + index) (segment + 1))) stays views k.each));
      }

-- the words and views of a yard
abbrev St : Type 0
St = table.State (Unit {0}) View

module _ (key : Key) (slots id : ℕ) (me : SeatState) (live : me.0.number ≢ 65) (index segment : ℕ) (there : index < key.geo.extra) (here : segment < key.geo.segments) where
  -- an exchange that gave a word is counted
  counts_given : (v : View) (i s : ℕ) → CountsExchanges v → CountsExchanges (with_claim v i s)
  counts_given v i s e = let l = length-append v.claims (record { index = i; segment = s } ∷ []) in omega arith

  -- and so is one that found it owned
  counts_missed : (v : View) (o : OwnedWord) → CountsExchanges v → CountsExchanges (with_misses v (o ∷ []))
  counts_missed v o e = let l = length-append v.misses (o ∷ []) in omega arith

  -- the word was free
  given : (s : St) → IsYard key s → get_elem? s.views id ≡ some me.0 → claim_at key.geo s.words index ≡ 0
      → IsYard key (stepped s (key.geo.segments + index) (segment + 1) id me.1 (with_claim me.0 index (segment + 1 - 1)) keeps)
  given s r at free =
      let v = me.0 in
      let w = with_claim v index segment in
      let is : segment ≡ segment + 1 - 1 = omega arith in
      subst (λ (n : ℕ). IsYard key (stepped s (key.geo.segments + index) (segment + 1) id me.1 (with_claim me.0 index n) keeps)) is record {
        length_is = length-set s.words (key.geo.segments + index) (segment + 1) ∙ r.length_is;
        claims = claims_given key.geo key.first s.words index segment there here free r.length_is s.views id v at r.claims;
        counts = All-set CountsExchanges s.views id w (counts_given v index segment (all_at CountsExchanges s.views id v at r.counts)) r.counts;
        stops = stops_frame key.geo key.first s.words (set s.words (key.geo.segments + index) (segment + 1)) s.views id v w at (claim_keeps key.geo s.words index (segment + 1)) refl (all_at (KnowsStops key.geo s.words s.views) s.views id v at r.stops.each).found r.stops;
        seats = seats_frame s.views r.seats id v at w live refl refl refl refl;
      }

  -- the word was owned
  missed : (s : St) → IsYard key s → get_elem? s.views id ≡ some me.0 → claim_at key.geo s.words index ≢ 0
      → IsYard key (record { words = s.words; homes = s.homes; views = set s.views id (with_misses me.0 (record { index = index; segment = claim_at key.geo s.words index - 1 } ∷ [])) })
  missed s r at owned =
      let v = me.0 in
      let word : ℕ = claim_at key.geo s.words index in
      let o : OwnedWord = record { index = index; segment = word - 1 } in
      let w = with_misses v (o ∷ []) in
      let within = r.claims.within index there in
      let above : 1 ≤ word = positive word owned in
      let is : IsOwned key.geo s.words o = record { there = there; here = omega arith; word = omega arith } in record {
        length_is = r.length_is;
        claims = claims_frame key.geo key.first s.words s.words s.views id v w at (λ j inside. refl) refl (All-push (IsOwned key.geo s.words) v.misses o (all_at (KnowsClaims key.geo s.words) s.views id v at r.claims.each).found is) r.claims;
        counts = All-set CountsExchanges s.views id w (counts_missed v o (all_at CountsExchanges s.views id v at r.counts)) r.counts;
        stops = stops_frame key.geo key.first s.words s.words s.views id v w at (λ j inside. refl) refl (all_at (KnowsStops key.geo s.words s.views) s.views id v at r.stops.each).found r.stops;
        seats = seats_frame s.views r.seats id v at w live refl refl refl refl;
      }
    where
      positive : (n : ℕ) → n ≢ 0 → 1 ≤ n
      positive n ne = grind arith

  -- one exchange of the claim word, from 0 to a segment's
  pub exchanges : (place : ℕ) → place ≡ key.geo.segments + index → Allows (IsYard key) slots id me place (λ n. either (eqb n 0) (segment + 1) n) (ExchangesClaim index (step slots place 0 (segment + 1) none) me)
  exchanges place is s r _ at _ =
      let found : ℕ = get_or s.words place 0 in
      let word_is : found ≡ claim_at key.geo s.words index = ap (λ (p : ℕ). get_or s.words p 0) is in
      dite (ℕ_discrete found 0)
      (λ free. (
        with_claim me.0 index (segment + 1 - 1),
        keeps,
        tt,
        subst (λ b. IsYard key (stepped s place (either b (segment + 1) found) id me.1 (with_claim me.0 index (segment + 1 - 1)) keeps)) (sym (eq-eqb found 0 free))
            (subst (λ (p : ℕ). IsYard key (stepped s p (segment + 1) id me.1 (with_claim me.0 index (segment + 1 - 1)) keeps)) (sym is) (given s r at (sym word_is ∙ free))),
        ((λ _. refl), (λ ne. absurd (ne free)), refl),
      ))
      (λ owned. let w = with_misses me.0 (record { index = index; segment = found - 1 } ∷ []) in (
        w,
        keeps,
        tt,
        subst (λ b. IsYard key (stepped s place (either b (segment + 1) found) id me.1 w keeps)) (sym (ne_eqb found 0 owned))
            (subst (λ (ws : List ℕ). IsYard key (record { words = ws; homes = s.homes; views = set s.views id w })) (sym (set-get_or s.words place 0))
            (subst (λ (n : ℕ). IsYard key (record { words = s.words; homes = s.homes; views = set s.views id (with_misses me.0 (record { index = index; segment = n - 1 } ∷ [])) })) (sym word_is)
            (missed s r at (λ none. owned (word_is ∙ none))))),
        ((λ e. absurd (owned e)), (λ _. refl), refl),
      ))

-- the law that an index was given at most once over all seats
pub given_once : (key : Key) (s : St) → IsYard key s → (index : ℕ) → sum_by (claims_of index) s.views ≤ 1
given_once key s r index = dite (dec_lt index key.geo.extra)
    (λ inside. let o = r.claims.once index inside in let f = owners_few (claim_at key.geo s.words index) in omega arith)
    (λ outside.
    let none : sum_by (claims_of index) s.views ≡ 0 = sum_none (claims_of index) s.views
    (λ j u at. not_claimed u.claims ((all_at (KnowsClaims key.geo s.words) s.views j u at r.claims.each).given) outside) in
    omega arith)
  where
    not_claimed : (os : List OwnedWord) → All (IsOwned key.geo s.words) os → ¬ (index < key.geo.extra) → sum_by (λ (o : OwnedWord). one_if o.index index) os ≡ 0
    not_claimed os all outside = sum_none (λ (o : OwnedWord). one_if o.index index) os
        (λ j o at. let is = all_at (IsOwned key.geo s.words) os j o at all in one_if_other o.index index (λ e. outside (subst (λ (n : ℕ). n < key.geo.extra) e is.there)))
