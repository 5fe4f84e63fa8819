-- The root of a run, from its start up to the last pass that it takes back.
use Rattle.std.proofs.Common.{◌≡◌, ℕ, zero, suc, ◌<◌, ◌==◌, List, [], ◌∷◌, ◌++◌, All, Any, Contains, length, map, get_or, slice_get, Some, refl, sym, ◌∙◌, subst, arith}
use Rattle.std.specs.List.{count_by, zip}
use Rattle.std.proofs.lemmas.Bool.{ne_eqb}
use Rattle.std.proofs.lemmas.List.{get_or_default}
use Rattle.std.proofs.lemmas.List.Elements.{All-cons, All-contains, All-head, All-nil, All-push, All-tail, All-weaker}
use Rattle.std.proofs.lemmas.Option.{get_or_from_slice_get, slice_get_within}
use Rattle.cm_plain.proofs.ListElements.{contains_more}
use Rattle.cm_lock.specs.declared.view.HeldLevel.{HeldLevel}
use Rattle.cm_lock.specs.declared.view.Key.{Key}
use Rattle.cm_lock.specs.declared.view.View.{View}
use Rattle.cm_lock.specs.Rule.{root_view}
use Rattle.cm_lock.specs.Views.{with_joined, with_seat}
use Rattle.cm_yard.specs.Views.{root_view as yard_root_view, with_joined as yard_with_joined, with_seat as yard_with_seat}
use Rattle.cm_store.specs.declared.pass.Pass.{Pass}
use Rattle.cm_store.specs.declared.store.Store.{Store}
use Rattle.cm_store.specs.Closes.{HasJoinedAll}
use Rattle.cm_store.specs.Passes.{IsPassOf, claims_view, views_of}
use Rattle.cm_store.specs.Splits.{HasNotMade, joined_views, with_seats}
use Rattle.cm_store.proofs.Elements.{element_at, mapped_at, zipped_left}
use Rattle.cm_store.proofs.Seats.{as_many}
use Rattle.cm_store.proofs.Splitting.{long_views}
use Rattle.cm_run.specs.Callers.{HasJoined, HasJoinedClaimers, HasJoinedSeats}

all_by : (P : View → Type 0) (vs : List View) → ((i : ℕ) (v : View) → slice_get vs i ≡ Some v → P v) → All P vs
all_by P vs each i d below = let (v, there) = element_at vs i below in
    subst P (sym (get_or_default vs i d v below ∙ get_or_from_slice_get vs i v v there)) (each i v there)

pub all_at : (P : View → Type 0) (vs : List View) → All P vs → (i : ℕ) (v : View) → slice_get vs i ≡ Some v → P v
all_at P vs all i v there = subst P (get_or_from_slice_get vs i v v there) (all i v (slice_get_within vs i v there))

-- ---- the start

pub made_none : {F : Type 0} (keys : List Key) (root : Pass F) → views_of root ≡ map root_view keys → claims_view root ≡ yard_root_view → HasJoined [] [] root
made_none keys root seats claims = record {
  seats = subst (λ (vs : List View). All (HasJoinedSeats [] []) vs) (sym seats) (all_by (HasJoinedSeats [] []) (map root_view keys)
      (λ i v there. let m = mapped_at root_view keys i v there in
      subst (HasJoinedSeats [] []) (sym m.is) (record { made_are = All-nil (λ (n : ℕ). Contains [] n); joined_are = All-nil (λ (n : ℕ). Any (λ (h : HeldLevel). h.number ≡ n) []) })));
  claims = subst (HasJoinedClaimers [] []) (sym claims) (record { made_are = All-nil (λ (n : ℕ). Contains [] n); joined_are = All-nil (λ (n : ℕ). Contains [] n) });
}

-- ---- a pass that is made

-- a number above others isn't among them
count_none : (number : ℕ) (ns : List ℕ) → All (λ (n : ℕ). n < number) ns → count_by (λ n. n == number) ns ≡ 0
count_none number [] below = refl
count_none number (n ∷ ns) below =
    let less = All-head (λ (k : ℕ). k < number) n ns below in
    let rest = count_none number ns (All-tail (λ (k : ℕ). k < number) n ns below) in
    rw (ne_eqb n number (λ same. omega arith)) rest

all_less : (made : List ℕ) (number : ℕ) (ns : List ℕ) → All (λ (n : ℕ). n < number) made → All (λ (n : ℕ). Contains made n) ns → All (λ (n : ℕ). n < number) ns
all_less made number ns below all = All-weaker (λ (n : ℕ). Contains made n) (λ (n : ℕ). n < number) (λ n there. All-contains (λ (k : ℕ). k < number) made n below there) ns all

pub root_has_not_made : {F : Type 0} (made joined : List ℕ) (number : ℕ) (root : Pass F) → All (λ (n : ℕ). n < number) made → HasJoined made joined root → HasNotMade number root
root_has_not_made made joined number root below r = record {
  seats = λ i d inside. let v = get_or (views_of root) i d in count_none number v.made (all_less made number v.made below (r.seats i d inside).made_are);
  claims = count_none number (claims_view root).made (all_less made number (claims_view root).made below r.claims.made_are);
}

pub contains_push : (xs : List ℕ) (y x : ℕ) → Contains xs x → Contains (xs ++ y ∷ []) x
contains_push [] y x there = absurd (let h = there.1 in omega arith)
contains_push (z ∷ zs) y x (zero, below, is) = (zero, (omega arith), is)
contains_push (z ∷ zs) y x (suc k, below, is) = contains_more x z (zs ++ y ∷ []) (contains_push zs y x (k, omega arith, is))

pub contains_last : (xs : List ℕ) (y : ℕ) → Contains (xs ++ y ∷ []) y
contains_last [] y = (zero, omega arith, refl)
contains_last (z ∷ zs) y = contains_more y z (zs ++ y ∷ []) (contains_last zs y)

made_more : (made : List ℕ) (number : ℕ) (ns : List ℕ) → All (λ (n : ℕ). Contains made n) ns → All (λ (n : ℕ). Contains (made ++ number ∷ []) n) (number ∷ ns)
made_more made number ns all = All-cons (λ (n : ℕ). Contains (made ++ number ∷ []) n) number ns (contains_last made number)
    (All-weaker (λ (n : ℕ). Contains made n) (λ (n : ℕ). Contains (made ++ number ∷ []) n) (λ n there. contains_push made number n there) ns all)

pub root_splits_off : {F G : Type 0} (made joined : List ℕ) (number : ℕ) (old : Pass F) (now : Pass G) → HasJoined made joined old
    → views_of now ≡ with_seats number (views_of old) → claims_view now ≡ yard_with_seat (claims_view old) number → HasJoined (made ++ number ∷ []) joined now
root_splits_off made joined number old now r seats claims = record {
  seats = subst (λ (vs : List View). All (HasJoinedSeats (made ++ number ∷ []) joined) vs) (sym seats) (all_by (HasJoinedSeats (made ++ number ∷ []) joined) (with_seats number (views_of old))
      (λ i w there. let m = mapped_at (λ (v : View). with_seat v number) (views_of old) i w there in
      let has = all_at (HasJoinedSeats made joined) (views_of old) r.seats i m.from m.there in
      subst (HasJoinedSeats (made ++ number ∷ []) joined) (sym m.is) (record { made_are = made_more made number m.from.made has.made_are; joined_are = has.joined_are })));
  claims = subst (HasJoinedClaimers (made ++ number ∷ []) joined) (sym claims)
      (record { made_are = made_more made number (claims_view old).made r.claims.made_are; joined_are = r.claims.joined_are });
}

-- ---- a pass that is taken back

later : (h : HeldLevel) (hs : List HeldLevel) (n : ℕ) → Any (λ (k : HeldLevel). k.number ≡ n) hs → Any (λ (k : HeldLevel). k.number ≡ n) (h ∷ hs)
later h hs n any = (suc any.0, any.1, (let less = any.2 in omega arith), any.3, any.4)

behind_all : (gs hs : List HeldLevel) (n : ℕ) → Any (λ (k : HeldLevel). k.number ≡ n) hs → Any (λ (k : HeldLevel). k.number ≡ n) (gs ++ hs)
behind_all [] hs n any = any
behind_all (g ∷ gs) hs n any = later g (gs ++ hs) n (behind_all gs hs n any)

joins_seat : (made joined : List ℕ) (number : ℕ) (v w : View) → w.own.number ≡ number → HasJoinedSeats made joined v → HasJoinedSeats made (joined ++ number ∷ []) (with_joined v w)
joins_seat made joined number v w is has = record {
  made_are = has.made_are;
  joined_are = All-push (λ (n : ℕ). Any (λ (h : HeldLevel). h.number ≡ n) (w.own ∷ (w.inherited ++ v.inherited))) joined number
      (All-weaker (λ (n : ℕ). Any (λ (h : HeldLevel). h.number ≡ n) v.inherited) (λ (n : ℕ). Any (λ (h : HeldLevel). h.number ≡ n) (w.own ∷ (w.inherited ++ v.inherited)))
      (λ n any. later w.own (w.inherited ++ v.inherited) n (behind_all w.inherited v.inherited n any)) joined has.joined_are)
      (0, w.own, omega arith, refl, is);
}

pub root_joins_back : {F G H : Type 0} (made joined : List ℕ) (number : ℕ) (old : Pass F) (now : Pass G) (pass : Pass H) → HasJoined made joined old
    → All (λ (w : View). w.own.number ≡ number) (views_of pass) → (claims_view pass).number ≡ number → views_of now ≡ joined_views (views_of old) (views_of pass)
    → claims_view now ≡ yard_with_joined (claims_view old) (claims_view pass) → HasJoined made (joined ++ number ∷ []) now
root_joins_back made joined number old now pass r numbers number_is seats claims = record {
  seats = subst (λ (vs : List View). All (HasJoinedSeats made (joined ++ number ∷ [])) vs) (sym seats) (all_by (HasJoinedSeats made (joined ++ number ∷ [])) (joined_views (views_of old) (views_of pass))
      (λ i v there. let m = mapped_at (λ (p : View × View). with_joined p.0 p.1) (zip (views_of old) (views_of pass)) i v there in
      let z = zipped_left (views_of old) (views_of pass) i m.from m.there in
      subst (HasJoinedSeats made (joined ++ number ∷ [])) (sym m.is)
      (joins_seat made joined number m.from.0 m.from.1 (all_at (λ (w : View). w.own.number ≡ number) (views_of pass) numbers i m.from.1 z.1)
      (all_at (HasJoinedSeats made joined) (views_of old) r.seats i m.from.0 z.0))));
  claims = subst (HasJoinedClaimers made (joined ++ number ∷ [])) (sym claims) (record {
    made_are = r.claims.made_are;
    joined_are = All-push (λ (n : ℕ). Contains ((claims_view pass).number ∷ (claims_view old).joined) n) joined number
        (All-weaker (λ (n : ℕ). Contains (claims_view old).joined n) (λ (n : ℕ). Contains ((claims_view pass).number ∷ (claims_view old).joined) n)
        (λ n there. contains_more n (claims_view pass).number (claims_view old).joined there) joined r.claims.joined_are)
        (0, omega arith, number_is);
  });
}

-- ---- all are back

pub root_has_joined_all : {F : Type 0} (made : List ℕ) (root : Pass F) → HasJoined made made root → HasJoinedAll root
root_has_joined_all made root r = record {
  seats = λ i d inside. let v = get_or (views_of root) i d in let has = r.seats i d inside in
      All-weaker (λ (n : ℕ). Contains made n) (λ (n : ℕ). Any (λ (h : HeldLevel). h.number ≡ n) v.inherited)
      (λ n there. All-contains (λ (k : ℕ). Any (λ (h : HeldLevel). h.number ≡ k) v.inherited) made n has.joined_are there) v.made has.made_are;
  claims = All-weaker (λ (n : ℕ). Contains made n) (λ (n : ℕ). Contains (claims_view root).joined n)
      (λ n there. All-contains (λ (k : ℕ). Contains (claims_view root).joined k) made n r.claims.joined_are there) (claims_view root).made r.claims.made_are;
}

-- ---- as many seats as segments

pub pass_length : {F : Type 0} (store : Store) (pass : Pass F) → IsPassOf pass store → length (views_of pass) ≡ store.geo.segments
pass_length store pass its = long_views pass.seats.items ∙ (as_many store.tables.items pass.seats.items its.seats ∙ store.are.many)
