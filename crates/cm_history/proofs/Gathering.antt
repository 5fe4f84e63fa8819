-- What the root keeps of all calls: at the start, where it splits off a pass, and where it takes one back.
use Rattle.std.proofs.Common.{◌≡◌, ℕ, ◌+◌, ◌≤◌, false, List, [], ◌++◌, length, map, get_or, slice_get, All, Some, inl, inr, refl, sym, ap, ◌∙◌, subst, arith}
use Rattle.std.specs.List.{zip}
use Rattle.std.proofs.lemmas.List.{get_or_default}
use Rattle.std.proofs.lemmas.List.Elements.{All-append, All-cons, All-map, All-nil, Contains-append_cases}
use Rattle.std.proofs.lemmas.Option.{get_or_from_slice_get, slice_get_within}
use Rattle.cm_plain.specs.History.{Call}
use Rattle.cm_lock.specs.declared.view.HeldLevel.{HeldLevel}
use Rattle.cm_lock.specs.declared.view.Key.{Key}
use Rattle.cm_lock.specs.declared.view.Level.TheVariants.{Free}
use Rattle.cm_lock.specs.declared.view.View.{View}
use Rattle.cm_lock.specs.Rule.{root_view}
use Rattle.cm_lock.specs.Views.{with_joined, with_seat}
use Rattle.cm_yard.specs.declared.view.View.{View as YardView}
use Rattle.cm_yard.specs.Claims.{claims_for}
use Rattle.cm_yard.specs.Views.{root_view as yard_root_view, with_joined as yard_with_joined, with_seat as yard_with_seat}
use Rattle.cm_turn.specs.Records.{IsIdle}
use Rattle.cm_turn.specs.Turns.{links_in}
use Rattle.cm_store.specs.declared.pass.Pass.{Pass}
use Rattle.cm_store.specs.Balance.{linking_in}
use Rattle.cm_store.specs.Passes.{claims_view, number_of, views_of}
use Rattle.cm_store.specs.Splits.{joined_views, with_seats}
use Rattle.cm_store.proofs.Elements.{element_at, mapped_at, zipped_left}
use Rattle.cm_laws.specs.Laws.{LeavesNothing}
use Rattle.cm_laws.proofs.Balancing.{joins_balance, splits_balance}
use Rattle.cm_laws.proofs.Owing.{joins_found, joins_owing, splits_owing, starts_owing}
use Rattle.cm_laws.proofs.StopLevels.{joins_left, splits_left, starts_left}
use Rattle.cm_history.specs.Endings.{AreApart, KeepsRoot, both}
use Rattle.cm_history.specs.Kept.{Has, IsSeatOf, KeepsPass}
use Rattle.cm_history.proofs.Keeping.{kept_same}
use Rattle.cm_history.proofs.Recording.{has_join, has_none, has_same}

-- ---- views, by where they stand

all_by : (P : View → Type 0) (vs : List View) → ((i : ℕ) (v : View) → slice_get vs i ≡ Some v → P v) → All P vs
all_by P vs each i d below = let (v, there) = element_at vs i below in
    subst P (sym (get_or_default vs i d v below ∙ get_or_from_slice_get vs i v v there)) (each i v there)

pub all_at : (P : View → Type 0) (vs : List View) → All P vs → (i : ℕ) (v : View) → slice_get vs i ≡ Some v → P v
all_at P vs all i v there = subst P (get_or_from_slice_get vs i v v there) (all i v (slice_get_within vs i v there))

-- ---- the start

root_nothing : (key : Key) → LeavesNothing (root_view key)
root_nothing key = record { own = refl; inherited = All-nil (λ (h : HeldLevel). h.level ≡ Free) }

-- the root made no call at the start
pub root_starts : (extra : ℕ) (keys : List Key) → KeepsRoot extra (λ segment. []) (map root_view keys) yard_root_view
root_starts extra keys = record {
  kept = record {
    has = λ segment v there. (let m = mapped_at root_view keys segment v there in
        subst (Has []) (sym m.is) (has_none (root_view m.from) refl refl));
    spent = λ segment call within is. absurd (let less = within.1 in omega arith);
    balance = λ segment v there. (let m = mapped_at root_view keys segment v there in
        subst (λ (w : View). links_in w + linking_in w ≤ claims_for segment yard_root_view) (sym m.is) (omega arith));
    owes = starts_owing keys;
    stops = starts_left keys;
  };
  nothing = All-map LeavesNothing root_view keys (λ i d below. root_nothing (get_or keys i d));
}

-- ---- splits

split_nothing : (number : ℕ) (v : View) → LeavesNothing v → LeavesNothing (with_seat v number)
split_nothing number v nothing = record { own = nothing.own; inherited = nothing.inherited }

-- where the root splits off a pass, it keeps what it kept
pub root_splits : (extra number : ℕ) (calls : ℕ → List Call) (roots : List View) (claims : YardView) → KeepsRoot extra calls roots claims
    → KeepsRoot extra calls (with_seats number roots) (yard_with_seat claims number)
root_splits extra number calls roots claims root = record {
  kept = record {
    has = λ segment v there. (let m = mapped_at (λ (w : View). with_seat w number) roots segment v there in
        subst (Has (calls segment)) (sym m.is) (has_same (calls segment) m.from (with_seat m.from number) refl refl (omega arith) (root.kept.has segment m.from m.there)));
    spent = root.kept.spent;
    balance = (splits_balance number roots claims root.kept.balance).0;
    owes = (splits_owing 0 number roots claims root.kept.owes).0;
    stops = (splits_left false number roots claims root.kept.stops).0;
  };
  nothing = All-map LeavesNothing (λ (w : View). with_seat w number) roots (λ i d below. split_nothing number (get_or roots i d) (root.nothing i d below));
}

-- ---- joins

-- where a seat that holds nothing is taken back, the root has no level but Free ones
joined_nothing : (v w : View) → LeavesNothing v → w.own.level ≡ Free → w.inherited ≡ [] → LeavesNothing (with_joined v w)
joined_nothing v w nothing free none = record {
  own = nothing.own;
  inherited = All-cons (λ (h : HeldLevel). h.level ≡ Free) w.own (w.inherited ++ v.inherited) free
      (All-append (λ (h : HeldLevel). h.level ≡ Free) w.inherited v.inherited
      (subst (λ (hs : List HeldLevel). All (λ (h : HeldLevel). h.level ≡ Free) hs) (sym none) (All-nil (λ (h : HeldLevel). h.level ≡ Free))) nothing.inherited);
}

-- where the root takes back a pass that holds nothing, it keeps the calls of both
pub root_joins : {F : Type 0} (extra : ℕ) (calls others : ℕ → List Call) (roots : List View) (claims : YardView) (pass : Pass F) → length (views_of pass) ≡ length roots
    → KeepsRoot extra calls roots claims → KeepsPass extra others pass → All IsIdle (views_of pass) → ((segment : ℕ) → AreApart (calls segment) (others segment))
    → KeepsRoot extra (both calls others) (joined_views roots (views_of pass)) (yard_with_joined claims (claims_view pass))
root_joins extra calls others roots claims pass many root its idle apart = record {
  kept = record {
    has = λ segment v there. (
        let m = mapped_at (λ (p : View × View). with_joined p.0 p.1) (zip roots (views_of pass)) segment v there in
        let z = zipped_left roots (views_of pass) segment m.from m.there in
        subst (Has (both calls others segment)) (sym m.is)
        (has_join (calls segment) (others segment) m.from.0 m.from.1 (root.kept.has segment m.from.0 z.0) (its.kept.has segment m.from.1 z.1) (apart segment)));
    spent = λ segment call within is. elim (Contains-append_cases (calls segment) (others segment) call within) [
      | inl mine ↦ joins_found extra claims (claims_view pass) (inl (root.kept.spent segment call mine is))
      | inr other ↦ joins_found extra claims (claims_view pass) (inr (its.kept.spent segment call other is))
    ];
    balance = joins_balance roots (views_of pass) claims (claims_view pass) root.kept.balance its.kept.balance;
    owes = joins_owing 0 0 roots (views_of pass) claims (claims_view pass) many root.kept.owes its.kept.owes;
    stops = joins_left false false roots (views_of pass) claims (claims_view pass) many root.kept.stops its.kept.stops;
  };
  nothing = all_by LeavesNothing (joined_views roots (views_of pass)) (λ i v there. (
      let m = mapped_at (λ (p : View × View). with_joined p.0 p.1) (zip roots (views_of pass)) i v there in
      let z = zipped_left roots (views_of pass) i m.from m.there in
      let free = (all_at IsIdle (views_of pass) idle i m.from.1 z.1).free in
      let seat = all_at (IsSeatOf (number_of pass)) (views_of pass) its.seats i m.from.1 z.1 in
      subst LeavesNothing (sym m.is)
      (joined_nothing m.from.0 m.from.1 (all_at LeavesNothing roots root.nothing i m.from.0 z.0) (ap (λ (h : HeldLevel). h.level) free) seat.inherited)));
}

-- ---- the same calls

pub root_same : (extra : ℕ) (calls later : ℕ → List Call) (roots : List View) (claims : YardView) → KeepsRoot extra calls roots claims
    → ((segment : ℕ) → later segment ≡ calls segment) → KeepsRoot extra later roots claims
root_same extra calls later roots claims root same = record { kept = kept_same extra calls later roots claims root.kept same; nothing = root.nothing }
