-- A pass that is joined, from its last seat on.
use Rattle.std.proofs.Common.{◌≡◌, ℕ, ◌+◌, ◌<◌, ◌≤◌, List, [], ◌∷◌, ◌++◌, length, set, get_or, take, All, inl, inr, refl, sym, ap, ◌∙◌, subst, arith, length-append}
use Rattle.std.specs.List.{zip}
use Rattle.std.proofs.lemmas.Bool.{cases_eq}
use Rattle.std.proofs.lemmas.List.{ext_get_or, get_or-map, get_or-set_other, get_or-set_same, get_or-take, get_or_push, length-map, take-take, take_all, take_at}
use Rattle.std.proofs.lemmas.List.Elements.{All-set}
use Rattle.std.proofs.lemmas.Slice.Zip.{get_or-zip, length-zip}
use Rattle.cm_lock.specs.declared.table.SegSeat.{SegSeat}
use Rattle.cm_lock.specs.declared.table.SegTable.{SegTable}
use Rattle.cm_lock.specs.declared.view.View.{View}
use Rattle.cm_lock.specs.Rule.{CountsEvents}
use Rattle.cm_lock.specs.Tables.{IsOf, view_of}
use Rattle.cm_lock.specs.Views.{with_joined}
use Rattle.cm_store.specs.Passes.{AreSeatsOf, views}
use Rattle.cm_store.specs.Splits.{IsRootSeat, joined_views}
use Rattle.cm_store.proofs.Seats.{as_many, seat_of, seats_set, view_at, views_set}
use Rattle.cm_store.proofs.Splitting.{long_views, table_there}

-- two lists of views of the same length, joined place by place, are known by their places
joined_at : (vs ws now : List View) → length now ≡ length vs → length ws ≡ length vs
    → ((j : ℕ) (d : View) → j < length vs → get_or now j d ≡ with_joined (get_or vs j d) (get_or ws j d)) → now ≡ joined_views vs ws
joined_at [] ws [] long other each = refl
joined_at [] ws (n ∷ ns) long other each = absurd (cc long)
joined_at (v ∷ vs) ws now long other each =
    let many : length (zip (v ∷ vs) ws) ≡ length (v ∷ vs) = let l = length-zip (v ∷ vs) ws in omega arith in
    ext_get_or v now (joined_views (v ∷ vs) ws) (long ∙ (sym many ∙ sym (length-map (zip (v ∷ vs) ws) (λ (p : View × View). with_joined p.0 p.1))))
    (λ j below. let below' : j < length (v ∷ vs) = subst (λ (n : ℕ). j < n) long below in
    each j v below' ∙ (sym (ap (λ (p : View × View). with_joined p.0 p.1) (get_or-zip (v ∷ vs) ws j (v, v) below' (omega arith)))
    ∙ sym (get_or-map (λ (p : View × View). with_joined p.0 p.1) (zip (v ∷ vs) ws) j (v, v) v (subst (λ (n : ℕ). j < n) (sym many) below'))))

-- the seats from one on were joined, and those before it weren't
pub record JoinsFrom (tables : List SegTable) (was from roots seats : List SegSeat) : Type 0 where
  pub of : AreSeatsOf tables roots
  pub left : seats ≡ take (length seats) from
  pub few : length seats ≤ length tables
  pub root : All IsRootSeat (views roots)
  pub front : (j : ℕ) (d : View) → j < length seats → get_or (views roots) j d ≡ get_or (views was) j d
  pub back : (j : ℕ) (d : View) → length seats ≤ j → j < length tables → get_or (views roots) j d ≡ with_joined (get_or (views was) j d) (get_or (views from) j d)
  pub counts : (j : ℕ) (d : View) → length seats ≤ j → j < length tables → CountsEvents (get_or (views from) j d)

pub joins_none : (tables : List SegTable) (was from : List SegSeat) → AreSeatsOf tables was → AreSeatsOf tables from → All IsRootSeat (views was) → JoinsFrom tables was from was from
joins_none tables was from of its root = let long = as_many tables from its in record {
  of = of;
  left = sym (take_all (length from) from (omega arith));
  few = omega arith;
  root = root;
  front = λ j d h. refl;
  back = λ j d h k. absurd (omega arith);
  counts = λ j d h k. absurd (omega arith);
}

pub joins_all : (tables : List SegTable) (was from roots seats : List SegSeat) → AreSeatsOf tables was → AreSeatsOf tables from → JoinsFrom tables was from roots seats → length seats ≡ 0
    → (views roots ≡ joined_views (views was) (views from)) × All CountsEvents (views from)
joins_all tables was from roots seats of its h none =
    let long = as_many tables roots h.of in let long_was = as_many tables was of in let long_from = as_many tables from its in
    let m = long_views roots in let n = long_views was in let o = long_views from in (
      joined_at (views was) (views from) (views roots) (omega arith) (omega arith) (λ j d below. h.back j d (omega arith) (omega arith)),
      λ j d below. h.counts j d (omega arith) (omega arith),
    )

module _ (tables : List SegTable) (was from roots seats : List SegSeat) (its : AreSeatsOf tables from) (h : JoinsFrom tables was from roots seats) (at : ℕ) (later : List SegSeat) (t : SegTable) (s left : SegSeat)
    (is : seats ≡ later ++ left ∷ []) (at_is : at ≡ length later) (at_t : t ≡ get_or tables at t) (at_s : s ≡ get_or roots at s) where
  many : length seats ≡ at + 1
  many = let e = ap length is in let l = length-append later (left ∷ []) in omega arith

  pub join_inside : at < length tables
  join_inside = let f = h.few in let m = many in omega arith

  pub join_root_inside : at < length roots
  join_root_inside = let l = as_many tables roots h.of in let i = join_inside in omega arith

  left_is : left ≡ get_or from at left
  left_is = let m = many in sym (sym (get_or-take (length seats) from at left (omega arith)) ∙ (ap (λ (l : List SegSeat). get_or l at left) (sym h.left ∙ is) ∙ get_or_push later left left at (sym at_is)))

  front_of : later ≡ take (length later) from
  front_of = let m = many in
      sym (sym (take-take (length later) (length seats) from (omega arith)) ∙ (ap (take (length later)) (sym h.left ∙ is) ∙ take_at later (left ∷ []) (length later) refl))

  pub join_its : IsOf s t
  join_its = seat_of tables roots h.of at t s (table_there tables at t join_inside at_t) at_s

  pub join_from_its : IsOf left t
  join_from_its = seat_of tables from its at t left (table_there tables at t join_inside at_t) left_is

  root_here : (d : View) → get_or (views roots) at d ≡ view_of s
  root_here d = view_at tables roots h.of at t s (table_there tables at t join_inside at_t) at_s d

  from_here : (d : View) → get_or (views from) at d ≡ view_of left
  from_here d = view_at tables from its at t left (table_there tables at t join_inside at_t) left_is d

  pub join_root : IsRootSeat (view_of s)
  join_root = subst IsRootSeat (root_here (view_of s)) (h.root at (view_of s) (subst (λ (n : ℕ). at < n) (sym (long_views roots)) join_root_inside))

  pub join_more : (s' : SegSeat) → IsOf s' t → view_of s' ≡ with_joined (view_of s) (view_of left) → CountsEvents (view_of left) → JoinsFrom tables was from (set roots at s') later
  join_more s' same took counts =
      let m = many in let i = join_inside in let there = table_there tables at t join_inside at_t in
      let long : at < length (views roots) = subst (λ (n : ℕ). at < n) (sym (long_views roots)) join_root_inside in
      record {
        of = seats_set tables roots h.of at t s there at_s s' same;
        left = front_of;
        few = omega arith;
        root = subst (λ (l : List View). All IsRootSeat l) (sym (views_set tables roots h.of at t s there at_s s'))
            (All-set IsRootSeat (views roots) at (view_of s') (ap (λ (v : View). v.own.number) took ∙ join_root) h.root);
        front = λ j d below. ap (λ (l : List View). get_or l j d) (views_set tables roots h.of at t s there at_s s') ∙ (get_or-set_other (views roots) at j (view_of s') d (λ e. omega arith) ∙ h.front j d (omega arith));
        back = λ j d above within. ap (λ (l : List View). get_or l j d) (views_set tables roots h.of at t s there at_s s') ∙ elim (cases_eq j at) [
          | inl here ↦ subst (λ (k : ℕ). get_or (set (views roots) at (view_of s')) k d ≡ with_joined (get_or (views was) k d) (get_or (views from) k d)) (sym here)
              (get_or-set_same (views roots) at (view_of s') d long ∙ (took ∙ (ap (λ (v : View). with_joined v (view_of left)) (sym (sym (h.front at d (omega arith)) ∙ root_here d))
              ∙ ap (λ (w : View). with_joined (get_or (views was) at d) w) (sym (from_here d)))))
          | inr ne ↦ get_or-set_other (views roots) at j (view_of s') d ne ∙ h.back j d (omega arith) within
        ];
        counts = λ j d above within. elim (cases_eq j at) [
          | inl here ↦ subst (λ (k : ℕ). CountsEvents (get_or (views from) k d)) (sym here) (subst CountsEvents (sym (from_here d)) counts)
          | inr ne ↦ h.counts j d (omega arith) within
        ];
      }
