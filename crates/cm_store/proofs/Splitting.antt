-- A pass that is split off, seat after seat.
use Rattle.std.proofs.Common.{◌≡◌, ℕ, ◌+◌, ◌<◌, ◌≤◌, List, [], ◌∷◌, ◌++◌, length, map, set, get_or, take, slice_get, All, Some, inl, inr, refl, sym, ap, ◌∙◌, subst, arith, length-append}
use Rattle.std.proofs.lemmas.Bool.{cases_eq}
use Rattle.std.proofs.lemmas.List.{ext_get_or, get_or-map, get_or-set_other, get_or-set_same, get_or_append_left, get_or_push, length-map, map_push, take_all, take_more}
use Rattle.std.proofs.lemmas.List.Elements.{All-map}
use Rattle.std.proofs.lemmas.Option.{slice_get_read}
use Rattle.cm_lock.specs.declared.table.SegSeat.{SegSeat}
use Rattle.cm_lock.specs.declared.table.SegTable.{SegTable}
use Rattle.cm_lock.specs.declared.view.View.{View}
use Rattle.cm_lock.specs.Seats.{count_of}
use Rattle.cm_lock.specs.Tables.{IsOf, view_of}
use Rattle.cm_lock.specs.Views.{new_view, with_seat}
use Rattle.cm_store.specs.Passes.{AreSeatsOf, views}
use Rattle.cm_store.specs.Splits.{IsRootSeat, MayMake, new_views, with_seats}
use Rattle.cm_store.proofs.Seats.{as_many, read_map, seat_of, seats_set, view_at, views_set}

pub long_views : (seats : List SegSeat) → length (views seats) ≡ length seats
long_views seats = length-map seats view_of

pub table_there : (tables : List SegTable) (i : ℕ) (t : SegTable) → i < length tables → t ≡ get_or tables i t → slice_get tables i ≡ Some t
table_there tables i t inside at = slice_get_read tables (length tables) i t refl inside at

-- the views of a list of the same length are known by their places
pub mapped_views : (f : View → View) (was now : List View) → length now ≡ length was → ((j : ℕ) (d : View) → j < length was → get_or now j d ≡ f (get_or was j d)) → now ≡ map f was
mapped_views f [] [] long each = refl
mapped_views f [] (w ∷ ws) long each = absurd (cc long)
mapped_views f (v ∷ vs) now long each =
    ext_get_or v now (map f (v ∷ vs)) (long ∙ sym (length-map (v ∷ vs) f))
    (λ j below. let below' : j < length (v ∷ vs) = subst (λ (n : ℕ). j < n) long below in each j v below' ∙ sym (get_or-map f (v ∷ vs) j v v below'))

-- the seats before one were split, and this one and those behind it weren't
pub record Splits (tables : List SegTable) (was roots seats : List SegSeat) (at number : ℕ) : Type 0 where
  pub of : AreSeatsOf tables roots
  pub within : at ≤ length tables
  pub count : length seats ≡ at
  pub ids : map (λ (s : SegSeat). s.seat.table_id) seats ≡ take at (map (λ (t : SegTable). t.table.shared.table_id) tables)
  pub front : (j : ℕ) (d : View) → j < at → get_or (views roots) j d ≡ with_seat (get_or (views was) j d) number
  pub back : (j : ℕ) (d : View) → at ≤ j → get_or (views roots) j d ≡ get_or (views was) j d
  pub made : (j : ℕ) (d : View) → j < at → get_or (views seats) j d ≡ new_view number (get_or (views was) j d).seen

pub splits_none : (tables : List SegTable) (was : List SegSeat) (number : ℕ) → AreSeatsOf tables was → Splits tables was was [] 0 number
splits_none tables was number of = record {
  of = of;
  within = omega arith;
  count = refl;
  ids = refl;
  front = λ j d h. absurd (omega arith);
  back = λ j d h. refl;
  made = λ j d h. absurd (omega arith);
}

module _ (tables : List SegTable) (was roots seats : List SegSeat) (at number : ℕ) (h : Splits tables was roots seats at number) (t : SegTable) (s : SegSeat) (inside : at < length tables)
    (at_t : t ≡ get_or tables at t) (at_s : s ≡ get_or roots at s) where
  pub splits_its : IsOf s t
  splits_its = seat_of tables roots h.of at t s (table_there tables at t inside at_t) at_s

  pub splits_inside : at < length roots
  splits_inside = let l = as_many tables roots h.of in omega arith

  was_here : (d : View) → get_or (views was) at d ≡ view_of s
  was_here d = sym (h.back at d (omega arith)) ∙ view_at tables roots h.of at t s (table_there tables at t inside at_t) at_s d

  pub splits_may : AreSeatsOf tables was → All (MayMake number) (views was) → MayMake number (view_of s)
  splits_may of all =
      let l = as_many tables was of in
      subst (MayMake number) (was_here (view_of s)) (all at (view_of s) (subst (λ (n : ℕ). at < n) (sym (long_views was)) (omega arith)))

  pub splits_more : (s' made : SegSeat) → IsOf s' t → IsOf made t → view_of s' ≡ with_seat (view_of s) number → view_of made ≡ new_view number (view_of s).seen
      → Splits tables was (set roots at s') (seats ++ made ∷ []) (at + 1) number
  splits_more s' made its made_its gave gives =
      let id = λ (x : SegTable). x.table.shared.table_id in
      let long : at < length (views roots) = subst (λ (n : ℕ). at < n) (sym (long_views roots)) splits_inside in
      let there = table_there tables at t inside at_t in
      record {
        of = seats_set tables roots h.of at t s there at_s s' its;
        within = omega arith;
        count = length_pushed;
        ids = map_push (λ (x : SegSeat). x.seat.table_id) seats made
            ∙ (ap (λ ids. ids ++ made.seat.table_id ∷ []) h.ids
            ∙ (ap (λ i. take at (map id tables) ++ i ∷ []) (made_its ∙ sym (read_map id tables at t made.seat.table_id inside at_t))
            ∙ sym (take_more (map id tables) at made.seat.table_id (subst (λ (n : ℕ). at < n) (sym (length-map tables id)) inside))));
        front = λ j d below. ap (λ (l : List View). get_or l j d) (views_set tables roots h.of at t s there at_s s') ∙ elim (cases_eq j at) [
          | inl is ↦ subst (λ (k : ℕ). get_or (set (views roots) at (view_of s')) k d ≡ with_seat (get_or (views was) k d) number) (sym is)
              (get_or-set_same (views roots) at (view_of s') d long ∙ (gave ∙ ap (λ (v : View). with_seat v number) (sym (was_here d))))
          | inr ne ↦ get_or-set_other (views roots) at j (view_of s') d ne ∙ h.front j d (omega arith)
        ];
        back = λ j d above. ap (λ (l : List View). get_or l j d) (views_set tables roots h.of at t s there at_s s') ∙ (get_or-set_other (views roots) at j (view_of s') d (λ e. omega arith) ∙ h.back j d (omega arith));
        made = λ j d below. ap (λ (l : List View). get_or l j d) (map_push view_of seats made) ∙ elim (cases_eq j at) [
          | inl is ↦ subst (λ (k : ℕ). get_or (views seats ++ view_of made ∷ []) k d ≡ new_view number (get_or (views was) k d).seen) (sym is)
              (get_or_push (views seats) (view_of made) d at (long_views seats ∙ h.count) ∙ (gives ∙ ap (λ (v : View). new_view number v.seen) (sym (was_here d))))
          | inr ne ↦ get_or_append_left (views seats) (view_of made ∷ []) d j (subst (λ (n : ℕ). j < n) (sym (long_views seats ∙ h.count)) (omega arith)) ∙ h.made j d (omega arith)
        ];
      }
    where
      length_pushed : length (seats ++ made ∷ []) ≡ at + 1
      length_pushed = let c = h.count in let l = length-append seats (made ∷ []) in omega arith

module _ (tables : List SegTable) (was roots seats : List SegSeat) (at number : ℕ) (h : Splits tables was roots seats at number) (of : AreSeatsOf tables was) (all : length tables ≤ at) where
  whole : at ≡ length tables
  whole = let w = h.within in omega arith

  long_was : length (views was) ≡ length tables
  long_was = long_views was ∙ as_many tables was of

  pub splits_of : AreSeatsOf tables seats
  splits_of = h.ids ∙ take_all at (map (λ (t : SegTable). t.table.shared.table_id) tables) (let e = length-map tables (λ (t : SegTable). t.table.shared.table_id) in omega arith)

  pub splits_roots : views roots ≡ with_seats number (views was)
  splits_roots = mapped_views (λ (v : View). with_seat v number) (views was) (views roots) (long_views roots ∙ (as_many tables roots h.of ∙ sym long_was)) (λ j d below. h.front j d (let e = long_was in omega arith))

  pub splits_made : views seats ≡ new_views number (views was)
  splits_made = mapped_views (λ (v : View). new_view number v.seen) (views was) (views seats) (long_views seats ∙ (h.count ∙ (whole ∙ sym long_was))) (λ j d below. h.made j d (let e = long_was in omega arith))

-- the root may make a pass
pub may_make : (number : ℕ) (vs : List View) → All IsRootSeat vs → All (λ (v : View). count_of number v.made ≡ 0) vs → All (MayMake number) vs
may_make number vs root never i v below = record { root = root i v below; never = never i v below }

-- and its seats are those of the root after it
pub root_splits : (number : ℕ) (vs : List View) → All IsRootSeat vs → All IsRootSeat (with_seats number vs)
root_splits number vs root = All-map IsRootSeat (λ (v : View). with_seat v number) vs root
