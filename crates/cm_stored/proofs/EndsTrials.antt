-- A pass that is split off a root at its start, and joined.
use Rattle.std.proofs.Common.{◌≡◌, ℕ, zero, suc, List, map, slice_get, All, Some, refl, sym, ap, ◌∙◌, subst, arith}
use Rattle.std.specs.List.{zip}
use Rattle.std.proofs.lemmas.List.{get_or_default}
use Rattle.std.proofs.lemmas.Option.{get_or_from_slice_get}
use Rattle.cm_lock.specs.declared.view.Key.{Key}
use Rattle.cm_lock.specs.declared.view.View.{View}
use Rattle.cm_lock.specs.Rule.{root_view}
use Rattle.cm_lock.specs.Seats.{AllJoined, count_of}
use Rattle.cm_lock.specs.Views.{new_view, with_joined, with_seat}
use Rattle.cm_store.specs.Splits.{joined_views, new_views, with_seats}
use Rattle.cm_yard.specs.Ends.{AllJoined as YardAllJoined}
use Rattle.cm_yard.specs.Views.{new_view as yard_new_view, root_view as yard_root_view, with_joined as yard_with_joined, with_seat as yard_with_seat, with_stop}
use Rattle.cm_store.proofs.Elements.{element_at}
use Rattle.cm_store.proofs.Elements.{mapped_at, zipped_left}

all_by : (P : View → Type 0) (vs : List View) → ((i : ℕ) (v : View) → slice_get vs i ≡ Some v → P v) → All P vs
all_by P vs each i d below = let (v, there) = element_at vs i below in
    subst P (sym (get_or_default vs i d v below ∙ get_or_from_slice_get vs i v v there)) (each i v there)

pub none_made : (number : ℕ) (keys : List Key) → All (λ (v : View). count_of number v.made ≡ 0) (map root_view keys)
none_made number keys = all_by (λ (v : View). count_of number v.made ≡ 0) (map root_view keys)
    (λ i v there. let m = mapped_at root_view keys i v there in subst (λ (w : View). count_of number w.made ≡ 0) (sym m.is) refl)

one_joined : (number seen : ℕ) (key : Key) → AllJoined (with_joined (with_seat (root_view key) number) (new_view number seen))
one_joined number seen key zero d below = (0, (new_view number seen).own, omega arith, refl, refl)
one_joined number seen key (suc k) d below = absurd (omega arith)

pub all_joined : (number : ℕ) (keys : List Key) → All AllJoined (joined_views (with_seats number (map root_view keys)) (new_views number (map root_view keys)))
all_joined number keys = all_by AllJoined (joined_views (with_seats number (map root_view keys)) (new_views number (map root_view keys)))
    (λ i w there.
    let m = mapped_at (λ (p : View × View). with_joined p.0 p.1) (zip (with_seats number (map root_view keys)) (new_views number (map root_view keys))) i w there in
    let z = zipped_left (with_seats number (map root_view keys)) (new_views number (map root_view keys)) i m.from m.there in
    let a = mapped_at (λ (v : View). with_seat v number) (map root_view keys) i m.from.0 z.0 in
    let b = mapped_at (λ (v : View). new_view number v.seen) (map root_view keys) i m.from.1 z.1 in
    let k = mapped_at root_view keys i a.from a.there in
    let left : m.from.0 ≡ with_seat (root_view k.from) number = a.is ∙ ap (λ (v : View). with_seat v number) k.is in
    subst AllJoined (sym (m.is ∙ (ap (λ (v : View). with_joined v m.from.1) left ∙ ap (λ (v : View). with_joined (with_seat (root_view k.from) number) v) b.is)))
    (one_joined number b.from.seen k.from))

pub claims_joined : (number segment found : ℕ) → YardAllJoined (yard_with_joined (yard_with_seat yard_root_view number) (with_stop (yard_new_view number) segment found))
claims_joined number segment found zero d below = (0, omega arith, refl)
claims_joined number segment found (suc k) d below = absurd (omega arith)
