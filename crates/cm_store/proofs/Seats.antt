-- One seat of a pass, and all of them.
use Rattle.std.proofs.Common.{◌≡◌, ℕ, ◌+◌, ◌<◌, false, List, length, map, set, get_or, sum_by, Option, Some, None, IsTrue, Ok, Err, sym, ap, ◌∙◌, subst, arith}
use Rattle.std.specs.List.{slice_get}
use Rattle.std.specs.declared.result.Result.{Result}
use Rattle.std.proofs.lemmas.List.{get_or-map, length-map, map-set, set-get_or}
use Rattle.std.proofs.lemmas.List.Sums.{sum_by-set}
use Rattle.std.proofs.lemmas.Option.{get_or_from_slice_get, slice_get_read, slice_get_within}
use Rattle.cm_words.specs.Fuses.{Budget, CountsDown, FuseSeen, IsUsedUp, stores, events}
use Rattle.cm_words.specs.Meters.{IsKilled, MeterSeen, Survives}
use Rattle.cm_lock.specs.declared.table.SegSeat.{SegSeat}
use Rattle.cm_lock.specs.declared.table.SegTable.{SegTable}
use Rattle.cm_lock.specs.declared.take.Stop.{Stop}
use Rattle.cm_lock.specs.declared.take.Stop.TheVariants.{Busy, Died}
use Rattle.cm_lock.specs.declared.view.View.{View}
use Rattle.cm_lock.specs.Tables.{IsOf, view_of}
use Rattle.cm_yard.specs.declared.view.View.{View as YardView}
use Rattle.cm_turn.specs.declared.turn.Settled.{Settled}
use Rattle.cm_turn.specs.Calls.{Leaves, ReportsStop}
use Rattle.cm_store.specs.Passes.{AreSeatsOf, is_died, views}
use Rattle.cm_turn.specs.Records.{IsIdle}

-- a read of a mapped list
pub read_map : {A B : Type 0} (f : A → B) (xs : List A) (i : ℕ) (x : A) (e : B) → i < length xs → x ≡ get_or xs i x → get_or (map f xs) i e ≡ f x
read_map f xs i x e inside is = get_or-map f xs i x e inside ∙ ap f (sym is)

pub as_many : (tables : List SegTable) (seats : List SegSeat) → AreSeatsOf tables seats → length seats ≡ length tables
as_many tables seats of = sym (length-map seats (λ (s : SegSeat). s.seat.table_id)) ∙ (ap length of ∙ length-map tables (λ (t : SegTable). t.table.shared.table_id))

module _ (tables : List SegTable) (seats : List SegSeat) (of : AreSeatsOf tables seats) (i : ℕ) (t : SegTable) (s : SegSeat) (there : slice_get tables i ≡ Some t) (at : s ≡ get_or seats i s) where
  inside : i < length seats
  inside = let l = as_many tables seats of in let w = slice_get_within tables i t there in omega arith

  -- the seat of a segment is of its table
  pub seat_of : IsOf s t
  seat_of =
      sym (read_map (λ (x : SegSeat). x.seat.table_id) seats i s s.seat.table_id inside at)
      ∙ (ap (λ l. get_or l i s.seat.table_id) of
      ∙ read_map (λ (x : SegTable). x.table.shared.table_id) tables i t s.seat.table_id (slice_get_within tables i t there) (sym (get_or_from_slice_get tables i t t there)))

  -- and so it is after a call
  pub seats_set : (later : SegSeat) → IsOf later t → AreSeatsOf tables (set seats i later)
  seats_set later its =
      map-set (λ (x : SegSeat). x.seat.table_id) seats i later
      ∙ (ap (λ n. set (map (λ (x : SegSeat). x.seat.table_id) seats) i n) (its ∙ (sym seat_of ∙ sym (read_map (λ (x : SegSeat). x.seat.table_id) seats i s s.seat.table_id inside at)))
      ∙ (set-get_or (map (λ (x : SegSeat). x.seat.table_id) seats) i s.seat.table_id ∙ of))

  pub view_at : (d : View) → get_or (views seats) i d ≡ view_of s
  view_at d = read_map view_of seats i s d inside at

  pub view_there : slice_get (views seats) i ≡ Some (view_of s)
  view_there = slice_get_read (views seats) (length seats) i (view_of s) (sym (length-map seats view_of)) inside (sym (view_at (view_of s)))

  pub views_set : (later : SegSeat) → views (set seats i later) ≡ set (views seats) i (view_of later)
  views_set later = map-set view_of seats i later

  pub counted : (f : View → ℕ) (later : SegSeat) → sum_by f (views (set seats i later)) + f (view_of s) ≡ sum_by f (views seats) + f (view_of later)
  counted f later =
      ap (λ (l : List View). sum_by f l + f (view_of s)) (views_set later)
      ∙ (ap (λ (n : ℕ). sum_by f (set (views seats) i (view_of later)) + n) (sym (ap f (view_at (view_of s))))
      ∙ sum_by-set f (views seats) i (view_of later) (view_of s) (subst (λ (n : ℕ). i < n) (sym (length-map seats view_of)) inside))

-- a call that didn't die left its seat idle
pub idle_by : (Refused : ℕ → ℕ → View → Type 0) (segment extra : ℕ) (op : _) (out : List ℕ) (v w : View) (y z : YardView) (result : Result Settled Stop)
    → is_died result ≡ false → Leaves IsIdle Refused segment extra op out v w y z result → IsIdle w
idle_by Refused segment extra op out v w y z (Ok settled) lives l = l.ends
idle_by Refused segment extra op out v w y z (Err (Busy looks last)) lives l = l.0.ends
idle_by Refused segment extra op out v w y z (Err Died) lives l = absurd (cc lives)

-- ---- counts that are raised by the same numbers

module _ (e s e' s' k l k' l' : ℕ) (more : e' + k ≡ e + k') (moreover : s' + l ≡ s + l') where
  down : (before now : Option Budget) → CountsDown e s e' s' before now → CountsDown k l k' l' before now
  down None now h = h
  down (Some (stores n)) now (left, h, is) = (left, omega arith, is)
  down (Some (events n)) now (left, h, is) = (left, omega arith, is)

  used : (before now : Option Budget) → IsUsedUp e s e' s' before now → IsUsedUp k l k' l' before now
  used None now h = h
  used (Some (stores n)) now (h, is) = (omega arith, is)
  used (Some (events n)) now (h, is) = (omega arith, is)

-- the same events were counted, from other numbers on
pub record CountsAlike (a b c d : MeterSeen) : Type 0 where
  pub before : c.fuse ≡ a.fuse
  pub behind : d.fuse ≡ b.fuse
  pub events : b.events + c.events ≡ a.events + d.events
  pub stores : b.stores + c.stores ≡ a.stores + d.stores

survives_alike : (a b c d : MeterSeen) → CountsAlike a b c d → Survives a b → Survives c d
survives_alike a b c d k s = let e = k.events in let t = k.stores in let p = s.events in let q = s.stores in let r = s.stores_within in record {
  events = (omega arith);
  stores = (omega arith);
  stores_within = (omega arith);
  never_begins = subst (λ (f : FuseSeen). IsTrue d.fuse.can_die → IsTrue f.can_die) (sym k.before) (subst (λ (f : FuseSeen). IsTrue f.can_die → IsTrue a.fuse.can_die) (sym k.behind) s.never_begins);
  deaths = ap (λ (f : FuseSeen). f.deaths) k.behind ∙ (s.deaths ∙ ap (λ (f : FuseSeen). f.deaths) (sym k.before));
  budget = subst (λ (f : FuseSeen). CountsDown c.events c.stores d.events d.stores f.budget d.fuse.budget) (sym k.before)
      (subst (λ (f : FuseSeen). CountsDown c.events c.stores d.events d.stores a.fuse.budget f.budget) (sym k.behind)
      (down a.events a.stores b.events b.stores c.events c.stores d.events d.stores e t a.fuse.budget b.fuse.budget s.budget));
}

killed_alike : (a b c d : MeterSeen) → CountsAlike a b c d → IsKilled a b → IsKilled c d
killed_alike a b c d k s = let e = k.events in let t = k.stores in let p = s.events in let q = s.stores in let r = s.stores_within in record {
  events = (omega arith);
  stores = (omega arith);
  stores_within = (omega arith);
  never_begins = subst (λ (f : FuseSeen). IsTrue d.fuse.can_die → IsTrue f.can_die) (sym k.before) (subst (λ (f : FuseSeen). IsTrue f.can_die → IsTrue a.fuse.can_die) (sym k.behind) s.never_begins);
  could = subst (λ (f : FuseSeen). IsTrue f.can_die) (sym k.before) s.could;
  deaths = ap (λ (f : FuseSeen). f.deaths) k.behind ∙ (s.deaths ∙ ap (λ (f : FuseSeen). f.deaths + 1) (sym k.before));
  budget = subst (λ (f : FuseSeen). IsUsedUp c.events c.stores d.events d.stores f.budget d.fuse.budget) (sym k.before)
      (subst (λ (f : FuseSeen). IsUsedUp c.events c.stores d.events d.stores a.fuse.budget f.budget) (sym k.behind)
      (used a.events a.stores b.events b.stores c.events c.stores d.events d.stores e t a.fuse.budget b.fuse.budget s.budget));
}

pub reports_alike : {T : Type 0} (a b c d : MeterSeen) (result : Result T Stop) → CountsAlike a b c d → ReportsStop a b result → ReportsStop c d result
reports_alike a b c d (Ok settled) k h = survives_alike a b c d k h
reports_alike a b c d (Err (Busy looks last)) k h = survives_alike a b c d k h
reports_alike a b c d (Err Died) k h = killed_alike a b c d k h
