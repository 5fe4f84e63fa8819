-- A pass: a caller's seats of all segments and of the yard (own).
use Rattle.std.specs.Prelude.{ℕ, ◌≡◌, ◌+◌, Bool, true, false, All, List, map, slice_get, slice_set, sum_by, Option, Some, None, Result, Ok, Err, IfOk}
use Rattle.cm_plain.specs.declared.op.Op.{Op}
use Rattle.cm_plain.specs.Limits.{KeepsLimits, segment_of}
use Rattle.cm_words.specs.Fuses.{FuseSeen}
use Rattle.cm_words.specs.Meters.{MeterSeen}
use Rattle.cm_lock.specs.declared.take.Stop.{Stop}
use Rattle.cm_lock.specs.declared.take.Stop.TheVariants.{Busy, Died}
use Rattle.cm_lock.specs.declared.table.SegSeat.{SegSeat}
use Rattle.cm_lock.specs.declared.table.SegTable.{SegTable}
use Rattle.cm_lock.specs.declared.view.View.{View}
use Rattle.cm_lock.specs.Tables.{view_of}
use Rattle.cm_yard.specs.declared.view.View.{View as YardView}
use Rattle.cm_yard.specs.Yards.{IsOf as IsOfYard, view_of as yard_view_of}
use Rattle.cm_turn.specs.declared.answer.Done.{Done}
use Rattle.cm_store.specs.declared.pass.Pass.{Pass}
use Rattle.cm_store.specs.declared.pass.Sweep.{Sweep}
use Rattle.cm_store.specs.declared.store.Store.{Store}
use Rattle.cm_turn.specs.declared.turn.Settled.{Settled}
use Rattle.cm_turn.specs.Calls.{Leaves, ReportsStop}
use Rattle.cm_turn.specs.Records.{IsIdle}

-- ---- what contracts see of a pass

abbrev pub number_of : {F : Type 0} → Pass F → ℕ
number_of pass = pass.number

abbrev pub is_dead : {F : Type 0} → Pass F → Bool
is_dead pass = pass.dead

abbrev pub sweep_of : {F : Type 0} → Pass F → Option Sweep
sweep_of pass = pass.sweep

-- the views of its seats, segment after segment
abbrev pub views : List SegSeat → List View
views seats = map view_of seats

abbrev pub views_of : {F : Type 0} → Pass F → List View
views_of pass = views pass.seats.items

-- the view of its seat of the yard
abbrev pub claims_view : {F : Type 0} → Pass F → YardView
claims_view pass = yard_view_of pass.claims

-- a fuse, with the counts of seats and of a seat of the yard
abbrev pub meter_of : FuseSeen → List View → YardView → MeterSeen
meter_of fuse seats claims = record {
  fuse = fuse;
  events = sum_by (λ (v : View). v.events) seats + claims.events;
  stores = sum_by (λ (v : View). v.stores) seats;
}

-- its fuse, with the counts of all its seats
abbrev pub pass_meter : {F : Type 0} → (F → FuseSeen) → Pass F → MeterSeen
pass_meter fused pass = meter_of (fused pass.fuse) (views_of pass) (claims_view pass)

-- ---- a store and its passes

-- the seats are those of the tables
abbrev pub AreSeatsOf : List SegTable → List SegSeat → Type 0
AreSeatsOf tables seats = map (λ (s : SegSeat). s.seat.table_id) seats ≡ map (λ (t : SegTable). t.table.shared.table_id) tables

pub record IsPassOf {F : Type 0} (pass : Pass F) (store : Store) : Type 0 where
  pub seats : AreSeatsOf store.tables.items pass.seats.items
  pub claims : IsOfYard pass.claims store.yard

-- a live pass between two calls, in no sweep: it holds nothing
pub record IsResting {F : Type 0} (pass : Pass F) : Type 0 where
  pub live : pass.dead ≡ false
  pub idle : All IsIdle (views_of pass)
  pub no_sweep : pass.sweep ≡ None

-- ---- a call of a pass

-- what a call answered, without its segment
abbrev pub settled_of : Result Done Stop → Result Settled Stop
settled_of (Ok done) = Ok (record { number = done.spot.number; answer = done.answer })
settled_of (Err stop) = Err stop

abbrev pub is_died : {T : Type 0} → Result T Stop → Bool
is_died (Ok done) = false
is_died (Err (Busy looks last)) = false
is_died (Err Died) = true

-- something is so of the seat of a segment
abbrev pub IsSoAt : {F : Type 0} → (View → Type 0) → ℕ → Pass F → Type 0
IsSoAt IsSo segment pass = (v : View) → slice_get (views_of pass) segment ≡ Some v → IsSo v

-- this is so of the seat of one segment, and of the seat of the yard, before and after a call, and all other seats are as before
pub record ActsAt {F : Type 0} (Acts : View → View → YardView → YardView → Type 0) (segment : ℕ) (old now : Pass F) : Type 0 where
  pub was : View
  pub then : View
  pub here : slice_get (views_of old) segment ≡ Some was
  pub others : views_of now ≡ slice_set (views_of old) segment then
  pub acts : Acts was then (claims_view old) (claims_view now)

-- the seat of one segment was left so by a call of an operation
abbrev pub CallsAt : {F : Type 0} → (ℕ → ℕ → View → Type 0) → ℕ → ℕ → Op → List ℕ → Pass F → Pass F → Result Done Stop → Type 0
CallsAt Refused extra segment op out old now result =
    ActsAt (λ was then before later. Leaves IsIdle Refused segment extra op out was then before later (settled_of result)) segment old now

-- besides, this is so of the seat of one segment before and after it
abbrev pub AlsoAt : {F : Type 0} → (View → View → Type 0) → ℕ → Pass F → Pass F → Type 0
AlsoAt Also segment old now = ActsAt (λ was then before later. Also was then) segment old now

-- a pass may make a call of an operation: it is the store's, lives, holds nothing and is in no sweep, and the operation keeps the limits
pub record MayCall {F : Type 0} (store : Store) (op : Op) (pass : Pass F) : Type 0 where
  pub its : IsPassOf pass store
  pub resting : IsResting pass
  pub limits : KeepsLimits store.geo op

-- what a call of an operation did: at the seat of its segment, and nowhere else; a pass that lives is as it was between calls
pub record Called {F : Type 0} (fused : F → FuseSeen) (store : Store) (Refused : ℕ → ℕ → View → Type 0) (op : Op) (out : List ℕ) (old now : Pass F) (result : Result Done Stop) : Type 0 where
  pub its : IsPassOf now store
  pub number : number_of now ≡ number_of old
  pub sweep : sweep_of now ≡ sweep_of old
  pub calls : CallsAt Refused store.geo.extra (segment_of store.geo op) op out old now result
  pub fuse : ReportsStop (pass_meter fused old) (pass_meter fused now) result
  pub resting : is_dead now ≡ false → IsResting now
  pub dead : is_dead now ≡ is_died result
  pub spot : IfOk result (λ done. done.spot.segment ≡ segment_of store.geo op)
