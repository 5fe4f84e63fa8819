-- Sweeps: what their calls ask of a pass, and what they leave of it (own).
use Rattle.std.specs.Prelude.{ℕ, ◌≡◌, ◌≢◌, true, false, List, IfOk, OnOk, IsSomeAnd, Some, Result, Ok, Err, length, slice_get, take}
use Rattle.std.specs.Result.{is_err}
use Rattle.cm_geo.specs.declared.geo.Geo.{Geo}
use Rattle.cm_plain.specs.declared.op.Op.{Op}
use Rattle.cm_plain.specs.declared.op.Op.TheVariants as op
use Rattle.cm_plain.specs.Limits.{KeepsLimits}
use Rattle.cm_words.specs.declared.fuse.Dead.{Dead}
use Rattle.cm_words.specs.Fuses.{FuseSeen}
use Rattle.cm_words.specs.Meters.{ReportsDeath}
use Rattle.cm_lock.specs.declared.take.Stop.{Stop}
use Rattle.cm_lock.specs.declared.take.Stop.TheVariants.{Busy, Died}
use Rattle.cm_lock.specs.declared.view.Level.TheVariants.{Update, Write}
use Rattle.cm_lock.specs.declared.view.View.{View}
use Rattle.cm_turn.specs.declared.answer.Done.{Done}
use Rattle.cm_store.specs.declared.pass.Pass.{Pass}
use Rattle.cm_store.specs.declared.pass.Sweep.{Sweep}
use Rattle.cm_store.specs.declared.store.Store.{Store}
use Rattle.cm_turn.specs.Calls.{IsRefused, Leaves, ReportsStop}
use Rattle.cm_turn.specs.Looks.{MayRaise, TakesOnce}
use Rattle.cm_store.specs.Passes.{ActsAt, AlsoAt, IsPassOf, IsResting, IsSoAt, is_dead, is_died, number_of, pass_meter, settled_of, sweep_of, views_of}
use Rattle.cm_turn.specs.Records.{Holds, IsIdle}
use Rattle.cm_turn.specs.SeatSweeps.{Opens, Releases}

-- the bytes of a sweep's prefix
abbrev pub prefix_of : Sweep → List ℕ
prefix_of sweep = take sweep.prefix_len sweep.prefix

-- the operation that its steps make
abbrev pub sweep_op : Sweep → Op
sweep_op sweep = op.Sweep sweep.segment (prefix_of sweep)

-- it is one of this segment, with this prefix
pub record IsSweepOf (segment : ℕ) (prefix : List ℕ) (sweep : Sweep) : Type 0 where
  pub op_is : sweep_op sweep ≡ op.Sweep segment prefix
  pub len_is : sweep.prefix_len ≡ length prefix

-- it stands at the first slot of the chain
abbrev pub IsAtFirst : Sweep → Type 0
IsAtFirst sweep = sweep.at ≡ record { link = 0; slot = 0 }

-- a live pass between two calls in a sweep of this segment, with this prefix: it holds Update there, and nothing else
pub record IsInSweep {F : Type 0} (geo : Geo) (segment : ℕ) (prefix : List ℕ) (pass : Pass F) : Type 0 where
  pub live : is_dead pass ≡ false
  pub sweep : IsSomeAnd (sweep_of pass) (IsSweepOf segment prefix)
  pub limits : KeepsLimits geo (op.Sweep segment prefix)
  pub holds : IsSoAt (Holds Update) segment pass
  pub others : (other : ℕ) (v : View) → other ≢ segment → slice_get (views_of pass) other ≡ Some v → IsIdle v

-- a pass may take a step of its sweep, or close it: it is the store's, lives, and is in one
pub record MayStep {F : Type 0} (store : Store) (pass : Pass F) : Type 0 where
  pub its : IsPassOf pass store
  pub segment : ℕ
  pub prefix : List ℕ
  pub in_sweep : IsInSweep store.geo segment prefix pass

-- how an opening leaves the pass: in the sweep, or as before
abbrev pub LeavesOpening : {F : Type 0} → Geo → ℕ → List ℕ → Pass F → Pass F → Result (Unit {0}) Stop → Type 0
LeavesOpening geo segment prefix old now (Ok done) = IsInSweep geo segment prefix now × IsSomeAnd (sweep_of now) IsAtFirst
LeavesOpening geo segment prefix old now (Err (Busy looks last)) = IsResting now
LeavesOpening geo segment prefix old now (Err Died) = sweep_of now ≡ sweep_of old

-- what the opening of a sweep did: at the seat of its segment, and nowhere else
pub record OpenedSweep {F : Type 0} (fused : F → FuseSeen) (store : Store) (tries segment : ℕ) (prefix : List ℕ) (old now : Pass F) (result : Result (Unit {0}) Stop) : Type 0 where
  pub its : IsPassOf now store
  pub number : number_of now ≡ number_of old
  pub opens : ActsAt (λ was then before later. Opens tries was then before later result) segment old now
  pub looks : AlsoAt (λ was then. OnOk result (TakesOnce tries was then)) segment old now
  pub fuse : ReportsStop (pass_meter fused old) (pass_meter fused now) result
  pub dead : is_dead now ≡ is_died result
  pub leaves : LeavesOpening store.geo segment prefix old now result

-- what a step did, of whichever sweep the pass was in: at the seat of its segment, and nowhere else; a live pass is still in the sweep
pub record SteppedSweep {F : Type 0} (fused : F → FuseSeen) (store : Store) (tries : ℕ) (out : List ℕ) (old now : Pass F) (result : Result Done Stop) : Type 0 where
  pub its : IsPassOf now store
  pub number : number_of now ≡ number_of old
  pub steps : (segment : ℕ) (prefix : List ℕ) → IsInSweep store.geo segment prefix old
      → ActsAt (λ was then before later. Leaves (Holds Update) (IsRefused Update Write tries) segment store.geo.extra (op.Sweep segment prefix) out was then before later
      (settled_of result)) segment old now
  pub looks : (segment : ℕ) (prefix : List ℕ) → IsInSweep store.geo segment prefix old → AlsoAt (λ was then. OnOk result (MayRaise 0 tries was then)) segment old now
  pub fuse : ReportsStop (pass_meter fused old) (pass_meter fused now) result
  pub dead : is_dead now ≡ is_died result
  pub stays : (segment : ℕ) (prefix : List ℕ) → IsInSweep store.geo segment prefix old → is_dead now ≡ false → IsInSweep store.geo segment prefix now
  pub sweep : is_dead now ≡ true → sweep_of now ≡ sweep_of old
  pub spot : (segment : ℕ) (prefix : List ℕ) → IsInSweep store.geo segment prefix old → IfOk result (λ done. done.spot.segment ≡ segment)

-- what the closing of a sweep did, of whichever sweep the pass was in: at the seat of its segment, and nowhere else; a live pass is in none
pub record ClosedSweep {F : Type 0} (fused : F → FuseSeen) (store : Store) (old now : Pass F) (result : Result (Unit {0}) Dead) : Type 0 where
  pub its : IsPassOf now store
  pub number : number_of now ≡ number_of old
  pub closes : (segment : ℕ) (prefix : List ℕ) → IsInSweep store.geo segment prefix old
      → ActsAt (λ was then before later. Releases was then before later result) segment old now
  pub fuse : ReportsDeath (pass_meter fused old) (pass_meter fused now) result
  pub dead : is_dead now ≡ is_err result
  pub resting : is_dead now ≡ false → IsResting now
  pub sweep : is_dead now ≡ true → sweep_of now ≡ sweep_of old
