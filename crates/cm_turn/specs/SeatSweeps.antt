-- Sweeps: what their calls ask of a seat, and what they leave of it (own).
use Rattle.std.specs.Prelude.{ℕ, ◌≡◌, ◌≤◌, false, List, MatchOption, Option, Result, Ok, Err, take}
use Rattle.cm_geo.specs.declared.geo.Geo.{Geo}
use Rattle.cm_plain.specs.declared.op.Op.TheVariants as op
use Rattle.cm_plain.specs.Limits.{KeepsLimits}
use Rattle.cm_plain.specs.Steps.{would_change}
use Rattle.cm_words.specs.Memory.{MemSeen}
use Rattle.cm_segment.specs.declared.walks.Stand.{Stand}
use Rattle.cm_lock.specs.declared.take.Stop.{Stop}
use Rattle.cm_lock.specs.declared.take.Stop.TheVariants.{Busy, Died}
use Rattle.cm_lock.specs.declared.view.Level.TheVariants.{Free, Update}
use Rattle.cm_lock.specs.declared.view.View.{View}
use Rattle.cm_yard.specs.declared.view.View.{View as YardView}
use Rattle.cm_turn.specs.declared.sweeping.Stepped.{Stepped}
use Rattle.cm_turn.specs.declared.turn.Settled.{Settled}
use Rattle.cm_turn.specs.Calls.{Fails, IsRefused}
use Rattle.cm_turn.specs.Conditions.{EachHere, IsSwept}
use Rattle.cm_turn.specs.Records.{Holds, IsIdle}

-- what is looked for: a key with the prefix, which then is at the beginning of a list; or there is none
abbrev pub FindsNext : MemSeen → Geo → ℕ → List ℕ → List ℕ → Option Stand → Type 0
FindsNext m geo segment prefix out found =
    MatchOption found (EachHere m geo (λ state. would_change (op.Sweep segment prefix) state ≡ false)) (λ stand. IsSwept m geo prefix (take stand.key_len out))

-- the level of a seat is Update now, whether it was Update or Write; an event was made, or none
pub record IsLowered (old now : View) : Type 0 where
  pub view : now ≡ record old { events = now.events; own = record old.own { level = Update } }

-- what an opening asks of a seat that holds nothing
pub record MayOpen (tries : ℕ) (v : View) : Type 0 where
  pub idle : IsIdle v
  pub nonzero : 1 ≤ tries

-- what a step asks of a seat that holds Update
pub record MayStepBy (tries segment : ℕ) (prefix : List ℕ) (geo : Geo) (here : ℕ) (v : View) : Type 0 where
  pub holds : Holds Update v
  pub nonzero : 1 ≤ tries
  pub limits : KeepsLimits geo (op.Sweep segment prefix)
  pub segment_is : segment ≡ here

-- Update was taken, and nothing else done; else the seat holds nothing, as before
abbrev pub Opens : ℕ → View → View → YardView → YardView → Result (Unit {0}) Stop → Type 0
Opens tries was then before later (Ok done) = Fails (Holds Update) was then before later
Opens tries was then before later (Err (Busy looks last)) = Fails IsIdle was then before later × IsRefused Free Update tries looks last then
Opens tries was then before later (Err Died) = Fails IsIdle was then before later

-- Update was released, and nothing else done; where the release died, the seat holds Update still
abbrev pub Releases : {E : Type 0} → View → View → YardView → YardView → Result (Unit {0}) E → Type 0
Releases was then before later (Ok done) = Fails IsIdle was then before later
Releases was then before later (Err error) = Fails (Holds Update) was then before later

-- a call that takes no level is never Busy
abbrev pub IsNeverBusy : {T : Type 0} → Result T Stop → Type 0
IsNeverBusy (Ok done) = Unit {0}
IsNeverBusy (Err (Busy looks last)) = ⊥
IsNeverBusy (Err Died) = Unit {0}

-- what a step answered, without where it stands
abbrev pub settled_in : Result Stepped Stop → Result Settled Stop
settled_in (Ok stepped) = Ok stepped.settled
settled_in (Err stop) = Err stop
