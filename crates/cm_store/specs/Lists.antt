-- What a listing leaves of its pass (own).
use Rattle.std.specs.Prelude.{ℕ, ◌≡◌, false, Result, Ok, Err, IfOk, OnOk}
use Rattle.cm_plain.specs.declared.stop.NoMemory.{NoMemory}
use Rattle.cm_words.specs.Fuses.{FuseSeen}
use Rattle.cm_lock.specs.declared.take.Stop.{Stop}
use Rattle.cm_lock.specs.declared.take.Stop.TheVariants.{Busy, Died}
use Rattle.cm_store.specs.declared.list.ListStop.{ListStop}
use Rattle.cm_store.specs.declared.list.ListStop.TheVariants as stop
use Rattle.cm_store.specs.declared.list.Listed.{Listed}
use Rattle.cm_turn.specs.declared.list_call.Listing.{Listing}
use Rattle.cm_store.specs.declared.pass.Pass.{Pass}
use Rattle.cm_store.specs.declared.store.Store.{Store}
use Rattle.cm_turn.specs.Calls.{ReportsStop}
use Rattle.cm_turn.specs.Looks.{TakesOnce}
use Rattle.cm_turn.specs.SeatLists.{LeavesListing}
use Rattle.cm_store.specs.Passes.{ActsAt, AlsoAt, IsPassOf, IsResting, is_dead, is_died, number_of, pass_meter, sweep_of}

-- what a listing answered, without its segment, and with want of memory as one of its ends
abbrev pub listing_of : Result Listed ListStop → Result (Result Listing NoMemory) Stop
listing_of (Ok listed) = Ok (Ok (record { number = listed.spot.number; pairs = listed.pairs }))
listing_of (Err (stop.Busy looks last)) = Err (Busy looks last)
listing_of (Err stop.Died) = Err Died
listing_of (Err stop.NoMemory) = Ok (Err (record {}))

-- what a listing did: at the seat of its segment, and nowhere else; a pass that lives is as it was between calls
pub record CalledList {F : Type 0} (fused : F → FuseSeen) (store : Store) (tries segment : ℕ) (old now : Pass F) (result : Result Listed ListStop) : Type 0 where
  pub its : IsPassOf now store
  pub number : number_of now ≡ number_of old
  pub sweep : sweep_of now ≡ sweep_of old
  pub lists : ActsAt (λ was then before later. LeavesListing tries segment was then (listing_of result) × (later ≡ before)) segment old now
  pub looks : AlsoAt (λ was then. OnOk (listing_of result) (TakesOnce tries was then)) segment old now
  pub fuse : ReportsStop (pass_meter fused old) (pass_meter fused now) (listing_of result)
  pub resting : is_dead now ≡ false → IsResting now
  pub dead : is_dead now ≡ is_died (listing_of result)
  pub spot : IfOk result (λ listed. listed.spot.segment ≡ segment)
