-- A pass behind a listing.
use Rattle.std.proofs.Common.{◌≡◌, ℕ, false, List, All, Ok, Err, sym, ◌∙◌, subst}
use Rattle.std.specs.declared.result.Result.{Result}
use Rattle.std.proofs.lemmas.List.Elements.{All-set}
use Rattle.cm_plain.specs.declared.stop.NoMemory.{NoMemory}
use Rattle.cm_lock.specs.declared.take.Stop.{Stop}
use Rattle.cm_lock.specs.declared.take.Stop.TheVariants.{Busy, Died}
use Rattle.cm_lock.specs.declared.view.View.{View}
use Rattle.cm_turn.specs.declared.list_call.Listing.{Listing}
use Rattle.cm_store.specs.declared.pass.Pass.{Pass}
use Rattle.cm_turn.specs.SeatLists.{LeavesListing}
use Rattle.cm_store.specs.Passes.{ActsAt, IsResting, is_dead, is_died, sweep_of, views_of}
use Rattle.cm_turn.specs.Records.{IsIdle}

-- a listing that didn't die left its seat idle
listing_idle : (tries segment : ℕ) (was now : View) (result : Result (Result Listing NoMemory) Stop) → is_died result ≡ false → LeavesListing tries segment was now result → IsIdle now
listing_idle tries segment was now (Ok (Ok listing)) lives leaves = leaves.ends
listing_idle tries segment was now (Ok (Err missing)) lives leaves = leaves.ends
listing_idle tries segment was now (Err (Busy looks last)) lives leaves = leaves.0.ends
listing_idle tries segment was now (Err Died) lives leaves = absurd (cc lives)

-- and its pass as it is between calls
pub resting_listed : {F : Type 0} (tries segment : ℕ) (old now : Pass F) (result : Result (Result Listing NoMemory) Stop)
    → ActsAt (λ was then before later. LeavesListing tries segment was then result × (later ≡ before)) segment old now → is_dead now ≡ is_died result → sweep_of now ≡ sweep_of old → IsResting old
    → is_dead now ≡ false → IsResting now
resting_listed tries segment old now result acts dead same rests lives = record {
  live = lives;
  idle = subst (λ (vs : List View). All IsIdle vs) (sym acts.others)
      (All-set IsIdle (views_of old) segment acts.then (listing_idle tries segment acts.was acts.then result (sym dead ∙ lives) acts.acts.0) rests.idle);
  no_sweep = same ∙ rests.no_sweep;
}
