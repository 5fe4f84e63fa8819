-- A pass that listed a segment.
use Rattle.std.proofs.Common.{◌≡◌, ℕ, List, All, Ok, Err, sym, ap, ◌∙◌, subst}
use Rattle.std.specs.declared.result.Result.{Result}
use Rattle.std.proofs.lemmas.List.Elements.{All-set}
use Rattle.cm_plain.specs.declared.op.Op.TheVariants as op
use Rattle.cm_plain.specs.declared.reply.Reply.TheVariants as reply
use Rattle.cm_plain.specs.declared.stop.NoMemory.{NoMemory}
use Rattle.cm_words.specs.Fuses.{FuseSeen}
use Rattle.cm_lock.specs.declared.take.Stop.{Stop}
use Rattle.cm_lock.specs.declared.take.Stop.TheVariants.{Busy, Died}
use Rattle.cm_lock.specs.declared.view.View.{View}
use Rattle.cm_yard.specs.declared.view.View.{View as YardView}
use Rattle.cm_store.specs.declared.list.ListStop.{ListStop}
use Rattle.cm_store.specs.declared.list.Listed.{Listed}
use Rattle.cm_turn.specs.declared.list_call.Listing.{Listing}
use Rattle.cm_store.specs.declared.pass.Pass.{Pass}
use Rattle.cm_store.specs.declared.store.Store.{Store}
use Rattle.cm_plain.specs.Steps.{is_change}
use Rattle.cm_store.specs.Lists.{CalledList, listing_of}
use Rattle.cm_turn.specs.SeatLists.{LeavesListing}
use Rattle.cm_store.specs.Passes.{views_of}
use Rattle.cm_trial.specs.Trials.{IsPlayer}
use Rattle.cm_trial.proofs.Trials.{added_number, all_at, died_number, in_no_sweep}

listing_number : (tries segment : ℕ) (was now : View) (result : Result (Result Listing NoMemory) Stop) → LeavesListing tries segment was now result → now.own.number ≡ was.own.number
listing_number tries segment was now (Ok (Ok listing)) leaves =
    added_number (is_change (reply.Pairs listing.pairs)) (op.List segment) listing.number (reply.Pairs listing.pairs) was now leaves.adds.added
listing_number tries segment was now (Ok (Err missing)) leaves = ap (λ (v : View). v.own.number) leaves.adds.view
listing_number tries segment was now (Err (Busy looks last)) leaves = ap (λ (v : View). v.own.number) leaves.0.adds.view
listing_number tries segment was now (Err Died) leaves = died_number (op.List segment) was now leaves.dies

pub player_listed : {F : Type 0} (fused : F → FuseSeen) (store : Store) (tries segment : ℕ) (old now : Pass F) (result : Result Listed ListStop)
    → IsPlayer store old → CalledList fused store tries segment old now result → IsPlayer store now
player_listed fused store tries segment old now result p c =
    let k = listing_number tries segment c.lists.was c.lists.then (listing_of result) c.lists.acts.0 in
    record {
      its = c.its;
      seats = subst (λ (vs : List View). All (λ (v : View). v.own.number ≡ now.number) vs) (sym c.lists.others)
          (All-set (λ (v : View). v.own.number ≡ now.number) (views_of old) segment c.lists.then
          (k ∙ (all_at (λ (v : View). v.own.number ≡ old.number) (views_of old) p.seats segment c.lists.was c.lists.here ∙ sym c.number))
          (subst (λ (n : ℕ). All (λ (v : View). v.own.number ≡ n) (views_of old)) (sym c.number) p.seats));
      claims = ap (λ (y : YardView). y.number) c.lists.acts.1 ∙ (p.claims ∙ sym c.number);
      resting = λ lives none. c.resting lives;
      stepping = λ lives some. absurd (in_no_sweep now (c.resting lives) some);
    }
