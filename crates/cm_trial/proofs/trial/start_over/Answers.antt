use Rattle.std.proofs.Common.{List, All, sym, subst}
use Rattle.cm_lock.specs.declared.view.View.{View}
use Rattle.cm_store.specs.Tables.{keys_of}
use Rattle.cm_trial.specs.Trials.{HasMadeSeats, HasMadeClaimers}
use Rattle.cm_trial.proofs.Trials.{starts_claims, starts_made}
use Rattle.cm_trial.proofs.trial.start_over.Goals as goal

pub returns : goal.returns
returns c = record {
  trial = record {
    its = c.in_ok-store.ensures.its;
    root_is = c.in_ok-store.ensures.root;
    live = c.in_ok-store.ensures.live;
    no_sweep = c.in_ok-store.ensures.no_sweep;
    seats = subst (λ (vs : List View). All (HasMadeSeats 0 0) vs) (sym c.in_ok-store.ensures.roots) (starts_made (keys_of c.args.words));
    claims = subst (HasMadeClaimers 0 0) (sym c.in_ok-store.ensures.claims) starts_claims;
  };
}
