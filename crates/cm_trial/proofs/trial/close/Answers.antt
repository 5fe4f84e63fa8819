use Rattle.cm_store.specs.Passes.{claims_view, views_of}
use Rattle.cm_trial.proofs.Trials.{all_back, claimers_back}
use Rattle.cm_trial.proofs.trial.close.Goals as goal

pub close-requires-clause-joined : goal.close-requires-clause-joined
close-requires-clause-joined c = record {
  seats = all_back c.args.trial.made c.args.trial.back (views_of c.args.trial.root) c.if-made-back.false c.requires.seats;
  claims = claimers_back c.args.trial.made c.args.trial.back (claims_view c.args.trial.root) c.if-made-back.false c.requires.claims;
}
