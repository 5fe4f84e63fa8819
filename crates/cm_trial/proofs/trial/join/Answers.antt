use Rattle.std.proofs.Common.{◌≡◌, ◌+◌, ◌∙◌, ℕ, List, All, sym, subst}
use Rattle.cm_lock.specs.declared.view.View.{View}
use Rattle.cm_store.specs.Passes.{claims_view, views_of}
use Rattle.cm_trial.specs.Trials.{HasMadeSeats, HasMadeClaimers}
use Rattle.cm_trial.proofs.Trials.{joins_claims, joins_made}
use Rattle.cm_trial.proofs.trial.join.Goals as goal

pub returns-clause-trial : goal.returns-clause-trial
returns-clause-trial g c =
    let made = c.args.trial.now.made in
    let back = c.args.trial.now.back in
    let same : c.args.pass.number ≡ back = sym c.number.ensures ∙ c.if-number-trial.false in
    record {
      its = c.join-fuse.ensures.its;
      root_is = c.join-fuse.ensures.root;
      live = c.join-fuse.ensures.root_dead ∙ c.requires.trial.live;
      no_sweep = c.join-fuse.ensures.root_sweep ∙ c.requires.trial.no_sweep;
      seats = subst (λ (vs : List View). All (HasMadeSeats made (back + 1)) vs) (sym c.join-fuse.ensures.root_views)
          (joins_made made back (views_of c.args.trial.now.root) (views_of c.args.pass) c.requires.trial.seats
          (subst (λ (n : ℕ). All (λ (v : View). v.own.number ≡ n) (views_of c.args.pass)) same c.requires.pass.seats));
      claims = subst (HasMadeClaimers made (back + 1)) (sym c.join-fuse.ensures.root_claims)
          (joins_claims made back (claims_view c.args.trial.now.root) (claims_view c.args.pass) (c.requires.pass.claims ∙ same) c.requires.trial.claims);
    }
