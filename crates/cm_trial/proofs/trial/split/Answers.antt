use Rattle.std.proofs.Common.{◌≡◌, ◌+◌, ◌∙◌, ℕ, List, All, is_some, true≢false, sym, ap, subst}
use Rattle.cm_lock.specs.declared.view.View.{View}
use Rattle.cm_yard.specs.declared.view.View.{View as YardView}
use Rattle.cm_store.specs.Passes.{claims_view, views_of}
use Rattle.cm_turn.specs.Records.{IsIdle}
use Rattle.cm_trial.specs.Trials.{HasMadeSeats, HasMadeClaimers}
use Rattle.cm_trial.proofs.Trials.{never_claimed, never_made, new_idle, new_numbers, splits_claims, splits_made}
use Rattle.cm_trial.proofs.trial.split.Goals as goal

pub split-requires-clause-never : goal.split-requires-clause-never
split-requires-clause-never g c = record {
  seats = never_made c.args.trial.now.made c.args.trial.now.back (views_of c.args.trial.now.root) c.requires.trial.seats;
  claims = never_claimed c.args.trial.now.made c.args.trial.now.back (claims_view c.args.trial.now.root) c.requires.trial.claims;
}

pub returns-clause-trial : goal.returns-clause-trial
returns-clause-trial g c =
    let made = c.args.trial.now.made in
    let back = c.args.trial.now.back in
    record {
      its = c.in_ok-pass.ensures.its;
      root_is = c.in_ok-pass.ensures.root;
      live = c.in_ok-pass.ensures.root_live;
      no_sweep = c.in_ok-pass.ensures.root_sweep ∙ c.requires.trial.no_sweep;
      seats = subst (λ (vs : List View). All (HasMadeSeats (made + 1) back) vs) (sym c.in_ok-pass.ensures.root_views) (splits_made made back (views_of c.args.trial.now.root) c.requires.trial.seats);
      claims = subst (HasMadeClaimers (made + 1) back) (sym c.in_ok-pass.ensures.root_claims) (splits_claims made back (claims_view c.args.trial.now.root) c.requires.trial.claims);
    }

pub returns-clause-pass : goal.returns-clause-pass
returns-clause-pass g c =
    let made = c.args.trial.now.made in
    let views = views_of c.args.trial.now.root in
    let p = c.in_ok-pass.ensures in
    record {
      its = p.made_its;
      seats = subst (λ (n : ℕ). All (λ (v : View). v.own.number ≡ n) (views_of c.in_ok-pass.pass)) (sym p.made_number)
          (subst (λ (vs : List View). All (λ (v : View). v.own.number ≡ made) vs) (sym p.made_views) (new_numbers made views));
      claims = ap (λ (y : YardView). y.number) p.made_claims ∙ sym p.made_number;
      resting = λ lives none. record {
        live = p.made_live;
        idle = subst (λ (vs : List View). All IsIdle vs) (sym p.made_views) (new_idle made views);
        no_sweep = p.made_no_sweep;
      };
      stepping = λ lives some. absurd (true≢false (sym some ∙ ap is_some p.made_no_sweep));
    }
