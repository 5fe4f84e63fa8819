use Rattle.std.proofs.Common.{◌≡◌, ◌∙◌, true, false, refl, sym, Ok, Err}
use Rattle.cm_turn.specs.declared.answer.Done.{Done}
use Rattle.cm_lock.specs.declared.view.Level.TheVariants.{Update, Write}
use Rattle.cm_turn.specs.declared.sweeping.Stepped.{Stepped}
use Rattle.cm_turn.specs.Calls.{IsRefused, Leaves}
use Rattle.cm_turn.specs.Records.{Holds}
use Rattle.cm_store.specs.Passes.{settled_of}
use Rattle.cm_store.specs.Sweeps.{sweep_op}
use Rattle.cm_store.proofs.SweepEnds.{acts_with, closed_acts, died_stop, reports_stop, stepped_acts, stepped_spot, stepped_stays}
use Rattle.cm_store.proofs.store.Store.sweep_step.Goals as goal

pub returns-in-Ok-clause-stepped : goal.returns-in-Ok-clause-stepped
returns-in-Ok-clause-stepped g c =
    let geo = c.args.self.now.geo in
    let done : Done = record {
      spot = record { segment = c.in-Some.sweep.segment; number = c.in-Ok.field-0.settled.number };
      answer = c.in-Ok.field-0.settled.answer;
    } in
    let acts = acts_with _ c.in-Some.sweep.segment c.args.pass.now c.act_at.new.pass c.in-Ok.ensures.acts
    (λ was then before later. Leaves (Holds Update) (IsRefused Update Write c.args.tries) c.in-Some.sweep.segment geo.extra (sweep_op c.in-Some.sweep) c.act_at.new.out was then before later
    (settled_of (Ok done))) c.act_at.new.pass refl refl (λ v w y z l. l.0) in
    record {
      its = record { seats = c.in-Ok.ensures.its.seats; claims = c.in-Ok.ensures.its.claims };
      number = c.in-Ok.ensures.number;
      steps = stepped_acts geo c.args.tries geo.extra c.in-Some.sweep c.act_at.new.out (Ok done) c.args.pass.now c.act_at.new.pass _ refl refl c.in-Some.is
          acts;
      looks = closed_acts geo c.in-Some.sweep c.args.pass.now c.act_at.new.pass _ refl refl c.in-Some.is _ _ (λ v w y z l. l.1) c.in-Ok.ensures.acts;
      fuse = c.in-Ok.ensures.fuse;
      dead = c.in-Ok.ensures.dead;
      stays = stepped_stays geo c.args.tries geo.extra c.in-Some.sweep c.act_at.new.out (Ok done) c.args.pass.now c.act_at.new.pass _ refl refl c.in-Some.is
          acts c.in-Ok.ensures.dead (λ lives. record { next = _; next_is = refl; same = refl; len = refl });
      sweep = λ is. absurd (let clash : true ≡ false = sym is ∙ c.in-Ok.ensures.dead in cc clash);
      spot = stepped_spot geo c.args.tries geo.extra c.in-Some.sweep c.act_at.new.out (Ok done) c.args.pass.now c.act_at.new.pass c.act_at.new.pass refl refl c.in-Some.is
          acts refl;
    }

pub returns-in-Err-clause-stepped : goal.returns-in-Err-clause-stepped
returns-in-Err-clause-stepped g c =
    let geo = c.args.self.now.geo in
    let stop = c.in-Err.stop in
    let dead = c.in-Err.ensures.dead ∙ died_stop Stepped Done stop in
    let acts = acts_with _ c.in-Some.sweep.segment c.args.pass.now c.act_at.new.pass c.in-Err.ensures.acts
    (λ was then before later. Leaves (Holds Update) (IsRefused Update Write c.args.tries) c.in-Some.sweep.segment geo.extra (sweep_op c.in-Some.sweep) c.act_at.new.out was then before later
    (settled_of (Err stop))) c.act_at.new.pass refl refl (λ v w y z l. l.0) in
    record {
      its = c.in-Err.ensures.its;
      number = c.in-Err.ensures.number;
      steps = stepped_acts geo c.args.tries geo.extra c.in-Some.sweep c.act_at.new.out (Err stop) c.args.pass.now c.act_at.new.pass c.act_at.new.pass refl refl c.in-Some.is
          acts;
      looks = closed_acts geo c.in-Some.sweep c.args.pass.now c.act_at.new.pass c.act_at.new.pass refl refl c.in-Some.is _ _ (λ v w y z l. l.1) c.in-Err.ensures.acts;
      fuse = reports_stop Stepped Done _ _ stop c.in-Err.ensures.fuse;
      dead = dead;
      stays = stepped_stays geo c.args.tries geo.extra c.in-Some.sweep c.act_at.new.out (Err stop) c.args.pass.now c.act_at.new.pass c.act_at.new.pass refl refl c.in-Some.is
          acts dead (λ lives. record { next = c.in-Some.sweep; next_is = c.in-Err.ensures.sweep ∙ c.in-Some.is; same = refl; len = refl });
      sweep = λ is. c.in-Err.ensures.sweep;
      spot = λ segment prefix in_sweep. tt;
    }
