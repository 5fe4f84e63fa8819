use Rattle.std.proofs.Common.{◌≡◌, ◌∙◌, true, false, refl, sym}
use Rattle.cm_store.proofs.SweepEnds.{closed_acts, closed_idle}
use Rattle.cm_store.proofs.store.Store.sweep_close.Goals as goal

pub returns-in-Ok : goal.returns-in-Ok
returns-in-Ok g c = record {
  its = record { seats = c.in-Ok.ensures.its.seats; claims = c.in-Ok.ensures.its.claims };
  number = c.in-Ok.ensures.number;
  closes = closed_acts c.args.self.now.geo c.in-Some.sweep c.args.pass.now c.act_at.new.pass _ refl refl c.in-Some.is _ _ (λ v w y z l. l.0) c.in-Ok.ensures.acts;
  fuse = record { survives = c.in-Ok.ensures.fuse; killed = tt };
  dead = c.in-Ok.ensures.dead;
  resting = λ lives. record {
    live = lives;
    idle = closed_idle c.args.self.now.geo c.in-Some.sweep c.args.pass.now c.act_at.new.pass c.act_at.new.pass refl refl c.in-Some.is _ (λ v w y z l. l.0.ends) c.in-Ok.ensures.acts
        c.requires.may.segment c.requires.may.prefix c.requires.may.in_sweep;
    no_sweep = refl;
  };
  sweep = λ is. absurd (let clash : true ≡ false = sym is ∙ c.in-Ok.ensures.dead in cc clash);
}
