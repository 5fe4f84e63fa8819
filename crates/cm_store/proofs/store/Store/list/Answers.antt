use Rattle.std.proofs.Common.{◌≡◌, ◌∙◌, OnOk, refl, sym, ap, subst}
use Rattle.cm_turn.specs.Calls.{ReportsStop}
use Rattle.cm_turn.specs.SeatLists.{LeavesListing}
use Rattle.cm_turn.specs.Looks.{TakesOnce}
use Rattle.cm_store.specs.Passes.{ActsAt, AlsoAt, is_died, pass_meter}
use Rattle.cm_store.proofs.ListCalls.{resting_listed}
use Rattle.cm_store.proofs.SweepEnds.{acts_with}
use Rattle.cm_store.proofs.store.Store.list.Goals as goal

pub returns : goal.returns
returns g c =
    let old = c.args.pass.now in
    let now = c.act_at-ended.new.pass in
    let back = sym c.listed_at.ensures.listing in
    let act = c.act_at-ended.ensures in
    let lists = acts_with _ c.args.segment old now act.acts (λ was then before later. LeavesListing c.args.tries c.args.segment was then c.act_at-ended.result × (later ≡ before)) now refl refl (λ v w y z l. (l.0, l.1)) in
    record {
      its = act.its;
      number = act.number;
      sweep = act.sweep;
      lists = subst (λ r. ActsAt (λ was then before later. LeavesListing c.args.tries c.args.segment was then r × (later ≡ before)) c.args.segment old now) back lists;
      looks = subst (λ r. AlsoAt (λ was then. OnOk r (TakesOnce c.args.tries was then)) c.args.segment old now) back
          (acts_with _ c.args.segment old now act.acts _ now refl refl (λ v w y z l. l.2));
      fuse = subst (λ r. ReportsStop (pass_meter g.F.Fuse.fused old) (pass_meter g.F.Fuse.fused now) r) back act.fuse;
      resting = resting_listed c.args.tries c.args.segment old now c.act_at-ended.result lists act.dead act.sweep c.requires.may.resting;
      dead = act.dead ∙ ap is_died back;
      spot = c.listed_at.ensures.spot;
    }
