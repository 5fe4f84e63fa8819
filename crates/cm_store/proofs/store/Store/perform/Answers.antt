use Rattle.std.proofs.Common.{All, List, ◌∙◌, subst, sym}
use Rattle.std.proofs.lemmas.List.Elements.{All-set}
use Rattle.cm_lock.specs.declared.view.View.{View}
use Rattle.cm_store.specs.Passes.{claims_view, views_of}
use Rattle.cm_turn.specs.Records.{IsIdle}
use Rattle.cm_store.proofs.Seats.{idle_by}
use Rattle.cm_store.proofs.store.Store.perform.Goals as goal

pub returns-clause-resting : goal.returns-clause-resting
returns-clause-resting g c lives =
    let acts = c.act_at-ended.ensures.acts in
    let idle = idle_by (g.C.OperationCall.refused c.args.call.now) c.args.segment c.args.self.now.geo.extra (g.C.OperationCall.op c.args.call.now) c.act_at-ended.new.out acts.was acts.then
    (claims_view c.args.pass.now) (claims_view c.act_at-ended.new.pass) c.act_at-ended.result (sym c.act_at-ended.ensures.dead ∙ lives) acts.acts.0 in
    record {
      live = lives;
      idle = subst (λ (vs : List View). All IsIdle vs) (sym acts.others) (All-set IsIdle (views_of c.args.pass.now) c.args.segment acts.then idle c.requires.resting.idle);
      no_sweep = c.act_at-ended.ensures.sweep ∙ c.requires.resting.no_sweep;
    }
