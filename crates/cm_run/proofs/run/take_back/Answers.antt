use Rattle.std.proofs.Common.{◌∙◌, ◌||◌, Bool, sym, ap}
use Rattle.cm_script.specs.declared.report.CallerEnd.{CallerEnd}
use Rattle.std.proofs.Common.{Option}
use Rattle.cm_run.specs.Gathered.{with_end}
use Rattle.cm_run.proofs.Roots.{pass_length}
use Rattle.cm_run.proofs.Taking.{gates_back, taken_back}
use Rattle.cm_run.proofs.run.take_back.Goals as goal

pub returns-clause-gates : goal.returns-clause-gates
returns-clause-gates g c =
    gates_back c.args.caller.number (g.G.GateMaker.seen c.args.gates.now) (g.G.GateMaker.seen c.back.new.self) (g.G.Gate.Fuse.fused c.join.result)
    (ap (λ f. (g.G.Gate.Fuse.fused f).deaths) c.join.ensures.fuse ∙ c.requires.performed.stands.safe.alive) c.back.ensures

pub returns-clause-gathers : goal.returns-clause-gathers
returns-clause-gathers g c =
    taken_back g.G.Gate.Fuse.fused c.args.store.now c.args.script.now c.args.caller c.args.all.now _ c.args.root.now c.join.new.root
    c.requires.performed c.requires.gathers
    (pass_length c.args.store.now c.args.caller.pass c.requires.performed.stands.its ∙ sym (pass_length c.args.store.now c.args.root.now c.requires.root.its))
    c.join.ensures.root_views c.join.ensures.root_claims (ap (λ (b : Bool). c.args.all.now.starved || b) c.is_starved.ensures) c.in_ok-append.ensures.items
    (c.in_ok-push_end.ensures ∙ ap (λ (e : Option CallerEnd). with_end c.args.all.now.ends.items e) c.end-end.ensures) c.requires.asks
