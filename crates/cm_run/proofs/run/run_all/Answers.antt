use Rattle.std.proofs.Common.{get_or, subst}
use Rattle.cm_caller.specs.declared.caller.Caller.{Caller}
use Rattle.cm_caller.specs.Records.{Performs}
use Rattle.cm_run.proofs.Ready.{have_performed}
use Rattle.cm_run.proofs.run.run_all.Goals as goal

pub returns : goal.returns
returns g c =
    have_performed g.F.Fuse.fused c.args.store.now c.args.script.now c.args.callers.now c.for_each_mut.new.s c.for_each_mut.auto.s
    (λ i d below. let change = (c.for_each_mut.ensures i d below).1 in
    subst (λ (x : Caller _). Performs g.F.Fuse.fused c.args.store.now c.args.script.now x (get_or c.for_each_mut.new.s i d)) change.argument_is
    (subst (λ (y : Caller _). Performs g.F.Fuse.fused c.args.store.now c.args.script.now change.argument.now y) change.left change.call))
