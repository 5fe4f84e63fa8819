use Rattle.std.proofs.Common.{◌≡◌, []}
use Rattle.cm_plain.specs.declared.op.Op.TheVariants as operation
use Rattle.cm_caller.proofs.Trying.{called_tries}
use Rattle.cm_caller.proofs.tried.write.Goals as goal

pub returns-in-Put-clause-tries : goal.returns-in-Put-clause-tries
returns-in-Put-clause-tries g c =
    let same : operation.Put c.as_slice.result.now c.as_slice-in-Put.result.now ≡ c.args.op.now = cc in
    called_tries g.F.Fuse.fused c.args.store.now _ c.args.op.now (operation.Put c.as_slice.result.now c.as_slice-in-Put.result.now) []
    c.args.pass.now c.put-ended.new.pass same c.requires.safe c.put-ended.result c.told.result
    c.put-ended.ensures.called c.told.ensures

pub returns-in-PutIfAbsent-clause-tries : goal.returns-in-PutIfAbsent-clause-tries
returns-in-PutIfAbsent-clause-tries g c =
    let same : operation.PutIfAbsent c.as_slice-in-PutIfAbsent.result.now c.as_slice-in-PutIfAbsent-2.result.now ≡ c.args.op.now = cc in
    called_tries g.F.Fuse.fused c.args.store.now _ c.args.op.now (operation.PutIfAbsent c.as_slice-in-PutIfAbsent.result.now c.as_slice-in-PutIfAbsent-2.result.now) c.put_if_absent-ended.new.out
    c.args.pass.now c.put_if_absent-ended.new.pass same c.requires.safe c.put_if_absent-ended.result c.told-in-PutIfAbsent.result
    c.put_if_absent-ended.ensures.called c.told-in-PutIfAbsent.ensures

pub returns-in-Replace-clause-tries : goal.returns-in-Replace-clause-tries
returns-in-Replace-clause-tries g c =
    let same : operation.Replace c.as_slice-in-Replace.result.now c.as_slice-in-Replace-2.result.now ≡ c.args.op.now = cc in
    called_tries g.F.Fuse.fused c.args.store.now _ c.args.op.now (operation.Replace c.as_slice-in-Replace.result.now c.as_slice-in-Replace-2.result.now) []
    c.args.pass.now c.replace-ended.new.pass same c.requires.safe c.replace-ended.result c.told-in-Replace.result
    c.replace-ended.ensures.called c.told-in-Replace.ensures

pub returns-in-ReplaceIf-clause-tries : goal.returns-in-ReplaceIf-clause-tries
returns-in-ReplaceIf-clause-tries g c =
    let same : operation.ReplaceIf c.as_slice-key.result.now c.as_slice-expected.result.now c.as_slice-value.result.now ≡ c.args.op.now = cc in
    called_tries g.F.Fuse.fused c.args.store.now _ c.args.op.now (operation.ReplaceIf c.as_slice-key.result.now c.as_slice-expected.result.now c.as_slice-value.result.now) []
    c.args.pass.now c.replace_if-ended.new.pass same c.requires.safe c.replace_if-ended.result c.told-in-ReplaceIf.result
    c.replace_if-ended.ensures.called c.told-in-ReplaceIf.ensures
