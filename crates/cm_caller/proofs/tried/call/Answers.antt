use Rattle.std.proofs.Common.{◌≡◌, [], sym}
use Rattle.cm_plain.specs.declared.op.Op.TheVariants as operation
use Rattle.cm_caller.proofs.Trying.{called_tries, listed_tries}
use Rattle.cm_caller.proofs.tried.call.Goals as goal

pub returns-in-Get-clause-tries : goal.returns-in-Get-clause-tries
returns-in-Get-clause-tries g c =
    let same : operation.Get c.as_slice.result.now ≡ c.args.op.now = cc in
    called_tries g.F.Fuse.fused c.args.store.now _ c.args.op.now (operation.Get c.as_slice.result.now) c.get_into-ended.new.out
    c.args.pass.now c.get_into-ended.new.pass same c.requires.safe c.get_into-ended.result c.told.result
    c.get_into-ended.ensures.called c.told.ensures

pub returns-in-Remove-clause-tries : goal.returns-in-Remove-clause-tries
returns-in-Remove-clause-tries g c =
    let same : operation.Remove c.as_slice-in-Remove.result.now ≡ c.args.op.now = cc in
    called_tries g.F.Fuse.fused c.args.store.now _ c.args.op.now (operation.Remove c.as_slice-in-Remove.result.now) []
    c.args.pass.now c.remove-ended.new.pass same c.requires.safe c.remove-ended.result c.told-in-Remove.result
    c.remove-ended.ensures.called c.told-in-Remove.ensures

pub returns-in-RemoveIf-clause-tries : goal.returns-in-RemoveIf-clause-tries
returns-in-RemoveIf-clause-tries g c =
    let same : operation.RemoveIf c.as_slice-in-RemoveIf.result.now c.as_slice-in-RemoveIf-2.result.now ≡ c.args.op.now = cc in
    called_tries g.F.Fuse.fused c.args.store.now _ c.args.op.now (operation.RemoveIf c.as_slice-in-RemoveIf.result.now c.as_slice-in-RemoveIf-2.result.now) []
    c.args.pass.now c.remove_if-ended.new.pass same c.requires.safe c.remove_if-ended.result c.told-in-RemoveIf.result
    c.remove_if-ended.ensures.called c.told-in-RemoveIf.ensures

pub returns-in-Count-clause-tries : goal.returns-in-Count-clause-tries
returns-in-Count-clause-tries g c =
    let same : operation.Count c.in-Count.segment ≡ c.args.op.now = cc in
    called_tries g.F.Fuse.fused c.args.store.now _ c.args.op.now (operation.Count c.in-Count.segment) []
    c.args.pass.now c.count.new.pass same c.requires.safe c.count.result c.told-in-Count.result
    c.count.ensures.called c.told-in-Count.ensures

pub returns-in-List-clause-tries : goal.returns-in-List-clause-tries
returns-in-List-clause-tries g c =
    listed_tries g.F.Fuse.fused c.args.store.now _ c.in-List.segment c.args.op.now c.args.pass.now c.list.new.pass (sym c.in-List.is) c.requires.safe c.list.result c.listed.result
    c.list.ensures c.listed.ensures
