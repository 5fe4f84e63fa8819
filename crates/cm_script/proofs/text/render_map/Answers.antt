use Rattle.std.proofs.Common.{◌∙◌, sym}
use Rattle.std.proofs.lemmas.Result.{IfOk-weaker}
use Rattle.cm_script.proofs.MappedErrors.{IfOk-map_err}
use Rattle.cm_script.proofs.text.render_map.Goals as goal

pub returns : goal.returns
returns c =
    let from = c.from_writer-writer.ensures in
    let pairs = simp (from.wtr, from.empty, c.new-2.ensures.items) at c.in_ok-write_all.ensures.text in
    IfOk-map_err c.into_inner.result c.map_err.result _ _ c.map_err.ensures.cases c.map_err.ensures.variant
    (IfOk-weaker c.into_inner.result _ _ (λ text same. same ∙ pairs) c.into_inner.ensures.ok)
