use Rattle.cm_segment.proofs.PhaseSequences.{begun, failed_on, gone_on, gone_to_end}
use Rattle.cm_segment.proofs.ReplacementStages.{replaced_is_after}
use Rattle.cm_segment.proofs.replacing.replace.Goals as goal

pub returns-in_err-rewrite : goal.returns-in_err-rewrite
returns-in_err-rewrite g c =
    failed_on g.met.M.Mem.rest_transitive c.from_residual-in_err-rewrite.ensures.0 (begun c.in_ok-extend.ensures) c.in_err-rewrite.ensures

pub returns : goal.returns
returns g c =
    let rewritten = gone_on g.met.M.Mem.rest_transitive (begun c.in_ok-extend.ensures) c.in_ok-rewrite.ensures in
    gone_to_end g.met.M.Mem.rest_transitive rewritten c.shrink.ensures (replaced_is_after c.requires.replacement)
