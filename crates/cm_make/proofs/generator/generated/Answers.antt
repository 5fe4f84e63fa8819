-- One record more is made, and all have been.
use Rattle.std.proofs.Common.{arith}
use Rattle.cm_make.specs.Generated.{numbers}
use Rattle.cm_make.proofs.MadeLines.{all_made, more_made}
use Rattle.cm_make.proofs.FitLines.{lines_fit}
use Rattle.cm_make.proofs.generator.generated.Goals as goal

pub loop-i-preserved : goal.loop-i-preserved
loop-i-preserved c = record {
  many = omega (arith, c.in_ok-push.ensures.len);
  lines = rw c.next_number-number.ensures (more_made c.args.records c.loop-i.i c.loop-i.number c.loop-i.lines.items _ _ c.loop-i-test.true (let made = rw c.next_number-number.ensures at c.in_ok-line_of.ensures in cc (made, c.in_ok-push.ensures.items)) c.loop-i.invariant.lines);
}

pub returns-clause-lines : goal.returns-clause-lines
returns-clause-lines c =
    let all = all_made c.args.records c.loop-i.i c.loop-i.number c.loop-i.lines.items _ (omega arith) c.loop-i.invariant.lines in
    cc

pub returns-clause-for_geo : goal.returns-clause-for_geo
returns-clause-for_geo c =
    let all = all_made c.args.records c.loop-i.i c.loop-i.number c.loop-i.lines.items _ (omega arith) c.loop-i.invariant.lines in
    rw (c.from_vec.ensures, all) (lines_fit c.args.geo.now 0 (numbers c.args.records c.args.seed))
