use Rattle.std.proofs.Common.{arith}
use Rattle.cm_segment.proofs.ReplacementStages.{may_rewrite, rewrite_advances}
use Rattle.cm_segment.proofs.replacing.rewrite.Goals as goal

pub write_value-requires-clause-allowed : goal.write_value-requires-clause-allowed
write_value-requires-clause-allowed g c =
    may_rewrite c.requires.replacement c.args.value.now (λ i. omega (arith, c.type_inv.value i)) c.requires.value c.requires.at

pub returns : goal.returns
returns g c = rewrite_advances c.requires.replacement c.args.value.now
    (λ i. omega (arith, c.type_inv.value i)) c.requires.value c.requires.at c.write_value.ensures
