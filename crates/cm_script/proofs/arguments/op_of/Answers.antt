-- With one to three fields it is the operation of so many fields, and none has more.
use Rattle.std.specs.Prelude.{◌≤◌, List, ℕ, length, map}
use Rattle.std.proofs.Common.{Bor, arith}
use Rattle.std.proofs.lemmas.List.{length-map}
use Rattle.std.proofs.lemmas.Grind.{common_steps}
use Rattle.cm_script.proofs.Exits.{no_op}
use Rattle.cm_script.proofs.arguments.op_of.Goals as goal

pub returns-in-len1-clause-ok : goal.returns-in-len1-clause-ok
returns-in-len1-clause-ok c = let here = c.op_of_two.ensures.ok c.args.lists in grind (arith, common_steps)

pub returns-in-len1-clause-err : goal.returns-in-len1-clause-err
returns-in-len1-clause-err c = let here = c.op_of_two.ensures.err c.args.lists in grind (arith, common_steps)

pub returns-in-len2-clause-ok : goal.returns-in-len2-clause-ok
returns-in-len2-clause-ok c = let here = c.op_of_three.ensures.ok c.args.lists in grind (arith, common_steps)

pub returns-in-len2-clause-err : goal.returns-in-len2-clause-err
returns-in-len2-clause-err c = let here = c.op_of_three.ensures.err c.args.lists in grind (arith, common_steps)

pub returns-in_default-clause-err : goal.returns-in_default-clause-err
returns-in_default-clause-err c cause same =
    let later = map (λ (f : Bor (List ℕ)). f.now) c.args.later.now in
    let length_is : 3 ≤ length later = simp length-map (omega arith) in
    cc (no_op c.args.geo.now c.args.lists c.args.verb c.args.first.now later length_is, same)
