-- The first word is the first with its law.
use Rattle.std.proofs.Common.{ℕ, map, Result, ap, subst}
use Rattle.cm_check.specs.Findings.{Begins, NamesFirst}
use Rattle.cm_check.specs.LawOrder.{broken_at}
use Rattle.cm_check.proofs.laws.named.Goals as goal

pub returns-in-Err : goal.returns-in-Err
returns-in-Err c = λ words names.
    let begins : Begins words c.in-Err.word = subst (λ (r : Result (Unit {0}) ℕ). NamesFirst words r) c.in-Err.is names in
    (map (broken_at c.args.segment c.args.law) begins.0, ap (map (broken_at c.args.segment c.args.law)) begins.1)
