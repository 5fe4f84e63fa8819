use Rattle.std.proofs.Common.{◌-◌, ◌↔◌, IsTrue, List, ℕ, take, drop, length, arith, refl, subst}
use Rattle.cm_entry.specs.Prefixes.{Agree}
use Rattle.cm_entry.proofs.PrefixCopies.{agree_behind, rest_is, tells_agree, tells_agree_turned}
use Rattle.cm_entry.proofs.prefix.agree.Goals as goal

pub returns-then-prefix-from : goal.returns-then-prefix-from
returns-then-prefix-from c = (λ _. agree_behind c.args.bytes.now c.args.prefix.now c.args.from c.if-prefix-from.true, λ _. refl)

pub returns-then-rest-bytes : goal.returns-then-rest-bytes
returns-then-rest-bytes c =
    subst (λ (rest : List ℕ). IsTrue c.starts_with.result ↔ Agree c.args.bytes.now rest) (rest_is c.args.from c.args.prefix.now)
    (tells_agree (take (length c.args.prefix.now - c.args.from) (drop c.args.from c.args.prefix.now)) c.args.bytes.now c.starts_with.result c.if-rest-bytes.true c.starts_with.ensures.value)

pub returns-else-rest-bytes : goal.returns-else-rest-bytes
returns-else-rest-bytes c =
    subst (λ (rest : List ℕ). IsTrue c.starts_with-else-rest-bytes.result ↔ Agree c.args.bytes.now rest) (rest_is c.args.from c.args.prefix.now)
    (tells_agree_turned c.args.bytes.now (take (length c.args.prefix.now - c.args.from) (drop c.args.from c.args.prefix.now)) c.starts_with-else-rest-bytes.result (omega (arith, c.if-rest-bytes.false)) c.starts_with-else-rest-bytes.ensures.value)
