use Rattle.std.proofs.Common.{ℕ, ap, ◌∙◌}
use Rattle.cm_geo.specs.Hash.{hash_byte}
use Rattle.cm_entry.proofs.ZeroBytes.{then_two}
use Rattle.cm_entry.proofs.hashing.hash_length.Goals as goal

pub returns-then-fourth-eq0 : goal.returns-then-fourth-eq0
returns-then-fourth-eq0 c =
    then_two _ c.hash_byte-state.result c.args.third c.args.fourth (c.hash_byte-state.ensures ∙ ap (λ (s : ℕ). hash_byte s c.args.second) c.hash_byte.ensures) c.if-third-eq0.true c.if-fourth-eq0.true
