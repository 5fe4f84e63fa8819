-- The product is taken in 64 bits before the sum is.
use Rattle.std.proofs.Math.Nat.{mod-add-mod}
use Rattle.cm_make.specs.Generated.{next_number}
use Rattle.cm_make.proofs.generator.next_number.Goals as goal

pub returns : goal.returns
unfolding next_number
returns c = mod-add-mod _ _ _
