use Rattle.std.proofs.lemmas.List.{take_rest}
use Rattle.cm_image.specs.Refusals.{number_at}
use Rattle.cm_image.proofs.header.number_at.Goals as goal

pub returns : goal.returns
unfolding number_at
returns c = rw take_rest at c.read_u32.ensures
