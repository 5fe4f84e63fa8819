-- Cause by cause.
use Rattle.std.proofs.Common.{refl}
use Rattle.cm_script.proofs.text.drops_of.Goals as goal

pub returns : goal.returns
returns c =
    rw (
      c.drop_for.ensures,
      c.drop_for-2.ensures,
      c.drop_for-3.ensures,
      c.drop_for-4.ensures,
      c.drop_for-5.ensures,
      c.drop_for-6.ensures,
      c.drop_for-7.ensures,
      c.drop_for-8.ensures,
      c.drop_for-9.ensures,
    ) refl
