-- What the trait asks of those who store can't hold here, since this memory is never `Writable`.
use Rattle.std.proofs.Common.{◌≡◌}
use Rattle.cm_words.specs.declared.access.Access.TheVariants.{Readable, Writable}
use Rattle.cm_segment.proofs.peek_mem.PeekMemMem.TheImpl.Goals as goal

never_writable : Readable ≡ Writable → ⊥
never_writable h = cc

pub store-tells : goal.store-tells
store-tells g c = absurd (never_writable c.requires.writable)

pub begin-tells : goal.begin-tells
begin-tells g c = absurd (never_writable c.requires.writable)

pub finish-tells : goal.finish-tells
finish-tells g c = absurd (never_writable c.requires.writable)
