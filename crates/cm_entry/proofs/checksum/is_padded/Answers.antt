use Rattle.std.proofs.Common.{◌≡◌, ◌==◌, ◌%◌, false, ne_eqb, refl}
use Rattle.std.specs.Int.{to_le_bytes, w64}
use Rattle.cm_entry.proofs.SpanHashes.{rest_zero}
use Rattle.cm_entry.proofs.checksum.is_padded.Goals as goal

pub returns-else-count-eq0 : goal.returns-else-count-eq0
returns-else-count-eq0 c =
    let t : (c.args.len % 8 == 0) ≡ false = ne_eqb (c.args.len % 8) 0 c.if-count-eq0.false in
    rw t (rest_zero c.are_zero.result (c.args.len % 8) _ (to_le_bytes w64 c.args.last) c.to_le_bytes.ensures refl c.are_zero.ensures)
