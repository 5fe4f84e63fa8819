use Rattle.std.proofs.Common.{rules}
use Rattle.cm_image.proofs.Headers.{header-put}
use Rattle.cm_image.proofs.header.header_of.Goals as goal

pub returns : goal.returns
returns c = header-put c.args.geo.now c.copy_from_slice.new.self c.write_u32_into.new.dst (search rules) (search rules)
