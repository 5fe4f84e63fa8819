use Rattle.cm_script.specs.Rows.{records_of}
use Rattle.cm_script.proofs.LineLimits.{lines_kept}
use Rattle.cm_script.proofs.read.read_script.Goals as goal

pub returns-clause-for_geo : goal.returns-clause-for_geo
returns-clause-for_geo c = rw c.from_vec.ensures (lines_kept c.args.geo.now 1 0 (records_of c.args.bytes.now) c.in_ok-lines.lines.items c.in_ok-lines.ensures.ok)
