-- The shift divides by the segments, and the mask takes the lowest 32 bits of the quotient.
use Rattle.std.proofs.Common.{◌/◌}
use Rattle.std.proofs.lemmas.Nat.{and_mask}
use Rattle.cm_geo.proofs.Powers.{shift_of_segments}
use Rattle.cm_geo.proofs.geo.Geo.fingerprint_of.Goals as goal

pub returns : goal.returns
returns c =
    let geo = c.args.self.now in
    rw (shift_of_segments c.args.hash geo.segments geo.segments_fit, c.from.ensures) (and_mask (c.args.hash / geo.segments) 32)
