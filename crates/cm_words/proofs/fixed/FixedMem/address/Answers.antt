use Rattle.std.proofs.Common.{arith}
use Rattle.cm_words.proofs.MapPlaces.{place_inside}
use Rattle.cm_words.proofs.fixed.FixedMem.address.Goals as goal

pub overflow_add-result : goal.overflow_add-result
overflow_add-result c =
    let m = c.args.self.now in
    let inside = place_inside m.words.now.geo m.segment m.start c.args.at m.here m.starts c.requires in
    omega (arith, inside.0, inside.1)

pub returns-clause-in_range : goal.returns-clause-in_range
returns-clause-in_range c =
    let m = c.args.self.now in
    let inside = place_inside m.words.now.geo m.segment m.start c.args.at m.here m.starts c.requires in
    inside.0
