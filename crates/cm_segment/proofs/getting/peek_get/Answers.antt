use Rattle.std.proofs.Common.{IfOk, ◌≡◌, ◌∙◌, ap, rules}
use Rattle.cm_segment.specs.Peeked.{IsPeeked}
use Rattle.cm_segment.proofs.PeekedValues.{peeked_by, peeks_more}
use Rattle.cm_segment.proofs.getting.peek_get.Goals as goal

pub returns-clause-loads : goal.returns-clause-loads
returns-clause-loads g c =
    let more = peeks_more g.P.Peek.seen g.P.Peek.same_rest c.new-mem.result c.get_from.new.mem c.get_from.result c.get_from.ensures.loads in
    search rules

pub returns-clause-found : goal.returns-clause-found
returns-clause-found g c =
    let more = peeks_more g.P.Peek.seen g.P.Peek.same_rest c.new-mem.result c.get_from.new.mem c.get_from.result c.get_from.ensures.loads in
    let geo : (g.P.Peek.seen c.get_from.new.mem.peek.now).geo ≡ c.args.geo.now = more.geo ∙ (ap (λ p. (g.P.Peek.seen p).geo) c.new-mem.ensures.peek ∙ c.requires.geo) in
    let found : IfOk c.get_from.result (IsPeeked (g.P.Peek.seen c.get_from.new.mem.peek.now) c.args.key.now c.get_from.new.out) =
    peeked_by (g.P.Peek.seen c.get_from.new.mem.peek.now) c.args.geo.now c.args.key.now c.get_from.new.out c.get_from.result geo c.get_from.ensures.found in
    search rules
