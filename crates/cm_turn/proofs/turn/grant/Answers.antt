use Rattle.std.proofs.Common.{subst}
use Rattle.cm_geo.specs.declared.geo.Geo.{Geo}
use Rattle.cm_yard.specs.Claims.{FindsOwned}
use Rattle.cm_yard.specs.Yards.{view_of as yard_view_of}
use Rattle.cm_turn.proofs.Claiming.{spent_granted}
use Rattle.cm_turn.proofs.turn.grant.Goals as goal

pub returns-in_default-clause-grants : goal.returns-in_default-clause-grants
returns-in_default-clause-grants g c =
    let found = rw c.in_default.is at c.in_ok-claim.ensures.claims in
    rw c.if-not-wanted.false (spent_granted c.args.ground.now.segment c.args.ground.now.geo.now.extra (yard_view_of c.args.claims.now) (yard_view_of c.claim.new.seat) c.in_ok-claim.ensures.only
    (subst (λ (geo : Geo). FindsOwned (yard_view_of c.args.claims.now) (yard_view_of c.claim.new.seat) geo.extra) c.requires.ground.yard_geo found))
