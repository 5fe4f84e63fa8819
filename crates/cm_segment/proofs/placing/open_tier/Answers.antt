use Rattle.std.proofs.Common.{arith, ◌≡◌, length}
use Rattle.cm_plain.specs.Plans.{plan_change}
use Rattle.cm_segment.specs.PlacementBase.{FromBase}
use Rattle.cm_segment.specs.Phases.{IsUntouched}
use Rattle.cm_segment.proofs.Linking.{chain_advances, last_inside, last_is, link_advances, may_link, unlinked_leads}
use Rattle.cm_segment.proofs.PhaseSequences.{begun, failed_first, goes_on}
use Rattle.cm_segment.proofs.Phases.{advances_none, phase_weaker, readable_in}
use Rattle.cm_segment.proofs.placing.open_tier.Goals as goal

pub returns-then-not-plan : goal.returns-then-not-plan
returns-then-not-plan g c =
    let geo = c.args.geo.now in
    let change = plan_change c.args.plan.now in
    advances_none g.M.Mem.seen g.M.Mem.same_rest geo change (FromBase geo change c.args.run IsUntouched) _ _ (g.met.M.Mem.rest_reflexive _)
    (phase_weaker (g.M.Mem.seen c.args.mem.now) geo change IsUntouched (FromBase geo change c.args.run IsUntouched) c.requires.at
    (unlinked_leads geo (g.M.Mem.seen c.args.mem.now).setting.segment change c.args.run c.if-not-plan.true))

pub chain-requires : goal.chain-requires
chain-requires g c = record { readable = readable_in (g.M.Mem.seen c.args.mem.now) c.args.geo.now c.requires.at.writable }

pub returns-in_err-chain : goal.returns-in_err-chain
returns-in_err-chain g c = failed_first c.from_residual.ensures.0 (chain_advances c.requires.at c.in_err-chain.ensures.loads)

pub link-requires-clause-writable : goal.link-requires-clause-writable
link-requires-clause-writable g c = (chain_advances c.requires.at c.in_ok-chain.ensures.loads).done.here.writable

pub link-requires-clause-last : goal.link-requires-clause-last
link-requires-clause-last g c =
    (let eight : length c.in_ok-chain.chain.places ≡ 8 = omega arith in last_inside c.args.geo.now c.in_ok-chain.chain eight c.in_ok-chain.ensures.read)

pub link-requires-clause-allowed : goal.link-requires-clause-allowed
link-requires-clause-allowed g c =
    let eight : length c.in_ok-chain.chain.places ≡ 8 = omega arith in
    let read = chain_advances c.requires.at c.in_ok-chain.ensures.loads in
    may_link (g.M.Mem.seen c.chain.new.mem) c.args.geo.now (plan_change c.args.plan.now) c.args.run _ c.requires.places c.if-not-plan.false
    (last_is (g.M.Mem.seen c.chain.new.mem) c.args.geo.now (plan_change c.args.plan.now) c.in_ok-chain.chain read.done.here eight c.in_ok-chain.ensures.read
    c.in_ok-chain.ensures.linked)

pub returns : goal.returns
returns g c =
    let eight : length c.in_ok-chain.chain.places ≡ 8 = omega arith in
    let read = chain_advances c.requires.at c.in_ok-chain.ensures.loads in
    let at = last_is (g.M.Mem.seen c.chain.new.mem) c.args.geo.now
    (plan_change c.args.plan.now) c.in_ok-chain.chain read.done.here eight c.in_ok-chain.ensures.read c.in_ok-chain.ensures.linked in
    goes_on g.met.M.Mem.rest_transitive (begun read) (link_advances c.args.run c.if-not-plan.false at c.link.ensures)
