-- One link more was followed, or the chain ends at it.
use Rattle.std.proofs.Common.{arith, ◌∙◌, sym}
use Rattle.cm_geo.proofs.Ranges.{tiers_range}
use Rattle.cm_words.proofs.CallSequences.{loaded_more, loaded_none, loads_more_err, loads_more_ok}
use Rattle.cm_tiers.proofs.Following.{followed_none, follows_on, found_cut, found_end, has_room}
use Rattle.cm_tiers.proofs.links.chain.Goals as goal

pub loop-len-init : goal.loop-len-init
loop-len-init g c = record {
  loaded = loaded_none g.M.Mem.seen g.M.Mem.same_rest c.args.mem.now (g.met.M.Mem.rest_reflexive _);
  events = omega arith;
  tiers_are = c.tiers-tiers.ensures;
  followed = followed_none (g.M.Mem.seen c.args.mem.now) c.args.geo.now;
}

pub returns-then-link-eq0-clause-linked : goal.returns-then-link-eq0-clause-linked
returns-then-link-eq0-clause-linked g c =
    found_end (g.M.Mem.seen c.loop-len.mem) (g.M.Mem.seen c.load.new.self) c.args.geo.now c.loop-len.places c.loop-len.len c.loop-len.place c.tier_at.result c.in_ok-link.link
    c.loop-len.invariant.followed c.in_ok-link.ensures.loads.call.done c.tier_at.ensures.value c.in_ok-link.ensures.word c.if-link-eq0.true

pub returns-then-leads_nowhere-clause-linked : goal.returns-then-leads_nowhere-clause-linked
returns-then-leads_nowhere-clause-linked g c =
    found_cut (g.M.Mem.seen c.loop-len.mem) (g.M.Mem.seen c.load.new.self) c.args.geo.now c.loop-len.places c.loop-len.len c.loop-len.place c.tier_at.result c.in_ok-link.link
    c.loop-len.invariant.followed c.in_ok-link.ensures.loads.call.done c.tier_at.ensures.value c.in_ok-link.ensures.word c.if-link-eq0.false (sym c.leads_nowhere.ensures ∙ c.if-leads_nowhere.true)

pub bounds-places-len : goal.bounds-places-len
bounds-places-len g c =
    let room = has_room c.args.geo.now c.loop-len.places c.loop-len.len c.in_ok-link.link c.loop-len.invariant.followed.found (sym c.leads_nowhere.ensures ∙ c.if-leads_nowhere.false) in
    omega (arith, room, (tiers_range c.args.geo.now).1)

pub loop-len-preserved : goal.loop-len-preserved
loop-len-preserved g c = record {
  loaded = loaded_more g.M.Mem.seen g.M.Mem.same_rest _ c.loop-len.mem _ _ (g.met.M.Mem.rest_transitive _ _ _) c.loop-len.invariant.loaded c.in_ok-link.ensures.loads;
  events = omega (arith, c.loop-len.invariant.events, c.in_ok-link.ensures.loads.event.events);
  tiers_are = c.tiers-tiers.ensures;
  followed = follows_on (g.M.Mem.seen c.loop-len.mem) (g.M.Mem.seen c.load.new.self) c.args.geo.now c.loop-len.places c.loop-len.len c.loop-len.place c.tier_at.result c.in_ok-link.link
      c.loop-len.invariant.followed c.in_ok-link.ensures.loads.call.done c.tier_at.ensures.value c.in_ok-link.ensures.word c.if-link-eq0.false (sym c.leads_nowhere.ensures ∙ c.if-leads_nowhere.false);
}

pub returns-in_err-link-clause-loads : goal.returns-in_err-link-clause-loads
returns-in_err-link-clause-loads g c =
    loads_more_err g.M.Mem.seen g.M.Mem.same_rest _ c.loop-len.mem _ _ c.from_residual.result c.from_residual.ensures.0 (g.met.M.Mem.rest_transitive _ _ _) c.loop-len.invariant.loaded c.in_err-link.ensures.loads

pub returns-then-link-eq0-clause-loads : goal.returns-then-link-eq0-clause-loads
returns-then-link-eq0-clause-loads g c = loads_more_ok g.M.Mem.seen g.M.Mem.same_rest _ c.loop-len.mem _ _ _ (g.met.M.Mem.rest_transitive _ _ _) c.loop-len.invariant.loaded c.in_ok-link.ensures.loads

pub returns-then-leads_nowhere-clause-loads : goal.returns-then-leads_nowhere-clause-loads
returns-then-leads_nowhere-clause-loads g c = loads_more_ok g.M.Mem.seen g.M.Mem.same_rest _ c.loop-len.mem _ _ _ (g.met.M.Mem.rest_transitive _ _ _) c.loop-len.invariant.loaded c.in_ok-link.ensures.loads
