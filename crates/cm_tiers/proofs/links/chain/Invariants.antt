-- The links were followed as far as the places that were found.
use Rattle.std.proofs.Common.{◌≡◌, ◌+◌}
use Rattle.cm_words.specs.Calls.{HasLoaded}
use Rattle.cm_tiers.proofs.Following.{Followed}
use Rattle.cm_tiers.proofs.links.chain.Given as goal

abbrev pub invariant-loop-len : goal.invariant-loop-len
invariant-loop-len g l = record {
  tiers_are : l.tiers ≡ l.geo.tiers;
  loaded : HasLoaded g.M.Mem.seen g.M.Mem.same_rest l.initial.mem l.mem;
  events : (g.M.Mem.seen l.mem).meter.events + 1 ≡ (g.M.Mem.seen l.initial.mem).meter.events + l.len;
  followed : Followed (g.M.Mem.seen l.mem) l.geo l.places l.len l.place;
}
