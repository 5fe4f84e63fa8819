-- Where no tier has room, all of them were found, and the next one is known.
use Rattle.std.proofs.Common.{◌≡◌, ◌∙◌, sym, Some, None}
use Rattle.cm_tiers.proofs.TiersFound.{long_enough}
use Rattle.cm_segment.proofs.FitSearch.{apart_new, apart_nowhere}
use Rattle.cm_segment.proofs.planning.room_apart.Goals as goal

pub returns-in-Some-lowest_unlinked-clause-room : goal.returns-in-Some-lowest_unlinked-clause-room
returns-in-Some-lowest_unlinked-clause-room g c = λ words state fits rests.
    apart_new c.args.geo.now (g.M.Mem.seen c.fit_along.new.mem).setting.segment words state c.fit_along.new.tiers.found c.args.chunks
    c.in-Some-lowest_unlinked.place rests (c.in_ok-spot.ensures.all c.in_default.is words fits)
    (long_enough (g.M.Mem.seen c.fit_along.new.mem) c.args.geo.now c.fit_along.new.tiers c.in_ok-spot.ensures.tiers)
    c.in_ok-spot.ensures.tiers.read.within_limit
    (λ all. (let none = c.lowest_unlinked.ensures.none.1 all in let clash : None ≡ Some c.in-Some-lowest_unlinked.place = sym none
    ∙ c.in-Some-lowest_unlinked.is in cc clash))
    (rw c.in-Some-lowest_unlinked.is at c.lowest_unlinked.ensures.lowest)
    (rw c.in_default.is at c.in_ok-spot.ensures.found words state fits rests)

pub returns-in-None-clause-room : goal.returns-in-None-clause-room
returns-in-None-clause-room g c = λ words state fits rests.
    apart_nowhere c.args.geo.now (g.M.Mem.seen c.fit_along.new.mem).setting.segment words state c.fit_along.new.tiers.found c.args.chunks rests
    (c.in_ok-spot.ensures.all c.in_default.is words fits)
    (long_enough (g.M.Mem.seen c.fit_along.new.mem) c.args.geo.now c.fit_along.new.tiers c.in_ok-spot.ensures.tiers)
    (c.lowest_unlinked.ensures.none.0 c.in-None.is)
    (rw c.in_default.is at c.in_ok-spot.ensures.found words state fits rests)
