use Rattle.std.proofs.Common.{◌∙◌, ap, refl}
use Rattle.cm_plain.specs.States.{value_of}
use Rattle.cm_words.specs.Memory.{Setting}
use Rattle.cm_turn.proofs.FoundValues.{replace_differs, same_met}
use Rattle.cm_turn.proofs.LoadPairs.{loads_and}
use Rattle.cm_turn.proofs.placing.ReplaceIfOperation.judge.Goals as goal

pub place-requires-clause-places : goal.place-requires-clause-places
place-requires-clause-places g c = λ words state fits rests.
    rw c.ask.ensures (record {
      met = same_met (value_of c.args.self.now.key.now state) c.args.self.now.expected.now
          ((rw c.in-Same.is at c.in_ok-compare.ensures.compares) words state fits rests);
      placed = refl;
      keyed = refl;
      wanted = refl;
    })

pub returns-in-Differs-clause-judges : goal.returns-in-Differs-clause-judges
returns-in-Differs-clause-judges g c =
    replace_differs (g.M.Mem.seen c.compare.new.mem) c.args.geo.now c.args.self.now.key.now c.args.self.now.expected.now c.args.self.now.value.now c.args._out.now
    (ap (λ (s : Setting). s.geo) c.in_ok-compare.ensures.loads.done.keeps.setting ∙ c.requires.readable.geo_is)
    (rw c.in-Differs.is at c.in_ok-compare.ensures.compares)

pub returns-in-Same-clause-loads : goal.returns-in-Same-clause-loads
returns-in-Same-clause-loads g c =
    loads_and g.M.Mem.seen g.M.Mem.same_rest _ c.compare.new.mem c.place.new.mem _ c.place.result (g.met.M.Mem.rest_transitive _ _ _)
    c.in_ok-compare.ensures.loads c.place.ensures.loads

pub returns-in-Same-clause-judges : goal.returns-in-Same-clause-judges
returns-in-Same-clause-judges g c = rw c.ask.ensures at (c.place.ensures.judges c.args._out.now)
