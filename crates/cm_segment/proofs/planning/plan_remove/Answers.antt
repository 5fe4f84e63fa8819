-- The plan that takes away the run that was found is the plan of each state here.
use Rattle.std.proofs.Common.{◌∙◌, ap, refl}
use Rattle.cm_words.specs.Memory.{Setting}
use Rattle.cm_segment.proofs.PlansMade.{removal_begins, removal_of}
use Rattle.cm_segment.proofs.planning.plan_remove.Goals as goal

pub old_of-requires-clause-tiers : goal.old_of-requires-clause-tiers
old_of-requires-clause-tiers g c = c.first.ensures (g.M.Mem.seen c.args.mem.now) c.args.geo.now

pub returns-clause-planned : goal.returns-clause-planned
returns-clause-planned g c = λ words state fits rests.
    removal_of c.args.geo.now words state c.args.key.now c.in-Some.old _ (rw c.in-Some.is at c.in_ok-old.ensures.found words state fits rests) refl refl

pub returns-clause-begins : goal.returns-clause-begins
returns-clause-begins g c =
    removal_begins (g.M.Mem.seen c.old_of.new.mem) c.args.geo.now c.args.key.now c.in-Some.old _
    (ap (λ (s : Setting). s.geo) c.in_ok-old.ensures.loads.done.keeps.setting ∙ c.requires.readable.geo_is) (rw c.in-Some.is at c.in_ok-old.ensures.inside) refl
    refl
    (returns-clause-planned g c)
