use Rattle.std.proofs.Common.{◌∙◌, sym}
use Rattle.cm_plain.proofs.OutsideHead.{resting_represents}
use Rattle.cm_turn.proofs.FoundValues.{sight_there}
use Rattle.cm_turn.proofs.conditions.has_key.Goals as goal

pub returns-clause-there : goal.returns-clause-there
returns-clause-there g c = λ words state fits rests.
    sight_there c.args.geo.now (g.M.Mem.seen c.look.new.mem).setting.segment words state c.args.key.now c.in_ok-sight.sight rests
    (c.in_ok-sight.ensures.found words state fits (resting_represents _ _ words state rests)) ∙ sym c.is_some.ensures
