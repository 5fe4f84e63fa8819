use Rattle.std.proofs.Common.{Option, ap, refl}
use Rattle.std.specs.Prelude.{is_none}
use Rattle.cm_plain.specs.declared.placed.Placed.{Placed}
use Rattle.cm_plain.specs.States.{value_in}
use Rattle.cm_turn.proofs.placing.PutIfAbsentOperation.judge.Goals as goal

pub place-requires-clause-places : goal.place-requires-clause-places
place-requires-clause-places g c = λ words state fits rests.
    rw c.ask.ensures (record {
      met = ap (λ (found : Option Placed). is_none (value_in found)) (c.requires.ready words state fits rests);
      placed = refl;
      keyed = refl;
      wanted = refl;
    })

pub returns-clause-judges : goal.returns-clause-judges
returns-clause-judges g c = rw c.ask.ensures at (c.place.ensures.judges c.args._out.now)
