-- What a step is told where its caller picks nothing (own).
use Rattle.std.specs.Prelude.{[], None, false}
use Rattle.cm_plain.specs.Changes.{Change}
use Rattle.cm_plain.specs.declared.op.Op.TheVariants as op
use Rattle.cm_plain.specs.declared.plan.PlanKind.TheVariants as kind
use Rattle.cm_lock.specs.declared.view.Round.{Round}

-- no change is picked
abbrev pub no_change : Change
no_change = record { op = op.Get []; kind = kind.Remove; key = []; value = []; old_run = None; new_run = None; link = false }

-- nothing is claimed of a round
abbrev pub no_claim : Round → Type 0
no_claim round = Unit {0}
