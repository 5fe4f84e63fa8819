use Rattle.std.proofs.Common.{sym, subst}
use Rattle.cm_geo.specs.declared.geo.Geo.{Geo}
use Rattle.cm_script.specs.Scripts.{IsFor}
use Rattle.cm_run_tests.proofs.histories.judge_segment.Goals as goal

pub replay_one-requires : goal.replay_one-requires
replay_one-requires c =
    subst (λ (geo : Geo). IsFor geo c.args.script.now) (sym c.loop-at.invariant.2) c.requires.for_geo
