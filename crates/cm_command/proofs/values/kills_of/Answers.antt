use Rattle.std.proofs.Common.{subst, sym}
use Rattle.std.proofs.lemmas.Option.{MatchOption-at_some}
use Rattle.cm_command.proofs.AllKills.{KillsOf, all-done, one-more, some-kill}
use Rattle.cm_command.proofs.values.kills_of.Goals as goal

pub unwrap-requires : goal.unwrap-requires
unwrap-requires c = some-kill c.args.texts.now c.loop-text.text-index _ c.kill_of.result c.requires c.loop-text-test.true c.kill_of.ensures

pub loop-text-preserved : goal.loop-text-preserved
loop-text-preserved c =
    subst (KillsOf _) (sym c.in_ok-push.ensures.items) (one-more c.args.texts.now c.loop-text.text-index _ c.loop-text.kills.items c.unwrap.result c.loop-text-test.true
    (MatchOption-at_some {o = c.kill_of.result} _ _ c.unwrap.result c.unwrap.ensures c.kill_of.ensures) c.loop-text.invariant)

pub returns-clause-are_kills : goal.returns-clause-are_kills
returns-clause-are_kills c = rw c.from_vec.ensures (all-done c.args.texts.now c.loop-text.text-index c.loop-text.kills.items c.requires c.loop-text-test.false c.loop-text.invariant)
