use Rattle.std.proofs.Common.{true}
use Rattle.cm_plain.specs.Plans.{plan_change}
use Rattle.cm_words_tests.proofs.Trials.{cut_done, cut_number, cut_planned}
use Rattle.cm_words_tests.proofs.tests_words.begin_and_finish.Goals as goal

pub begin-requires-clause-number : goal.begin-requires-clause-number
begin-requires-clause-number c = cut_number _ _ true c.args.words.now _ c.guarded-mem.ensures.seen c.requires c.in_ok-before.ensures.loads.call.done

pub begin-requires-clause-planned : goal.begin-requires-clause-planned
begin-requires-clause-planned c = cut_planned _ _ true c.args.words.now _ (plan_change c.first_put.result) c.guarded-mem.ensures.seen c.requires c.in_ok-before.ensures.loads.call.done

pub finish-requires-clause-done : goal.finish-requires-clause-done
finish-requires-clause-done c change planned =
    cut_done _ _ _ true c.args.words.now _ (plan_change c.first_put.result) change c.guarded-mem.ensures.seen c.requires c.in_ok-before.ensures.loads.call.done c.in_ok-begin.ensures.begins.call.done
