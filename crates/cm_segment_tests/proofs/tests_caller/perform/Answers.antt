use Rattle.std.proofs.Common.{sym, subst}
use Rattle.cm_words.specs.Memory.{HasEvenNumber}
use Rattle.cm_segment.proofs.GuardedWords.{new_even}
use Rattle.cm_segment_tests.proofs.tests_caller.perform.Goals as goal

pub put-requires-clause-number : goal.put-requires-clause-number
put-requires-clause-number g c =
    subst HasEvenNumber (sym c.guarded-mem.ensures.seen) (new_even c.args.words.now _ (c.may_change.ensures.even c.if-not-may_change.false)
    (c.may_change.ensures.not_last c.if-not-may_change.false))

pub remove-requires-clause-number : goal.remove-requires-clause-number
remove-requires-clause-number g c =
    subst HasEvenNumber (sym c.guarded-mem.ensures.seen) (new_even c.args.words.now _ (c.may_change.ensures.even c.if-not-may_change.false)
    (c.may_change.ensures.not_last c.if-not-may_change.false))
