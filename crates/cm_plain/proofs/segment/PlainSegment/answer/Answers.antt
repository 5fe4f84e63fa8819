-- What each operation's answer is by a step.
use Rattle.std.proofs.Common.{◌<◌, ◌^◌, length, sym, arith}
use Rattle.std.proofs.lemmas.Result.{IfOk-weaker}
use Rattle.cm_plain.specs.declared.op.Op.TheVariants.{Sweep}
use Rattle.cm_plain.specs.Segments.{AnswersOp, AnswersSweeps}
use Rattle.cm_plain.proofs.EntryCount.{few_entries}
use Rattle.cm_plain.proofs.RemovalSteps.{remove_answered, remove_if_answered}
use Rattle.cm_plain.proofs.SegmentState.{seen_in}
use Rattle.cm_plain.proofs.segment.PlainSegment.answer.Goals as goal

pub overflow_cast-result : goal.overflow_cast-result
overflow_cast-result c =
    let seen = seen_in c.self.inside in
    let within_limit : length c.as_slice-entries.result.now < 2 ^ 32 = rw c.as_slice-entries.ensures.value (few_entries seen.geo seen.segment seen.state c.self.invariant.is_state) in
    omega (arith, within_limit)

pub sorted_pairs-requires : goal.sorted_pairs-requires
sorted_pairs-requires c =
    let seen = seen_in c.self.inside in
    rw c.as_slice-entries.ensures.value (few_entries seen.geo seen.segment seen.state c.self.invariant.is_state)

pub returns-in-None-missing_reply-2-clause-ok : goal.returns-in-None-missing_reply-2-clause-ok
returns-in-None-missing_reply-2-clause-ok c =
    let seen = seen_in c.self.inside in
    let none = rw (c.as_slice-in-Remove.ensures, c.as_slice-entries.ensures.value) at c.in-None-missing_reply-2.ensures in
    let takes = rw (c.as_slice-in-None-missing_reply-2-2.ensures, sym c.self.view_is) at c.remove_entry.ensures in
    rw (c.in-Remove.is, c.removed_or_worn.ensures, sym c.self.view_is) (remove_answered seen c.remove_entry.new.self c.args.grant c.in-Remove.key c.remove_entry.result none takes)

pub returns-in-None-unmet_reply-2-clause-ok : goal.returns-in-None-unmet_reply-2-clause-ok
returns-in-None-unmet_reply-2-clause-ok c =
    let seen = seen_in c.self.inside in
    let none = rw (c.as_slice-in-RemoveIf.ensures, c.as_slice-in-RemoveIf-2.ensures, c.as_slice-entries.ensures.value) at c.in-None-unmet_reply-2.ensures in
    let takes = rw (c.as_slice-in-None-unmet_reply-2-2.ensures, sym c.self.view_is) at c.remove_entry-in-None-unmet_reply-2.ensures in
    rw (c.in-RemoveIf.is, c.removed_or_worn-in-None-unmet_reply-2.ensures, sym c.self.view_is)
    (remove_if_answered seen c.remove_entry-in-None-unmet_reply-2.new.self c.args.grant c.in-RemoveIf.key c.in-RemoveIf.expected c.remove_entry-in-None-unmet_reply-2.result none takes)

pub returns-in-Sweep-clause-ok : goal.returns-in-Sweep-clause-ok
returns-in-Sweep-clause-ok c =
    let sweeps = rw c.as_slice-in-Sweep.ensures at c.sweep.ensures.ok in
    rw c.in-Sweep.is
    (IfOk-weaker c.sweep.result (AnswersSweeps c.args.self.now c.sweep.new.self c.in-Sweep.prefix) (AnswersOp c.args.self.now c.sweep.new.self c.args.grant (Sweep c.in-Sweep.segment c.in-Sweep.prefix))
    (λ answer swept. swept.answers c.in-Sweep.segment c.args.grant) sweeps)
