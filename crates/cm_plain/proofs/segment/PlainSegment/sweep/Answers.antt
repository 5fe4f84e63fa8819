-- A sweep that removes the least key with its prefix, and one that finds none.
use Rattle.std.proofs.Common.{◌≡◌, ◌∙◌, Bool, All, false, sym, ap, subst}
use Rattle.std.specs.Prelude.{if◌then◌else◌}
use Rattle.cm_plain.specs.declared.reply.Reply.TheVariants as reply
use Rattle.cm_plain.specs.Steps.{has_prefix}
use Rattle.cm_plain.specs.Segments.{IsLeastKey}
use Rattle.cm_plain.proofs.SweepSteps.{sweeps_none, sweeps_one}
use Rattle.cm_plain.proofs.SegmentState.{seen_in}
use Rattle.cm_plain.proofs.segment.PlainSegment.sweep.Goals as goal
use Rattle.cm_plain.proofs.segment.PlainSegment.sweep.Goals.{then-remove_entry, else-remove_entry}

pub returns-in_default-clause-ok : goal.returns-in_default-clause-ok
returns-in_default-clause-ok c =
    let seen = seen_in c.self.inside in
    let none : All (λ entry. has_prefix c.args.prefix.now entry.key ≡ false) seen.state.entries = rw c.as_slice.ensures.value at c.in_default.ensures in
    rw (sym c.self.view_is) (sweeps_none seen c.args.prefix.now none)

pub returns-clause-ok : goal.returns-clause-ok
returns-clause-ok c =
    let seen = seen_in c.self.inside in
    let prefix = c.args.prefix.now in
    let key = c.in_ok-key.key in
    let found : IsLeastKey prefix seen.state.entries c.in-Some.key.now = rw c.as_slice.ensures.value at c.in-Some.ensures in
    let least : IsLeastKey prefix seen.state.entries key = subst (IsLeastKey prefix seen.state.entries) (sym c.in_ok-key.ensures) found in
    let answer : c.if-remove_entry.result ≡ (if c.remove_entry.result then reply.Swept key else reply.Worn) = elim c.if-remove_entry.branch [
      | then-remove_entry w ↦ w.result-is ∙ sym (ap (λ (it : Bool). if it then reply.Swept key else reply.Worn) w.if-remove_entry.true)
      | else-remove_entry w ↦ w.result-is ∙ sym (ap (λ (it : Bool). if it then reply.Swept key else reply.Worn) w.if-remove_entry.false)
    ] in
    rw (answer, sym c.self.view_is) (sweeps_one seen c.remove_entry.new.self prefix key c.remove_entry.result least (rw (c.as_slice-2.ensures, sym c.self.view_is) at c.remove_entry.ensures))
