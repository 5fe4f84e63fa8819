-- An entry that was removed, and one that stays for want of a number.
use Rattle.std.proofs.Common.{◌≡◌, ◌==◌, false, sym, arith}
use Rattle.std.proofs.lemmas.Bool.Decides.{nat_tests}
use Rattle.cm_plain.specs.Steps.{last_number}
use Rattle.cm_plain.proofs.RemovalSteps.{is_segment_without, removes_without}
use Rattle.cm_plain.proofs.SegmentState.{seen_in}
use Rattle.cm_plain.proofs.segment.PlainSegment.remove_entry.Goals as goal

pub invariant_of-self : goal.invariant_of-self
invariant_of-self c =
    let seen = seen_in c.self.inside in
    rw c.remove_key.ensures.items (is_segment_without seen c.args.key.now c.self.invariant c.if-self-eq-LAST_NUMBER.false)

pub returns : goal.returns
returns c =
    let seen = seen_in c.self.inside in
    let counts : (seen.number == last_number) ≡ false = grind (arith, nat_tests, c.if-self-eq-LAST_NUMBER.false) in
    rw (sym c.self.view_is, c.remove_key.ensures.items) (removes_without seen c.args.key.now c.self.invariant counts)
