-- A value that was placed was placed by one step.
use Rattle.std.proofs.Common.{◌≡◌, ◌+◌, ◌∙◌, ◌==◌, ◌&&◌, length, false, not, sym, ap, subst, arith, refl}
use Rattle.std.proofs.lemmas.Bool.Decides.{nat_tests}
use Rattle.cm_plain.specs.Placements.{IsPlacement}
use Rattle.cm_plain.specs.Rooms.{is_new_tier}
use Rattle.cm_plain.specs.Steps.{last_number}
use Rattle.cm_plain.specs.Segments.{IsSegment, PlacesValue, Segment}
use Rattle.cm_plain.proofs.Placements.{rising_without}
use Rattle.cm_plain.proofs.PlacementSteps.{is_segment_with, placing_apart, places_with, reply_beside, same_segment, segment_with}
use Rattle.cm_plain.proofs.SegmentState.{seen_in}
use Rattle.cm_plain.proofs.segment.PlainSegment.put_value.Goals as goal
use Rattle.cm_plain.proofs.segment.PlainSegment.put_value.Goals.{else-new_tier-via-then-new_tier+else-not-grant, else-new_tier-via-else-new_tier, then-placement, else-placement}

pub put_entry-requires-clause-rising : goal.put_entry-requires-clause-rising
put_entry-requires-clause-rising c =
    let seen = seen_in c.self.inside in
    rw c.in_ok-of.ensures (rising_without seen.geo seen.segment seen.state c.args.key.now c.self.invariant.is_state)

pub put_entry-requires-clause-apart : goal.put_entry-requires-clause-apart
put_entry-requires-clause-apart c =
    let seen = seen_in c.self.inside in
    let placed : IsPlacement seen.geo seen.state c.args.key.now (length c.args.value.now) c.in-Some.placement = rw (c.as_slice-chain.ensures.value, c.as_slice-entries.ensures.value) at c.in-Some.ensures in
    rw c.in_ok-of.ensures (placing_apart seen c.args.key.now c.args.value.now c.in-Some.placement c.self.invariant (rw (sym c.self.view_is) at c.requires.fits) placed)

-- how the value was placed
placed_by : (c : goal.Joined-placement) → (let seen = seen_in c.self.inside in IsPlacement seen.geo seen.state c.args.key.now (length c.args.value.now) c.in-Some.placement)
placed_by c = rw (c.as_slice-chain.ensures.value, c.as_slice-entries.ensures.value) at c.in-Some.ensures

-- the segment that was made is the one with the value
same_made : (c : goal.Joined-placement) → (let seen = seen_in c.self.inside in
    segment_with seen c.args.key.now c.args.value.now c.in-Some.placement
    ≡ record { geo = seen.geo; segment = seen.segment; number = seen.number + 1; state = record { chain = c.put_entry.new.chain.items; entries = c.put_entry.new.entries.items } })
same_made c =
    let entries = rw (c.in_ok-of.ensures, c.in_ok-of-2.ensures) at c.in_ok-put_entry.ensures.entries in
    same_segment (seen_in c.self.inside) c.args.key.now c.args.value.now c.in-Some.placement c.is_new_tier-new_tier.result c.put_entry.new.chain.items c.put_entry.new.entries.items (placed_by c) c.is_new_tier-new_tier.ensures c.in_ok-put_entry.ensures.chain entries

pub invariant_of-self-2 : goal.invariant_of-self-2
invariant_of-self-2 c =
    subst IsSegment (same_made c) (is_segment_with (seen_in c.self.inside) c.args.key.now c.args.value.now c.in-Some.placement c.self.invariant
    (rw (sym c.self.view_is) at c.requires.fits) (rw (sym c.self.view_is) at c.requires.here) (placed_by c) c.if-self-eq-LAST_NUMBER.false)

pub returns-clause-ok : goal.returns-clause-ok
returns-clause-ok c =
    let seen = seen_in c.self.inside in
    let key = c.args.key.now in
    let value = c.args.value.now in
    let placement = c.in-Some.placement in
    let counts : (seen.number == last_number) ≡ false = grind (arith, nat_tests, c.if-self-eq-LAST_NUMBER.false) in
    let granted : (is_new_tier placement.room && not c.args.grant) ≡ false = elim c.else-new_tier.branch [
      | else-new_tier-via-then-new_tier+else-not-grant w ↦ rw (sym c.is_new_tier-new_tier.ensures, w.if-new_tier.true, w.if-not-grant.false) refl
      | else-new_tier-via-else-new_tier w ↦ rw (sym c.is_new_tier-new_tier.ensures, w.if-new_tier.false) refl
    ] in
    let answer : c.if-placement.result ≡ reply_beside placement.replaces = elim c.if-placement.branch [
      | then-placement w ↦ w.result-is ∙ sym (ap reply_beside w.if-placement.true)
      | else-placement w ↦ w.result-is ∙ sym (ap reply_beside w.if-placement.false)
    ] in
    rw (sym c.self.view_is) (subst (λ (it : Segment). PlacesValue seen it c.args.grant key value c.if-placement.result) (same_made c)
    (places_with seen c.args.grant key value placement c.if-placement.result c.self.invariant (rw (sym c.self.view_is) at c.requires.fits) (rw (sym c.self.view_is) at c.requires.here) (placed_by c) counts granted answer))
