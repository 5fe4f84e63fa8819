-- A place that is linked is passed over, and the first one that is not is the answer.
use Rattle.std.proofs.Common.{◌≡◌, ◌∙◌, ℕ, not, sym, ap, arith, true, false}
use Rattle.std.specs.List.{position_or_len, range_with_len}
use Rattle.cm_plain.specs.Rooms.{is_unlinked}
use Rattle.cm_plain.proofs.Ranges.{position_here, position_next}
use Rattle.cm_plain.proofs.rooms.lowest_unlinked.Goals as goal

pub returns-then-not-contains : goal.returns-then-not-contains
returns-then-not-contains c =
    let at = c.loop-place.place-counter in
    let passes : is_unlinked c.args.chain.now at ≡ true = ap not (sym c.contains.ensures.value ∙ c.if-not-contains.true) in
    let here = position_here (is_unlinked c.args.chain.now) at c.tiers-tiers.result c.loop-place-test.true passes in
    omega (arith, c.loop-place.invariant, here, ap (λ (n : ℕ). position_or_len (is_unlinked c.args.chain.now) (range_with_len 0 n)) c.tiers-tiers.ensures)

pub loop-place-preserved : goal.loop-place-preserved
loop-place-preserved c =
    let at = c.loop-place.place-counter in
    let fails : is_unlinked c.args.chain.now at ≡ false = ap not (sym c.contains.ensures.value ∙ c.if-not-contains.false) in
    omega (arith, c.loop-place.invariant, position_next (is_unlinked c.args.chain.now) at c.tiers-tiers.result c.loop-place-test.true fails)
