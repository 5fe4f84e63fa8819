-- A place that is linked is passed over, and the first one that is not is the answer.
use Rattle.std.proofs.Common.{◌≡◌, ◌∙◌, not, sym, ap, arith, length, refl, true, false}
use Rattle.cm_plain.specs.Rooms.{is_unlinked}
use Rattle.cm_plain.proofs.Ranges.{position_here, position_next}
use Rattle.cm_tiers.specs.Chains.{places_of}
use Rattle.cm_tiers.proofs.ChainLength.{all_linked, some_left}
use Rattle.cm_tiers.proofs.places.lowest_unlinked.Goals as goal

pub returns-then-not-contains-clause-lowest : goal.returns-then-not-contains-clause-lowest
returns-then-not-contains-clause-lowest c =
    let at = c.loop-place.place-counter in
    let passes : is_unlinked (places_of c.args.chain.now) at ≡ true = ap not (sym c.contains.ensures.value ∙ c.if-not-contains.true) in
    let here = position_here (is_unlinked (places_of c.args.chain.now)) at c.args.geo.now.tiers (omega arith) passes in
    omega (arith, c.loop-place.invariant, here)

pub returns-then-not-contains-clause-none : goal.returns-then-not-contains-clause-none
returns-then-not-contains-clause-none c =
    let passes : is_unlinked (places_of c.args.chain.now) c.loop-place.place-counter ≡ true = ap not (sym c.contains.ensures.value ∙ c.if-not-contains.true) in
    let long : length c.args.chain.now.places ≡ 8 = omega arith in
    some_left c.args.geo.now c.args.chain.now c.loop-place.place-counter c.requires.within_limit long c.requires.inside c.requires.apart (record { below = omega arith; unlinked = passes })

pub loop-place-preserved : goal.loop-place-preserved
loop-place-preserved c =
    let at = c.loop-place.place-counter in
    let fails : is_unlinked (places_of c.args.chain.now) at ≡ false = ap not (sym c.contains.ensures.value ∙ c.if-not-contains.false) in
    let next = position_next (is_unlinked (places_of c.args.chain.now)) at c.args.geo.now.tiers (omega arith) fails in
    omega (arith, c.loop-place.invariant, next)

pub returns-clause-none : goal.returns-clause-none
returns-clause-none c =
    let long : length c.args.chain.now.places ≡ 8 = omega arith in
    let all = all_linked c.args.geo.now c.args.chain.now c.loop-place.place-counter c.requires.within_limit long (omega arith) c.loop-place.invariant in
    (λ _. omega (arith, all, c.requires.within_limit), λ _. refl)
