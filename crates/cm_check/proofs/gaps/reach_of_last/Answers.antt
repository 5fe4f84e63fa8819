-- The last slots were looked at, back from the last one.
use Rattle.std.proofs.Common.{◌≡◌, ℕ, ◌-◌, ◌*◌, None, arith, ap, sym, ◌∙◌, subst}
use Rattle.cm_plain.specs.Slots.{slot_in}
use Rattle.cm_check.specs.SlotReads.{IsReach}
use Rattle.cm_check.specs.Quiets.{geo_of, words_of}
use Rattle.cm_check.proofs.Reaches.{reach_of_first, seen_none}
use Rattle.cm_check.proofs.gaps.reach_of_last.Goals as goal

pub returns-then-is_none-clause-reach : goal.returns-then-is_none-clause-reach
returns-then-is_none-clause-reach c =
    let q = c.args.quiet.now in
    let size : 2 * c.chunks-slots.result ≡ 2 * (geo_of q).chunks = omega (arith, c.chunks-slots.ensures, ap (λ g. g.chunks) c.geo.ensures) in
    let none : slot_in (geo_of q) (words_of q) c.args.place (2 * c.chunks-slots.result - 1 - c.loop-behind.behind) ≡ None = sym c.slot.ensures ∙ seen_none c.slot.result (c.if-is_none.ensures) in
    reach_of_first (geo_of q) (words_of q) c.args.place c.loop-behind.behind c.loop-behind.invariant (λ short. ap (λ (n : ℕ). slot_in (geo_of q) (words_of q) c.args.place (n - 1 - c.loop-behind.behind)) (sym size) ∙ none)

pub returns-then-is_none-clause-within_slots : goal.returns-then-is_none-clause-within_slots
returns-then-is_none-clause-within_slots c =
    let size : 2 * c.chunks-slots.result ≡ 2 * (geo_of c.args.quiet.now).chunks = omega (arith, c.chunks-slots.ensures, ap (λ g. g.chunks) c.geo.ensures) in
    omega (arith, c.loop-behind-test.true, size)

pub returns-clause-within_slots : goal.returns-clause-within_slots
returns-clause-within_slots c = omega (arith, c.chunks-slots.ensures, ap (λ g. g.chunks) c.geo.ensures)

pub returns-clause-reach : goal.returns-clause-reach
returns-clause-reach c =
    let q = c.args.quiet.now in
    let size : 2 * c.chunks-slots.result ≡ 2 * (geo_of q).chunks = omega (arith, c.chunks-slots.ensures, ap (λ g. g.chunks) c.geo.ensures) in
    subst (λ (n : ℕ). IsReach (geo_of q) (words_of q) c.args.place 0 n) (sym size)
    (reach_of_first (geo_of q) (words_of q) c.args.place (2 * (geo_of q).chunks) (λ behind below. c.loop-behind.invariant behind (omega (arith, c.loop-behind-test.false, size))) (λ short. absurd (omega arith)))
