-- Each slot was counted.
use Rattle.std.proofs.Common.{◌≡◌, ℕ, ◌+◌, is_some, arith, ap, sym, ◌∙◌}
use Rattle.cm_plain.specs.Slots.{slot_in}
use Rattle.cm_check.specs.Quiets.{geo_of, words_of}
use Rattle.cm_check.proofs.CountReads.{occupied_none, occupied_same, occupied_some, seen_is}
use Rattle.cm_check.proofs.counts.occupied_in.Goals as goal
use Rattle.cm_check.proofs.counts.occupied_in.Goals.{else-is_some, then-is_some}

pub loop-number-init : goal.loop-number-init
loop-number-init c = record { is = sym (occupied_none (geo_of c.args.quiet.now) (words_of c.args.quiet.now) c.args.place); short = omega arith }

pub loop-number-preserved : goal.loop-number-preserved
loop-number-preserved c =
    let q = c.args.quiet.now in
    let seen : is_some (slot_in (geo_of q) (words_of q) c.args.place c.loop-number.number) ≡ is_some c.slot.result = ap (λ o. is_some o) (sym c.slot.ensures) ∙ seen_is c.slot.result in
    elim c.if-is_some.branch [
      | then-is_some w ↦
          (let more = occupied_some (geo_of q) (words_of q) c.args.place c.loop-number.number (seen ∙ sym w.if-is_some.ensures) in
          record { is = w.occupied-is ∙ (ap (λ (n : ℕ). n + 1) c.loop-number.invariant.is ∙ sym more); short = omega (arith, w.occupied-is, c.loop-number.invariant.short) })
      | else-is_some w ↦
          (let same = occupied_same (geo_of q) (words_of q) c.args.place c.loop-number.number (seen ∙ sym w.if-is_some.ensures) in
          record { is = w.occupied-is ∙ (c.loop-number.invariant.is ∙ sym same); short = omega (arith, w.occupied-is, c.loop-number.invariant.short) })
    ]
