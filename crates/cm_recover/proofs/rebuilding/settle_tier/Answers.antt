-- Each slot that isn't empty is settled.
use Rattle.std.proofs.Common.{arith, ◌≡◌, ◌*◌, ◌+◌, ◌∙◌, ℕ, ap, sym, subst}
use Rattle.cm_plain.specs.Slots.{word_at}
use Rattle.cm_geo.proofs.Ranges.{chunks_range}
use Rattle.cm_words.specs.Calls.{HasDone}
use Rattle.cm_words.specs.Effects.{Changes}
use Rattle.cm_recover.specs.Rebuilding.{Settles}
use Rattle.cm_recover.proofs.SettledTiers.{SettlesBelow, below_empty, below_settled, changed_as, changed_then, within_more}
use Rattle.cm_recover.proofs.rebuilding.settle_tier.Goals as goal
use Rattle.cm_recover.proofs.rebuilding.settle_tier.Goals.{then-word-ne0, else-word-ne0}

pub settle-settled-requires-clause-tally : goal.settle-settled-requires-clause-tally
settle-settled-requires-clause-tally g c =
    within_more (65536 + c.loop-number.number) _ c.loop-number.settled
    (omega (arith, c.loop-number-test.true, c.chunks-number-end.ensures, chunks_range c.args.geo.now))
    (c.loop-number.invariant.within 65536 c.requires.tally)

pub loop-number-preserved : goal.loop-number-preserved
loop-number-preserved g c = elim c.if-word-ne0.branch [
  | then-word-ne0 w ↦ rw (w.mem-is, w.settled-is) (record {
    settles = changed_then g.M.Mem.seen g.M.Mem.same_rest
        (SettlesBelow c.args.geo.now c.args.segment c.args.places.now c.args.place c.args.words.now c.loop-number.number c.args.tally
        c.loop-number.settled)
        (Settles c.args.geo.now c.args.segment c.args.places.now c.args.place
        (word_at c.args.words.now c.slot_at.result) c.loop-number.settled w.settle-settled.result)
        (SettlesBelow c.args.geo.now c.args.segment c.args.places.now c.args.place c.args.words.now
        (c.loop-number.number + 1) c.args.tally w.settle-settled.result)
        _ c.loop-number.mem w.settle-settled.new.mem (g.met.M.Mem.rest_transitive _ _ _)
        (λ before mid words below settles. below_settled c.args.geo.now c.args.segment c.args.places.now c.args.place c.args.words.now
        c.loop-number.number _ c.args.tally c.loop-number.settled
        w.settle-settled.result before mid words
        (ap (λ (n : ℕ). word_at c.args.words.now n) (sym c.slot_at.ensures.value)) w.if-word-ne0.true below settles)
        c.loop-number.invariant.settles w.settle-settled.ensures.settles;
    within = λ most within. within_more _ _ w.settle-settled.result (omega arith)
        (w.settle-settled.ensures.tally (most + c.loop-number.number) (c.loop-number.invariant.within most within));
  })
  | else-word-ne0 w ↦ rw (w.mem-is, w.settled-is) (record {
    settles = changed_as g.M.Mem.seen g.M.Mem.same_rest
        (SettlesBelow c.args.geo.now c.args.segment c.args.places.now c.args.place c.args.words.now c.loop-number.number c.args.tally
        c.loop-number.settled)
        (SettlesBelow c.args.geo.now c.args.segment c.args.places.now c.args.place c.args.words.now
        (c.loop-number.number + 1) c.args.tally c.loop-number.settled)
        _ c.loop-number.mem
        (λ before words below. below_empty c.args.geo.now c.args.segment c.args.places.now c.args.place c.args.words.now c.loop-number.number
        c.args.tally c.loop-number.settled before words
        (ap (λ (n : ℕ). word_at c.args.words.now n) (sym c.slot_at.ensures.value) ∙ w.if-word-ne0.false) below)
        c.loop-number.invariant.settles;
    within = λ most within. within_more _ _ c.loop-number.settled (omega arith) (c.loop-number.invariant.within most within);
  })
]

pub returns-clause-settles : goal.returns-clause-settles
returns-clause-settles g c =
    let all : c.loop-number.number ≡ 2 * c.args.geo.now.chunks = omega
    (arith, c.loop-number-test.false, c.loop-number.auto.number-end, c.chunks-number-end.ensures) in
    subst (λ (n : ℕ). HasDone g.M.Mem.seen g.M.Mem.same_rest
    (λ old now. Changes old now (SettlesBelow c.args.geo.now c.args.segment c.args.places.now c.args.place c.args.words.now n c.args.tally
    c.loop-number.settled)) c.args.mem.now c.loop-number.mem) all
    c.loop-number.invariant.settles

pub returns-clause-tally : goal.returns-clause-tally
returns-clause-tally g c = λ most within.
    within_more (most + c.loop-number.number) _ c.loop-number.settled (omega (arith, c.loop-number.auto.number-end, c.chunks-number-end.ensures))
    (c.loop-number.invariant.within most within)
