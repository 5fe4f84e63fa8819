use Rattle.std.proofs.Common.{◌≡◌, ◌+◌, ◌%◌, Fits, w64, ◌<◌, ◌^◌, ◌∙◌, Some, true, false, length, length-set, get_or, get_or-set_same, arith, refl, ap, ℕ}
use Rattle.std.proofs.lemmas.List.Elements.{All-set}
use Rattle.cm_plain.specs.Plans.{plan_change}
use Rattle.cm_words.specs.Effects.{Begins}
use Rattle.cm_words.specs.Plain.{SameRest, plain_seen}
use Rattle.cm_words.specs.declared.fuse.EventKind.TheVariants.{Store}
use Rattle.cm_words.proofs.CallSequences.{once_err, once_ok}
use Rattle.cm_words.proofs.FittingLists.{as_before, begins_by}
use Rattle.cm_words.proofs.MapPlaces.{number_inside, place_inside, rest_stored}
use Rattle.cm_words.proofs.PlainNotes.{notes_begun}
use Rattle.cm_words.proofs.OneMemoryState.{plain_even}
use Rattle.cm_words.proofs.plain.PlainMemMem.begin.Goals as goal

pub returns-in_err-ask : goal.returns-in_err-ask
returns-in_err-ask g c = record {
  begins = once_err (plain_seen g.F.Fuse.fused) SameRest Store (λ old now. Begins old now (plan_change c.args.plan.now)) _ _ _ c.from_residual.result c.from_residual.ensures.0 (record { name = refl; segment = refl; rest = refl }) c.in_err-ask.ensures.fuse c.in_err-ask.ensures.event
      (as_before _ _ (record { setting = refl; plan = refl }) (λ k. refl) c.in_err-ask.ensures.dead_events c.in_err-ask.ensures.dead_stores);
}

fits_next : (word : ℕ) → word < 2 ^ 63 → Fits w64 (word + 1)
fits_next word not_last = omega arith

pub overflow_add-even : goal.overflow_add-even
overflow_add-even g c =
    let even = plain_even g.F.Fuse.fused c.args.self.now c.requires.number in
    rw (c.get-even.ensures, c.address-address.ensures.value) (fits_next _ even.1)

odd_next : (word : ℕ) → word % 2 ≡ 0 → word < 2 ^ 63 → ((word + 1) % 2 ≡ 1) × (word + 1 < 2 ^ 63)
odd_next word even not_last = (omega arith, omega arith)

not_none : true ≡ false → ⊥
not_none e = cc e

pub invariant_of-self-2 : goal.invariant_of-self-2
invariant_of-self-2 g c =
    let m = c.args.self.now in
    let words = m.words.now.words in
    let number = get_or words (m.start + 1) 0 in
    let inside = number_inside m.words.now.geo in
    let within : m.start + 1 < length words = rw m.whole (place_inside m.words.now.geo m.segment m.start 1 m.here m.starts inside).0 in
    let even = plain_even g.F.Fuse.fused m c.requires.number in
    let odd = odd_next number even.0 even.1 in
    rw (c.set.ensures, c.get-even.ensures, c.address-address.ensures.value) (record {
      here = m.here;
      starts = m.starts;
      whole = length-set words (m.start + 1) (number + 1) ∙ m.whole;
      fit = All-set (λ word. word < 2 ^ 64) words (m.start + 1) (number + 1) (omega (arith, odd.1)) m.fit;
      odd = λ planned. rw (get_or-set_same words (m.start + 1) (number + 1) 0 within) odd;
      even = λ guarded idle. absurd (not_none idle);
    })

pub returns : goal.returns
returns g c =
    let m = c.args.self.now in
    let words = m.words.now.words in
    let inside = number_inside m.words.now.geo in
    let within : m.start + 1 < length words = rw m.whole (place_inside m.words.now.geo m.segment m.start 1 m.here m.starts inside).0 in
    record {
      begins = once_ok (plain_seen g.F.Fuse.fused) SameRest Store (λ old now. Begins old now (plan_change c.args.plan.now)) _ _ _
          (record { name = refl; segment = refl; rest = rw (c.set.ensures, c.get-even.ensures, c.address-address.ensures.value) (rest_stored m.words.now m.segment m.start 1 _ m.starts inside) })
          c.in_ok-ask.ensures.fuse c.in_ok-ask.ensures.event
          (rw (c.of.ensures, c.set.ensures, c.get-even.ensures, c.address-address.ensures.value) (begins_by _ _ _ inside refl (ap Some c.set-2.ensures)
          (notes_begun _ _ m.words.now.geo m.start words _ m.first.value.words inside within (m.fit (m.start + 1) 0 within) refl (λ k. refl) (λ k. refl))));
    }
