-- Each slot that is reached from its home is passed.
use Rattle.std.proofs.Common.{◌≡◌, ℕ, ◌+◌, ◌*◌, ◌<◌, ◌≤◌, Some, None, arith, ap, sym, ◌∙◌, subst, below_more}
use Rattle.cm_geo.specs.Addresses.{slot_at}
use Rattle.cm_geo.specs.Hash.{home_in}
use Rattle.cm_plain.specs.Slots.{Slot, chunk_of_half, slot_in}
use Rattle.cm_plain.specs.Lawful.{steps_between}
use Rattle.cm_check.specs.Findings.{Begins}
use Rattle.cm_check.specs.SlotLaws.{is_cut_off, slots_where}
use Rattle.cm_check.specs.SlotReads.{IsReach}
use Rattle.cm_check.specs.Quiets.{geo_of, words_of}
use Rattle.cm_check.proofs.FirstFound.{tested_all, tested_first}
use Rattle.cm_check.proofs.Reaches.{cut_off_by, empty_reached, reach_more, reach_none, reached_by, way_is}
use Rattle.cm_check.proofs.gaps.cut_off_in.Goals as goal
use Rattle.cm_check.proofs.gaps.cut_off_in.Goals.{in-None, in-Some+else-reach-way}

pub loop-number-init : goal.loop-number-init
loop-number-init c = record {
  kept = λ number below. absurd (omega arith);
  reach = c.reach_of_last-reach.ensures.reach;
  short = omega (arith, c.reach_of_last-reach.ensures.within_slots);
}

pub returns-then-reach-way : goal.returns-then-reach-way
returns-then-reach-way c =
    let q = c.args.quiet.now in
    let number : ℕ = c.loop-number.number in
    let slot : Slot = record { fingerprint = c.in-Some.parts.fingerprint; chunk = chunk_of_half c.in-Some.parts.low } in
    let chunks : c.chunks-slots.result ≡ (geo_of q).chunks = c.chunks-slots.ensures ∙ ap (λ g. g.chunks) c.geo-geo.ensures in
    let home : c.home_of.result ≡ home_in (geo_of q) slot.fingerprint = c.home_of.ensures.value ∙ ap (λ g. home_in g slot.fingerprint) c.geo-geo.ensures in
    let below : c.loop-number.number < 2 * (geo_of q).chunks = omega (arith, c.loop-number-test.true, chunks) in
    let beyond : c.loop-number.reach < steps_between (2 * (geo_of q).chunks) (home_in (geo_of q) slot.fingerprint) c.loop-number.number = subst (λ (n : ℕ). c.loop-number.reach < n) (way_is (geo_of q) number c.chunks-slots.result c.home_of.result slot.fingerprint chunks home) c.if-reach-way.true in
    let cut = cut_off_by (geo_of q) (words_of q) c.args.place number c.loop-number.reach slot below (sym c.in-Some.ensures) c.loop-number.invariant.reach beyond in
    let at : c.slot_at.result ≡ slot_at (geo_of q) c.args.place number = c.slot_at.ensures.value ∙ ap (λ g. slot_at g c.args.place number) c.geo-geo.ensures in
    subst (λ (x : ℕ). Begins (slots_where (geo_of q) c.args.place (is_cut_off (geo_of q) (words_of q) c.args.place)) x) (sym at)
    (tested_first (slot_at (geo_of q) c.args.place) (is_cut_off (geo_of q) (words_of q) c.args.place) (2 * (geo_of q).chunks) number c.loop-number.invariant.kept below cut)

-- a slot that isn't empty
is_slot : (slot : Slot) → Some slot ≡ None → ⊥
is_slot slot e = cc e

pub loop-number-preserved : goal.loop-number-preserved
loop-number-preserved c =
    let q = c.args.quiet.now in
    let number : ℕ = c.loop-number.number in
    let chunks : c.chunks-slots.result ≡ (geo_of q).chunks = c.chunks-slots.ensures ∙ ap (λ g. g.chunks) c.geo-geo.ensures in
    let below : c.loop-number.number < 2 * (geo_of q).chunks = omega (arith, c.loop-number-test.true, chunks) in
    elim c.match-slot.branch [
      | in-Some+else-reach-way w ↦
          (let slot : Slot = record { fingerprint = w.in-Some.parts.fingerprint; chunk = chunk_of_half w.in-Some.parts.low } in
          let home : w.home_of.result ≡ home_in (geo_of q) slot.fingerprint = w.home_of.ensures.value ∙ ap (λ g. home_in g slot.fingerprint) c.geo-geo.ensures in
          let within : steps_between (2 * (geo_of q).chunks) (home_in (geo_of q) slot.fingerprint) c.loop-number.number ≤ c.loop-number.reach = subst (λ (n : ℕ). n ≤ c.loop-number.reach) (way_is (geo_of q) number c.chunks-slots.result w.home_of.result slot.fingerprint chunks home) w.if-reach-way.false in
          let there : slot_in (geo_of q) (words_of q) c.args.place number ≡ Some slot = sym w.in-Some.ensures in
          record {
            kept = below_more _ _ c.loop-number.invariant.kept (reached_by (geo_of q) (words_of q) c.args.place number c.loop-number.reach slot below there c.loop-number.invariant.reach within);
            reach = subst (λ (n : ℕ). IsReach (geo_of q) (words_of q) c.args.place (number + 1) n) (sym w.reach-is) (reach_more (geo_of q) (words_of q) c.args.place number c.loop-number.reach below (λ none. is_slot slot (sym there ∙ none)) c.loop-number.invariant.reach);
            short = omega (arith, w.reach-is, c.loop-number.invariant.short);
          })
      | in-None w ↦
          (let none : slot_in (geo_of q) (words_of q) c.args.place number ≡ None = sym w.in-None.ensures in
          record {
            kept = below_more _ _ c.loop-number.invariant.kept (empty_reached (geo_of q) (words_of q) c.args.place number none);
            reach = subst (λ (n : ℕ). IsReach (geo_of q) (words_of q) c.args.place (number + 1) n) (sym w.reach-is) (reach_none (geo_of q) (words_of q) c.args.place number below none);
            short = omega (arith, w.reach-is);
          })
    ]

pub returns : goal.returns
returns c =
    let q = c.args.quiet.now in
    tested_all (slot_at (geo_of q) c.args.place) (is_cut_off (geo_of q) (words_of q) c.args.place) (2 * (geo_of q).chunks) c.loop-number.number c.loop-number.invariant.kept
    (omega (arith, c.loop-number-test.false, c.chunks-slots.ensures, ap (λ g. g.chunks) c.geo-geo.ensures))
