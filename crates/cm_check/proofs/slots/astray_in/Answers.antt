-- Each slot was asked.
use Rattle.std.proofs.Common.{◌≡◌, ℕ, ◌*◌, ◌<◌, arith, ap, sym, ◌∙◌, subst}
use Rattle.cm_geo.specs.Addresses.{slot_at}
use Rattle.cm_check.specs.Findings.{Begins}
use Rattle.cm_check.specs.SlotLaws.{is_astray, slots_where}
use Rattle.cm_check.specs.Quiets.{geo_of, words_of}
use Rattle.cm_check.proofs.FirstFound.{tested_all, tested_first}
use Rattle.cm_check.proofs.slots.astray_in.Goals as goal

pub returns-then-is_astray : goal.returns-then-is_astray
returns-then-is_astray c =
    let q = c.args.quiet.now in
    let at : c.slot_at.result ≡ slot_at (geo_of q) c.args.place c.loop-number.number = c.slot_at.ensures.value ∙ ap (λ g. slot_at g c.args.place c.loop-number.number) c.geo-then-is_astray.ensures in
    let below : c.loop-number.number < 2 * (geo_of q).chunks = omega (arith, c.loop-number-test.true, c.chunks-number-end.ensures, ap (λ g. g.chunks) c.geo.ensures) in
    subst (λ (x : ℕ). Begins (slots_where (geo_of q) c.args.place (is_astray (geo_of q) q.segment (words_of q) c.args.place)) x) (sym at)
    (tested_first (slot_at (geo_of q) c.args.place) (is_astray (geo_of q) q.segment (words_of q) c.args.place) (2 * (geo_of q).chunks) c.loop-number.number c.loop-number.invariant below (sym c.is_astray.ensures ∙ c.if-is_astray.true))

pub returns : goal.returns
returns c =
    let q = c.args.quiet.now in
    tested_all (slot_at (geo_of q) c.args.place) (is_astray (geo_of q) q.segment (words_of q) c.args.place) (2 * (geo_of q).chunks) c.loop-number.number c.loop-number.invariant
    (omega (arith, c.loop-number-test.false, c.chunks-number-end.ensures, ap (λ g. g.chunks) c.geo.ensures))
