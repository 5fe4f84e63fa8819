-- Each chained tier was asked.
use Rattle.std.proofs.Common.{◌<◌, ◌≤◌, arith, sym, ap, ◌∙◌}
use Rattle.std.proofs.lemmas.Result.{err_from_is_err_and}
use Rattle.cm_check.specs.SlotLaws.{is_astray, slot_broken, slots_where}
use Rattle.cm_check.specs.Findings.{Begins}
use Rattle.cm_check.specs.Places.{chain_in, is_linked}
use Rattle.cm_check.specs.Quiets.{geo_of, words_of}
use Rattle.cm_check.proofs.FirstFound.{asked_all, asked_first}
use Rattle.cm_check.proofs.slots.slots.Goals as goal

pub returns-in_err-astray_in : goal.returns-in_err-astray_in
unfolding slot_broken
returns-in_err-astray_in c =
    let p = err_from_is_err_and c.from_residual.result c.from_residual.ensures.1 in
    let below : c.loop-place.place < (geo_of c.args.quiet.now).tiers = omega (arith, c.loop-place-test.true, c.tiers-place-end.ensures, ap (λ g. g.tiers) c.geo.ensures) in
    let begins : Begins (slots_where (geo_of c.args.quiet.now) c.loop-place.place (is_astray (geo_of c.args.quiet.now) c.args.quiet.now.segment (words_of c.args.quiet.now) c.loop-place.place)) c.in_err-astray_in.field-0.0 = c.in_err-astray_in.ensures in
    rw (p.1, p.2) (asked_first (λ place. slots_where (geo_of c.args.quiet.now) place (is_astray (geo_of c.args.quiet.now) c.args.quiet.now.segment (words_of c.args.quiet.now) place)) (is_linked (chain_in (geo_of c.args.quiet.now) (words_of c.args.quiet.now))) (geo_of c.args.quiet.now).tiers c.loop-place.place c.in_err-astray_in.field-0.0 c.loop-place.invariant below (sym c.is_linked.ensures ∙ c.if-is_linked.true) begins)

pub returns : goal.returns
unfolding slot_broken
returns c =
    let above : (geo_of c.args.quiet.now).tiers ≤ c.loop-place.place = omega (arith, c.loop-place-test.false, c.tiers-place-end.ensures, ap (λ g. g.tiers) c.geo.ensures) in
    asked_all (λ place. slots_where (geo_of c.args.quiet.now) place (is_astray (geo_of c.args.quiet.now) c.args.quiet.now.segment (words_of c.args.quiet.now) place)) (is_linked (chain_in (geo_of c.args.quiet.now) (words_of c.args.quiet.now))) (geo_of c.args.quiet.now).tiers c.loop-place.place c.loop-place.invariant above
