-- Each chained tier was asked.
use Rattle.std.proofs.Common.{ℕ, ◌+◌, ◌<◌, ◌≤◌, arith, sym, subst, ap, ◌∙◌}
use Rattle.std.proofs.lemmas.Result.{err_from_is_err_and}
use Rattle.cm_geo.specs.Addresses.{tier_at, words_in_segment}
use Rattle.cm_check.proofs.HeadWords.{segment_few}
use Rattle.cm_check.specs.HeadLaws.{reserved_broken, reserved_in, where_nonzero}
use Rattle.std.specs.List.{range_with_len}
use Rattle.cm_check.specs.Findings.{Begins}
use Rattle.cm_check.specs.Places.{chain_in, is_linked}
use Rattle.cm_check.specs.Quiets.{geo_of, words_of}
use Rattle.cm_check.proofs.FirstFound.{asked_all, asked_first}
use Rattle.cm_check.proofs.heads.reserved.Goals as goal

pub overflow_add-tier_at : goal.overflow_add-tier_at
overflow_add-tier_at c = omega (arith, c.tier_at.ensures.in_range, ap (λ g. words_in_segment g) c.geo-then-is_linked.ensures, segment_few (geo_of c.args.quiet.now))

pub returns-in_err-zeros : goal.returns-in_err-zeros
unfolding reserved_broken
returns-in_err-zeros c =
    let p = err_from_is_err_and c.from_residual.result c.from_residual.ensures.1 in
    let below : c.loop-place.place < (geo_of c.args.quiet.now).tiers = omega (arith, c.loop-place-test.true, c.tiers-place-end.ensures, ap (λ g. g.tiers) c.geo.ensures) in
    let begins : Begins (reserved_in (geo_of c.args.quiet.now) (words_of c.args.quiet.now) c.loop-place.place) c.in_err-zeros.field-0.0 = subst (λ (at : ℕ). Begins (where_nonzero (words_of c.args.quiet.now) (range_with_len (at + 2) 2)) c.in_err-zeros.field-0.0) (c.tier_at.ensures.value ∙ ap (λ g. tier_at g c.loop-place.place) c.geo-then-is_linked.ensures) c.in_err-zeros.ensures in
    rw (p.1, p.2) (asked_first (λ place. reserved_in (geo_of c.args.quiet.now) (words_of c.args.quiet.now) place) (is_linked (chain_in (geo_of c.args.quiet.now) (words_of c.args.quiet.now))) (geo_of c.args.quiet.now).tiers c.loop-place.place c.in_err-zeros.field-0.0 c.loop-place.invariant below (sym c.is_linked.ensures ∙ c.if-is_linked.true) begins)

pub returns : goal.returns
unfolding reserved_broken
returns c =
    let above : (geo_of c.args.quiet.now).tiers ≤ c.loop-place.place = omega (arith, c.loop-place-test.false, c.tiers-place-end.ensures, ap (λ g. g.tiers) c.geo.ensures) in
    asked_all (λ place. reserved_in (geo_of c.args.quiet.now) (words_of c.args.quiet.now) place) (is_linked (chain_in (geo_of c.args.quiet.now) (words_of c.args.quiet.now))) (geo_of c.args.quiet.now).tiers c.loop-place.place c.loop-place.invariant above
