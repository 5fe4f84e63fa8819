-- Each chained tier was asked.
use Rattle.std.proofs.Common.{ℕ, ◌+◌, ◌<◌, ◌≤◌, arith, sym, ap, ◌∙◌}
use Rattle.std.proofs.lemmas.Result.{err_from_is_err_and}
use Rattle.cm_check.specs.CountLaws.{tier_count_broken, tier_count_in}
use Rattle.cm_check.specs.Findings.{Begins}
use Rattle.cm_check.specs.Places.{chain_in, is_linked}
use Rattle.cm_check.specs.Quiets.{geo_of, words_of}
use Rattle.cm_geo.specs.Addresses.{tier_at, words_in_segment}
use Rattle.cm_check.proofs.HeadWords.{segment_few}
use Rattle.cm_check.proofs.CountReads.{count_named}
use Rattle.cm_check.proofs.FirstFound.{asked_all, asked_first}
use Rattle.cm_check.proofs.counts.tier_counts.Goals as goal

pub overflow_add-at : goal.overflow_add-at
overflow_add-at c = omega (arith, c.tier_at-at.ensures.in_range, ap (λ g. words_in_segment g) c.geo-then-is_linked.ensures, segment_few (geo_of c.args.quiet.now))

pub returns-in_err-named_unless : goal.returns-in_err-named_unless
unfolding tier_count_broken
returns-in_err-named_unless c =
    let p = err_from_is_err_and c.from_residual.result c.from_residual.ensures.1 in
    let below : c.loop-place.place < (geo_of c.args.quiet.now).tiers = omega (arith, c.loop-place-test.true, c.tiers-place-end.ensures, ap (λ g. g.tiers) c.geo.ensures) in
    let begins : Begins (tier_count_in (geo_of c.args.quiet.now) (words_of c.args.quiet.now) c.loop-place.place) c.in_err-named_unless.field-0.0 = count_named (geo_of c.args.quiet.now) (words_of c.args.quiet.now) c.loop-place.place (c.tier_at-at.result + 1) c.word.result c.from.result c.in_err-named_unless.field-0.0 (ap (λ (n : ℕ). n + 1) (c.tier_at-at.ensures.value ∙ ap (λ g. tier_at g c.loop-place.place) c.geo-then-is_linked.ensures)) c.word.ensures (c.from.ensures ∙ c.occupied_in.ensures) c.in_err-named_unless.ensures in
    rw (p.1, p.2) (asked_first (λ place. tier_count_in (geo_of c.args.quiet.now) (words_of c.args.quiet.now) place) (is_linked (chain_in (geo_of c.args.quiet.now) (words_of c.args.quiet.now))) (geo_of c.args.quiet.now).tiers c.loop-place.place c.in_err-named_unless.field-0.0 c.loop-place.invariant below (sym c.is_linked.ensures ∙ c.if-is_linked.true) begins)

pub returns : goal.returns
unfolding tier_count_broken
returns c =
    let above : (geo_of c.args.quiet.now).tiers ≤ c.loop-place.place = omega (arith, c.loop-place-test.false, c.tiers-place-end.ensures, ap (λ g. g.tiers) c.geo.ensures) in
    asked_all (λ place. tier_count_in (geo_of c.args.quiet.now) (words_of c.args.quiet.now) place) (is_linked (chain_in (geo_of c.args.quiet.now) (words_of c.args.quiet.now))) (geo_of c.args.quiet.now).tiers c.loop-place.place c.loop-place.invariant above
