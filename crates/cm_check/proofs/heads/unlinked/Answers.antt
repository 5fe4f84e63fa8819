-- Each chained tier was asked.
use Rattle.std.proofs.Common.{◌≡◌, ℕ, ◌<◌, ◌≤◌, arith, subst, ap, ◌∙◌, not, Bool, true, false, refl}
use Rattle.std.proofs.lemmas.Result.{err_from_is_err_and}
use Rattle.cm_geo.specs.Addresses.{tier_at, words_in_tier}
use Rattle.cm_check.specs.HeadLaws.{nonzero_in, unlinked_broken, where_nonzero}
use Rattle.std.specs.List.{range_with_len}
use Rattle.cm_check.specs.Findings.{Begins}
use Rattle.cm_check.specs.Places.{chain_in, is_linked}
use Rattle.cm_check.specs.Quiets.{geo_of, words_of}
use Rattle.cm_check.proofs.HeadWords.{tier_inside}
use Rattle.cm_check.proofs.FirstFound.{asked_all, asked_first}
use Rattle.cm_check.proofs.heads.unlinked.Goals as goal

not_linked : (found linked : Bool) → found ≡ linked → found ≡ false → not linked ≡ true
not_linked found linked is e = rw (← is, e) refl

pub zeros-requires : goal.zeros-requires
zeros-requires c =
    let below : c.loop-place.place < (geo_of c.args.quiet.now).tiers = omega (arith, c.loop-place-test.true, c.tiers-place-end.ensures, ap (λ g. g.tiers) c.geo-geo.ensures) in
    omega (arith, tier_inside (geo_of c.args.quiet.now) c.loop-place.place below, c.tier_at.ensures.value ∙ ap (λ g. tier_at g c.loop-place.place) c.geo-geo.ensures, c.tier_words-words.ensures ∙ ap (λ g. words_in_tier g) c.geo-geo.ensures)

pub returns-in_err-zeros : goal.returns-in_err-zeros
unfolding unlinked_broken
returns-in_err-zeros c =
    let p = err_from_is_err_and c.from_residual.result c.from_residual.ensures.1 in
    let below : c.loop-place.place < (geo_of c.args.quiet.now).tiers = omega (arith, c.loop-place-test.true, c.tiers-place-end.ensures, ap (λ g. g.tiers) c.geo-geo.ensures) in
    let begins : Begins (nonzero_in (geo_of c.args.quiet.now) (words_of c.args.quiet.now) c.loop-place.place) c.in_err-zeros.field-0.0 = subst (λ (at : ℕ). Begins (where_nonzero (words_of c.args.quiet.now) (range_with_len at (words_in_tier (geo_of c.args.quiet.now)))) c.in_err-zeros.field-0.0) (c.tier_at.ensures.value ∙ ap (λ g. tier_at g c.loop-place.place) c.geo-geo.ensures) (subst (λ (n : ℕ). Begins (where_nonzero (words_of c.args.quiet.now) (range_with_len c.tier_at.result n)) c.in_err-zeros.field-0.0) (c.tier_words-words.ensures ∙ ap (λ g. words_in_tier g) c.geo-geo.ensures) c.in_err-zeros.ensures) in
    rw (p.1, p.2) (asked_first (λ place. nonzero_in (geo_of c.args.quiet.now) (words_of c.args.quiet.now) place) (λ place. not (is_linked (chain_in (geo_of c.args.quiet.now) (words_of c.args.quiet.now)) place)) (geo_of c.args.quiet.now).tiers c.loop-place.place c.in_err-zeros.field-0.0 c.loop-place.invariant below (not_linked _ _ c.is_linked.ensures c.if-not-is_linked.true) begins)

pub returns : goal.returns
unfolding unlinked_broken
returns c =
    let above : (geo_of c.args.quiet.now).tiers ≤ c.loop-place.place = omega (arith, c.loop-place-test.false, c.tiers-place-end.ensures, ap (λ g. g.tiers) c.geo-geo.ensures) in
    asked_all (λ place. nonzero_in (geo_of c.args.quiet.now) (words_of c.args.quiet.now) place) (λ place. not (is_linked (chain_in (geo_of c.args.quiet.now) (words_of c.args.quiet.now)) place)) (geo_of c.args.quiet.now).tiers c.loop-place.place c.loop-place.invariant above
