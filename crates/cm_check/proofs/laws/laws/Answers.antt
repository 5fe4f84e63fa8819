-- Each segment was asked, and then the allowance.
use Rattle.std.proofs.Common.{◌<◌, ◌≤◌, List, flat_map, arith, ap, sym, ◌∙◌, subst, below_more}
use Rattle.std.specs.List.{range_with_len}
use Rattle.std.proofs.lemmas.Result.{err_from_is_err_and}
use Rattle.cm_words.specs.Maps.{segment_in}
use Rattle.cm_check.specs.declared.law.Broken.{Broken}
use Rattle.cm_check.specs.Findings.{Begins}
use Rattle.cm_check.specs.LawOrder.{allowance_broken, breaks, breaks_in}
use Rattle.cm_check.proofs.BrokenLaws.{names_rest}
use Rattle.cm_check.proofs.FirstFound.{begins_left, numbers_all, numbers_first}
use Rattle.cm_check.proofs.MapLaws.{breaks_new}
use Rattle.cm_check.proofs.laws.laws.Goals as goal

pub returns-in_err-segment_laws : goal.returns-in_err-segment_laws
unfolding breaks
returns-in_err-segment_laws c =
    let words = c.args.words.now in
    let p = err_from_is_err_and c.from_residual.result c.from_residual.ensures.1 in
    let here = breaks_new c.new.result words c.loop-segment.segment c.new.ensures.words c.new.ensures.segment in
    let below : c.loop-segment.segment < words.geo.segments = omega (arith, c.loop-segment-test.true, c.segments-segment-end.ensures, ap (λ g. g.segments) c.geo.ensures) in
    rw (p.1, p.2) (begins_left (flat_map (λ segment. breaks_in words.geo segment (segment_in words segment)) (range_with_len 0 words.geo.segments)) (allowance_broken words.geo (segment_in words)) c.in_err-segment_laws.field-0.0
    (numbers_first (λ segment. breaks_in words.geo segment (segment_in words segment)) words.geo.segments c.loop-segment.segment c.in_err-segment_laws.field-0.0 c.loop-segment.invariant below
    (subst (λ (xs : List Broken). Begins xs c.in_err-segment_laws.field-0.0) here c.in_err-segment_laws.ensures)))

pub loop-segment-preserved : goal.loop-segment-preserved
loop-segment-preserved c =
    let words = c.args.words.now in
    let here = breaks_new c.new.result words c.loop-segment.segment c.new.ensures.words c.new.ensures.segment in
    below_more _ _ c.loop-segment.invariant (sym here ∙ c.in_ok-segment_laws.ensures)

pub returns : goal.returns
unfolding breaks
returns c =
    let words = c.args.words.now in
    let above : words.geo.segments ≤ c.loop-segment.segment = omega (arith, c.loop-segment-test.false, c.segments-segment-end.ensures, ap (λ g. g.segments) c.geo.ensures) in
    names_rest (flat_map (λ segment. breaks_in words.geo segment (segment_in words segment)) (range_with_len 0 words.geo.segments)) (allowance_broken words.geo (segment_in words)) c.allowance.result
    (numbers_all (λ segment. breaks_in words.geo segment (segment_in words segment)) words.geo.segments c.loop-segment.segment c.loop-segment.invariant above) c.allowance.ensures
