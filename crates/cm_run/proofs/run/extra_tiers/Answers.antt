use Rattle.std.proofs.Common.{◌≡◌, ◌∙◌, ℕ, ◌+◌, ◌^◌, ◌<◌, map, sum, refl, sym, ap, arith}
use Rattle.std.specs.List.{range_with_len}
use Rattle.cm_geo.specs.declared.geo.Geo.{Geo}
use Rattle.std.proofs.lemmas.Grind.{common_steps}
use Rattle.cm_geo.proofs.Ranges.{segments_range, tiers_range}
use Rattle.cm_store.specs.Tables.{linked_in}
use Rattle.cm_run.proofs.Sums.{sum_most, sum_next}
use Rattle.cm_run.proofs.run.extra_tiers.Goals as goal

pub loop-segment-init : goal.loop-segment-init
loop-segment-init c = refl

pub overflow_add-extra : goal.overflow_add-extra
overflow_add-extra c =
    let geo = c.args.words.now.geo in
    let same : c.segments-segment-end.result ≡ geo.segments = c.segments-segment-end.ensures ∙ ap (λ (g : Geo). g.segments) c.geo.ensures in
    let most = sum_most (linked_in c.args.words.now) c.loop-segment.segment geo.segments (omega (arith, same, c.loop-segment-test.true)) in
    let so_far = c.loop-segment.invariant in
    let more = c.extra_in-extra.ensures in
    let within = c.requires in
    let s = segments_range geo in let t = tiers_range geo in let e = few geo in
    omega arith
  where
    few : (geo : Geo) → geo.extra < 2 ^ 32
    few geo = grind (arith, common_steps, geo.extra_fit)

pub loop-segment-preserved : goal.loop-segment-preserved
loop-segment-preserved c =
    ap (λ (n : ℕ). n + c.extra_in-extra.result) c.loop-segment.invariant
    ∙ (ap (λ (n : ℕ). sum (map (linked_in c.args.words.now) (range_with_len 0 c.loop-segment.segment)) + n) c.extra_in-extra.ensures
    ∙ sym (sum_next (linked_in c.args.words.now) c.loop-segment.segment))

pub returns : goal.returns
returns c =
    let same : c.segments-segment-end.result ≡ c.args.words.now.geo.segments = c.segments-segment-end.ensures ∙ ap (λ (g : Geo). g.segments) c.geo.ensures in
    let all : c.loop-segment.segment ≡ c.args.words.now.geo.segments = (let m = c.loop-segment.auto.segment-end in omega (arith, same, c.loop-segment-test.false)) in
    c.loop-segment.invariant ∙ ap (λ (n : ℕ). sum (map (linked_in c.args.words.now) (range_with_len 0 n))) all
