-- The tiers so far were counted.
use Rattle.std.proofs.Common.{◌≡◌, ℕ, ◌+◌, ◌<◌, ◌≤◌, nat_lt, arith, ap, sym, below_more}
use Rattle.cm_words.specs.Maps.{segment_in}
use Rattle.cm_check.specs.declared.law.Law.TheVariants.{Allowance}
use Rattle.cm_check.specs.LawOrder.{allowance_broken, broken_at, extra_before}
use Rattle.cm_check.proofs.FirstFound.{tested_all, tested_first}
use Rattle.cm_check.proofs.MapLaws.{allowed, beyond, extra_more, extra_none, extra_new}
use Rattle.cm_check.proofs.laws.allowance.Goals as goal

pub loop-segment-init : goal.loop-segment-init
loop-segment-init c = record { is = sym (extra_none c.args.words.now.geo (segment_in c.args.words.now)); short = omega arith; kept = λ earlier below. absurd (omega arith) }

pub returns-then-extra : goal.returns-then-extra
unfolding allowance_broken
returns-then-extra c =
    let words = c.args.words.now in
    let segment : ℕ = c.loop-segment.segment in
    let below : c.loop-segment.segment < words.geo.segments = omega (arith, c.loop-segment-test.true, c.segments-segment-end.ensures, ap (λ g. g.segments) c.geo-geo.ensures) in
    let here = extra_new c.new.result words segment c.extra_tiers-extra.result c.new.ensures.words c.new.ensures.segment c.extra_tiers-extra.ensures.value in
    let more = extra_more words.geo (segment_in words) segment in
    let over : words.geo.extra < extra_before words.geo (segment_in words) (segment + 1) = omega (arith, c.if-extra.true, c.extra.ensures, ap (λ g. g.extra) c.geo-geo.ensures, here, more, c.loop-segment.invariant.is) in
    tested_first (λ segment. broken_at segment Allowance 0) (λ segment. nat_lt words.geo.extra (extra_before words.geo (segment_in words) (segment + 1))) words.geo.segments segment
    (λ earlier before. allowed (extra_before words.geo (segment_in words) (earlier + 1)) words.geo.extra (c.loop-segment.invariant.kept earlier before)) below (beyond (extra_before words.geo (segment_in words) (segment + 1)) words.geo.extra over)

pub loop-segment-preserved : goal.loop-segment-preserved
loop-segment-preserved c =
    let words = c.args.words.now in
    let segment : ℕ = c.loop-segment.segment in
    let here = extra_new c.new.result words segment c.extra_tiers-extra.result c.new.ensures.words c.new.ensures.segment c.extra_tiers-extra.ensures.value in
    let more = extra_more words.geo (segment_in words) segment in
    let is : c.loop-segment.extra + c.extra_tiers-extra.result ≡ extra_before words.geo (segment_in words) (segment + 1) = omega (arith, here, more, c.loop-segment.invariant.is) in
    record {
      is = is;
      short = omega (arith, c.loop-segment.invariant.short, c.extra_tiers-extra.ensures.below_eight);
      kept = below_more _ _ c.loop-segment.invariant.kept (omega (arith, is, c.if-extra.false, c.extra.ensures, ap (λ g. g.extra) c.geo-geo.ensures));
    }

pub returns : goal.returns
unfolding allowance_broken
returns c =
    let words = c.args.words.now in
    let above : words.geo.segments ≤ c.loop-segment.segment = omega (arith, c.loop-segment-test.false, c.segments-segment-end.ensures, ap (λ g. g.segments) c.geo-geo.ensures) in
    tested_all (λ segment. broken_at segment Allowance 0) (λ segment. nat_lt words.geo.extra (extra_before words.geo (segment_in words) (segment + 1))) words.geo.segments c.loop-segment.segment
    (λ earlier before. allowed (extra_before words.geo (segment_in words) (earlier + 1)) words.geo.extra (c.loop-segment.invariant.kept earlier before)) above
