-- One segment's lines more.
use Rattle.std.proofs.Common.{◌≡◌, ℕ, ◌<◌, ◌≤◌, ◌++◌, List, [], arith, ap, sym, ◌∙◌, subst, inl, inr}
use Rattle.std.specs.List.{flat_map, range_with_len}
use Rattle.std.proofs.lemmas.Bool.{cases_lt}
use Rattle.cm_plain.specs.declared.receipt.MapLine.{MapLine}
use Rattle.cm_words.specs.Maps.{MapWords, segment_in}
use Rattle.cm_check.specs.Contents.{ListsSegment}
use Rattle.cm_words.specs.LawfulMaps.{IsLawfulSegment}
use Rattle.cm_check.specs.Quiets.{geo_of, words_of}
use Rattle.cm_check.specs.declared.quiet.Quiet.{Quiet}
use Rattle.cm_check.proofs.QuietReads.{words_new}
use Rattle.cm_check.proofs.MapLines.{parts_more}
use Rattle.cm_check.proofs.lines.contents.Goals as goal

pub loop-segment-init : goal.loop-segment-init
loop-segment-init c = record { parts = λ segment. []; lines_are = c.new-lines.ensures.items; listed = λ segment below. absurd (omega arith) }

-- what holds of a segment's words holds of those that were read, and back
lawful_new : (quiet : Quiet) (map : MapWords) (segment : ℕ) → quiet.words.now ≡ map → quiet.segment ≡ segment → IsLawfulSegment map.geo segment (segment_in map segment) → IsLawfulSegment (geo_of quiet) quiet.segment (words_of quiet)
lawful_new quiet map segment e f lawful =
    let words = words_new quiet map segment e f in
    let one : IsLawfulSegment map.geo segment (words_of quiet) = subst (λ (w : List ℕ). IsLawfulSegment map.geo segment w) (sym words) lawful in
    let two : IsLawfulSegment map.geo quiet.segment (words_of quiet) = subst (λ (s : ℕ). IsLawfulSegment map.geo s (words_of quiet)) (sym f) one in
    subst (λ (m : MapWords). IsLawfulSegment m.geo quiet.segment (words_of quiet)) (sym e) two

listed_new : (quiet : Quiet) (map : MapWords) (segment : ℕ) (lines : List MapLine) → quiet.words.now ≡ map → quiet.segment ≡ segment → ListsSegment (geo_of quiet) quiet.segment (words_of quiet) lines → ListsSegment map.geo segment (segment_in map segment) lines
listed_new quiet map segment lines e f listed =
    let one : ListsSegment map.geo quiet.segment (words_of quiet) lines = subst (λ (m : MapWords). ListsSegment m.geo quiet.segment (words_of quiet) lines) e listed in
    let two : ListsSegment map.geo segment (words_of quiet) lines = subst (λ (s : ℕ). ListsSegment map.geo s (words_of quiet) lines) f one in
    subst (λ (w : List ℕ). ListsSegment map.geo segment w lines) (words_new quiet map segment e f) two

pub segment_lines-requires : goal.segment_lines-requires
segment_lines-requires c =
    let words = c.args.words.now in
    let below : c.loop-segment.segment < words.geo.segments = omega (arith, c.loop-segment-test.true, c.segments-segment-end.ensures, ap (λ g. g.segments) c.geo.ensures) in
    lawful_new c.new.result words c.loop-segment.segment c.new.ensures.words c.new.ensures.segment (c.requires.segments c.loop-segment.segment below)

pub loop-segment-preserved : goal.loop-segment-preserved
loop-segment-preserved c =
    let words = c.args.words.now in
    let it = parts_more c.loop-segment.invariant.parts c.loop-segment.segment c.in_ok-more.more.items in
    let here = listed_new c.new.result words c.loop-segment.segment c.in_ok-more.more.items c.new.ensures.words c.new.ensures.segment c.in_ok-more.ensures in
    record {
      parts = it.0;
      lines_are = c.in_ok-append.ensures.items ∙ (ap (λ (xs : List MapLine). xs ++ c.in_ok-more.more.items) c.loop-segment.invariant.lines_are ∙ sym it.1);
      listed = λ segment below. elim (cases_lt segment c.loop-segment.segment) [
        | inl before ↦ subst (λ (xs : List MapLine). ListsSegment words.geo segment (segment_in words segment) xs) (sym (it.2 segment before)) (c.loop-segment.invariant.listed segment before)
        | inr behind ↦
            (let same : c.loop-segment.segment ≡ segment = omega (arith, behind, below) in
            subst (λ (s : ℕ). ListsSegment words.geo s (segment_in words s) (it.0 s)) same (subst (λ (xs : List MapLine). ListsSegment words.geo c.loop-segment.segment (segment_in words c.loop-segment.segment) xs) (sym it.3) here))
      ];
    }

pub returns : goal.returns
returns c =
    let words = c.args.words.now in
    let above : words.geo.segments ≤ c.loop-segment.segment = omega (arith, c.loop-segment-test.false, c.segments-segment-end.ensures, ap (λ g. g.segments) c.geo.ensures) in
    let end : c.loop-segment.segment ≡ words.geo.segments = omega (arith, above, c.loop-segment.auto.segment-end, c.segments-segment-end.ensures, ap (λ g. g.segments) c.geo.ensures) in
    record {
      parts = c.loop-segment.invariant.parts;
      lines_are = c.loop-segment.invariant.lines_are ∙ ap (λ (n : ℕ). flat_map c.loop-segment.invariant.parts (range_with_len 0 n)) end;
      listed = λ segment below. c.loop-segment.invariant.listed segment (omega (arith, below, above));
    }
