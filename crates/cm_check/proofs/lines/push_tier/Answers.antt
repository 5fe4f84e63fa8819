-- One line more for each slot with an entry.
use Rattle.std.proofs.Common.{◌≡◌, ◌++◌, List, ◌∷◌, [], ap, sym, ◌∙◌, append_assoc}
use Rattle.cm_plain.specs.declared.receipt.MapLine.{MapLine}
use Rattle.cm_plain.specs.States.{pair_of}
use Rattle.cm_check.specs.Contents.{line_of, lines_in}
use Rattle.cm_check.specs.SlotReads.{IsEntryAt}
use Rattle.cm_check.specs.Quiets.{geo_of, words_of}
use Rattle.cm_check.proofs.KeySearch.{entry_reads}
use Rattle.cm_check.proofs.MapLines.{lines_none, lines_some}
use Rattle.cm_check.proofs.lines.push_tier.Goals as goal
use Rattle.cm_check.proofs.lines.push_tier.Goals.{in-Some+in_ok-line_at+in_ok-push, in_default}

-- one line more, behind those so far
joined : (now first so_far later : List MapLine) (line line' : MapLine) → now ≡ first ++ so_far → line ≡ line' → later ≡ so_far ++ line' ∷ [] → now ++ line ∷ [] ≡ first ++ later
joined now first so_far later line line' e f g = rw (e, f, g) (append_assoc first so_far (line' ∷ []))

pub loop-number-preserved : goal.loop-number-preserved
loop-number-preserved c =
    let q = c.args.quiet.now in
    elim c.match-entry_chunk.branch [
      | in-Some+in_ok-line_at+in_ok-push w ↦
          (let at : IsEntryAt (geo_of q) q.segment (words_of q) c.args.place c.loop-number.number w.in-Some.chunk = w.in-Some.ensures in
          let line : w.in_ok-line_at.field-0 ≡ line_of q.segment (pair_of at.placed) = w.in_ok-line_at.ensures (pair_of at.placed) (entry_reads (geo_of q) q.segment (words_of q) c.args.place c.loop-number.number w.in-Some.chunk at) in
          let more = lines_some (geo_of q) q.segment (words_of q) c.loop-number.number c.args.place at.placed at.entry_is in
          let pushed : w.push.new.self.items ≡ c.loop-number.lines.items ++ w.in_ok-line_at.field-0 ∷ [] = w.in_ok-push.ensures.items in
          ap (λ v. v.items) w.lines-is ∙ (pushed ∙ joined c.loop-number.lines.items c.args.lines.now.items (lines_in (geo_of q) q.segment (words_of q) c.loop-number.number c.args.place) _ w.in_ok-line_at.field-0 (line_of q.segment (pair_of at.placed)) c.loop-number.invariant line more))
      | in_default w ↦
          (let none = lines_none (geo_of q) q.segment (words_of q) c.loop-number.number c.args.place w.in_default.ensures in
          ap (λ v. v.items) w.lines-is ∙ (c.loop-number.invariant ∙ ap (λ (xs : List MapLine). c.args.lines.now.items ++ xs) (sym none)))
    ]
