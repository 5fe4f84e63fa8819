-- The search passes each slot that may have the key.
use Rattle.std.proofs.Common.{◌≡◌, ◌<◌, Bool, true, false, arith, sym, ◌∙◌}
use Rattle.cm_plain.specs.States.{pair_of}
use Rattle.cm_check.specs.SlotEntries.{entry_in, has_key}
use Rattle.cm_check.specs.Quiets.{geo_of, words_of}
use Rattle.cm_check.proofs.QuietReads.{many_words}
use Rattle.cm_check.proofs.KeySearch.{entry_has_key, entry_lacks_key, hit_entry, key_found, law_kept, search_ended, search_passed}
use Rattle.cm_check.proofs.repeats.is_among.Goals as goal
use Rattle.cm_check.proofs.repeats.is_among.Goals.{else-hit-count-via-else-hit-count, else-hit-count-via-then-hit-count+else-has_key}

pub returns-then-has_key : goal.returns-then-has_key
returns-then-has_key c =
    let q = c.args.quiet.now in
    let at = hit_entry (geo_of q) q.segment (words_of q) c.args.place c.args.fingerprint c.loop-hit.from c.in-Some.hit (many_words q) c.requires.place c.requires.rightful c.in-Some.ensures.found in
    let same = (c.has_key.ensures (pair_of at.0) at.2).0 c.if-has_key.true in
    sym (key_found (geo_of q) (words_of q) c.args.key.now c.args.count c.args.place c.in-Some.hit.slot c.if-hit-count.true (entry_has_key (geo_of q) (words_of q) c.args.place c.in-Some.hit.slot at.0 c.args.key.now at.1 same))

pub loop-hit-preserved : goal.loop-hit-preserved
loop-hit-preserved c =
    let q = c.args.quiet.now in
    let at = hit_entry (geo_of q) q.segment (words_of q) c.args.place c.args.fingerprint c.loop-hit.from c.in-Some.hit (many_words q) c.requires.place c.requires.rightful c.in-Some.ensures.found in
    let here : c.in-Some.hit.slot < c.args.count → has_key c.args.key.now (entry_in (geo_of q) (words_of q) c.args.place c.in-Some.hit.slot) ≡ false = λ inside. elim c.else-hit-count.branch [
      | else-hit-count-via-then-hit-count+else-has_key w ↦
          entry_lacks_key (geo_of q) (words_of q) c.args.place c.in-Some.hit.slot at.0 c.args.key.now at.1 (λ same. no (w.has_key.result) ((w.has_key.ensures (pair_of at.0) at.2).1 same) w.if-has_key.false)
      | else-hit-count-via-else-hit-count w ↦ absurd (omega (arith, inside, w.if-hit-count.false))
    ] in
    record {
      inside = omega (arith, c.in-Some.ensures.inside.steps);
      none = search_passed (geo_of q) q.segment (words_of q) c.args.place (many_words q) c.requires.place c.requires.rightful c.args.key.now c.args.fingerprint c.args.count c.loop-hit.from c.in-Some.hit c.requires.fingerprint c.in-Some.ensures.found c.loop-hit.invariant.none c.requires.count here;
    }
  where
    no : (b : Bool) → b ≡ true → b ≡ false → ⊥
    no b one other = cc (sym one ∙ other)

pub returns : goal.returns
returns c =
    let q = c.args.quiet.now in
    sym (search_ended (geo_of q) q.segment (words_of q) c.args.place (many_words q) c.requires.place c.requires.rightful c.args.key.now c.args.fingerprint c.args.count c.loop-hit.from c.requires.fingerprint
    (law_kept (geo_of q) (words_of q) c.args.place c.requires.reached) c.in_default.ensures.found c.loop-hit.invariant.none c.requires.count)
