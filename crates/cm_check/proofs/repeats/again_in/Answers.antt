-- Each slot was asked for the key of its entry.
use Rattle.std.proofs.Common.{◌≡◌, ℕ, ◌*◌, ◌<◌, ◌||◌, true, false, List, arith, ap, sym, ◌∙◌, subst, below_more}
use Rattle.std.specs.List.{list_any}
use Rattle.cm_geo.specs.Addresses.{slot_at}
use Rattle.cm_plain.specs.States.{pair_of}
use Rattle.cm_plain.proofs.States.{place_low}
use Rattle.cm_check.specs.Findings.{Begins}
use Rattle.cm_check.specs.Quiets.{geo_of, words_of}
use Rattle.cm_check.specs.SlotLaws.{is_again, is_key_among, slots_where}
use Rattle.cm_check.proofs.QuietReads.{chain_is}
use Rattle.cm_check.proofs.FirstFound.{tested_all, tested_first}
use Rattle.cm_check.proofs.KeySearch.{again_is, again_none, entry_chunk_low, entry_reads}
use Rattle.cm_check.proofs.repeats.again_in.Goals as goal
use Rattle.cm_check.proofs.repeats.again_in.Goals.{in-Some+else-is_again, in_default}

pub entry_chunk-requires-clause-slot : goal.entry_chunk-requires-clause-slot
entry_chunk-requires-clause-slot c = record {
  place_inside = place_low (chain_is c.args.quiet.now) c.args.place c.requires.chained;
  slot_inside = omega (arith, c.loop-number-test.true, c.chunks-number-end.ensures, ap (λ g. g.chunks) c.geo-geo.ensures);
}

pub read_key-len-requires-clause-chunk : goal.read_key-len-requires-clause-chunk
read_key-len-requires-clause-chunk c = record {
  place_low = place_low (chain_is c.args.quiet.now) c.args.place c.requires.chained;
  chunk_low = entry_chunk_low (geo_of c.args.quiet.now) c.args.quiet.now.segment (words_of c.args.quiet.now) c.args.place c.loop-number.number c.in-Some.chunk c.in-Some.ensures;
}

pub is_again-requires-clause-slot : goal.is_again-requires-clause-slot
is_again-requires-clause-slot c = record {
  place_inside = place_low (chain_is c.args.quiet.now) c.args.place c.requires.chained;
  slot_inside = omega (arith, c.loop-number-test.true, c.chunks-number-end.ensures, ap (λ g. g.chunks) c.geo-geo.ensures);
}

pub slot_at-requires-clause-place : goal.slot_at-requires-clause-place
slot_at-requires-clause-place c = rw c.geo-geo.ensures (place_low (chain_is c.args.quiet.now) c.args.place c.requires.chained)

pub returns-then-is_again : goal.returns-then-is_again
returns-then-is_again c =
    let q = c.args.quiet.now in
    let number : ℕ = c.loop-number.number in
    let at : c.slot_at.result ≡ slot_at (geo_of q) c.args.place number = c.slot_at.ensures.value ∙ ap (λ g. slot_at g c.args.place number) c.geo-geo.ensures in
    let below : c.loop-number.number < 2 * (geo_of q).chunks = omega (arith, c.loop-number-test.true, c.chunks-number-end.ensures, ap (λ g. g.chunks) c.geo-geo.ensures) in
    let key = c.read_key-len.ensures.copied (pair_of c.in-Some.ensures.placed) (entry_reads (geo_of q) q.segment (words_of q) c.args.place number c.in-Some.chunk c.in-Some.ensures) in
    let again : is_again (geo_of q) (words_of q) c.args.earlier.now c.args.place number ≡ true =
    again_is (geo_of q) (words_of q) c.args.earlier.now c.args.place number c.in-Some.ensures.placed c.in-Some.ensures.entry_is
    ∙ sym (subst (λ (k : List ℕ). true ≡ (list_any (is_key_among (geo_of q) (words_of q) k (2 * (geo_of q).chunks)) c.args.earlier.now || is_key_among (geo_of q) (words_of q) k number c.args.place)) key c.if-is_again.ensures) in
    subst (λ (x : ℕ). Begins (slots_where (geo_of q) c.args.place (is_again (geo_of q) (words_of q) c.args.earlier.now c.args.place)) x) (sym at)
    (tested_first (slot_at (geo_of q) c.args.place) (is_again (geo_of q) (words_of q) c.args.earlier.now c.args.place) (2 * (geo_of q).chunks) number c.loop-number.invariant below again)

pub loop-number-preserved : goal.loop-number-preserved
loop-number-preserved c =
    let q = c.args.quiet.now in
    let number : ℕ = c.loop-number.number in
    elim c.match-entry_chunk.branch [
      | in-Some+else-is_again w ↦
          (let key = w.read_key-len.ensures.copied (pair_of w.in-Some.ensures.placed) (entry_reads (geo_of q) q.segment (words_of q) c.args.place number w.in-Some.chunk w.in-Some.ensures) in
          below_more _ _ c.loop-number.invariant (again_is (geo_of q) (words_of q) c.args.earlier.now c.args.place number w.in-Some.ensures.placed w.in-Some.ensures.entry_is
          ∙ sym (subst (λ (k : List ℕ). false ≡ (list_any (is_key_among (geo_of q) (words_of q) k (2 * (geo_of q).chunks)) c.args.earlier.now || is_key_among (geo_of q) (words_of q) k number c.args.place)) key w.if-is_again.ensures)))
      | in_default w ↦ below_more _ _ c.loop-number.invariant (again_none (geo_of q) (words_of q) c.args.earlier.now c.args.place number w.in_default.ensures)
    ]

pub returns : goal.returns
returns c =
    let q = c.args.quiet.now in
    tested_all (slot_at (geo_of q) c.args.place) (is_again (geo_of q) (words_of q) c.args.earlier.now c.args.place) (2 * (geo_of q).chunks) c.loop-number.number c.loop-number.invariant
    (omega (arith, c.loop-number-test.false, c.chunks-number-end.ensures, ap (λ g. g.chunks) c.geo-geo.ensures))
