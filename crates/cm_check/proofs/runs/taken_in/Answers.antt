-- Each run takes chunks that no earlier one has, and where one doesn't, it meets an earlier one.
use Rattle.std.proofs.Common.{◌≡◌, ℕ, ◌+◌, ◌*◌, ◌<◌, arith, ap, sym, ◌∙◌, subst, below_more}
use Rattle.cm_geo.specs.Addresses.{slot_at}
use Rattle.cm_plain.specs.States.{pair_of}
use Rattle.cm_check.specs.Findings.{Begins}
use Rattle.cm_check.specs.SlotLaws.{is_overlapping, slots_where}
use Rattle.cm_check.specs.SlotReads.{IsEntryAt}
use Rattle.cm_check.specs.TakenChunks.{AddsRun, Tells}
use Rattle.cm_check.specs.Quiets.{geo_of, words_of}
use Rattle.cm_check.proofs.FirstFound.{tested_all, tested_first}
use Rattle.cm_check.proofs.KeySearch.{entry_reads}
use Rattle.cm_check.proofs.TakenBits.{apart_at, met_at, overlap_empty, run_short, tells_at, tells_none, tells_same}
use Rattle.cm_check.specs.declared.runs.Taken.{Taken}
use Rattle.cm_check.proofs.runs.taken_in.Goals as goal
use Rattle.cm_check.proofs.runs.taken_in.Goals.{in-Some+else-not-take, in_default}

pub loop-number-init : goal.loop-number-init
loop-number-init c = record {
  kept = λ number below. absurd (omega arith);
  tells = tells_none (geo_of c.args.quiet.now) (words_of c.args.quiet.now) c.args.place c.none-taken.result.bits c.none-taken.ensures;
}

pub take-requires : goal.take-requires
take-requires c =
    let q = c.args.quiet.now in
    let at : IsEntryAt (geo_of q) q.segment (words_of q) c.args.place c.loop-number.number c.in-Some.chunk = c.in-Some.ensures in
    run_short (geo_of q) q.segment (words_of q) c.args.place c.loop-number.number c.in-Some.chunk c.chunks_at.result at
    (c.chunks_at.ensures (pair_of at.placed) (entry_reads (geo_of q) q.segment (words_of q) c.args.place c.loop-number.number c.in-Some.chunk at))

pub returns-then-not-take-clause-first : goal.returns-then-not-take-clause-first
returns-then-not-take-clause-first c =
    let q = c.args.quiet.now in
    let number : ℕ = c.loop-number.number in
    let it : IsEntryAt (geo_of q) q.segment (words_of q) c.args.place number c.in-Some.chunk = c.in-Some.ensures in
    let long = c.chunks_at.ensures (pair_of it.placed) (entry_reads (geo_of q) q.segment (words_of q) c.args.place number c.in-Some.chunk it) in
    let met = met_at (geo_of q) q.segment (words_of q) c.args.place number c.in-Some.chunk c.chunks_at.result c.loop-number.taken.bits it long c.if-not-take.ensures c.loop-number.invariant.tells in
    let at : c.slot_at.result ≡ slot_at (geo_of q) c.args.place number = c.slot_at.ensures.value ∙ ap (λ g. slot_at g c.args.place number) c.geo-geo.ensures in
    let below : c.loop-number.number < 2 * (geo_of q).chunks = omega (arith, c.loop-number-test.true, c.chunks-number-end.ensures, ap (λ g. g.chunks) c.geo-geo.ensures) in
    subst (λ (x : ℕ). Begins (slots_where (geo_of q) c.args.place (is_overlapping (geo_of q) (words_of q) c.args.place)) x) (sym at)
    (tested_first (slot_at (geo_of q) c.args.place) (is_overlapping (geo_of q) (words_of q) c.args.place) (2 * (geo_of q).chunks) number c.loop-number.invariant.kept below met)

pub loop-number-preserved : goal.loop-number-preserved
loop-number-preserved c =
    let q = c.args.quiet.now in
    let number : ℕ = c.loop-number.number in
    elim c.match-entry_chunk.branch [
      | in-Some+else-not-take w ↦
          (let it : IsEntryAt (geo_of q) q.segment (words_of q) c.args.place number w.in-Some.chunk = w.in-Some.ensures in
          let long = w.chunks_at.ensures (pair_of it.placed) (entry_reads (geo_of q) q.segment (words_of q) c.args.place number w.in-Some.chunk it) in
          let adds : AddsRun c.loop-number.taken.bits w.take.new.self.bits w.in-Some.chunk w.chunks_at.result = w.if-not-take.ensures in
          record {
            kept = below_more _ _ c.loop-number.invariant.kept (apart_at (geo_of q) q.segment (words_of q) c.args.place number w.in-Some.chunk w.chunks_at.result c.loop-number.taken.bits w.take.new.self.bits it long adds c.loop-number.invariant.tells);
            tells = subst (λ (t : Taken). Tells (geo_of q) (words_of q) c.args.place (number + 1) t.bits) (sym w.taken-is)
                (tells_at (geo_of q) q.segment (words_of q) c.args.place number w.in-Some.chunk w.chunks_at.result c.loop-number.taken.bits w.take.new.self.bits it long adds c.loop-number.invariant.tells);
          })
      | in_default w ↦
          record {
            kept = below_more _ _ c.loop-number.invariant.kept (overlap_empty (geo_of q) (words_of q) c.args.place number w.in_default.ensures);
            tells = subst (λ (t : Taken). Tells (geo_of q) (words_of q) c.args.place (number + 1) t.bits) (sym w.taken-is)
                (tells_same (geo_of q) (words_of q) c.args.place number c.loop-number.taken.bits w.in_default.ensures c.loop-number.invariant.tells);
          }
    ]

pub returns-clause-first : goal.returns-clause-first
returns-clause-first c =
    let q = c.args.quiet.now in
    tested_all (slot_at (geo_of q) c.args.place) (is_overlapping (geo_of q) (words_of q) c.args.place) (2 * (geo_of q).chunks) c.loop-number.number c.loop-number.invariant.kept
    (omega (arith, c.loop-number-test.false, c.chunks-number-end.ensures, ap (λ g. g.chunks) c.geo-geo.ensures))
