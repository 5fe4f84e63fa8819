-- The key is copied, then compared with those that were kept, and then the run's bits are looked at.
use Rattle.std.proofs.Common.{arith, ◌↔◌, ◌∙◌, ℕ, IsTrue, true, false, ap, refl, sym, subst}
use Rattle.cm_geo.specs.Hash.{fingerprint_in, segment_in}
use Rattle.cm_chunks.specs.Free.{IsFreeRun}
use Rattle.cm_plain.specs.declared.placed.Placed.{Placed}
use Rattle.cm_plain.specs.declared.plan.Run.{Run}
use Rattle.cm_plain.specs.Changes.{entry_at}
use Rattle.cm_words.proofs.CallSequences.{loaded_then}
use Rattle.cm_words.specs.Effects.{Reads}
use Rattle.cm_recover.proofs.JudgedSlots.{judged_duplicate, judged_kept, judged_overlap, on_entry}
use Rattle.cm_recover.proofs.OpenMemories.{answered, loaded_answered}
use Rattle.cm_recover.proofs.judging.judge_entry.Goals as goal

pub returns-then-has_key-clause-loads : goal.returns-then-has_key-clause-loads
returns-then-has_key-clause-loads g c =
    loaded_then g.M.Mem.seen g.M.Mem.same_rest _ _ _ (g.met.M.Mem.rest_transitive _ _ _)
    (answered g.M.Mem.seen g.M.Mem.same_rest Reads Reads _ _ _ _ c.alive-len.ensures c.read_key_into.ensures.loads.loads)
    c.has_key.ensures.loads

pub returns-then-has_key-clause-verdict : goal.returns-then-has_key-clause-verdict
returns-then-has_key-clause-verdict g c =
    let copied = (rw c.alive-len.ensures at c.read_key_into.ensures.key).copied in
    let found = rw c.if-has_key.true at c.has_key.ensures.found in
    λ words old kept pair fits so_far reads run_is.
    (let key_is = (copied words (c.has_key.ensures.loads.done.fits words fits) pair reads).1 in
    on_entry c.args.geo.now c.args.segment kept c.args.fingerprint (entry_at pair.key pair.value c.args.run.place c.args.run.chunk) _ key_is
    (ap (segment_in c.args.geo.now) (sym c.hash-hash.ensures) ∙ (sym c.segment_of.ensures.value ∙ omega arith))
    (ap (fingerprint_in c.args.geo.now) (sym c.hash-hash.ensures) ∙ (sym c.fingerprint_of.ensures ∙ omega arith))
    ∙ judged_duplicate c.args.geo.now c.args.places.now kept (entry_at pair.key pair.value c.args.run.place c.args.run.chunk) _ key_is
    (found words _ fits so_far.rests refl))

pub returns-then-not-alive-clause-loads : goal.returns-then-not-alive-clause-loads
returns-then-not-alive-clause-loads g c =
    loaded_answered g.M.Mem.seen g.M.Mem.same_rest _ _ _ _ _ (g.met.M.Mem.rest_transitive _ _ _) c.alive.ensures
    (loaded_then g.M.Mem.seen g.M.Mem.same_rest _ _ _ (g.met.M.Mem.rest_transitive _ _ _)
    (answered g.M.Mem.seen g.M.Mem.same_rest Reads Reads _ _ _ _ c.alive-len.ensures c.read_key_into.ensures.loads.loads)
    c.has_key.ensures.loads)
    c.free_after.ensures.loads

pub returns-clause-loads : goal.returns-clause-loads
returns-clause-loads g c =
    loaded_answered g.M.Mem.seen g.M.Mem.same_rest _ _ _ _ _ (g.met.M.Mem.rest_transitive _ _ _) c.alive.ensures
    (loaded_then g.M.Mem.seen g.M.Mem.same_rest _ _ _ (g.met.M.Mem.rest_transitive _ _ _)
    (answered g.M.Mem.seen g.M.Mem.same_rest Reads Reads _ _ _ _ c.alive-len.ensures c.read_key_into.ensures.loads.loads)
    c.has_key.ensures.loads)
    c.free_after.ensures.loads

pub returns-then-not-alive-clause-verdict : goal.returns-then-not-alive-clause-verdict
returns-then-not-alive-clause-verdict g c =
    let copied = (rw c.alive-len.ensures at c.read_key_into.ensures.key).copied in
    let found = rw c.if-has_key.false at c.has_key.ensures.found in
    let free = rw (c.alive.ensures, c.if-not-alive.true) at c.free_after.ensures.free in
    let back = (answered g.M.Mem.seen g.M.Mem.same_rest Reads Reads _ _ _ _ c.alive.ensures c.free_after.ensures.loads).done in
    λ words old kept pair fits so_far reads run_is.
    (let placed : Placed = entry_at pair.key pair.value c.args.run.place c.args.run.chunk in
    let chunks = ap (λ (r : Run). r.chunks) run_is in
    let key_is = (copied words (c.has_key.ensures.loads.done.fits words (back.fits words fits)) pair reads).1 in
    on_entry c.args.geo.now c.args.segment kept c.args.fingerprint placed _ key_is
    (ap (segment_in c.args.geo.now) (sym c.hash-hash.ensures) ∙ (sym c.segment_of.ensures.value ∙ omega arith))
    (ap (fingerprint_in c.args.geo.now) (sym c.hash-hash.ensures) ∙ (sym c.fingerprint_of.ensures ∙ omega arith))
    ∙ judged_overlap c.args.geo.now c.args.segment c.args.places.now words kept placed _ key_is
    (found words _ (back.fits words fits) so_far.rests refl) so_far.rests c.requires.place
    (omega (arith, chunks, c.requires.run.inside))
    (subst (λ (n : ℕ). IsTrue false ↔ IsFreeRun c.args.geo.now words c.args.run.place c.args.run.chunk n) chunks (free words fits)))

pub returns-clause-verdict : goal.returns-clause-verdict
returns-clause-verdict g c =
    let copied = (rw c.alive-len.ensures at c.read_key_into.ensures.key).copied in
    let found = rw c.if-has_key.false at c.has_key.ensures.found in
    let free = rw (c.alive.ensures, c.if-not-alive.false) at c.free_after.ensures.free in
    let back = (answered g.M.Mem.seen g.M.Mem.same_rest Reads Reads _ _ _ _ c.alive.ensures c.free_after.ensures.loads).done in
    λ words old kept pair fits so_far reads run_is.
    (let placed : Placed = entry_at pair.key pair.value c.args.run.place c.args.run.chunk in
    let chunks = ap (λ (r : Run). r.chunks) run_is in
    let key_is = (copied words (c.has_key.ensures.loads.done.fits words (back.fits words fits)) pair reads).1 in
    record {
      placed = placed;
      kept_is = on_entry c.args.geo.now c.args.segment kept c.args.fingerprint placed _ key_is
          (ap (segment_in c.args.geo.now) (sym c.hash-hash.ensures) ∙ (sym c.segment_of.ensures.value ∙ omega arith))
          (ap (fingerprint_in c.args.geo.now) (sym c.hash-hash.ensures) ∙ (sym c.fingerprint_of.ensures ∙ omega arith))
          ∙ judged_kept c.args.geo.now c.args.segment c.args.places.now words kept placed _ key_is
          (found words _ (back.fits words fits) so_far.rests refl) so_far.rests c.requires.place
          (omega (arith, chunks, c.requires.run.inside))
          (subst (λ (n : ℕ). IsTrue true ↔ IsFreeRun c.args.geo.now words c.args.run.place c.args.run.chunk n) chunks (free words fits));
      run_is = run_is;
    })
