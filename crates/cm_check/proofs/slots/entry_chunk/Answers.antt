-- A slot that keeps the law points to an entry.
use Rattle.std.proofs.Common.{◌≡◌, ℕ, ◌-◌, sym, arith, subst}
use Rattle.cm_plain.specs.Slots.{Slot, chunk_of_half}
use Rattle.cm_lookup.proofs.SlotWords.{half_chunk}
use Rattle.cm_check.specs.SlotReads.{IsEntryAt}
use Rattle.cm_check.specs.Quiets.{geo_of, words_of}
use Rattle.cm_check.proofs.QuietReads.{many_words}
use Rattle.cm_check.proofs.EntryReads.{entry_none, entry_rightful}
use Rattle.cm_check.proofs.slots.entry_chunk.Goals as goal

pub overflow_sub-result : goal.overflow_sub-result
overflow_sub-result c =
    let q = c.args.quiet.now in
    let slot : Slot = record { fingerprint = c.in_ok-parts.parts.fingerprint; chunk = chunk_of_half c.in_ok-parts.parts.low } in
    let it = entry_rightful (geo_of q) q.segment (words_of q) c.args.place c.args.number slot (many_words q) c.requires.slot.place_inside c.requires.not_astray (sym c.in_ok-parts.ensures) in
    let half = (half_chunk c.in_ok-parts.parts.low it.0).0 it.1 in
    omega (arith, half)

pub returns : goal.returns
returns c =
    let q = c.args.quiet.now in
    let slot : Slot = record { fingerprint = c.in_ok-parts.parts.fingerprint; chunk = chunk_of_half c.in_ok-parts.parts.low } in
    let it = entry_rightful (geo_of q) q.segment (words_of q) c.args.place c.args.number slot (many_words q) c.requires.slot.place_inside c.requires.not_astray (sym c.in_ok-parts.ensures) in
    let half = (half_chunk c.in_ok-parts.parts.low it.0).0 it.1 in
    let same : it.0 ≡ c.in_ok-parts.parts.low - 1 = omega (arith, half) in
    subst (λ (chunk : ℕ). IsEntryAt (geo_of q) q.segment (words_of q) c.args.place c.args.number chunk) same it.2

pub returns-in_err-parts : goal.returns-in_err-parts
returns-in_err-parts c =
    let q = c.args.quiet.now in
    rw c.from_residual.ensures (entry_none (geo_of q) (words_of q) c.args.place c.args.number (sym c.in_err-parts.ensures))
