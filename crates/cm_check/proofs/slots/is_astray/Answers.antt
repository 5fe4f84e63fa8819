-- What is asked of a slot is what the law says.
use Rattle.std.proofs.Common.{◌≡◌, ◌≢◌, ◌≤◌, ◌-◌, Some, None, sym, ap, ◌∙◌, refl, arith}
use Rattle.cm_geo.specs.Hash.{fingerprint_in, hash, segment_in, segment_of_key}
use Rattle.cm_plain.specs.Slots.{Slot, chunk_of_half}
use Rattle.cm_plain.specs.Readings.{reading_at}
use Rattle.cm_check.specs.SlotEntries.{entry_pointed}
use Rattle.cm_check.specs.Quiets.{geo_of, words_of}
use Rattle.cm_check.proofs.QuietReads.{many_words}
use Rattle.cm_check.proofs.EntryReads.{astray_empty, astray_entry, astray_none, half_none, half_some, none_beyond, none_read, other_segment, pair_read, same_segment}
use Rattle.cm_check.proofs.slots.is_astray.Goals as goal
use Rattle.cm_check.proofs.slots.is_astray.Goals.{then-parts-eq0-via-then-parts-eq0, then-parts-eq0-via-else-parts-eq0+then-chunks-parts}

pub returns-in_default : goal.returns-in_default
returns-in_default c = sym (astray_empty (geo_of c.args.quiet.now) c.args.quiet.now.segment (words_of c.args.quiet.now) c.args.place c.args.number (sym c.in_default.ensures))

pub returns-then-parts-eq0 : goal.returns-then-parts-eq0
returns-then-parts-eq0 c =
    let q = c.args.quiet.now in
    let slot : Slot = record { fingerprint = c.in-Some.parts.fingerprint; chunk = chunk_of_half c.in-Some.parts.low } in
    let none : entry_pointed (geo_of q) (words_of q) c.args.place slot.chunk ≡ None = elim c.then-parts-eq0.branch [
      | then-parts-eq0-via-then-parts-eq0 w ↦ rw (half_none c.in-Some.parts.low w.if-parts-eq0.true) refl
      | then-parts-eq0-via-else-parts-eq0+then-chunks-parts w ↦
          let some = half_some c.in-Some.parts.low w.if-parts-eq0.false in
          let beyond : (geo_of q).chunks ≤ c.in-Some.parts.low - 1 = omega (arith, w.if-chunks-parts.true, w.chunks.ensures, ap (λ g. g.chunks) c.geo-geo.ensures) in
          rw some (none_beyond (geo_of q) (words_of q) c.args.place (c.in-Some.parts.low - 1) (many_words q) c.requires.place_inside beyond)
    ] in
    sym (astray_none (geo_of q) q.segment (words_of q) c.args.place c.args.number slot (sym c.in-Some.ensures) none)

pub returns-then-not-has_entry : goal.returns-then-not-has_entry
returns-then-not-has_entry c =
    let q = c.args.quiet.now in
    let slot : Slot = record { fingerprint = c.in-Some.parts.fingerprint; chunk = chunk_of_half c.in-Some.parts.low } in
    let some : slot.chunk ≡ Some (c.in-Some.parts.low - 1) = half_some c.in-Some.parts.low c.if-parts-eq0.false in
    let none : entry_pointed (geo_of q) (words_of q) c.args.place slot.chunk ≡ None =
    rw some (none_read c.args.place (c.in-Some.parts.low - 1) (reading_at (geo_of q) (words_of q) c.args.place (c.in-Some.parts.low - 1)) (sym c.has_entry.ensures ∙ c.if-not-has_entry.true)) in
    sym (astray_none (geo_of q) q.segment (words_of q) c.args.place c.args.number slot (sym c.in-Some.ensures) none)

pub returns-then-segment_of-segment : goal.returns-then-segment_of-segment
returns-then-segment_of-segment c =
    let q = c.args.quiet.now in
    let slot : Slot = record { fingerprint = c.in-Some.parts.fingerprint; chunk = chunk_of_half c.in-Some.parts.low } in
    let some : slot.chunk ≡ Some (c.in-Some.parts.low - 1) = half_some c.in-Some.parts.low c.if-parts-eq0.false in
    let pair = pair_read c.args.place (c.in-Some.parts.low - 1) (reading_at (geo_of q) (words_of q) c.args.place (c.in-Some.parts.low - 1)) (sym c.has_entry.ensures ∙ c.if-not-has_entry.false) in
    let hash_is : c.key_hash-hash.result ≡ hash pair.0.key = c.key_hash-hash.ensures pair.0 pair.1 in
    let here : c.segment_of.result ≡ segment_of_key (geo_of q) pair.0.key = c.segment_of.ensures.value ∙ (ap (λ g. segment_in g c.key_hash-hash.result) c.geo-geo.ensures ∙ ap (segment_in (geo_of q)) hash_is) in
    let is = astray_entry (geo_of q) q.segment (words_of q) c.args.place c.args.number (c.in-Some.parts.low - 1) slot pair.0 (sym c.in-Some.ensures) some pair.1 in
    let differs : segment_of_key (geo_of q) pair.0.key ≢ q.segment = λ e. c.if-segment_of-segment.true (here ∙ (e ∙ sym c.segment.ensures.value)) in
    rw (here, c.segment.ensures.value) (other_segment (segment_of_key (geo_of q) pair.0.key) q.segment (fingerprint_in (geo_of q) (hash pair.0.key)) slot.fingerprint differs ∙ sym is)

pub returns-else-segment_of-segment : goal.returns-else-segment_of-segment
returns-else-segment_of-segment c =
    let q = c.args.quiet.now in
    let slot : Slot = record { fingerprint = c.in-Some.parts.fingerprint; chunk = chunk_of_half c.in-Some.parts.low } in
    let some : slot.chunk ≡ Some (c.in-Some.parts.low - 1) = half_some c.in-Some.parts.low c.if-parts-eq0.false in
    let pair = pair_read c.args.place (c.in-Some.parts.low - 1) (reading_at (geo_of q) (words_of q) c.args.place (c.in-Some.parts.low - 1)) (sym c.has_entry.ensures ∙ c.if-not-has_entry.false) in
    let hash_is : c.key_hash-hash.result ≡ hash pair.0.key = c.key_hash-hash.ensures pair.0 pair.1 in
    let here : c.segment_of.result ≡ segment_of_key (geo_of q) pair.0.key = c.segment_of.ensures.value ∙ (ap (λ g. segment_in g c.key_hash-hash.result) c.geo-geo.ensures ∙ ap (segment_in (geo_of q)) hash_is) in
    let is = astray_entry (geo_of q) q.segment (words_of q) c.args.place c.args.number (c.in-Some.parts.low - 1) slot pair.0 (sym c.in-Some.ensures) some pair.1 in
    let same : segment_of_key (geo_of q) pair.0.key ≡ q.segment = sym here ∙ (c.if-segment_of-segment.false ∙ c.segment.ensures.value) in
    let print : c.fingerprint_of.result ≡ fingerprint_in (geo_of q) (hash pair.0.key) = c.fingerprint_of.ensures ∙ (ap (λ g. fingerprint_in g c.key_hash-hash.result) c.geo-geo.ensures ∙ ap (fingerprint_in (geo_of q)) hash_is) in
    rw print (same_segment (segment_of_key (geo_of q) pair.0.key) q.segment (fingerprint_in (geo_of q) (hash pair.0.key)) slot.fingerprint same ∙ sym is)
