-- A file that is read in pieces.
use Rattle.std.proofs.Common.{◌≡◌, ◌≤◌, ◌+◌, ◌-◌, ◌*◌, ◌++◌, ◌∙◌, [], ℕ, List, length, take, drop, Option, Some, None, length-drop, length-take-le, sym, ap, arith}
use Rattle.std.proofs.Math.Seq.{take-add, take-append-add}
use Rattle.std.proofs.lemmas.List.{drop-drop, drop_all, take-append-le}
use borrow.Rule.Slice.PartMut.{post_of, put_mid}
use Rattle.cm_image.specs.declared.stored.ImageStop.{ImageStop}
use Rattle.cm_image.specs.declared.stored.ImageStop.TheVariants as stop
use Rattle.cm_image.specs.Stops.{StopsPiece}
use Rattle.cm_image.specs.Files.{ReadsPrefix, bytes_from}

-- so many bytes stand at the front of a buffer
pub record IsPrefix (bytes : List ℕ) (at : ℕ) (buffer : List ℕ) : Type 0 where
  pub prefix : take at buffer ≡ take at bytes
  pub within : at ≤ length bytes

-- the bytes of a file from a later place on
pub bytes_from-more : (file : Option (List ℕ)) (from at : ℕ) → bytes_from file (from + at) ≡ drop at (bytes_from file from)
bytes_from-more None from at = sym (drop_all at [] (omega arith))
bytes_from-more (Some bytes) from at = sym (drop-drop at from bytes)

-- the next bytes, read behind those that stand there
pub prefix-more : (bytes buffer part : List ℕ) (at count : ℕ) → at ≤ length buffer → count ≤ length part → IsPrefix bytes at buffer → ReadsPrefix (drop at bytes) count part
    → IsPrefix bytes (at + count) (put_mid at (length buffer - at) buffer part)
prefix-more bytes buffer part at count room fits is reads =
    let behind = post_of at (length buffer - at) buffer in
    let start : length (take at buffer) ≡ at = length-take-le at buffer room in
    let cut : take (at + count) (put_mid at (length buffer - at) buffer part) ≡ take at buffer ++ take count (part ++ behind) =
    ap (λ (n : ℕ). take (n + count) (put_mid at (length buffer - at) buffer part)) (sym start) ∙ take-append-add (take at buffer) (part ++ behind) count in
    record {
      prefix = cut ∙ ap (λ (t : List ℕ). take at buffer ++ t) (take-append-le count part behind fits ∙ reads.prefix)
          ∙ ap (λ (t : List ℕ). t ++ take count (drop at bytes)) is.prefix ∙ sym (take-add at count bytes);
      within = omega (arith, is.within, reads.within, length-drop at bytes);
    }

-- words of a file, and the next ones
pub words-more : (file later : Option (List ℕ)) (words more wanted : ℕ) (old part : List ℕ) → later ≡ file → old ≡ take (8 * words) (bytes_from file 64)
    → part ≡ take wanted (bytes_from later (64 + 8 * words)) → 8 * more ≡ 8 * words + wanted → old ++ part ≡ take (8 * more) (bytes_from file 64)
words-more file later words more wanted old part same prefix next long =
    let bytes = bytes_from file 64 in
    ap (λ (t : List ℕ). t ++ part) prefix
    ∙ ap (λ (t : List ℕ). take (8 * words) bytes ++ t) (next ∙ ap (λ (f : Option (List ℕ)). take wanted (bytes_from f (64 + 8 * words))) same
    ∙ ap (take wanted) (bytes_from-more file 64 (8 * words)))
    ∙ sym (take-add (8 * words) wanted bytes) ∙ ap (λ (n : ℕ). take n bytes) (sym long)

-- a file that ends within a piece ends before the whole that the piece is part of
pub stops-piece-later : (tells told : Type 0) (file later : Option (List ℕ)) (from at wanted whole before mid now : ℕ) (why : ImageStop)
    → (tells → told) → (tells → later ≡ file) → before ≤ mid → at + wanted ≤ whole → StopsPiece told (bytes_from later (from + at)) wanted mid now why
    → StopsPiece tells (bytes_from file from) whole before now why
stops-piece-later tells told file later from at wanted whole before mid now stop.Missing still same rises part stops = stops
stops-piece-later tells told file later from at wanted whole before mid now (stop.Refused why) still same rises part stops = λ tells_now.
    let place : bytes_from later (from + at) ≡ drop at (bytes_from file from) =
    ap (λ (f : Option (List ℕ)). bytes_from f (from + at)) (same tells_now) ∙ bytes_from-more file from at in
    let long : length (bytes_from later (from + at)) ≡ length (drop at (bytes_from file from)) = ap (λ (t : List ℕ). length t) place in
    omega (arith, stops (still tells_now), long, length-drop at (bytes_from file from))
stops-piece-later tells told file later from at wanted whole before mid now stop.Fault still same rises part stops = omega arith
stops-piece-later tells told file later from at wanted whole before mid now stop.NoMemory still same rises part stops = stops
