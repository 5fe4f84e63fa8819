use Rattle.std.proofs.Common.{◌≡◌, ℕ, ◌-◌, ◌++◌, List, length, drop, replicate, arith, ap, ◌∙◌}
use Rattle.std.specs.Int.{from_le_bytes, w64}
use Rattle.std.proofs.lemmas.List.{drop-replicate}
use Rattle.cm_entry.specs.Packing.{padded_word, word_of}
use Rattle.cm_entry.proofs.pack.word_of.Goals as goal

-- zeros behind the bytes that were copied over zeros
with_zeros : (bytes copied : List ℕ) (count : ℕ) → copied ≡ bytes → count ≡ length bytes → copied ++ drop count (replicate 8 0) ≡ padded_word bytes
with_zeros bytes copied count same long = rw same (ap (λ (zeros : List ℕ). bytes ++ zeros) (drop-replicate count 8 0 ∙ ap (λ (n : ℕ). replicate (8 - n) 0) long))

pub returns : goal.returns
unfolding word_of
returns c =
    let e : c.from_le_bytes-2.result ≡ from_le_bytes w64 (c.copy_from_slice.new.self ++ drop (length c.args.bytes.now) (replicate 8 0)) = c.from_le_bytes-2.ensures in
    e ∙ ap (from_le_bytes w64) (with_zeros c.args.bytes.now c.copy_from_slice.new.self (length c.args.bytes.now) c.copy_from_slice.ensures.after (omega arith))
