use Rattle.std.proofs.Common.{ℕ, arith, ap, sym, ◌∙◌}
use Rattle.std.specs.Int.{to_le_bytes, w64}
use Rattle.cm_entry.specs.Packing.{hash_on}
use Rattle.cm_entry.proofs.Packing.{hash_on_all, hash_on_more, hash_on_none}
use Rattle.cm_entry.proofs.pack.hash_words.Goals as goal

pub loop-number-init : goal.loop-number-init
loop-number-init c = sym (hash_on_none c.args.bytes.now c.args.state)

pub loop-number-preserved : goal.loop-number-preserved
loop-number-preserved c = hash_on_more c.args.bytes.now c.loop-number.number c.args.state c.loop-number.hash c.hash_word-hash.result (omega arith) c.loop-number.invariant
    (c.hash_word-hash.ensures ∙ ap (λ (word : ℕ). hash_on c.loop-number.hash (to_le_bytes w64 word)) c.nth_word.ensures)

pub returns : goal.returns
returns c = hash_on_all c.args.bytes.now c.loop-number.number c.args.state c.loop-number.hash (λ i. omega (arith, c.type_inv.bytes i)) (omega arith) c.loop-number.invariant
