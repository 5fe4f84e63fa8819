use Rattle.std.proofs.Common.{◌≡◌, ◌∙◌, ◌++◌, ◌+◌, ◌*◌, ℕ, List, length, length-drop, length-take, take, ap, arith}
use Rattle.std.proofs.lemmas.Grind.{common_steps}
use Rattle.cm_image.specs.Images.{word_bytes}
use Rattle.cm_image.proofs.Bytes.{bytes-again, eight_bytes, put-end}
use Rattle.cm_image.proofs.Wholes.{word_bytes-append}
use Rattle.cm_image.proofs.words.extend_words.Goals as goal

pub returns-clause-bytes : goal.returns-clause-bytes
unfolding word_bytes
returns-clause-bytes c =
    let old = c.args.words.now.items in
    let bytes = c.args.bytes.now in
    let grown = c.deref_mut.result.now in
    let new = c.read_u64_into.new.dst in
    let front : take c.len-start.result grown ≡ old = grind (arith, common_steps) in
    let end : c.len-start.result + length new ≡ c.resize.new.self.len =
    omega (arith, length-take {A = ℕ}, length-drop {A = ℕ}, c.read_u64_into.auto.dst, c.deref_mut.ensures.len, c.in_ok-resize.ensures.len) in
    let long : length bytes ≡ 8 * length new = omega (arith, end, c.in_ok-resize.ensures.len, c.requires.whole) in
    let again : word_bytes new ≡ bytes = bytes-again 8 bytes new eight_bytes long (λ i. omega (arith, c.type_inv.bytes i)) c.read_u64_into.ensures in
    ap word_bytes (put-end c.len-start.result c.resize.new.self.len grown new c.resize.new.self.items (omega (arith, c.deref_mut.ensures.len)) end
    ∙ ap (λ (t : List ℕ). t ++ new) front)
    ∙ word_bytes-append old new ∙ ap (λ (t : List ℕ). word_bytes old ++ t) again
