use Rattle.std.proofs.Common.{◌≡◌, ◌∙◌, ◌++◌, ◌+◌, ◌*◌, ℕ, List, length, take, ap, arith}
use Rattle.std.proofs.lemmas.Grind.{common_steps}
use Rattle.cm_image.specs.Images.{word_bytes}
use Rattle.cm_image.proofs.Bytes.{length-bytes, put-end}
use Rattle.cm_image.proofs.words.extend_bytes.Goals as goal

pub returns : goal.returns
unfolding word_bytes
returns c =
    let old = c.args.bytes.now.items in
    let grown = c.deref_mut.result.now in
    let front : take c.len-start.result grown ≡ old = grind (arith, common_steps) in
    let long : length c.write_u64_into.new.dst ≡ 8 * length c.args.words.now = ap (λ (t : List ℕ). length t) c.write_u64_into.ensures ∙ length-bytes 8 c.args.words.now in
    let end : c.len-start.result + length c.write_u64_into.new.dst ≡ c.resize.new.self.len = omega (arith, long, c.in_ok-resize.ensures.len) in
    put-end c.len-start.result c.resize.new.self.len grown c.write_u64_into.new.dst c.resize.new.self.items (omega (arith, c.deref_mut.ensures.len)) end
    ∙ ap (λ (t : List ℕ). t ++ c.write_u64_into.new.dst) front ∙ ap (λ (t : List ℕ). old ++ t) c.write_u64_into.ensures
