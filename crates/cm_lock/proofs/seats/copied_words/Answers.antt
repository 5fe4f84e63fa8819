use Rattle.std.proofs.Common.{◌≡◌, ℕ, suc, ◌+◌, ◌++◌, ◌∷◌, [], List, take, sym, ap, ◌∙◌, arith}
use Rattle.core.specs.Mem.Slots.{slots_items}
use Rattle.cm_lock.proofs.SeatEvents.{take_more}
use Rattle.cm_lock.proofs.seats.copied_words.Goals as goal

pub loop-at-preserved : goal.loop-at-preserved
loop-at-preserved c =
    let at : ℕ = c.loop-at.at in
    let xs : List ℕ = slots_items c.args.closed.now.words in
    let word : ℕ = c.word.result in
    let next : suc at ≡ at + 1 = omega arith in
    let more : take at xs ++ word ∷ [] ≡ take (at + 1) xs = sym (take_more xs at word c.word.ensures) ∙ ap (λ (n : ℕ). take n xs) next in
    let was : c.loop-at.words.items ++ word ∷ [] ≡ take at xs ++ word ∷ [] = ap (λ (l : List ℕ). l ++ word ∷ []) c.loop-at.invariant in
    c.in_ok-push.ensures.items ∙ (was ∙ more)
