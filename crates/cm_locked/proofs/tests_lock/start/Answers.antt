use Rattle.std.proofs.Common.{ℕ, List, replicate, sym, ap, ◌∙◌, subst}
use Rattle.cm_plain.specs.States.{one_tier}
use Rattle.cm_plain.specs.Lawful.{Resting}
use Rattle.cm_plain.proofs.ZeroWords.{zeros_rest}
use Rattle.cm_locked.proofs.tests_lock.start.Goals as goal

pub new-requires-2-clause-rests : goal.new-requires-2-clause-rests
new-requires-2-clause-rests c =
    let geo = c.in_ok-geo.geo in
    let same = c.as_slice.ensures.value ∙ (c.in_ok-words.ensures.items_if_clones_equal (λ y e. e) ∙ ap (λ (n : ℕ). replicate n 0) c.segment_words.ensures) in
    (one_tier, subst (λ (words : List ℕ). Resting geo 0 words one_tier) (sym same) (zeros_rest geo 0))
