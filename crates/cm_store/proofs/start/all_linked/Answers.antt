use Rattle.std.proofs.Common.{◌∙◌, sym, ap, [], ◌∷◌, ◌++◌, ℕ, List, map}
use Rattle.std.specs.List.{range_with_len}
use Rattle.cm_store.specs.Tables.{linked_in}
use Rattle.cm_store.proofs.Starting.{map_more}
use Rattle.cm_store.proofs.start.all_linked.Goals as goal

pub loop-segment-preserved : goal.loop-segment-preserved
loop-segment-preserved c =
    c.in_ok-push.ensures.items ∙ (ap (λ (xs : List ℕ). xs ++ c.linked_at.result ∷ []) c.loop-segment.invariant
    ∙ (ap (λ (n : ℕ). map (linked_in c.args.words.now) (range_with_len 0 c.loop-segment.segment) ++ n ∷ []) c.linked_at.ensures
    ∙ sym (map_more (linked_in c.args.words.now) c.loop-segment.segment)))
