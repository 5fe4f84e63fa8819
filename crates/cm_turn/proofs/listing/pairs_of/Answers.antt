-- The pairs are in the order by which they were sorted.
use Rattle.std.proofs.Common.{◌≡◌, Bool, rules}
use Rattle.std.specs.Ordering.{is_lt, nat_cmp}
use Rattle.std.specs.Cmp.Lexicographic.{slice_cmp}
use Rattle.std.specs.List.Sorted.{IsSortedByKey}
use Rattle.std.proofs.lemmas.Cmp.{nat_list_cmp_total}
use Rattle.std.proofs.lemmas.List.Sorted.{IsPermutation-trans, ranks_by}
use Rattle.std.proofs.lemmas.Fn.{always_returns_same}
use Rattle.cm_plain.specs.declared.reply.Pair.{Pair}
use Rattle.cm_turn.proofs.listing.pairs_of.Goals as goal

pub returns-clause-lists : goal.returns-clause-lists
returns-clause-lists g c = λ words state fits rests.
    let below : Pair → Pair → Bool = λ one other. is_lt (slice_cmp nat_cmp one.key other.key) in
    let in_order : IsSortedByKey (λ pair. pair.key) (slice_cmp nat_cmp) c.sort_unstable_by.new.self.items =
    c.sort_unstable_by.ensures.sorted below (ranks_by nat_list_cmp_total (λ (pair : Pair). pair.key)) (always_returns_same _
    (λ a r. is_lt r ≡ below a.0.now a.1.0.now) _ (λ a r f k. search rules)) in
    rw c.from_vec.ensures (record {
      all = IsPermutation-trans _ _ _ ((rw c.in-Ok.is at c.in_ok-pairs.ensures.all) words state fits rests) c.sort_unstable_by.ensures.permutation;
      in_order = in_order;
    })
