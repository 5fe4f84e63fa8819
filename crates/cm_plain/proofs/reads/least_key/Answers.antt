-- The least of the keys with the prefix is what the chain of iterators gives.
use Rattle.std.proofs.Common.{rules, tests}
use Rattle.std.specs.Ordering.{min_by_ordering, nat_cmp}
use Rattle.std.specs.Cmp.Lexicographic.{slice_cmp}
use Rattle.std.proofs.lemmas.Iterator.{YieldsList-from_slice, YieldsList-from_map_by}
use Rattle.std.proofs.lemmas.Iterator.Consumers.{YieldsList-at, YieldsList-from_filter, reduce_by_from_yields_List}
use Rattle.cm_plain.specs.declared.placed.Placed.{Placed}
use Rattle.cm_plain.specs.Steps.{has_prefix}
use Rattle.cm_plain.proofs.LeastKey.{least_key_is, lesser, lesser_behind}
use Rattle.cm_plain.proofs.reads.least_key.Goals as goal

pub returns : goal.returns
returns c =
    let source = YieldsList-at c.map.ensures.source (YieldsList-from_slice c.args.entries.now (cc)) in
    let keys = YieldsList-from_map_by _ (λ key. key.now) (λ (entry : Placed). entry.key) source c.map.ensures.closure (λ x r q k. search rules) in
    let kept = YieldsList-from_filter _ (has_prefix c.args.prefix.now) (YieldsList-at c.filter.ensures.source keys) c.filter.ensures.closure (λ x b q k. search (rules, tests)) in
    least_key_is c.args.prefix.now c.args.entries.now c.min.result
    (reduce_by_from_yields_List (λ one other. min_by_ordering (slice_cmp nat_cmp one.now other.now) one other) lesser c.filter.result c.min.result (λ one other. lesser_behind (slice_cmp nat_cmp one.now other.now) one other) c.min.ensures.ran kept)
