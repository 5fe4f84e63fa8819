use Rattle.std.proofs.Common.{true, arith, sym, subst}
use Rattle.cm_plain.specs.Changes.{Change}
use Rattle.cm_words.specs.Plain.{plain_seen}
use Rattle.cm_words.specs.Memory.{HasEvenNumber, IsPlanHere, MemSeen}
use Rattle.cm_words_tests.specs.Trials.{first_put}
use Rattle.cm_words_tests.proofs.Trials.{head_inside, head_keeps_torn, new_number, new_planned}
use Rattle.cm_words_tests.proofs.tests_words.begin_first_put.Goals as goal

pub begin_and_store-requires-clause-number : goal.begin_and_store-requires-clause-number
begin_and_store-requires-clause-number g c = subst (λ (m : MemSeen). HasEvenNumber m) (sym c.guarded-mem.ensures.seen) (new_number true c.args.words.now _ c.requires)

pub begin_and_store-requires-clause-planned : goal.begin_and_store-requires-clause-planned
begin_and_store-requires-clause-planned g c =
    subst (λ (change : Change). IsPlanHere (plain_seen g.F.Fuse.fused c.guarded-mem.result) change) (sym c.first_put-plan.ensures)
    (subst (λ (m : MemSeen). IsPlanHere m first_put) (sym c.guarded-mem.ensures.seen) (new_planned true c.args.words.now _ c.requires))

pub begin_and_store-requires-clause-first_in : goal.begin_and_store-requires-clause-first_in
begin_and_store-requires-clause-first_in g c = let inside = head_inside c.geo.result.now in omega (arith, inside)

pub begin_and_store-requires-clause-second_in : goal.begin_and_store-requires-clause-second_in
begin_and_store-requires-clause-second_in g c = let inside = head_inside c.geo.result.now in omega (arith, inside)

pub begin_and_store-requires-clause-first_kept : goal.begin_and_store-requires-clause-first_kept
begin_and_store-requires-clause-first_kept g c = head_keeps_torn _ _ 2 7 (omega arith)

pub begin_and_store-requires-clause-second_kept : goal.begin_and_store-requires-clause-second_kept
begin_and_store-requires-clause-second_kept g c = head_keeps_torn _ _ 3 9 (omega arith)
