use Rattle.std.proofs.Common.{[], ◌∷◌, Ok, sym, subst}
use Rattle.cm_plain.specs.Plans.{plan_change}
use Rattle.cm_words.specs.Memory.{Setting}
use Rattle.cm_words.specs.Stores.{store_at}
use Rattle.cm_words_tests.specs.Trials.{KeepsTorn}
use Rattle.cm_words.proofs.MeterCounts.{reports_after}
use Rattle.cm_words_tests.proofs.Trials.{may_store_two, stores_under}
use Rattle.cm_words_tests.proofs.tests_words.begin_and_store.Goals as goal

pub store_two-requires-clause-allowed : goal.store_two-requires-clause-allowed
store_two-requires-clause-allowed g c =
    let change = plan_change c.args.plan.now in
    let begins = c.in_ok-begin.ensures.begins.call.done in
    may_store_two _ change c.args.first c.args.one c.args.second c.args.other begins.plan
    (subst (λ (s : Setting). KeepsTorn s.geo change c.args.first c.args.one) (sym begins.setting) c.requires.first_kept)
    (subst (λ (s : Setting). KeepsTorn s.geo change c.args.second c.args.other) (sym begins.setting) c.requires.second_kept)

pub returns-clause-fuse : goal.returns-clause-fuse
returns-clause-fuse g c = reports_after _ _ _ (Ok tt) c.in_ok-begin.ensures.begins.call.fuse.survives c.in_ok-store_two.ensures.stores.fuse

pub returns-clause-stored : goal.returns-clause-stored
returns-clause-stored g c = stores_under _ _ _ (plan_change c.args.plan.now) (store_at c.args.first c.args.one ∷ store_at c.args.second c.args.other ∷ []) c.in_ok-begin.ensures.begins.call.done c.in_ok-store_two.ensures.stores.done
