use Rattle.std.proofs.Common.{ap}
use Rattle.cm_words.specs.Memory.{MemSeen}
use Rattle.cm_words.proofs.StoreLists.{may_store_each_free}
use Rattle.cm_tier_tests.proofs.tests_write.write_value_in.Goals as goal

pub write_value-requires-clause-allowed : goal.write_value-requires-clause-allowed
write_value-requires-clause-allowed g c = may_store_each_free _ _ (ap (λ (m : MemSeen). m.setting.guarded) c.free-mem.ensures.seen)
