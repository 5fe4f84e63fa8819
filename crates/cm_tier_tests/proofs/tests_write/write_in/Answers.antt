use Rattle.std.proofs.Common.{ap}
use Rattle.cm_words.specs.Memory.{MemSeen}
use Rattle.cm_words.proofs.StoreLists.{may_store_all_free}
use Rattle.cm_tier_tests.proofs.tests_write.write_in.Goals as goal

pub write-requires-clause-allowed : goal.write-requires-clause-allowed
write-requires-clause-allowed g c = may_store_all_free _ _ (ap (λ (m : MemSeen). m.setting.guarded) c.free-mem.ensures.seen)
