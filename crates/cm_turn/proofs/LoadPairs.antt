-- Two calls that load alone, one after the other.
use Rattle.std.proofs.Common.{Ok}
use Rattle.std.specs.declared.result.Result.{Result}
use Rattle.cm_words.specs.Memory.{MemSeen}
use Rattle.cm_words.specs.Effects.{Reads}
use Rattle.cm_words.specs.Calls.{Loads}
use Rattle.cm_words.proofs.CallSequences.{done_by, then_call}
use Rattle.cm_words.proofs.FittingLists.{reads_transitive}

-- loads that ended well, and then others, whatever these answered
pub loads_and : {M T U E F : Type 0} (seen : M → MemSeen) (rest : M → M → Type 0) (a b c : M) (value : T) (result : Result U F) → (rest a b → rest b c → rest a c)
    → Loads {T = T} {E = E} seen rest a b (Ok value) → Loads seen rest b c result → Loads seen rest a c result
loads_and seen rest a b c value result on p q =
    then_call seen rest Reads Reads Reads Reads Reads a b c result on (done_by seen rest Reads Reads a b value p) q
    (reads_transitive (seen a) (seen b) (seen c)) (reads_transitive (seen a) (seen b) (seen c))
