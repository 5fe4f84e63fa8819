-- Calls that load alone, one after the other.
use Rattle.std.proofs.Common.{Ok}
use Rattle.cm_words.specs.Memory.{MemSeen}
use Rattle.cm_words.specs.Effects.{Reads}
use Rattle.cm_words.specs.Calls.{HasLoaded, Loads}
use Rattle.cm_words.proofs.CallSequences.{done_by, loaded_then}

-- loads, and a call that loads after them
pub loaded_call : {M T E : Type 0} (seen : M → MemSeen) (rest : M → M → Type 0) (a b c : M) (value : T) → (rest a b → rest b c → rest a c)
    → HasLoaded seen rest a b → Loads {T = T} {E = E} seen rest b c (Ok value) → HasLoaded seen rest a c
loaded_call seen rest a b c value on p q = loaded_then seen rest a b c on p (done_by seen rest Reads Reads b c value q)
