-- What is seen of a vault in memory (own).
use Rattle.std.specs.Prelude.{◌≡◌, ◌+◌, ◌-◌, ◌^◌, ℕ, List, min, Contains, option_map}
use Rattle.std.specs.HashMap.{get_by_text}
use Rattle.cm_image.specs.declared.memory.MapVault.{MapVault}
use Rattle.cm_image.specs.Files.{Files}

-- the bytes of each name's file
unfoldable pub files_in : MapVault → Files
files_in vault name = option_map (λ bytes. bytes.items) (get_by_text vault.files name)

-- how many calls failed
abbrev pub faults_in : MapVault → ℕ
faults_in vault = vault.faults

-- the number of the next call, which stops at the last number of 32 bits
abbrev pub next_call : MapVault → ℕ
next_call vault = vault.calls

-- the numbers of the calls that are to fail
abbrev pub failing_in : MapVault → List ℕ
failing_in vault = vault.failing.items

-- the next call is one of those that are to fail
abbrev pub IsToFail : MapVault → Type 0
IsToFail vault = Contains (failing_in vault) (next_call vault)

-- the same calls are to fail
abbrev pub SameCalls : MapVault → MapVault → Type 0
SameCalls old new = (failing_in new ≡ failing_in old) × (next_call new ≡ next_call old)

-- a call was counted
abbrev pub CountsCall : MapVault → MapVault → Type 0
CountsCall old new = (failing_in new ≡ failing_in old) × (next_call new ≡ min (next_call old + 1) (2 ^ 32 - 1))
