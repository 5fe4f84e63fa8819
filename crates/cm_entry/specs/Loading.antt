-- What calls that load alone ask and owe (own). `seen` is what a memory tells, and `same_rest` what no call changes, as for every call.
use Rattle.std.specs.Prelude.{ℕ, ◌≡◌, ◌+◌, ◌<◌, ◌≤◌, Bool, IsTrue, List, Result, IfOk, OnOk}
use Rattle.cm_geo.specs.declared.geo.Geo.{Geo}
use Rattle.cm_words.specs.Memory.{FitsNotes, MemSeen}
use Rattle.cm_words.specs.Calls.{IsReadable, Loads}

-- a call may load the words of a chunk of one of the tiers
pub record IsReadableChunk (m : MemSeen) (geo : Geo) (place chunk : ℕ) : Type 0 where
  pub readable : IsReadable m geo
  pub place_low : place < geo.tiers
  pub chunk_low : chunk < geo.chunks

-- loads alone were made, on Ok at most so many
pub record LoadsAtMost {M T E : Type 0} (seen : M → MemSeen) (same_rest : M → M → Type 0) (most : ℕ) (old now : M) (result : Result T E) : Type 0 where
  pub loads : Loads seen same_rest old now result
  pub count : OnOk result ((seen now).meter.events ≤ (seen old).meter.events + most)

-- loads alone were made, on Ok as many as the answer has it
pub record LoadsCounted {M T E : Type 0} (seen : M → MemSeen) (same_rest : M → M → Type 0) (number : T → ℕ) (old now : M) (result : Result T E) : Type 0 where
  pub loads : Loads seen same_rest old now result
  pub count : IfOk result (λ answer. (seen now).meter.events ≡ (seen old).meter.events + number answer)

-- loads alone were made to compare, on Ok at most so many, and just as many where the answer is yes
pub record LoadsToCompare {M E : Type 0} (seen : M → MemSeen) (same_rest : M → M → Type 0) (most : ℕ) (old now : M) (result : Result Bool E) : Type 0 where
  pub loads : Loads seen same_rest old now result
  pub count : OnOk result ((seen now).meter.events ≤ (seen old).meter.events + most)
  pub count_same : IfOk result (λ same. IsTrue same → (seen now).meter.events ≡ (seen old).meter.events + most)

-- loads alone were made, as many as the answer has it, and the answer is so of each list of words that fits
pub record LoadsAnswer {M T E : Type 0} (seen : M → MemSeen) (same_rest : M → M → Type 0) (number : T → ℕ) (IsAnswer : List ℕ → T → Type 0) (old now : M) (result : Result T E) : Type 0 where
  pub counted : LoadsCounted seen same_rest number old now result
  pub answer : IfOk result (λ answer. (words : List ℕ) → FitsNotes (seen now) words → IsAnswer words answer)
