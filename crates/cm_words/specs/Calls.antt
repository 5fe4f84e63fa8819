-- What each call over a memory asks and owes (own). `seen` is what a memory tells, and `same_rest` what no call changes: both are those of
-- the trait.
use Rattle.std.specs.Prelude.{ℕ, ◌≡◌, ◌≢◌, List, [], ◌∷◌, Result, OnOk, OnErr}
use Rattle.cm_geo.specs.declared.geo.Geo.{Geo}
use Rattle.cm_words.specs.declared.access.Access.TheVariants.{Closed, Writable}
use Rattle.cm_words.specs.declared.fuse.EventKind.{EventKind}
use Rattle.cm_words.specs.declared.fuse.EventKind.TheVariants.{Load, Store}
use Rattle.cm_words.specs.Memory.{MemSeen}
use Rattle.cm_words.specs.Meters.{MakesEvent, ReportsDeath, Survives}
use Rattle.cm_words.specs.Effects.{IsAsBefore, Reads}
use Rattle.cm_words.specs.Stores.{WordStore, Writes, WritesEach, WritesPrefix, WritesPrefixEach, store_at}

-- a call may load: the memory is open, and this is its geometry
pub record IsReadable (m : MemSeen) (geo : Geo) : Type 0 where
  pub not_closed : m.setting.access ≢ Closed
  pub geo_is : m.setting.geo ≡ geo

-- a call may load and store
pub record IsWritable (m : MemSeen) (geo : Geo) : Type 0 where
  pub writable : m.setting.access ≡ Writable
  pub geo_is : m.setting.geo ≡ geo

-- The rest of the memory stays, and the call answers Dead exactly where one of its events died. On Ok it did this, and where an event died that.
pub record Performs {M T E : Type 0} (seen : M → MemSeen) (same_rest : M → M → Type 0) (Done Cut : MemSeen → MemSeen → Type 0) (old now : M) (result : Result T E) : Type 0 where
  pub rest : same_rest old now
  pub fuse : ReportsDeath (seen old).meter (seen now).meter result
  pub done : OnOk result (Done (seen old) (seen now))
  pub cut : OnErr result (Cut (seen old) (seen now))

-- one event of this kind was made; where it died, all but the fuse is as before
pub record PerformsOnce {M T E : Type 0} (seen : M → MemSeen) (same_rest : M → M → Type 0) (kind : EventKind) (Done : MemSeen → MemSeen → Type 0) (old now : M) (result : Result T E) : Type 0 where
  pub call : Performs seen same_rest Done IsAsBefore old now result
  pub event : MakesEvent kind (seen old).meter (seen now).meter result

-- loads alone were made
abbrev pub Loads : {M T E : Type 0} → (M → MemSeen) → (M → M → Type 0) → M → M → Result T E → Type 0
Loads seen same_rest old now result = Performs seen same_rest Reads Reads old now result

-- one load was made
abbrev pub LoadsOnce : {M T E : Type 0} → (M → MemSeen) → (M → M → Type 0) → M → M → Result T E → Type 0
LoadsOnce seen same_rest old now result = PerformsOnce seen same_rest Load Reads old now result

-- these stores were made, each once; where an event died, a prefix of them
abbrev pub StoresAll : {M T E : Type 0} → (M → MemSeen) → (M → M → Type 0) → List WordStore → M → M → Result T E → Type 0
StoresAll seen same_rest stores old now result =
    Performs seen same_rest (λ old now. Writes old now stores) (λ old now. WritesPrefix old now stores) old now result

-- the stores for each list were made, each once; where an event died, a prefix of them
abbrev pub StoresEach : {M T E : Type 0} → (M → MemSeen) → (M → M → Type 0) → (List ℕ → List WordStore) → M → M → Result T E → Type 0
StoresEach seen same_rest stores old now result =
    Performs seen same_rest (λ old now. WritesEach old now stores) (λ old now. WritesPrefixEach old now stores) old now result

-- one store was made, of this word at this address
abbrev pub StoresOnce : {M T E : Type 0} → (M → MemSeen) → (M → M → Type 0) → ℕ → ℕ → M → M → Result T E → Type 0
StoresOnce seen same_rest at word old now result =
    PerformsOnce seen same_rest Store (λ old now. Writes old now (store_at at word ∷ [])) old now result

-- a part of a call did this so far: the rest stays, and no event died
pub record HasDone {M : Type 0} (seen : M → MemSeen) (same_rest : M → M → Type 0) (Done : MemSeen → MemSeen → Type 0) (old now : M) : Type 0 where
  pub rest : same_rest old now
  pub survives : Survives (seen old).meter (seen now).meter
  pub done : Done (seen old) (seen now)

-- loads alone were made so far
abbrev pub HasLoaded : {M : Type 0} → (M → MemSeen) → (M → M → Type 0) → M → M → Type 0
HasLoaded seen same_rest old now = HasDone seen same_rest Reads old now
