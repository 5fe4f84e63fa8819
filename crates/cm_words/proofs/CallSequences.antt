-- Calls over a memory, one after the other.
use Rattle.std.proofs.Common.{◌≡◌, ℕ, Ok, Err, false, true, arith, subst}
use Rattle.std.specs.Prelude.{IsErr}
use Rattle.std.specs.declared.result.Result.{Result}
use Rattle.cm_words.specs.Memory.{MemSeen}
use Rattle.cm_words.specs.declared.fuse.EventKind.{EventKind}
use Rattle.cm_words.specs.declared.fuse.EventKind.TheVariants.{Load}
use Rattle.cm_words.specs.Meters.{MakesEvent, MeterSeen, ReportsDeath}
use Rattle.cm_words.specs.Effects.{IsAsBefore, Reads}
use Rattle.cm_words.specs.Calls.{HasDone, HasLoaded, Loads, LoadsOnce, Performs, PerformsOnce, StoresOnce}
use Rattle.cm_words.proofs.MeterCounts.{reports_after, survives_killed, survives_reflexive, survives_transitive}
use Rattle.cm_words.proofs.FittingLists.{reads_reflexive, reads_transitive}

no_error : false ≡ true → ⊥
no_error e = cc e

-- ---- what was done so far

-- nothing was loaded yet
pub loaded_none : {M : Type 0} (seen : M → MemSeen) (rest : M → M → Type 0) (m : M) → rest m m → HasLoaded seen rest m m
loaded_none seen rest m still = record { rest = still; survives = survives_reflexive (seen m).meter; done = reads_reflexive (seen m) }

-- a call ended well
pub done_by : {M T E : Type 0} (seen : M → MemSeen) (rest : M → M → Type 0) (Done Cut : MemSeen → MemSeen → Type 0) (a b : M) (value : T)
    → Performs {T = T} {E = E} seen rest Done Cut a b (Ok value) → HasDone seen rest Done a b
done_by seen rest Done Cut a b value p = record { rest = p.rest; survives = p.fuse.survives; done = p.done }

-- this was done, and then that
pub done_then : {M : Type 0} (seen : M → MemSeen) (rest : M → M → Type 0) (First Then Both : MemSeen → MemSeen → Type 0) (a b c : M) → (rest a b → rest b c → rest a c)
    → HasDone seen rest First a b → HasDone seen rest Then b c → (First (seen a) (seen b) → Then (seen b) (seen c) → Both (seen a) (seen c)) → HasDone seen rest Both a c
done_then seen rest First Then Both a b c on p q both = record {
  rest = on p.rest q.rest;
  survives = survives_transitive (seen a).meter (seen b).meter (seen c).meter p.survives q.survives;
  done = both p.done q.done;
}

-- loads, and loads after them
pub loaded_then : {M : Type 0} (seen : M → MemSeen) (rest : M → M → Type 0) (a b c : M) → (rest a b → rest b c → rest a c) → HasLoaded seen rest a b → HasLoaded seen rest b c → HasLoaded seen rest a c
loaded_then seen rest a b c on p q = done_then seen rest Reads Reads Reads a b c on p q (reads_transitive (seen a) (seen b) (seen c))

-- loads, and one more
pub loaded_more : {M T E : Type 0} (seen : M → MemSeen) (rest : M → M → Type 0) (a b c : M) (value : T) → (rest a b → rest b c → rest a c)
    → HasLoaded seen rest a b → LoadsOnce {T = T} {E = E} seen rest b c (Ok value) → HasLoaded seen rest a c
loaded_more seen rest a b c value on p q = loaded_then seen rest a b c on p (done_by seen rest Reads IsAsBefore b c value q.call)

-- ---- how the call ends

-- it ends well
pub ends_ok : {M T E : Type 0} (seen : M → MemSeen) (rest : M → M → Type 0) (Done Cut : MemSeen → MemSeen → Type 0) (a b : M) (value : T) → HasDone seen rest Done a b → Performs {T = T} {E = E} seen rest Done Cut a b (Ok value)
ends_ok seen rest Done Cut a b value p = record { rest = p.rest; fuse = record { survives = p.survives; killed = tt }; done = p.done; cut = tt }

-- an event died, and the error is handed on
pub ends_err : {M T U E F : Type 0} (seen : M → MemSeen) (rest : M → M → Type 0) (Done Cut All Part : MemSeen → MemSeen → Type 0) (a b : M) (error : E) (result : Result U F) → IsErr result
    → Performs {T = T} seen rest Done Cut a b (Err error) → (Cut (seen a) (seen b) → Part (seen a) (seen b)) → Performs seen rest All Part a b result
ends_err seen rest Done Cut All Part a b error (Ok value) err p part = absurd (no_error err)
ends_err seen rest Done Cut All Part a b error (Err other) err p part = record { rest = p.rest; fuse = record { survives = tt; killed = p.fuse.killed }; done = tt; cut = part p.cut }

-- this was done, and then another call was made, whatever it answered
pub then_call : {M T E : Type 0} (seen : M → MemSeen) (rest : M → M → Type 0) (First Done Cut All Part : MemSeen → MemSeen → Type 0) (a b c : M) (result : Result T E) → (rest a b → rest b c → rest a c)
    → HasDone seen rest First a b → Performs seen rest Done Cut b c result
    → (First (seen a) (seen b) → Done (seen b) (seen c) → All (seen a) (seen c)) → (First (seen a) (seen b) → Cut (seen b) (seen c) → Part (seen a) (seen c)) → Performs seen rest All Part a c result
then_call seen rest First Done Cut All Part a b c (Ok value) on p q all part = record {
  rest = on p.rest q.rest;
  fuse = reports_after (seen a).meter (seen b).meter (seen c).meter (Ok value) p.survives q.fuse;
  done = all p.done q.done;
  cut = tt;
}
then_call seen rest First Done Cut All Part a b c (Err error) on p q all part = record {
  rest = on p.rest q.rest;
  fuse = reports_after (seen a).meter (seen b).meter (seen c).meter (Err error) p.survives q.fuse;
  done = tt;
  cut = part p.done q.cut;
}

-- this was done, then an event of another call died, and its error is handed on
pub then_err : {M T U E F : Type 0} (seen : M → MemSeen) (rest : M → M → Type 0) (First Done Cut All Part : MemSeen → MemSeen → Type 0) (a b c : M) (error : E) (result : Result U F) → IsErr result → (rest a b → rest b c → rest a c)
    → HasDone seen rest First a b → Performs {T = T} seen rest Done Cut b c (Err error) → (First (seen a) (seen b) → Cut (seen b) (seen c) → Part (seen a) (seen c)) → Performs seen rest All Part a c result
then_err seen rest First Done Cut All Part a b c error (Ok value) err on p q part = absurd (no_error err)
then_err seen rest First Done Cut All Part a b c error (Err other) err on p q part = record {
  rest = on p.rest q.rest;
  fuse = record { survives = tt; killed = survives_killed (seen a).meter (seen b).meter (seen c).meter p.survives q.fuse.killed };
  done = tt;
  cut = part p.done q.cut;
}

-- ---- one event

-- it died, and nothing else happened
pub once_err : {M T U E F : Type 0} (seen : M → MemSeen) (rest : M → M → Type 0) (kind : EventKind) (Done : MemSeen → MemSeen → Type 0) (a b : M) (error : E) (result : Result U F) → IsErr result → rest a b
    → ReportsDeath {T = T} (seen a).meter (seen b).meter (Err error) → MakesEvent {T = T} kind (seen a).meter (seen b).meter (Err error) → IsAsBefore (seen a) (seen b) → PerformsOnce seen rest kind Done a b result
once_err seen rest kind Done a b error (Ok value) err still fuse event same = absurd (no_error err)
once_err seen rest kind Done a b error (Err other) err still fuse event same = record {
  call = record { rest = still; fuse = record { survives = tt; killed = fuse.killed }; done = tt; cut = same };
  event = record { events = tt; stores = tt; counts = event.counts };
}

-- it was made
pub once_ok : {M T E : Type 0} (seen : M → MemSeen) (rest : M → M → Type 0) (kind : EventKind) (Done : MemSeen → MemSeen → Type 0) (a b : M) (value : T) → rest a b
    → ReportsDeath {T = Unit {0}} {E = E} (seen a).meter (seen b).meter (Ok tt) → MakesEvent {T = Unit {0}} {E = E} kind (seen a).meter (seen b).meter (Ok tt) → Done (seen a) (seen b) → PerformsOnce {T = T} {E = E} seen rest kind Done a b (Ok value)
once_ok seen rest kind Done a b value still fuse event done = record {
  call = record { rest = still; fuse = record { survives = fuse.survives; killed = tt }; done = done; cut = tt };
  event = record { events = event.events; stores = event.stores; counts = tt };
}

-- a load counts no store
pub load_no_store : {E : Type 0} (a b : MeterSeen) → MakesEvent {T = Unit {0}} {E = E} Load a b (Ok tt) → b.stores ≡ a.stores
load_no_store a b event = omega (arith, event.stores)

-- ---- loads alone

-- after loads one more was made, and the call ends well
pub loads_more_ok : {M T U E F : Type 0} (seen : M → MemSeen) (rest : M → M → Type 0) (a b c : M) (value : T) (other : U) → (rest a b → rest b c → rest a c)
    → HasLoaded seen rest a b → LoadsOnce {T = T} {E = E} seen rest b c (Ok value) → Loads {T = U} {E = F} seen rest a c (Ok other)
loads_more_ok seen rest a b c value other on p q = ends_ok seen rest Reads Reads a c other (loaded_more seen rest a b c value on p q)

-- or its event died
pub loads_more_err : {M T U E F : Type 0} (seen : M → MemSeen) (rest : M → M → Type 0) (a b c : M) (error : E) (result : Result U F) → IsErr result → (rest a b → rest b c → rest a c)
    → HasLoaded seen rest a b → LoadsOnce {T = T} seen rest b c (Err error) → Loads seen rest a c result
loads_more_err seen rest a b c error result err on p q =
    then_err seen rest Reads Reads IsAsBefore Reads Reads a b c error result err on p q.call (λ reads same. reads_transitive (seen a) (seen b) (seen c) reads same.reads)

-- after loads another call that loads ends well
pub loads_then_ok : {M T U E F : Type 0} (seen : M → MemSeen) (rest : M → M → Type 0) (a b c : M) (value : T) (other : U) → (rest a b → rest b c → rest a c)
    → HasLoaded seen rest a b → Loads {T = T} {E = E} seen rest b c (Ok value) → Loads {T = U} {E = F} seen rest a c (Ok other)
loads_then_ok seen rest a b c value other on p q = ends_ok seen rest Reads Reads a c other (loaded_then seen rest a b c on p (done_by seen rest Reads Reads b c value q))

-- or one of its events died
pub loads_then_err : {M T U E F : Type 0} (seen : M → MemSeen) (rest : M → M → Type 0) (a b c : M) (error : E) (result : Result U F) → IsErr result → (rest a b → rest b c → rest a c)
    → HasLoaded seen rest a b → Loads {T = T} seen rest b c (Err error) → Loads seen rest a c result
loads_then_err seen rest a b c error result err on p q = then_err seen rest Reads Reads Reads Reads Reads a b c error result err on p q (reads_transitive (seen a) (seen b) (seen c))

-- ---- one store, by another name of its address and its word

pub stores_once_as : {M T E : Type 0} (seen : M → MemSeen) (rest : M → M → Type 0) (at word other another : ℕ) (a b : M) (result : Result T E) → at ≡ other → word ≡ another → StoresOnce seen rest at word a b result → StoresOnce seen rest other another a b result
stores_once_as seen rest at word other another a b result same equal p =
    subst (λ (w : ℕ). StoresOnce seen rest other w a b result) equal (subst (λ (k : ℕ). StoresOnce seen rest k word a b result) same p)
