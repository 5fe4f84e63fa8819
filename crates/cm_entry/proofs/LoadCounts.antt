-- Calls that load, one after the other, with the number of their loads.
use Rattle.std.proofs.Common.{◌≡◌, ℕ, ◌+◌, ◌≤◌, Bool, List, Ok, Err, false, true, arith}
use Rattle.std.specs.Prelude.{IfOk, IsErr}
use Rattle.std.specs.declared.result.Result.{Result}
use Rattle.cm_words.specs.Memory.{FitsNotes, MemSeen}
use Rattle.cm_words.specs.Effects.{IsAsBefore, Reads}
use Rattle.cm_words.specs.Calls.{HasLoaded, Loads, LoadsOnce}
use Rattle.cm_words.proofs.CallSequences.{done_by, ends_err, ends_ok, loads_then_ok, then_call}
use Rattle.cm_words.proofs.FittingLists.{reads_transitive}
use Rattle.cm_entry.specs.Loading.{LoadsAnswer, LoadsAtMost, LoadsCounted, LoadsToCompare}

-- one load, whatever is answered of it
pub once_as : {M T U E F : Type 0} (seen : M → MemSeen) (rest : M → M → Type 0) (old now : M) (value : T) (other : U) → LoadsOnce {T = T} {E = E} seen rest old now (Ok value) → LoadsOnce {T = U} {E = F} seen rest old now (Ok other)
once_as seen rest old now value other p = record {
  call = record { rest = p.call.rest; fuse = record { survives = p.call.fuse.survives; killed = tt }; done = p.call.done; cut = tt };
  event = record { events = p.event.events; stores = p.event.stores; counts = tt };
}

-- its event died, and the error is handed on
pub once_err_as : {M T U E F : Type 0} (seen : M → MemSeen) (rest : M → M → Type 0) (old now : M) (error : E) (result : Result U F) → IsErr result → LoadsOnce {T = T} seen rest old now (Err error) → LoadsOnce seen rest old now result
once_err_as seen rest old now error (Ok value) err p = absurd (let no : false ≡ true = err in cc)
once_err_as seen rest old now error (Err other) err p = record {
  call = record { rest = p.call.rest; fuse = record { survives = tt; killed = p.call.fuse.killed }; done = tt; cut = p.call.cut };
  event = record { events = tt; stores = tt; counts = p.event.counts };
}

pub loads_once_err : {M T U E F : Type 0} (seen : M → MemSeen) (rest : M → M → Type 0) (old now : M) (error : E) (result : Result U F) → IsErr result → LoadsOnce {T = T} seen rest old now (Err error) → Loads seen rest old now result
loads_once_err seen rest old now error result err p = ends_err seen rest Reads IsAsBefore Reads Reads old now error result err p.call (λ same. same.reads)

-- an error is no answer
pub no_answer : {T E : Type 0} (result : Result T E) (P : T → Type 0) → IsErr result → IfOk result P
no_answer (Ok value) P err = absurd (let no : false ≡ true = err in cc)
no_answer (Err error) P err = tt

module _ {M T E : Type 0} (seen : M → MemSeen) (rest : M → M → Type 0) (old now : M) (result : Result T E) (err : IsErr result) (loads : Loads seen rest old now result) where
  -- a call that ends with an error made loads, of which none is counted
  pub at_most_err : (most : ℕ) → LoadsAtMost seen rest most old now result
  at_most_err most = record { loads = loads; count = no_answer result _ err }

  pub counted_err : (number : T → ℕ) → LoadsCounted seen rest number old now result
  counted_err number = record { loads = loads; count = no_answer result _ err }

  pub answer_err : (number : T → ℕ) (IsAnswer : List ℕ → T → Type 0) → LoadsAnswer seen rest number IsAnswer old now result
  answer_err number IsAnswer = record { counted = counted_err number; answer = no_answer result _ err }

-- after loads another call that loads ends well
pub at_most_after : {M T U E F : Type 0} (seen : M → MemSeen) (rest : M → M → Type 0) (a b c : M) (number : T → ℕ) (value : T) (other : U) (most : ℕ) → (rest a b → rest b c → rest a c) → HasLoaded seen rest a b → LoadsCounted {T = T} {E = E} seen rest number b c (Ok value)
    → (seen b).meter.events + number value ≤ (seen a).meter.events + most → LoadsAtMost {T = U} {E = F} seen rest most a c (Ok other)
at_most_after seen rest a b c number value other most on p q few = record { loads = loads_then_ok seen rest a b c value other on p q.loads; count = omega (arith, q.count, few) }

pub counted_after : {M T U E F : Type 0} (seen : M → MemSeen) (rest : M → M → Type 0) (a b c : M) (number : T → ℕ) (value : T) (then : U → ℕ) (other : U) → (rest a b → rest b c → rest a c) → HasLoaded seen rest a b → LoadsCounted {T = T} {E = E} seen rest number b c (Ok value)
    → (seen b).meter.events + number value ≡ (seen a).meter.events + then other → LoadsCounted {T = U} {E = F} seen rest then a c (Ok other)
counted_after seen rest a b c number value then other on p q as_many = record { loads = loads_then_ok seen rest a b c value other on p q.loads; count = omega (arith, q.count, as_many) }

-- one call's answer for another
pub answer_as : {M T U E F : Type 0} (seen : M → MemSeen) (rest : M → M → Type 0) (a b : M) (number : T → ℕ) (value : T) (then : U → ℕ) (other : U) (IsAnswer : List ℕ → T → Type 0) (IsOther : List ℕ → U → Type 0) → LoadsAnswer {T = T} {E = E} seen rest number IsAnswer a b (Ok value)
    → number value ≡ then other → ((words : List ℕ) → FitsNotes (seen b) words → IsAnswer words value → IsOther words other) → LoadsAnswer {T = U} {E = F} seen rest then IsOther a b (Ok other)
answer_as seen rest a b number value then other IsAnswer IsOther p as_many so = record {
  counted = record { loads = ends_ok seen rest Reads Reads a b other (done_by seen rest Reads Reads a b value p.counted.loads); count = omega (arith, p.counted.count, as_many) };
  answer = λ words fits. so words fits (p.answer words fits);
}

pub answer_err_as : {M T U E F : Type 0} (seen : M → MemSeen) (rest : M → M → Type 0) (a b : M) (error : E) (result : Result U F) → IsErr result → Loads {T = T} seen rest a b (Err error) → (number : U → ℕ) (IsAnswer : List ℕ → U → Type 0)
    → LoadsAnswer seen rest number IsAnswer a b result
answer_err_as seen rest a b error result err p number IsAnswer = answer_err seen rest a b result err (ends_err seen rest Reads Reads Reads Reads a b error result err p (λ reads. reads)) number IsAnswer

-- the answers of two calls, one after the other
pub answer_after : {M T U V E F G : Type 0} (seen : M → MemSeen) (rest : M → M → Type 0) (a b c : M) (number : T → ℕ) (value : T) (more : U → ℕ) (next : U) (all : V → ℕ) (both : V) (IsAnswer : List ℕ → T → Type 0) (IsNext : List ℕ → U → Type 0) (IsBoth : List ℕ → V → Type 0)
    → (rest a b → rest b c → rest a c) → LoadsAnswer {T = T} {E = E} seen rest number IsAnswer a b (Ok value) → LoadsAnswer {T = U} {E = F} seen rest more IsNext b c (Ok next)
    → number value + more next ≡ all both → ((words : List ℕ) → IsAnswer words value → IsNext words next → IsBoth words both) → LoadsAnswer {T = V} {E = G} seen rest all IsBoth a c (Ok both)
answer_after seen rest a b c number value more next all both IsAnswer IsNext IsBoth on p q as_many so = record {
  counted = record { loads = loads_then_ok seen rest a b c next both on (done_by seen rest Reads Reads a b value p.counted.loads) q.counted.loads; count = omega (arith, p.counted.count, q.counted.count, as_many) };
  answer = λ words fits. so words (p.answer words (q.counted.loads.done.fits words fits)) (q.answer words fits);
}

-- a comparison that ends with an error
pub compare_err : {M E : Type 0} (seen : M → MemSeen) (rest : M → M → Type 0) (old now : M) (result : Result Bool E) (most : ℕ) → IsErr result → Loads seen rest old now result → LoadsToCompare seen rest most old now result
compare_err seen rest old now result most err loads = record { loads = loads; count = no_answer result _ err; count_same = no_answer result _ err }

-- a comparison after loads
pub compare_after : {M E : Type 0} (seen : M → MemSeen) (rest : M → M → Type 0) (a b c : M) (before most : ℕ) (result : Result Bool E) → (rest a b → rest b c → rest a c) → HasLoaded seen rest a b
    → (seen b).meter.events ≡ (seen a).meter.events + before → LoadsToCompare seen rest most b c result → LoadsToCompare seen rest (before + most) a c result
compare_after seen rest a b c before most (Ok same) on p counted q = record {
  loads = then_call seen rest Reads Reads Reads Reads Reads a b c (Ok same) on p q.loads (reads_transitive (seen a) (seen b) (seen c)) (reads_transitive (seen a) (seen b) (seen c));
  count = omega (arith, counted, q.count);
  count_same = λ yes. omega (arith, counted, q.count_same yes);
}
compare_after seen rest a b c before most (Err error) on p counted q = record {
  loads = then_call seen rest Reads Reads Reads Reads Reads a b c (Err error) on p q.loads (reads_transitive (seen a) (seen b) (seen c)) (reads_transitive (seen a) (seen b) (seen c));
  count = tt;
  count_same = tt;
}
