-- Calls over a memory in which anything may be stored, and which can't die.
use Rattle.std.proofs.Common.{◌≡◌, ℕ, ◌+◌, ◌%◌, ◌^◌, ◌<◌, List, [], ◌∷◌, Ok, Err, refl, sym, ap, subst, ◌∙◌}
use Rattle.std.specs.Prelude.{IsOk}
use Rattle.std.specs.declared.result.Result.{Result}
use Rattle.cm_geo.specs.declared.geo.Geo.{Geo}
use Rattle.cm_words.specs.declared.access.Access.TheVariants.{Closed, Writable}
use Rattle.cm_words.specs.Memory.{MemSeen, Setting}
use Rattle.cm_words.specs.Meters.{Survives}
use Rattle.cm_words.specs.Effects.{Changes, Knows, Reads}
use Rattle.cm_words.specs.Calls.{HasDone, HasLoaded, IsReadable, IsWritable, Loads, Performs}
use Rattle.cm_words.specs.Stores.{Writes, store_at}
use Rattle.cm_words.proofs.CallSequences.{done_by, loaded_then}
use Rattle.cm_words.proofs.ListChanges.{changes_as}
use Rattle.cm_words.proofs.StoreLists.{writes_remade}
use Rattle.cm_recover.specs.Rebuilding.{IsOpen, raised}

-- after a call it is one still
open_on : (a b : MemSeen) (geo : Geo) (segment : ℕ) → IsOpen a geo segment → b.setting ≡ a.setting → Survives a.meter b.meter → IsOpen b geo segment
open_on a b geo segment is same survives = record {
  writable = ap (λ (s : Setting). s.access) same ∙ is.writable;
  geo_is = ap (λ (s : Setting). s.geo) same ∙ is.geo_is;
  segment_is = ap (λ (s : Setting). s.segment) same ∙ is.segment_is;
  free = ap (λ (s : Setting). s.guarded) same ∙ is.free;
  never = λ can. is.never (survives.never_begins can);
}

pub open_reads : {M : Type 0} (seen : M → MemSeen) (rest : M → M → Type 0) (geo : Geo) (segment : ℕ) (a b : M) → IsOpen (seen a) geo segment
    → HasLoaded seen rest a b → IsOpen (seen b) geo segment
open_reads seen rest geo segment a b is loads = open_on (seen a) (seen b) geo segment is loads.done.keeps.setting loads.survives

pub open_changes : {M : Type 0} (seen : M → MemSeen) (rest : M → M → Type 0) (R : List ℕ → List ℕ → Type 0) (geo : Geo) (segment : ℕ) (a b : M)
    → IsOpen (seen a) geo segment
    → HasDone seen rest (λ old now. Changes old now R) a b → IsOpen (seen b) geo segment
open_changes seen rest R geo segment a b is done = open_on (seen a) (seen b) geo segment is done.done.keeps.setting done.survives

-- it may be read, and written
pub readable_open : (m : MemSeen) (geo : Geo) (segment : ℕ) → IsOpen m geo segment → IsReadable m geo
readable_open m geo segment is = record { not_closed = λ closed. clash (sym is.writable ∙ closed); geo_is = is.geo_is }
  where
    clash : Writable ≡ Closed → ⊥
    clash e = cc e

pub writable_open : (m : MemSeen) (geo : Geo) (segment : ℕ) → IsOpen m geo segment → IsWritable m geo
writable_open m geo segment is = record { writable = is.writable; geo_is = is.geo_is }

-- no call dies
pub lives : {M T E : Type 0} (seen : M → MemSeen) (rest : M → M → Type 0) (Done Cut : MemSeen → MemSeen → Type 0) (geo : Geo) (segment : ℕ)
    (a b : M) (result : Result T E)
    → IsOpen (seen a) geo segment → Performs seen rest Done Cut a b result → IsOk result
lives seen rest Done Cut geo segment a b (Ok value) is call = refl
lives seen rest Done Cut geo segment a b (Err error) is call = absurd (is.never call.fuse.killed.could)

-- a call that answered a value
pub answered : {M T E : Type 0} (seen : M → MemSeen) (rest : M → M → Type 0) (Done Cut : MemSeen → MemSeen → Type 0) (a b : M) (result : Result T E)
    (value : T) → result ≡ Ok value
    → Performs seen rest Done Cut a b result → HasDone seen rest Done a b
answered {T} {E} seen rest Done Cut a b result value is call = done_by {T = T} {E = E} seen rest Done Cut a b value
    (subst (λ (r : Result T E). Performs seen rest Done Cut a b r) is call)

-- loads, and a call that loads and answered a value
pub loaded_answered : {M T E : Type 0} (seen : M → MemSeen) (rest : M → M → Type 0) (a b c : M) (result : Result T E) (value : T)
    → (rest a b → rest b c → rest a c) → result ≡ Ok value
    → HasLoaded seen rest a b → Loads seen rest b c result → HasLoaded seen rest a c
loaded_answered seen rest a b c result value on is p q = loaded_then seen rest a b c on p (answered seen rest Reads Reads b c result value is q)

-- a count that was loaded and stored again is raised
pub raised_by : (a b c : MemSeen) (at found word : ℕ) → Reads a b → 0 < at → Knows b at found → word ≡ (found + 1) % 2 ^ 64
    → Writes b c (store_at at word ∷ [])
    → Changes a c (λ before words. words ≡ raised at before)
raised_by a b c at found word reads inner knows is writes =
    changes_as a c _ (λ before words. words ≡ raised at before)
    (writes_remade a b c at found word (λ w. (w + 1) % 2 ^ 64) reads inner knows is writes)
    (λ before words fits leads. sym leads.leads)
