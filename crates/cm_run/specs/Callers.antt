-- The callers of a script, and what a root keeps of the passes that it made for them (own).
use Rattle.std.specs.Prelude.{ℕ, ◌≡◌, ◌+◌, ◌-◌, ◌<◌, ◌==◌, Bool, true, false, All, Any, Contains, List, [], filter, map, None}
use Rattle.std.specs.List.{list_any, range_with_len}
use Rattle.cm_plain.specs.History.{Call}
use Rattle.cm_words.specs.Fuses.{FuseSeen}
use Rattle.cm_lock.specs.declared.view.HeldLevel.{HeldLevel}
use Rattle.cm_lock.specs.declared.view.View.{View}
use Rattle.cm_yard.specs.declared.view.View.{View as YardView}
use Rattle.cm_store.specs.declared.pass.Pass.{Pass}
use Rattle.cm_store.specs.declared.store.Store.{Store}
use Rattle.cm_store.specs.Passes.{IsPassOf, IsResting, claims_view, is_dead, sweep_of, views_of}
use Rattle.cm_store.specs.Splits.{IsRoot}
use Rattle.cm_history.specs.Endings.{KeepsRoot}
use Rattle.cm_script.specs.declared.limits.TheConstants.{MAX_CALLERS}
use Rattle.cm_script.specs.declared.line.Line.{Line}
use Rattle.cm_caller.specs.declared.caller.Caller.{Caller}
use Rattle.cm_caller.specs.Callers.{is_starved}
use Rattle.cm_caller.specs.Records.{HasAnswered, IsReady}
use Rattle.cm_caller.specs.Tries.{Stands}
use Rattle.cm_run.specs.Gates.{CallerGates, MakerSeen}

-- whether a caller has a record in a script
abbrev pub asks : List Line → ℕ → Bool
asks script caller = list_any (λ line. line.caller == caller) script

-- the callers of a script below a number, in ascending order
abbrev pub askers_below : List Line → ℕ → List ℕ
askers_below script number = filter (asks script) (range_with_len 0 number)

-- those from a number on
abbrev pub askers_from : List Line → ℕ → List ℕ
askers_from script number = filter (asks script) (range_with_len number (MAX_CALLERS - number))

-- all of them
abbrev pub askers_of : List Line → List ℕ
askers_of script = askers_below script MAX_CALLERS

-- the numbers of callers
abbrev pub numbers : {F : Type 0} → List (Caller F) → List ℕ
numbers callers = map (λ caller. caller.number) callers

-- ---- the root

-- a seat of the root made seats of these numbers alone, and joined those of some
pub record HasJoinedSeats (made joined : List ℕ) (v : View) : Type 0 where
  pub made_are : All (λ (number : ℕ). Contains made number) v.made
  pub joined_are : All (λ (number : ℕ). Any (λ (h : HeldLevel). h.number ≡ number) v.inherited) joined

-- the same of the root's seat of the yard
pub record HasJoinedClaimers (made joined : List ℕ) (v : YardView) : Type 0 where
  pub made_are : All (λ (number : ℕ). Contains made number) v.made
  pub joined_are : All (λ (number : ℕ). Contains v.joined number) joined

-- the root of a store, live and in no sweep
pub record IsRootOf {F : Type 0} (store : Store) (root : Pass F) : Type 0 where
  pub its : IsPassOf root store
  pub root_is : IsRoot root
  pub live : is_dead root ≡ false
  pub no_sweep : sweep_of root ≡ None

-- it made passes of these numbers alone, and joined some
pub record HasJoined {F : Type 0} (made joined : List ℕ) (root : Pass F) : Type 0 where
  pub seats : All (HasJoinedSeats made joined) (views_of root)
  pub claims : HasJoinedClaimers made joined (claims_view root)

-- it took over these calls, and nothing else
abbrev pub RootKeeps : {F : Type 0} → Store → (ℕ → List Call) → Pass F → Type 0
RootKeeps store calls root = KeepsRoot store.geo.extra calls (views_of root) (claims_view root)

-- ---- the callers

-- a caller that performed its records
pub record HasPerformed {F : Type 0} (fused : F → FuseSeen) (store : Store) (script : List Line) (caller : Caller F) : Type 0 where
  pub stands : Stands fused store IsResting caller.number caller.pass
  pub answers : is_starved caller.halt ≡ false → HasAnswered store script caller

-- each caller of a script is ready, in ascending order, and the root made their passes
pub record AreReady {F G : Type 0} (fused : F → FuseSeen) (store : Store) (script : List Line) (callers : List (Caller F)) (root : Pass G) : Type 0 where
  pub numbers_are : numbers callers ≡ askers_of script
  pub ready : All (IsReady fused store script) callers
  pub root_is : IsRootOf store root
  pub made : HasJoined (askers_of script) [] root
  pub keeps : RootKeeps store (λ segment. []) root

-- each performed its records
pub record HavePerformed {F : Type 0} (fused : F → FuseSeen) (store : Store) (script : List Line) (old now : List (Caller F)) : Type 0 where
  pub numbers_are : numbers now ≡ numbers old
  pub performed : All (HasPerformed fused store script) now

-- ---- the gates

-- no gate that is made without a kill can die
abbrev pub NeverDies : MakerSeen → Type 0
NeverDies m = (caller : ℕ) → m.can_die caller None ≡ false

-- one gate more was made for a caller, without a kill
abbrev pub made_for : CallerGates → CallerGates
made_for counts = record counts { made = counts.made + 1; last_kill = None }

-- so it is of each caller of a script below a number; of the others nothing was counted; and what the gates can and tell is as before
pub record MadeBelow (script : List Line) (number : ℕ) (old now : MakerSeen) : Type 0 where
  pub each : (caller : ℕ) → caller < number → asks script caller ≡ true → now.of caller ≡ made_for (old.of caller)
  pub others : (caller : ℕ) → (caller < number → asks script caller ≡ false) → now.of caller ≡ old.of caller
  pub can_die : now.can_die ≡ old.can_die
  pub tells : now.tells ≡ old.tells
