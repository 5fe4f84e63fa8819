-- What stores, roots and passes in the tests know (own).
use Rattle.std.specs.Prelude.{ℕ, ◌≡◌, ◌<◌, All, Any, Contains, false, None, IsNone, IsSome}
use Rattle.cm_lock.specs.declared.view.HeldLevel.{HeldLevel}
use Rattle.cm_lock.specs.declared.view.View.{View}
use Rattle.cm_yard.specs.declared.view.View.{View as YardView}
use Rattle.cm_store.specs.declared.pass.Pass.{Pass}
use Rattle.cm_store.specs.declared.store.Store.{Store}
use Rattle.cm_store.specs.Passes.{IsPassOf, IsResting, claims_view, is_dead, sweep_of, views_of}
use Rattle.cm_store.specs.Splits.{IsRoot}
use Rattle.cm_store.specs.Sweeps.{MayStep}

-- a seat of the root that made no seat but those of the numbers below one, and joined those below another one
pub record HasMadeSeats (made back : ℕ) (v : View) : Type 0 where
  pub below : All (λ (n : ℕ). n < made) v.made
  pub joined : (n : ℕ) → n < back → Any (λ (h : HeldLevel). h.number ≡ n) v.inherited

-- the same of the root's seat of the yard
pub record HasMadeClaimers (made back : ℕ) (v : YardView) : Type 0 where
  pub below : All (λ (n : ℕ). n < made) v.made
  pub joined : (n : ℕ) → n < back → Contains v.joined n

-- the root is the store's, lives, and made and joined passes of these numbers
pub record IsTrialOf {F : Type 0} (store : Store) (root : Pass F) (made back : ℕ) : Type 0 where
  pub its : IsPassOf root store
  pub root_is : IsRoot root
  pub live : is_dead root ≡ false
  pub no_sweep : sweep_of root ≡ None
  pub seats : All (HasMadeSeats made back) (views_of root)
  pub claims : HasMadeClaimers made back (claims_view root)

-- a pass of a store, all of whose seats have its number; where it lives it is between two calls, in no sweep or in one
pub record IsPlayer {F : Type 0} (store : Store) (pass : Pass F) : Type 0 where
  pub its : IsPassOf pass store
  pub seats : All (λ (v : View). v.own.number ≡ pass.number) (views_of pass)
  pub claims : (claims_view pass).number ≡ pass.number
  pub resting : is_dead pass ≡ false → IsNone (sweep_of pass) → IsResting pass
  pub stepping : is_dead pass ≡ false → IsSome (sweep_of pass) → MayStep store pass
