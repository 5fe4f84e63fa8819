-- Stop words that passes raise and find (own).
use Rattle.std.specs.Prelude.{ℕ, ◌≡◌, ◌≢◌, ◌⊎◌, All, List, slice_get, Some}
use Rattle.cm_lock.specs.declared.view.Level.{Level}
use Rattle.cm_lock.specs.declared.view.Level.TheVariants.{Free, Read, Update, Write}
use Rattle.cm_lock.specs.declared.view.View.{View}
use Rattle.cm_yard.specs.declared.view.View.{View as YardView}
use Rattle.cm_yard.specs.Views.{with_raise}
use Rattle.cm_store.specs.declared.pass.Pass.{Pass}

-- what is raised for a level
abbrev pub stop_number : Level → ℕ
stop_number Free = 0
stop_number Read = 1
stop_number Update = 1
stop_number Write = 2

-- the number is raised in the segment of a seat that holds a level; nothing, where none does
pub data RaisesStop (seats : List View) (old now : YardView) : Type 0 where
  none : All (λ (v : View). v.own.level ≡ Free) seats → now ≡ old → RaisesStop seats old now
  held : (segment : ℕ) (v : View) → slice_get seats segment ≡ Some v → v.own.level ≢ Free
      → now ≡ with_raise old segment (stop_number v.own.level) → RaisesStop seats old now

-- a number in a stop word stops callers that want this level: 2 all, and 1 all but readers
abbrev pub Stops : ℕ → Level → Type 0
Stops number level = (number ≡ 2) ⊎ ((number ≡ 1) × (level ≢ Read))

-- nothing of a pass but its seat of the yard is another
pub record SameButClaims {F : Type 0} (old now : Pass F) : Type 0 where
  pub seats : now.seats ≡ old.seats
  pub fuse : now.fuse ≡ old.fuse
  pub number : now.number ≡ old.number
  pub dead : now.dead ≡ old.dead
  pub sweep : now.sweep ≡ old.sweep
