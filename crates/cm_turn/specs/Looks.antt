-- How often a call that answered looked at the lock word (own). A take that was refused made as many looks as it had tries, and one that gave its
-- level made one at least: so a call that answered within these bounds was refused no take and no raise.
use Rattle.std.specs.Prelude.{ℕ, ◌≡◌, ◌+◌, ◌<◌, ◌≤◌, ◌⊎◌, length}
use Rattle.cm_lock.specs.Levels.{Permits}
use Rattle.cm_lock.specs.Takes.{last_found}
use Rattle.cm_lock.specs.declared.view.Level.TheVariants.{Update, Write}
use Rattle.cm_lock.specs.declared.view.View.{View}

-- no look was made, and no try
pub record LooksNever (old now : View) : Type 0 where
  pub looks : now.looks ≡ old.looks
  pub tries : now.tries ≡ old.tries

-- one take gave its level: a look was made, and at most so many
pub record TakesOnce (tries : ℕ) (old now : View) : Type 0 where
  pub looked : old.looks < now.looks
  pub within : now.looks ≤ old.looks + tries

-- at most so many looks were made before a raise of Update to Write, and each look of the raise is one of its tries, the newest of which found a
-- word that permits it
pub record Raises (before tries : ℕ) (old now : View) : Type 0 where
  pub looks : now.looks ≤ old.looks + before + length now.tries
  pub made : length now.tries ≤ tries
  pub permits : Permits Update Write (last_found now.tries)

-- at most so many looks were made, and nothing was raised, or Update behind them
abbrev pub MayRaise : ℕ → ℕ → View → View → Type 0
MayRaise before tries old now = (now.looks ≤ old.looks + before) ⊎ Raises before tries old now
