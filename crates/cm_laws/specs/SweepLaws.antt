-- Laws of the balance in a sweep (own).
use Rattle.std.specs.Prelude.{ℕ, ◌≡◌, List, Result, Some, slice_get, slice_set}
use Rattle.cm_words.specs.declared.fuse.Dead.{Dead}
use Rattle.cm_lock.specs.declared.take.Stop.{Stop}
use Rattle.cm_lock.specs.declared.view.View.{View}
use Rattle.cm_yard.specs.declared.view.View.{View as YardView}
use Rattle.cm_store.specs.Balance.{Balances}
use Rattle.cm_turn.specs.SeatSweeps.{Opens, Releases}

-- the opening of a sweep keeps the balance, whatever it answers
abbrev pub OpeningsKeepBalance : Type 0
OpeningsKeepBalance = (tries segment : ℕ) (seats : List View) (was now : View) (before later : YardView) (result : Result (Unit {0}) Stop)
    → slice_get seats segment ≡ Some was → Opens tries was now before later result → Balances seats before → Balances (slice_set seats segment now) later

-- and so does its closing
abbrev pub ClosingsKeepBalance : Type 0
ClosingsKeepBalance = (segment : ℕ) (seats : List View) (was now : View) (before later : YardView) (result : Result (Unit {0}) Dead)
    → slice_get seats segment ≡ Some was → Releases was now before later result → Balances seats before → Balances (slice_set seats segment now) later
