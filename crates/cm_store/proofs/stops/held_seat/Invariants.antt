use Rattle.std.proofs.Common.{◌≡◌, ◌<◌, ℕ, get_or}
use Rattle.cm_lock.specs.declared.view.Level.TheVariants.{Free}
use Rattle.cm_lock.specs.declared.view.View.{View}
use Rattle.cm_store.specs.Passes.{views}
use Rattle.cm_store.proofs.stops.held_seat.Given as goal

abbrev pub invariant-loop-at : goal.invariant-loop-at
invariant-loop-at l = (k : ℕ) (d : View) → k < l.at → (get_or (views l.seats) k d).own.level ≡ Free
