-- What contracts see of a table and of its seats (own).
use Rattle.std.specs.Prelude.{ℕ, ◌≡◌, List, [], ◌∷◌}
use Rattle.cm_lock.specs.declared.view.Key.{Key}
use Rattle.cm_lock.specs.declared.view.Level.{Level}
use Rattle.cm_lock.specs.declared.view.View.{View}
use Rattle.cm_lock.specs.declared.table.SegTable.{SegTable}
use Rattle.cm_lock.specs.declared.table.SegSeat.{SegSeat}
use Rattle.cm_lock.specs.Rule.{IsSharedSegment}

-- what is fixed when a table is made
abbrev pub key_of : SegTable → Key
key_of table = table.table.shared.key

-- what a seat knows and has done
abbrev pub view_of : SegSeat → View
view_of seat = seat.seat.me.0

-- the level that a seat holds
abbrev pub level_of : SegSeat → Level
level_of seat = (view_of seat).own.level

-- the seat is of this table
abbrev pub IsOf : SegSeat → SegTable → Type 0
IsOf seat table = seat.seat.table_id ≡ table.table.shared.table_id

-- at the end the rule holds of the words and of the root's view alone
abbrev pub Closes : Key → View → List ℕ → Type 0
Closes key root words = IsSharedSegment key words (root ∷ [])
