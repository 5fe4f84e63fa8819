-- What contracts see of a yard and of its seats (own).
use Rattle.std.specs.Prelude.{◌≡◌}
use Rattle.cm_yard.specs.declared.view.Key.{Key}
use Rattle.cm_yard.specs.declared.view.View.{View}
use Rattle.cm_yard.specs.declared.yard.Yard.{Yard}
use Rattle.cm_yard.specs.declared.yard.YardSeat.{YardSeat}

-- what is fixed when a yard is made
abbrev pub key_of : Yard → Key
key_of yard = yard.table.shared.key

-- what a seat has noted
abbrev pub view_of : YardSeat → View
view_of seat = seat.seat.me.0

-- the seat is of this yard
abbrev pub IsOf : YardSeat → Yard → Type 0
IsOf seat yard = seat.seat.table_id ≡ yard.table.shared.table_id
