-- What is decided before a value is placed (own).
use Rattle.std.specs.Prelude.{ℕ, ◌≡◌, List, length, Some, is_some}
use Rattle.cm_geo.specs.declared.geo.Geo.{Geo}
use Rattle.cm_geo.specs.Need.{need}
use Rattle.cm_plain.specs.declared.rooms.Placement.{Placement}
use Rattle.cm_plain.specs.States.{State, entry_of}
use Rattle.cm_plain.specs.Rooms.{room_for, spot_in}

-- the room of a key's value of so many bytes, the chunk at which it goes there, and whether the key has an entry
pub record IsPlacement (geo : Geo) (state : State) (key : List ℕ) (value_len : ℕ) (placing : Placement) : Type 0 where
  pub room_is : room_for geo state key (need geo (length key) value_len) ≡ placing.room
  pub spot_is : spot_in placing.room (entry_of key state) ≡ Some placing.spot
  pub replaces_is : placing.replaces ≡ is_some (entry_of key state)
