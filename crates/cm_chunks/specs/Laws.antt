-- What bits tell of a state (own).
use Rattle.std.specs.Prelude.{ℕ, ◌≡◌, ◌≤◌, ◌↔◌, true, List, Option}
use Rattle.cm_geo.specs.declared.geo.Geo.{Geo}
use Rattle.cm_plain.specs.States.{State}
use Rattle.cm_plain.specs.Rooms.{is_free, least_free}
use Rattle.cm_plain.specs.Lawful.{BitsRepresent}
use Rattle.cm_chunks.specs.Free.{FindsFit, IsFreeRun}

-- so many chunks are free in the words just where they are in the state
abbrev pub IsFreeAsState : Type 0
IsFreeAsState =
    (geo : Geo) (words : List ℕ) (state : State) (place chunk chunks : ℕ) → BitsRepresent geo words state place → 1 ≤ chunks
    → (IsFreeRun geo words place chunk chunks ↔ (is_free geo state.entries place chunk chunks ≡ true))

-- what is found in the words is the state's first fit in the tier
abbrev pub FindsAsState : Type 0
FindsAsState =
    (geo : Geo) (words : List ℕ) (state : State) (place chunks : ℕ) (found : Option ℕ) → BitsRepresent geo words state place → 1 ≤ chunks
    → FindsFit geo words place chunks found → found ≡ least_free geo state.entries chunks place
