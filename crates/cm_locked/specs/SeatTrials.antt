-- What seats in the tests know (own).
use Rattle.std.specs.Prelude.{ℕ, ◌≡◌, ◌∷◌, [], List, Some, None, Result, OnOk}
use Rattle.cm_words.specs.declared.peek.FoundWord.{FoundWord}
use Rattle.cm_lock.specs.declared.table.SegSeat.{SegSeat}
use Rattle.cm_lock.specs.declared.table.SegTable.{SegTable}
use Rattle.cm_lock.specs.declared.view.View.{View}
use Rattle.cm_lock.specs.Tables.{IsOf, view_of}

-- a seat with no plan under way and no open round
pub record IsIdle (v : View) : Type 0 where
  pub plan : v.own.plan ≡ None
  pub round : v.round ≡ None

-- a seat with no plan under way, whose open round has found these words
pub record IsOpen (found : List FoundWord) (v : View) : Type 0 where
  pub plan : v.own.plan ≡ None
  pub first : ℕ
  pub round : v.round ≡ Some (record { first = first; found = found })

-- a seat has its number after a call too, and is idle unless it died
pub record Continues {T E : Type 0} (old now : View) (result : Result T E) : Type 0 where
  pub number : now.own.number ≡ old.own.number
  pub idle : OnOk result (IsIdle now)

-- a seat of a table that is idle and has this number
pub record IsReady (number : ℕ) (table : SegTable) (seat : SegSeat) : Type 0 where
  pub its : IsOf seat table
  pub number_is : (view_of seat).own.number ≡ number
  pub idle : IsIdle (view_of seat)

-- a seat of a table that has this number, live or dead
pub record IsNumbered (number : ℕ) (table : SegTable) (seat : SegSeat) : Type 0 where
  pub its : IsOf seat table
  pub number_is : (view_of seat).own.number ≡ number

-- the root of a table, which made the seats 0 to 3
pub record IsRootOfFour (table : SegTable) (root : SegSeat) : Type 0 where
  pub its : IsOf root table
  pub number_is : (view_of root).own.number ≡ 64
  pub made : (view_of root).made ≡ 3 ∷ 2 ∷ 1 ∷ 0 ∷ []
