-- What each step tells its caller (own).
use Rattle.std.specs.Prelude.{ℕ, ◌≡◌, ◌≢◌, ◌-◌, ◌≤◌, [], ◌∷◌}
use Rattle.atomic_table.specs.Table.{Me, Step}
use Rattle.cm_yard.specs.declared.view.View.{View}
use Rattle.cm_yard.specs.Views.{with_claim, with_due, with_misses, with_raise, with_stop}

-- what a seat knows; it holds no slot
abbrev pub SeatState : Type 0
SeatState = Me (Unit {0}) View

-- an exchange of the claim word with this index: it found 0 and left one more than a segment, or found the word owned
abbrev pub ExchangesClaim : ℕ → Step (Unit {0}) → SeatState → ℕ → SeatState → Type 0
ExchangesClaim index st m n m' =
    (n ≡ 0 → m'.0 ≡ with_claim m.0 index (st.second - 1))
    × (n ≢ 0 → m'.0 ≡ with_misses m.0 (record { index = index; segment = n - 1 } ∷ []))
    × (m'.1 ≡ m.1)

-- a store of a stop word
abbrev pub RaisesStop : Step (Unit {0}) → SeatState → ℕ → SeatState → Type 0
RaisesStop st m n m' = (m'.0 ≡ with_raise m.0 st.word st.first) × (m'.1 ≡ m.1)

-- a load of a stop word
abbrev pub FindsStop : Step (Unit {0}) → SeatState → ℕ → SeatState → Type 0
FindsStop st m n m' = (m'.0 ≡ with_stop m.0 st.word n) × (m'.1 ≡ m.1) × (n ≤ 2)

-- a load that notes the number of the next seat
abbrev pub NotesNumber : ℕ → Step (Unit {0}) → SeatState → ℕ → SeatState → Type 0
NotesNumber k st m n m' = (m'.0 ≡ with_due m.0 k) × (m'.1 ≡ m.1)
