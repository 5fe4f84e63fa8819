-- What each step tells its caller (own).
use Rattle.std.specs.Prelude.{ℕ, ◌≡◌, ◌≢◌, ◌/◌, ◌%◌, ◌==◌, if◌then◌else◌, ◌<◌, ◌≤◌, ◌^◌, Bool, Some, None}
use Rattle.atomic_table.specs.Table.{Me, Step}
use Rattle.cm_plain.specs.declared.op.Op.{Op}
use Rattle.cm_plain.specs.declared.reply.Reply.{Reply}
use Rattle.cm_plain.specs.Changes.{Change}
use Rattle.cm_words.specs.Memory.{Note}
use Rattle.cm_words.specs.Parity.{IsEven, IsOdd}
use Rattle.cm_lock.specs.declared.view.ChangeCopy.{ChangeCopy}
use Rattle.cm_lock.specs.declared.view.Level.{Level}
use Rattle.cm_lock.specs.declared.view.Round.{Round}
use Rattle.cm_lock.specs.declared.view.View.{View}
use Rattle.cm_lock.specs.Rule.{CountsEvents}
use Rattle.cm_lock.specs.Views.{after_answer, after_begin, after_close, after_failed_round, after_finish, after_load, after_look, after_miss, after_open, after_peek, after_release, after_store, note_at, with_due, with_level}

-- what a seat knows; it holds no slot
abbrev pub SeatState : Type 0
SeatState = Me (Unit {0}) View

-- ---- held words

-- the word at an address that a level loaded: the one that was noted there; a change number is within its limit and, without a plan, even
pub record IsHeldWord (v : View) (at word : ℕ) : Type 0 where
  pub noted : (note : Note) → note_at v.own.notes at ≡ Some note → note.present ≡ word
  pub within_limit : at ≡ 1 → word ≤ 2 ^ 63
  pub even : at ≡ 1 → v.own.plan ≡ None → IsEven word

-- a load
abbrev pub LoadsHeld : Step (Unit {0}) → SeatState → ℕ → SeatState → Type 0
LoadsHeld st m n m' = (m'.0 ≡ after_load m.0 st.word n) × (m'.1 ≡ m.1) × IsHeldWord m.0 st.word n

-- a store, by a swap that finds the word that was noted
abbrev pub StoresHeld : Step (Unit {0}) → SeatState → ℕ → SeatState → Type 0
StoresHeld st m n m' = (m'.0 ≡ after_store m.0 st.word n st.first) × (m'.1 ≡ m.1) × ((note : Note) → note_at m.0.own.notes st.word ≡ Some note → note.present ≡ n)

-- the store of an odd change number
abbrev pub BeginsChange : Change → Step (Unit {0}) → SeatState → ℕ → SeatState → Type 0
BeginsChange change st m n m' = (m'.0 ≡ after_begin m.0 change st.first) × (m'.1 ≡ m.1) × IsOdd st.first

-- the change under way ended with this change number, which is above all that the seat has seen
pub record HasEnded (v w : View) (word : ℕ) : Type 0 where
  pub view : (c : ChangeCopy) → v.own.plan ≡ Some c → w ≡ after_finish v c word
  pub above : v.seen < word / 2

-- the store of an even change number
abbrev pub EndsChange : Step (Unit {0}) → SeatState → ℕ → SeatState → Type 0
EndsChange st m n m' = HasEnded m.0 m'.0 st.first × (m'.1 ≡ m.1)

-- ---- levels

-- a look
abbrev pub Looks : Bool → Step (Unit {0}) → SeatState → ℕ → SeatState → Type 0
Looks is_first st m n m' = (m'.0 ≡ after_look is_first m.0 n) × (m'.1 ≡ m.1)

-- the exchange of a take
abbrev pub Takes : Level → Step (Unit {0}) → SeatState → ℕ → SeatState → Type 0
Takes to st m n m' = (n ≡ st.first → m'.0 ≡ with_level to m.0) × (n ≢ st.first → m'.0 ≡ after_miss m.0 n) × (m'.1 ≡ m.1)

-- the exchange that lowers a level
abbrev pub Lowers : Level → Step (Unit {0}) → SeatState → ℕ → SeatState → Type 0
Lowers to st m n m' = (m'.0 ≡ with_level to m.0) × (m'.1 ≡ m.1)

-- the exchange of a release
abbrev pub Releases : Step (Unit {0}) → SeatState → ℕ → SeatState → Type 0
Releases st m n m' = (m'.0 ≡ after_release m.0) × (m'.1 ≡ m.1)

-- ---- answers

-- the load of the change number that enters an answer
abbrev pub Answers : Op → Reply → Step (Unit {0}) → SeatState → ℕ → SeatState → Type 0
Answers op reply st m n m' = (m'.0 ≡ after_answer m.0 op reply (n / 2)) × (m'.1 ≡ m.1) × (m.0.seen ≤ n / 2)

-- ---- rounds

-- the first load of a round, by a seat that is Free and knows nothing: the round is open where the change number is even
abbrev pub OpensBy : Step (Unit {0}) → SeatState → ℕ → SeatState → Type 0
OpensBy st m n m' = (m'.0 ≡ (if n % 2 == 0 then after_open m.0 n else after_failed_round m.0 n)) × (m'.1 ≡ m.1) × (m.0.seen ≤ n / 2)

-- a load of an open round
abbrev pub Peeks : Step (Unit {0}) → SeatState → ℕ → SeatState → Type 0
Peeks st m n m' = ((round : Round) → m.0.round ≡ Some round → m'.0 ≡ after_peek m.0 round st.word n) × (m'.1 ≡ m.1)

-- the last load of a round, of which this is claimed where it ends with its first number
abbrev pub ClosesBy : (Round → Type 0) → Op → Reply → Step (Unit {0}) → SeatState → ℕ → SeatState → Type 0
ClosesBy Claim op reply st m n m' =
    ((round : Round) → m.0.round ≡ Some round → n ≡ round.first → (m'.0 ≡ after_close m.0 op reply n) × Claim round)
    × ((round : Round) → m.0.round ≡ Some round → n ≢ round.first → m'.0 ≡ after_failed_round m.0 n)
    × (m'.1 ≡ m.1) × (m.0.seen ≤ n / 2)

-- ---- seats

-- a load that notes the number of the next seat
abbrev pub NotesNumber : ℕ → Step (Unit {0}) → SeatState → ℕ → SeatState → Type 0
NotesNumber k st m n m' = (m'.0 ≡ with_due m.0 k) × (m'.1 ≡ m.1)

-- a load that tells what a seat counts
abbrev pub TellsCounts : Step (Unit {0}) → SeatState → ℕ → SeatState → Type 0
TellsCounts st m n m' = (m'.0 ≡ m.0) × (m'.1 ≡ m.1) × CountsEvents m.0
