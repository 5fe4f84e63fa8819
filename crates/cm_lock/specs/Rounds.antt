-- Rounds of loads without a level (own). A round begins and ends with a load of the change number.
use Rattle.std.specs.Prelude.{ℕ, ◌≡◌, ◌≢◌, ◌*◌, ◌/◌, ◌%◌, ◌<◌, ◌≤◌, ◌==◌, ◌⊎◌, All, Bool, false, List, [], Option, Some, None, if◌then◌else◌}
use Rattle.cm_plain.specs.declared.op.Op.{Op}
use Rattle.cm_plain.specs.declared.reply.Reply.{Reply}
use Rattle.cm_plain.specs.States.{State}
use Rattle.cm_plain.specs.Steps.{Step}
use Rattle.cm_plain.specs.Lawful.{IsSegmentWords, Represents}
use Rattle.cm_plain.specs.Slots.{word_at}
use Rattle.cm_words.specs.declared.peek.FoundWord.{FoundWord}
use Rattle.cm_words.specs.Peeks.{HasFound}
use Rattle.cm_lock.specs.declared.view.Key.{Key}
use Rattle.cm_lock.specs.declared.view.Level.TheVariants.{Free}
use Rattle.cm_lock.specs.declared.view.Round.{Round}
use Rattle.cm_lock.specs.declared.view.View.{View}
use Rattle.cm_lock.specs.Views.{after_close, after_failed_round, after_open}

-- A seat with an open round is Free. The round began while no change was under way, after no more changes than the segment has taken. Either
-- the change number is greater now, or the words have what the round found, which is neither the lock word nor the change number
pub record KnowsRound (words : List ℕ) (number : ℕ) (v : View) (round : Round) : Type 0 where
  pub free : v.own.level ≡ Free
  pub began : (half : ℕ) × (round.first ≡ 2 * half) × (half ≤ number)
  pub inner : All (λ (f : FoundWord). 1 < f.at) round.found
  pub stands : (round.first < word_at words 1) ⊎ HasFound words round.found

-- of the round of a seat, if one is open
abbrev pub KnowsItsRound : List ℕ → ℕ → View → Type 0
KnowsItsRound words number v = (round : Round) → v.round ≡ Some round → KnowsRound words number v round

-- ---- what the calls of a round tell

-- some list of the segment's words has all that a round found, and represents a state
pub record IsFoundAtOnce (key : Key) (round : Round) : Type 0 where
  pub words : List ℕ
  pub state : State
  pub are : IsSegmentWords key.geo words
  pub found : HasFound words round.found
  pub represents : Represents key.geo key.segment words state

-- the reply is that of the step, without a grant, after half the round's first number of changes, from each state that such a list represents
abbrev pub IsReplyToFound : Key → Round → Op → Reply → Type 0
IsReplyToFound key round op reply =
    (words : List ℕ) (state : State) → IsSegmentWords key.geo words → HasFound words round.found → Represents key.geo key.segment words state
    → Step key.geo key.segment state (round.first / 2) false op state reply

-- the words that the open round of a seat has found
abbrev pub found_in : Option Round → List FoundWord
found_in None = []
found_in (Some round) = round.found

-- A change number was loaded to begin a round. The round is open exactly where that is even; else it failed
pub record OpensRound (opened : Bool) (old now : View) : Type 0 where
  pub word : ℕ
  pub even : opened ≡ (word % 2 == 0)
  pub view : now ≡ (if opened then after_open old word else after_failed_round old word)
  pub seen : old.seen ≤ word / 2

-- what a closing load of this change number did to an open round: with the first one an answer was entered at half of it, and all that was found
-- stood at once; else the round failed
abbrev pub ClosesAs : Key → Op → Reply → Round → ℕ → Option ℕ → View → View → Type 0
ClosesAs key op reply round word (Some number) old now =
    (word ≡ round.first) × (number ≡ word / 2) × (now ≡ after_close old op reply word) × IsFoundAtOnce key round
ClosesAs key op reply round word None old now = (word ≢ round.first) × (now ≡ after_failed_round old word)

-- a change number was loaded to end a round
pub record ClosesRound (key : Key) (op : Op) (reply : Reply) (answer : Option ℕ) (old now : View) : Type 0 where
  pub round : Round
  pub open_is : old.round ≡ Some round
  pub word : ℕ
  pub closes : ClosesAs key op reply round word answer old now
  pub seen : old.seen ≤ word / 2
