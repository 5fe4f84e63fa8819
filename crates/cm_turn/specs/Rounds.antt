-- A get without a level: what one of its rounds leaves of its seat (own).
use Rattle.std.specs.Prelude.{ℕ, ◌≡◌, ◌≢◌, ◌⊎◌, ◌+◌, ◌<◌, ◌≤◌, false, List, length, Option, Some, None, Result, Ok, Err}
use Rattle.cm_geo.specs.declared.limits.TheConstants.{MAX_VALUE_BYTES}
use Rattle.cm_plain.specs.declared.op.Op.{Op}
use Rattle.cm_plain.specs.declared.op.Op.TheVariants.{Get}
use Rattle.cm_plain.specs.declared.reply.Reply.TheVariants.{FullSpent}
use Rattle.cm_plain.specs.Steps.{is_change}
use Rattle.cm_words.specs.Meters.{MeterSeen}
use Rattle.cm_segment.specs.declared.getting.Peeked.{Peeked}
use Rattle.cm_segment.specs.Peeked.{IsPeeked, IsWithin}
use Rattle.cm_lock.specs.declared.view.Key.{Key}
use Rattle.cm_lock.specs.declared.view.Round.{Round}
use Rattle.cm_lock.specs.declared.view.View.{View}
use Rattle.cm_lock.specs.Peekings.{with_found_rest}
use Rattle.cm_lock.specs.Rounds.{IsReplyToFound}
use Rattle.cm_turn.specs.declared.answer.Answer.{Answer}
use Rattle.cm_turn.specs.declared.turn.Settled.{Settled}
use Rattle.cm_turn.specs.Answers.{HasBytes, reply_in}
use Rattle.cm_lock.specs.declared.take.Stop.{Stop}
use Rattle.cm_turn.specs.Calls.{AnswersAlone}
use Rattle.cm_turn.specs.Looks.{TakesOnce}
use Rattle.cm_turn.specs.Records.{AddsNothing, IsIdle}

-- words were found in the open round, and nothing else was done
pub record Peeks (old now : View) : Type 0 where
  pub view : now ≡ with_found_rest old now
  pub stores : now.stores ≡ old.stores

-- the answer to a get that found this: it changes nothing, has the bytes that were found, and is right where all that a round found stood at once
pub record IsAnswerTo (peeked : Peeked) (answer : Answer) : Type 0 where
  pub stays : (out : List ℕ) → is_change (reply_in answer out) ≡ false
  pub unspent : (out : List ℕ) → reply_in answer out ≢ FullSpent
  pub bytes : (out : List ℕ) → MAX_VALUE_BYTES ≤ length out → IsWithin MAX_VALUE_BYTES peeked → HasBytes answer out
  pub right : (key : Key) (round : Round) (meter : MeterSeen) (k out : List ℕ)
      → IsPeeked (record { geo = key.geo; segment = key.segment; found = round.found; meter = meter }) k out peeked → IsReplyToFound key round (Get k) (reply_in answer out)

-- an answer that changes nothing, and that is right where all that the open round found stood at once
pub record IsFoundAnswer (key : Key) (v : View) (op : Op) (out : List ℕ) (answer : Answer) : Type 0 where
  pub stays : is_change (reply_in answer out) ≡ false
  pub unspent : reply_in answer out ≢ FullSpent
  pub bytes : HasBytes answer out
  pub right : (round : Round) → v.round ≡ Some round → IsReplyToFound key round op (reply_in answer out)

-- a round gave the answer, without a look at the lock word
pub record AnswersRound (op : Op) (out : List ℕ) (old now : View) (settled : Settled) : Type 0 where
  pub answers : AnswersAlone op out old now settled
  pub failed : now.failed_rounds ≡ old.failed_rounds
  pub looks : now.looks ≡ old.looks

-- a round failed: nothing was added
pub record FailsRound (old now : View) : Type 0 where
  pub adds : AddsNothing old now
  pub idle : IsIdle now
  pub changes : now.changes ≡ old.changes
  pub failed : now.failed_rounds ≡ old.failed_rounds + 1
  pub looks : now.looks ≡ old.looks

-- what a round leaves where it wasn't ended by a death
abbrev pub EndsRound : Op → List ℕ → View → View → Option Settled → Type 0
EndsRound op out old now (Some settled) = AnswersRound op out old now settled
EndsRound op out old now None = FailsRound old now

-- how many rounds a get makes before it takes the lock
abbrev pub rounds : ℕ
rounds = 3

-- so many rounds failed, and nothing else was done
pub record FailsRounds (count : ℕ) (old now : View) : Type 0 where
  pub adds : AddsNothing old now
  pub idle : IsIdle now
  pub changes : now.changes ≡ old.changes
  pub failed : now.failed_rounds ≡ old.failed_rounds + count
  pub looks : now.looks ≡ old.looks

-- a round gave the answer, behind fewer that failed, without a look at the lock word
pub record AnswersInRounds (op : Op) (out : List ℕ) (old now : View) (settled : Settled) : Type 0 where
  pub answers : AnswersAlone op out old now settled
  pub failed : now.failed_rounds < old.failed_rounds + rounds
  pub looks : now.looks ≡ old.looks

-- what the rounds leave where none was ended by a death: one gave the answer, or all failed
abbrev pub EndsRounds : Op → List ℕ → View → View → Option Settled → Type 0
EndsRounds op out old now (Some settled) = AnswersInRounds op out old now settled
EndsRounds op out old now None = FailsRounds rounds old now

-- ---- a whole get

-- it had its answer from a round, behind fewer that failed and without a look at the lock word; or by one take, behind all rounds
abbrev pub AnswersGet : ℕ → View → View → Type 0
AnswersGet tries old now =
    ((now.looks ≡ old.looks) × (now.failed_rounds < old.failed_rounds + rounds)) ⊎ (TakesOnce tries old now × (now.failed_rounds ≡ old.failed_rounds + rounds))

-- no more rounds failed, and the lock word was looked at only behind all of them
abbrev pub LooksBehindRounds : View → View → Type 0
LooksBehindRounds old now =
    ((now.looks ≡ old.looks) × (now.failed_rounds ≤ old.failed_rounds + rounds)) ⊎ (now.failed_rounds ≡ old.failed_rounds + rounds)

-- how often a get that ended so looked at the lock word, and behind how many rounds
abbrev pub EndsGet : ℕ → View → View → Result Settled Stop → Type 0
EndsGet tries old now (Ok settled) = AnswersGet tries old now
EndsGet tries old now (Err stop) = LooksBehindRounds old now
