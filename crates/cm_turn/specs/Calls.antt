-- What a call of an operation leaves of its seat, and of its seat of the yard (own).
use Rattle.std.specs.Prelude.{ℕ, ◌≡◌, ◌≢◌, ◌⊎◌, false, None, All, List, length, Result, Ok, Err}
use Rattle.cm_plain.specs.declared.op.Op.{Op}
use Rattle.cm_plain.specs.declared.reply.Reply.{Reply}
use Rattle.cm_plain.specs.declared.reply.Reply.TheVariants as reply
use Rattle.cm_plain.specs.Steps.{is_change}
use Rattle.cm_words.specs.Meters.{IsKilled, MeterSeen, Survives}
use Rattle.cm_lock.specs.declared.take.Stop.{Stop}
use Rattle.cm_lock.specs.declared.take.Stop.TheVariants.{Busy, Died}
use Rattle.cm_lock.specs.declared.view.Level.{Level}
use Rattle.cm_lock.specs.declared.view.Level.TheVariants.{Free, Read, Update, Write}
use Rattle.cm_lock.specs.declared.view.View.{View}
use Rattle.cm_lock.specs.Takes.{HasFailed, last_found}
use Rattle.cm_yard.specs.declared.view.View.{View as YardView}
use Rattle.cm_yard.specs.Claims.{FindsOwned}
use Rattle.cm_turn.specs.declared.turn.Settled.{Settled}
use Rattle.cm_turn.specs.Answers.{reply_in}
use Rattle.cm_turn.specs.Records.{Adds, AddsNothing, Dies, IsIdle}
use Rattle.cm_turn.specs.Turns.{DiesOwing, Pays, Settles, links_in}
use Rattle.cm_turn.specs.Verdicts.{IsEnough}
use Rattle.cm_turn.specs.declared.operation.Verdict.{Verdict}

-- all tries of the last take failed, as many as were allowed, one look each; the last one found this word
pub record IsRefused (from to : Level) (tries looks last : ℕ) (v : View) : Type 0 where
  pub looks_are : looks ≡ tries
  pub made : length v.tries ≡ tries
  pub failed : All (HasFailed from to) v.tries
  pub last_is : last_found v.tries ≡ last

-- Update was refused, or its raise to Write
abbrev pub IsRefusedChange : ℕ → ℕ → ℕ → View → Type 0
IsRefusedChange tries looks last v = IsRefused Free Update tries looks last v ⊎ IsRefused Update Write tries looks last v

-- the answer was added, and claims for its change were given: FullSpent came only where this call's exchanges found each claim word owned, and
-- no exchange was made for another answer but a change that links a tier
pub record Answers (End : View → Type 0) (segment extra : ℕ) (op : Op) (out : List ℕ) (old now : View) (before later : YardView) (settled : Settled) : Type 0 where
  pub adds : Adds op settled.number (reply_in settled.answer out) old now
  pub ends : End now
  pub pays : Pays segment old now before later
  pub spent : reply_in settled.answer out ≡ reply.FullSpent → FindsOwned before later extra
  pub untried : reply_in settled.answer out ≢ reply.FullSpent → links_in now ≡ links_in old → later ≡ before

-- nothing was added, and nothing claimed
pub record Fails (End : View → Type 0) (old now : View) (before later : YardView) : Type 0 where
  pub adds : AddsNothing old now
  pub ends : End now
  pub claims : later ≡ before

-- what is left where a call answered this: `End` is how it leaves a live seat, and `Refused` which takes may have failed
abbrev pub Leaves : (View → Type 0) → (ℕ → ℕ → View → Type 0) → ℕ → ℕ → Op → List ℕ → View → View → YardView → YardView → Result Settled Stop → Type 0
Leaves End Refused segment extra op out old now before later (Ok settled) = Answers End segment extra op out old now before later settled
Leaves End Refused segment extra op out old now before later (Err (Busy looks last)) = Fails End old now before later × Refused looks last now
Leaves End Refused segment extra op out old now before later (Err Died) = DiesOwing segment op old now before later

-- a call answers Died exactly where one of its events died
abbrev pub ReportsStop : {T : Type 0} → MeterSeen → MeterSeen → Result T Stop → Type 0
ReportsStop old now (Ok done) = Survives old now
ReportsStop old now (Err (Busy looks last)) = Survives old now
ReportsStop old now (Err Died) = IsKilled old now

-- ---- under Update

-- Update was raised to Write where what is to be done is a change; what is known of the words stays
pub record IsRaised (verdict : Verdict) (old now : View) : Type 0 where
  pub adds : AddsNothing old now
  pub own : now.own ≡ record old.own { level = now.own.level }
  pub enough : IsEnough verdict now.own.level
  pub level : (now.own.level ≡ old.own.level) ⊎ (now.own.level ≡ Write)
  pub round : now.round ≡ old.round

-- it stays Update
pub record StaysUpdate (old now : View) : Type 0 where
  pub adds : AddsNothing old now
  pub own : now.own ≡ old.own
  pub round : now.round ≡ old.round

-- what a raise for a verdict did
abbrev pub RaisesFor : Verdict → ℕ → View → View → Result (Unit {0}) Stop → Type 0
RaisesFor verdict tries old now (Ok done) = IsRaised verdict old now
RaisesFor verdict tries old now (Err (Busy looks last)) = StaysUpdate old now × IsRefused Update Write tries looks last now
RaisesFor verdict tries old now (Err Died) = StaysUpdate old now

-- what was done of a verdict, from Update on
abbrev pub SettlesFrom : ℕ → ℕ → ℕ → Op → List ℕ → View → View → YardView → YardView → Result Settled Stop → Type 0
SettlesFrom tries segment extra op out old now before later (Ok settled) = Settles segment extra op out old now before later settled
SettlesFrom tries segment extra op out old now before later (Err (Busy looks last)) = StaysUpdate old now × IsRefused Update Write tries looks last now × (later ≡ before)
SettlesFrom tries segment extra op out old now before later (Err Died) = DiesOwing segment op old now before later

-- ---- under Read

-- this reply was added at this number as one that changes nothing, and the seat is idle
pub record AnswersPlainly (op : Op) (number : ℕ) (answer : Reply) (old now : View) : Type 0 where
  pub adds : Adds op number answer old now
  pub stays : is_change answer ≡ false
  pub unspent : answer ≢ reply.FullSpent
  pub changes : now.changes ≡ old.changes
  pub ends : IsIdle now
  pub stores : now.stores ≡ old.stores

-- besides, the reply is an answer's
abbrev pub AnswersAlone : Op → List ℕ → View → View → Settled → Type 0
AnswersAlone op out old now settled = AnswersPlainly op settled.number (reply_in settled.answer out) old now

-- a question died: nothing was added, or its answer, which changes nothing
pub record DiesReading (op : Op) (old now : View) : Type 0 where
  pub dies : Dies op old now
  pub idle : now.own.plan ≡ None
  pub changes : now.changes ≡ old.changes
  pub stores : now.stores ≡ old.stores

-- what is left where a question was answered so
abbrev pub LeavesReading : ℕ → Op → List ℕ → View → View → Result Settled Stop → Type 0
LeavesReading tries op out old now (Ok settled) = AnswersAlone op out old now settled
LeavesReading tries op out old now (Err (Busy looks last)) = AddsNothing old now × IsIdle now × IsRefused Free Read tries looks last now
LeavesReading tries op out old now (Err Died) = DiesReading op old now
