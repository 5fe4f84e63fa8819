-- What a call adds to the record of its seat (own).
use Rattle.std.specs.Prelude.{ℕ, ◌≡◌, ◌*◌, ◌<◌, ◌≤◌, ◌⊎◌, Bool, true, false, List, [], ◌∷◌, ◌++◌, Some, None, IsSomeAnd}
use Rattle.cm_plain.specs.declared.op.Op.{Op}
use Rattle.cm_plain.specs.declared.reply.Reply.{Reply}
use Rattle.cm_plain.specs.Changes.{Change}
use Rattle.cm_plain.specs.Steps.{is_change, reply_of}
use Rattle.cm_words.specs.Memory.{MemSeen}
use Rattle.cm_lock.specs.declared.view.ChangeCopy.{ChangeCopy}
use Rattle.cm_lock.specs.declared.view.Level.{Level}
use Rattle.cm_lock.specs.declared.view.Level.TheVariants.{Write}
use Rattle.cm_lock.specs.declared.view.NumberedAnswer.{NumberedAnswer}
use Rattle.cm_lock.specs.declared.view.NumberedChange.{NumberedChange}
use Rattle.cm_lock.specs.declared.view.View.{View}
use Rattle.cm_lock.specs.Holds.{with_change, with_rest}
use Rattle.cm_lock.specs.Views.{free_level, note_at, plan_in}

-- ---- over a memory

-- a change died: it had not begun, and nothing was stored; or it is under way
abbrev pub DiesMaking : Change → MemSeen → MemSeen → Type 0
DiesMaking change old now = ((now.plan ≡ None) × (now.meter.stores ≡ old.meter.stores)) ⊎ (now.plan ≡ Some change)

-- ---- of a view

-- a view with these changes and answers, which else has of another one its level, plan and notes, its round, its tries, and its counts
abbrev pub with_record : List NumberedChange → List NumberedAnswer → View → View → View
with_record changes answers v w = record v {
  changes = changes;
  answers = answers;
  seen = w.seen;
  tries = w.tries;
  events = w.events;
  stores = w.stores;
  round = w.round;
  failed_rounds = w.failed_rounds;
  looks = w.looks;
  own = record v.own { level = w.own.level; plan = w.own.plan; notes = w.own.notes };
}

-- nothing was added, and nothing stored
pub record AddsNothing (old now : View) : Type 0 where
  pub view : now ≡ with_record old.changes old.answers old now
  pub seen : old.seen ≤ now.seen
  pub stores : now.stores ≡ old.stores

-- no answer was added, and the seat is left so
pub record AddsNoAnswer (End : View → Type 0) (old now : View) : Type 0 where
  pub adds : AddsNothing old now
  pub ends : End now

-- an answer was added at a number: as a change, above all numbers seen before, or as an answer that changes nothing, at none below them
abbrev pub AddsAs : Bool → Op → ℕ → Reply → View → View → Type 0
AddsAs true op number reply old now =
    (c : ChangeCopy) × (now ≡ with_record (old.changes ++ record { number = number; change = c } ∷ []) old.answers old now)
    × (c.op ≡ op) × (reply ≡ reply_of c.kind op c.key) × (old.seen < number)
AddsAs false op number reply old now =
    (now ≡ with_record old.changes (old.answers ++ record { number = number; op = op; reply = reply } ∷ []) old now) × (old.seen ≤ number)

pub record Adds (op : Op) (number : ℕ) (reply : Reply) (old now : View) : Type 0 where
  pub added : AddsAs (is_change reply) op number reply old now
  pub seen : number ≤ now.seen

-- the change number is noted as that of a change that ended
abbrev pub NotesEnd : View → ℕ → Type 0
NotesEnd v number = IsSomeAnd (note_at v.own.notes 1) (λ note. note.present ≡ 2 * number)

-- ---- of a part of a call under a level

-- words were loaded: nothing but notes and counts is another, and the greatest number seen didn't fall
pub record HasLooked (old now : View) : Type 0 where
  pub view : now ≡ with_rest old now
  pub seen : old.seen ≤ now.seen
  pub idle : now.own.plan ≡ None
  pub stores : now.stores ≡ old.stores

-- a change was made: besides, it was added at this number, which is noted
pub record HasMade (change : Change) (number : ℕ) (old now : View) : Type 0 where
  pub view : now ≡ with_rest (with_change old change number) now
  pub above : old.seen < number
  pub seen : number ≤ now.seen
  pub idle : now.own.plan ≡ None
  pub noted : NotesEnd now number

-- a change died: it had not begun, and nothing was stored; or it is under way
pub record DiedMaking (change : Change) (old now : View) : Type 0 where
  pub view : now ≡ with_rest old now
  pub seen : old.seen ≤ now.seen
  pub plan : ((now.own.plan ≡ None) × (now.stores ≡ old.stores)) ⊎ (plan_in now.own.plan ≡ Some change)

-- ---- how a call ends

-- the seat is Free, and no round is open
pub record IsIdle (v : View) : Type 0 where
  pub free : v.own ≡ free_level v.own.number
  pub closed : v.round ≡ None

-- the seat holds a level, between two changes, and no round is open
pub record Holds (level : Level) (v : View) : Type 0 where
  pub level_is : v.own.level ≡ level
  pub idle : v.own.plan ≡ None
  pub closed : v.round ≡ None

-- how a call of an operation died: no change of it had begun; it is under way, with Write; or the answer was added, with Write where it is a change
pub data Dies (op : Op) (old now : View) : Type 0 where
  before : AddsNothing old now → now.own.plan ≡ None → Dies op old now
  within : (c : ChangeCopy) → now ≡ with_record old.changes old.answers old now → old.seen ≤ now.seen
      → now.own.plan ≡ Some c → c.op ≡ op → now.own.level ≡ Write → Dies op old now
  behind : (number : ℕ) (reply : Reply) → Adds op number reply old now → now.own.plan ≡ None
      → (is_change reply ≡ true → (now.own.level ≡ Write) × NotesEnd now number) → Dies op old now
