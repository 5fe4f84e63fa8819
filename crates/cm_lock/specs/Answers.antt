-- Answers that change nothing (own).
use Rattle.std.specs.Prelude.{ℕ, ◌≡◌, ◌/◌, ◌≤◌, false, List}
use Rattle.cm_plain.specs.declared.op.Op.{Op}
use Rattle.cm_plain.specs.declared.reply.Reply.{Reply}
use Rattle.cm_plain.specs.States.{State}
use Rattle.cm_plain.specs.Steps.{Step}
use Rattle.cm_plain.specs.Slots.{word_at}
use Rattle.cm_plain.specs.Lawful.{Resting}
use Rattle.cm_words.specs.Memory.{FitsNotes, MemSeen}
use Rattle.cm_lock.specs.declared.view.View.{View}
use Rattle.cm_lock.specs.Views.{after_answer}

-- the reply is that of the step, without a grant, from each state for which a list that fits the notes rests, after as many changes as the list says
abbrev pub IsReplyHere : MemSeen → Op → Reply → Type 0
IsReplyHere m op reply =
    (words : List ℕ) (state : State) → FitsNotes m words → Resting m.setting.geo m.setting.segment words state
    → Step m.setting.geo m.setting.segment state (word_at words 1 / 2) false op state reply

-- an answer was entered at this number, which is no less than any that the seat had seen
pub record EntersAnswer (op : Op) (reply : Reply) (number : ℕ) (old now : View) : Type 0 where
  pub view : now ≡ after_answer old op reply number
  pub seen : old.seen ≤ number
