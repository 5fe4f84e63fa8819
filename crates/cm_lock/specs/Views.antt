-- What each event makes of a view (own).
use Rattle.std.specs.Prelude.{ℕ, ◌+◌, ◌/◌, ◌==◌, max, Bool, List, [], ◌∷◌, ◌++◌, map, Option, Some, None, if◌then◌else◌}
use Rattle.cm_plain.specs.declared.op.Op.{Op}
use Rattle.cm_plain.specs.declared.reply.Reply.{Reply}
use Rattle.cm_plain.specs.Changes.{Change}
use Rattle.cm_words.specs.Memory.{Note, first_or}
use Rattle.cm_lock.specs.declared.view.Level.{Level}
use Rattle.cm_lock.specs.declared.view.Level.TheVariants.{Free}
use Rattle.cm_lock.specs.declared.view.NotedWord.{NotedWord}
use Rattle.cm_lock.specs.declared.view.Try.{Try}
use Rattle.cm_lock.specs.declared.view.ChangeCopy.{ChangeCopy}
use Rattle.cm_lock.specs.declared.view.HeldLevel.{HeldLevel}
use Rattle.cm_lock.specs.declared.view.Round.{Round}
use Rattle.cm_lock.specs.declared.view.View.{View}

-- ---- changes

-- the change of a copy, and the copy of a change
abbrev pub change_in : ChangeCopy → Change
change_in c = record { op = c.op; kind = c.kind; key = c.key; value = c.value; old_run = c.old_run; new_run = c.new_run; link = c.link }

abbrev pub copy_of : Change → ChangeCopy
copy_of c = record { op = c.op; kind = c.kind; key = c.key; value = c.value; old_run = c.old_run; new_run = c.new_run; link = c.link }

-- the change of a plan under way, if one is
abbrev pub plan_in : Option ChangeCopy → Option Change
plan_in None = None
plan_in (Some c) = Some (change_in c)

-- ---- notes

-- the newest note of an address
abbrev pub newest_note : List NotedWord → ℕ → Option Note
newest_note [] at = None
newest_note (n ∷ ns) at = if n.at == at then Some (record { present = n.present; first = n.first }) else newest_note ns at

-- the note that a memory tells: the lock word has none, since others change it
abbrev pub note_at : List NotedWord → ℕ → Option Note
note_at notes at = if at == 0 then None else newest_note notes at

-- the notes after an address was found with one word and has another one
unfoldable pub with_note : List NotedWord → ℕ → ℕ → ℕ → List NotedWord
with_note notes at found word = record { at = at; present = word; first = first_or (newest_note notes at) found } ∷ notes

-- the notes after a plan began: the first words are the present ones
unfoldable pub with_present_first : List NotedWord → List NotedWord
with_present_first notes = map (λ (n : NotedWord). record { at = n.at; present = n.present; first = n.present }) notes

-- ---- held words

-- a load of the change number raises the greatest number seen
abbrev pub seen_after : ℕ → ℕ → ℕ → ℕ
seen_after at word seen = if at == 1 then max seen (word / 2) else seen

-- a word was loaded
abbrev pub after_load : View → ℕ → ℕ → View
after_load v at word = record v {
  events = v.events + 1;
  seen = seen_after at word v.seen;
  own = record v.own { notes = with_note v.own.notes at word word };
}

-- a word was stored where another one was found
abbrev pub after_store : View → ℕ → ℕ → ℕ → View
after_store v at found word = record v {
  events = v.events + 1;
  stores = v.stores + 1;
  own = record v.own { notes = with_note v.own.notes at found word };
}

-- a change began with this change number
abbrev pub after_begin : View → Change → ℕ → View
after_begin v change word = record v {
  events = v.events + 1;
  stores = v.stores + 1;
  own = record v.own { plan = Some (copy_of change); notes = with_present_first (with_note v.own.notes 1 word word) };
}

-- the change under way ended with this change number
abbrev pub after_finish : View → ChangeCopy → ℕ → View
after_finish v change word = record v {
  events = v.events + 1;
  stores = v.stores + 1;
  seen = word / 2;
  changes = v.changes ++ record { number = word / 2; change = change } ∷ [];
  own = record v.own { plan = None; notes = with_note v.own.notes 1 word word };
}

-- ---- levels

-- the seat of this number is Free
abbrev pub free_level : ℕ → HeldLevel
free_level number = record { number = number; level = Free; plan = None; notes = [] }

-- the level became another one; plan and notes stay
abbrev pub with_level : Level → View → View
with_level level v = record v { events = v.events + 1; own = record v.own { level = level } }

-- the level became Free, and nothing is known of the words any more
abbrev pub after_release : View → View
after_release v = record v { events = v.events + 1; own = free_level v.own.number }

-- a look at the lock word, by the first try of a take or by a later one
abbrev pub after_look : Bool → View → ℕ → View
after_look is_first v word = record v {
  events = v.events + 1;
  looks = v.looks + 1;
  tries = record { looked = word; found = word } ∷ (if is_first then [] else v.tries);
}

-- the newest try found this word by its exchange
abbrev pub with_found : List Try → ℕ → List Try
with_found [] found = []
with_found (t ∷ ts) found = record { looked = t.looked; found = found } ∷ ts

-- an exchange found another word than the look before it
abbrev pub after_miss : View → ℕ → View
after_miss v found = record v { events = v.events + 1; tries = with_found v.tries found }

-- ---- answers

-- an answer was entered at a number, by one load
abbrev pub after_answer : View → Op → Reply → ℕ → View
after_answer v op reply number = record v {
  events = v.events + 1;
  seen = number;
  answers = v.answers ++ record { number = number; op = op; reply = reply } ∷ [];
}

-- ---- rounds without a level

-- a round began with this change number
abbrev pub after_open : View → ℕ → View
after_open v word = record v { events = v.events + 1; seen = word / 2; round = Some (record { first = word; found = [] }) }

-- a round failed, at its first load or at its last one, which loaded this change number
abbrev pub after_failed_round : View → ℕ → View
after_failed_round v word = record v { events = v.events + 1; seen = word / 2; round = None; failed_rounds = v.failed_rounds + 1 }

-- the round found a word
abbrev pub after_peek : View → Round → ℕ → ℕ → View
after_peek v round at word = record v { events = v.events + 1; round = Some (record round { found = record { at = at; word = word } ∷ round.found }) }

-- the round ended with its first change number, and an answer was entered at the half of it
abbrev pub after_close : View → Op → Reply → ℕ → View
after_close v op reply word = record v {
  events = v.events + 1;
  seen = word / 2;
  answers = v.answers ++ record { number = word / 2; op = op; reply = reply } ∷ [];
  round = None;
}

-- ---- seats

-- a seat of this number, which has seen so many changes and done nothing
abbrev pub new_view : ℕ → ℕ → View
new_view number seen = record {
  own = free_level number;
  inherited = [];
  made = [];
  due = [];
  changes = [];
  answers = [];
  seen = seen;
  tries = [];
  events = 0;
  stores = 0;
  round = None;
  failed_rounds = 0;
  looks = 0;
}

-- what is left of a seat that was joined
abbrev pub spent_view : View
spent_view = new_view 65 0

-- a seat of this number is about to be made
abbrev pub with_due : View → ℕ → View
with_due v n = record v { made = n ∷ v.made; due = n ∷ [] }

-- it was made
abbrev pub without_due : View → View
without_due v = record v { due = [] }

-- the first number; without one, the root's
abbrev pub head_or_root : List ℕ → ℕ
head_or_root [] = 64
head_or_root (n ∷ ns) = n

-- the seat that was due has seen what the root has seen
abbrev pub child : View → View
child v = new_view (head_or_root v.due) v.seen

-- a seat of this number was made
abbrev pub with_seat : View → ℕ → View
with_seat v n = record v { made = n ∷ v.made; due = [] }

-- the root takes over what another seat held and has done, dead or alive
abbrev pub with_joined : View → View → View
with_joined v w = record v {
  inherited = w.own ∷ (w.inherited ++ v.inherited);
  changes = v.changes ++ w.changes;
  answers = v.answers ++ w.answers;
  seen = max v.seen w.seen;
  events = v.events + w.events;
  stores = v.stores + w.stores;
}
