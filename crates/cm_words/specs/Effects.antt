-- What calls over a memory do (own). They speak of the lists that fit its notes before and after.
use Rattle.std.specs.Prelude.{ℕ, ◌≡◌, ◌+◌, ◌*◌, ◌/◌, ◌<◌, ◌≤◌, IsTrue, IsSome, IsSomeAnd, Some, None, List, slice_set}
use Rattle.cm_plain.specs.Changes.{Change}
use Rattle.cm_plain.specs.Steps.{last_number}
use Rattle.cm_plain.specs.Slots.{word_at}
use Rattle.cm_words.specs.Memory.{FitsNotes, MemSeen, Setting, origin}

-- the setting and the plan are the same
pub record Keeps (old now : MemSeen) : Type 0 where
  pub setting : now.setting ≡ old.setting
  pub plan : now.plan ≡ old.plan

-- addresses that are noted stay noted
abbrev pub StaysNoted : MemSeen → MemSeen → Type 0
StaysNoted old now = (at : ℕ) → IsSome (old.noted at) → IsSome (now.noted at)

-- a list that fits now came from one that fitted before: it has the same origin, and is related to it so
pub record CameFrom (old now : MemSeen) (Relates : List ℕ → List ℕ → Type 0) (before words : List ℕ) : Type 0 where
  pub fits : FitsNotes old before
  pub origin : origin now words ≡ origin old before
  pub relates : Relates before words

-- each list that fits now came from one that fitted before and is related to it so
pub record Changes (old now : MemSeen) (Relates : List ℕ → List ℕ → Type 0) : Type 0 where
  pub keeps : Keeps old now
  pub came : (words : List ℕ) → FitsNotes now words → (before : List ℕ) × CameFrom old now Relates before words
  pub noted : StaysNoted old now

-- loads alone: each list that fits now fitted before, with the same origin, and no store was counted
pub record Reads (old now : MemSeen) : Type 0 where
  pub keeps : Keeps old now
  pub fits : (words : List ℕ) → FitsNotes now words → FitsNotes old words
  pub origin : (words : List ℕ) → FitsNotes now words → origin now words ≡ origin old words
  pub noted : StaysNoted old now
  pub no_store : now.meter.stores ≡ old.meter.stores

-- all but the fuse is as before
pub record IsAsBefore (old now : MemSeen) : Type 0 where
  pub reads : Reads old now
  pub notes : (at : ℕ) → now.noted at ≡ old.noted at
  pub events : now.meter.events ≡ old.meter.events

-- the word at an address stands still: not so the lock word of a shared memory
abbrev pub IsSteady : Setting → ℕ → Type 0
IsSteady setting at = IsTrue setting.shared → 0 < at

-- the address is noted with this word, and each list that fits the notes has it there
pub record Knows (m : MemSeen) (at word : ℕ) : Type 0 where
  pub noted : IsSteady m.setting at → IsSomeAnd (m.noted at) (λ note. note.present ≡ word)
  pub here : IsSteady m.setting at → (words : List ℕ) → FitsNotes m words → word_at words at ≡ word

-- This is half of the change number, which is noted. In a guarded memory that is even, and in a shared one this is at most the last number.
pub record KnowsNumber (m : MemSeen) (number : ℕ) : Type 0 where
  pub word : ℕ
  pub knows : Knows m 1 word
  pub half : word / 2 ≡ number
  pub even : IsTrue m.setting.guarded → word ≡ 2 * number
  pub within_limit : IsTrue m.setting.shared → number ≤ last_number

-- a list is one from before with the next change number
pub record CameByNumber (old : MemSeen) (before words : List ℕ) : Type 0 where
  pub fits : FitsNotes old before
  pub next : slice_set before 1 (word_at before 1 + 1) ≡ words

-- a plan began: the change number is the next one, and the first words are the present ones
pub record Begins (old now : MemSeen) (change : Change) : Type 0 where
  pub setting : now.setting ≡ old.setting
  pub plan : now.plan ≡ Some change
  pub came : (words : List ℕ) → FitsNotes now words → (before : List ℕ) × CameByNumber old before words
  pub origin : (words : List ℕ) → FitsNotes now words → origin now words ≡ words
  pub noted : StaysNoted old now

-- the plan has ended: the change number is the next one, twice this number
pub record Finishes (old now : MemSeen) (number : ℕ) : Type 0 where
  pub setting : now.setting ≡ old.setting
  pub plan : now.plan ≡ None
  pub came : (words : List ℕ) → FitsNotes now words → (before : List ℕ) × CameByNumber old before words
  pub knows : Knows now 1 (2 * number)
  pub noted : StaysNoted old now
