-- What a memory over a segment tells, and what may be stored in it (own).
use Rattle.std.specs.Prelude.{ℕ, ◌≡◌, ◌<◌, ◌^◌, ◌%◌, Bool, IsTrue, IsSome, Option, Some, None, List, length, map, slice_set}
use Rattle.std.specs.List.{range_with_len}
use Rattle.cm_geo.specs.declared.geo.Geo.{Geo}
use Rattle.cm_plain.specs.States.{State}
use Rattle.cm_plain.specs.Changes.{Change, after}
use Rattle.cm_plain.specs.Steps.{Plans}
use Rattle.cm_plain.specs.Slots.{word_at}
use Rattle.cm_plain.specs.Lawful.{IsSegmentWords, Resting}
use Rattle.cm_plain.specs.Torn.{Torn}
use Rattle.cm_words.specs.declared.access.Access.{Access}
use Rattle.cm_words.specs.Meters.{MeterSeen}

-- the word that stands at an address now, and its first word: the one that stood there when the plan under way began, or, where the address was
-- noted later, the one that was found there. First words count while a plan is under way
pub record Note : Type 0 where
  pub present : ℕ
  pub first : ℕ

-- what no call changes. A guarded memory is stored in under a plan alone. In a shared one others take and release the lock meanwhile
pub record Setting : Type 0 where
  pub geo : Geo
  pub segment : ℕ
  pub access : Access
  pub guarded : Bool
  pub shared : Bool

-- what a memory tells: besides, the plan under way, if any, a note of each address that it knows (but for the lock word of a shared memory),
-- and its fuse with the counts of events and stores
pub record MemSeen : Type 0 where
  pub setting : Setting
  pub plan : Option Change
  pub noted : ℕ → Option Note
  pub meter : MeterSeen

-- a list fits the notes: it is the words of the segment, and each note's present word stands at its address
pub record FitsNotes (m : MemSeen) (words : List ℕ) : Type 0 where
  pub are : IsSegmentWords m.setting.geo words
  pub present : (at : ℕ) (note : Note) → at < length words → m.noted at ≡ Some note → word_at words at ≡ note.present

-- the first word of a note; this word, where there is none
abbrev pub first_or : Option Note → ℕ → ℕ
first_or None word = word
first_or (Some note) word = note.first

-- the origin of a list: the first word is put back at each address that is noted
unfoldable pub origin : MemSeen → List ℕ → List ℕ
origin m words = map (λ at. first_or (m.noted at) (word_at words at)) (range_with_len 0 (length words))

-- a state is under the plan of a list: the plan is the state's, the list's origin rests for the state, and the list is torn for both
pub record IsUnderPlan (setting : Setting) (origin words : List ℕ) (state : State) (change : Change) : Type 0 where
  pub planned : Plans setting.geo setting.segment state change.op change
  pub rests : Resting setting.geo setting.segment origin state
  pub torn : Torn setting.geo words state change

-- a later list is torn for the plan under way and the state that was under the plan of the list before; without a plan there is none
abbrev pub StaysTorn : Setting → Option Change → List ℕ → List ℕ → List ℕ → Type 0
StaysTorn setting None origin words later = ⊥
StaysTorn setting (Some change) origin words later =
    (state : State) → IsUnderPlan setting origin words state change → Torn setting.geo later state change

-- a later list is allowed: in a guarded memory it stays torn, in another one each list is
abbrev pub IsAllowed : Setting → Option Change → List ℕ → List ℕ → List ℕ → Type 0
IsAllowed setting plan origin words later = IsTrue setting.guarded → StaysTorn setting plan origin words later

-- this word may be stored at this address: for each list that fits the notes, the one after the store is allowed
abbrev pub MayStore : MemSeen → ℕ → ℕ → Type 0
MayStore m at word =
    (words : List ℕ) → FitsNotes m words → IsAllowed m.setting m.plan (origin m words) words (slice_set words at word)

-- nothing was stored under the plan yet: each list that fits is its own origin
abbrev pub IsFresh : MemSeen → Type 0
IsFresh m = (words : List ℕ) → FitsNotes m words → origin m words ≡ words

-- the change number is noted; in each list that fits the notes it is even and not the last
pub record HasEvenNumber (m : MemSeen) : Type 0 where
  pub noted : IsSome (m.noted 1)
  pub even : (words : List ℕ) → FitsNotes m words → word_at words 1 % 2 ≡ 0
  pub not_last : (words : List ℕ) → FitsNotes m words → word_at words 1 < 2 ^ 63

-- the plan is that of each state for which a list that fits the notes rests
abbrev pub IsPlanHere : MemSeen → Change → Type 0
IsPlanHere m change =
    (words : List ℕ) (state : State) → FitsNotes m words → Resting m.setting.geo m.setting.segment words state
    → Plans m.setting.geo m.setting.segment state change.op change

-- each list that fits the notes rests for the state after the plan, from the state that is under the plan of the list
abbrev pub IsDone : MemSeen → Change → Type 0
IsDone m change =
    (words : List ℕ) (state : State) → FitsNotes m words → IsUnderPlan m.setting (origin m words) words state change
    → Resting m.setting.geo m.setting.segment words (after m.setting.geo change state)
