-- What holds between any two events, of the words of a shared segment and of the views of all seats (own). It is cut into records, each over
-- what it reads.
use Rattle.std.specs.Prelude.{ℕ, ◌≡◌, ◌+◌, ◌*◌, ◌/◌, ◌≤◌, All, true, List, [], length, sum_by, Some}
use Rattle.cm_plain.specs.States.{State}
use Rattle.cm_plain.specs.Slots.{word_at}
use Rattle.cm_plain.specs.Lawful.{IsSegmentWords, Resting}
use Rattle.cm_words.specs.Fuses.{FuseSeen}
use Rattle.cm_words.specs.Memory.{IsUnderPlan, MemSeen, Note, Setting, origin}
use Rattle.cm_words.specs.Meters.{MeterSeen, unused}
use Rattle.cm_words.specs.KillFuses.{never_seen}
use Rattle.cm_lock.specs.declared.view.Level.{Level}
use Rattle.cm_lock.specs.declared.view.Level.TheVariants.{Free}
use Rattle.cm_lock.specs.declared.view.Key.{Key}
use Rattle.cm_lock.specs.declared.view.ChangeCopy.{ChangeCopy}
use Rattle.cm_lock.specs.declared.view.HeldLevel.{HeldLevel}
use Rattle.cm_lock.specs.declared.view.View.{View}
use Rattle.cm_lock.specs.Levels.{CountsLevels, access_of, plans, plans_in, writes}
use Rattle.cm_lock.specs.ChangeLists.{ChangeList, CountsChanges, IsChangeList, last_state, number_of}
use Rattle.cm_lock.specs.Seats.{AreSeats}
use Rattle.cm_lock.specs.Rounds.{KnowsItsRound}
use Rattle.cm_lock.specs.Views.{change_in, new_view, note_at, plan_in}

-- ---- what a memory over a level tells

abbrev pub setting_of : Key → Level → Setting
setting_of key level = record { geo = key.geo; segment = key.segment; access = access_of level; guarded = true; shared = true }

-- with this fuse and these counts
abbrev pub level_seen : Key → HeldLevel → MeterSeen → MemSeen
level_seen key h meter = record { setting = setting_of key h.level; plan = plan_in h.plan; noted = note_at h.notes; meter = meter }

-- whatever the fuse and the counts
abbrev pub known_of : Key → HeldLevel → MemSeen
known_of key h = level_seen key h (unused never_seen)

-- a fuse, with the counts of a seat
abbrev pub seat_meter : FuseSeen → View → MeterSeen
seat_meter fuse v = record { fuse = fuse; events = v.events; stores = v.stores }

-- ---- what a seat knows of the words

-- What a level tells of the words, which lead to this state so far: each note's present word stands; a plan is one of Write, and the state is
-- under it. Free, a seat knows nothing
pub record KnowsWords (key : Key) (words : List ℕ) (state : State) (h : HeldLevel) : Type 0 where
  pub noted : (at : ℕ) (note : Note) → note_at h.notes at ≡ Some note → word_at words at ≡ note.present
  pub free : h.level ≡ Free → h.notes ≡ []
  pub writer : plans h.plan ≤ writes h.level
  pub planned : (c : ChangeCopy) → h.plan ≡ Some c → IsUnderPlan (setting_of key h.level) (origin (known_of key h) words) words state (change_in c)

-- of the level that a seat holds, and of those that it inherited
pub record KnowsItsWords (key : Key) (words : List ℕ) (state : State) (v : View) : Type 0 where
  pub own : KnowsWords key words state v.own
  pub inherited : All (KnowsWords key words state) v.inherited

-- ---- what a seat counts

-- an event for each store and each answer, two stores for each change and one for a plan, and none without a change or a plan
pub record CountsEvents (v : View) : Type 0 where
  pub events : v.stores + length v.answers ≤ v.events
  pub stores : 2 * length v.changes + plans_in v ≤ v.stores
  pub only_for_changes : length v.changes + plans_in v ≡ 0 → v.stores ≡ 0

-- ---- the rule

-- The words of a shared segment and the views of all its seats. Between two changes the words rest for the last state of the one list of changes
pub record IsSharedSegment (key : Key) (words : List ℕ) (views : List View) : Type 0 where
  pub list : ChangeList
  pub first_rests : Resting key.geo key.segment key.first list.first
  pub starts : word_at key.first 1 ≡ 2 * list.start
  pub are : IsSegmentWords key.geo words
  pub levels : CountsLevels words views
  pub knows : All (KnowsItsWords key words (last_state key.geo list)) views
  pub rests : sum_by plans_in views ≡ 0 → Resting key.geo key.segment words (last_state key.geo list)
  pub changes : CountsChanges words views (number_of list)
  pub noted : IsChangeList key list views
  pub counts : All CountsEvents views
  pub seats : AreSeats views
  pub rounds : All (KnowsItsRound words (number_of list)) views

-- the first seat, the root, has number 64, and has seen the number of changes at the start
abbrev pub root_view : Key → View
root_view key = new_view 64 (word_at key.first 1 / 2)
