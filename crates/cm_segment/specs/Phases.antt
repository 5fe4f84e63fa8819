-- How far a change has come over a memory (own).
use Rattle.std.specs.Prelude.{ℕ, ◌≡◌, List, Some, Result}
use Rattle.cm_geo.specs.declared.geo.Geo.{Geo}
use Rattle.cm_plain.specs.States.{State}
use Rattle.cm_plain.specs.Changes.{Change, after}
use Rattle.cm_plain.specs.Steps.{Plans}
use Rattle.cm_plain.specs.Lawful.{Resting}
use Rattle.cm_plain.specs.Torn.{Torn}
use Rattle.cm_words.specs.Memory.{FitsNotes, MemSeen, origin}
use Rattle.cm_words.specs.Calls.{HasDone, IsWritable, Performs}

-- A phase relates a state, words that rest for it, and the words now. The words that rest are those from before the change: the origin of the
-- words now.
abbrev pub Phase : Type 1
Phase = State → List ℕ → List ℕ → Type 0

-- a change is planned for a state, and a list rests for it
pub record IsStart (geo : Geo) (segment : ℕ) (change : Change) (start : List ℕ) (state : State) : Type 0 where
  pub planned : Plans geo segment state change.op change
  pub rests : Resting geo segment start state

-- the change is under way in a memory that may be stored in, and each list that fits is in this phase, from each state that the change started from
pub record IsInPhase (m : MemSeen) (geo : Geo) (change : Change) (phase : Phase) : Type 0 where
  pub writable : IsWritable m geo
  pub plan_is : m.plan ≡ Some change
  pub lists : (words : List ℕ) (state : State) → FitsNotes m words → IsStart geo m.setting.segment change (origin m words) state
      → phase state (origin m words) words

-- the setting is the same, and each list that fits now has the origin of one that fitted before
pub record KeepsOrigins (old now : MemSeen) : Type 0 where
  pub setting : now.setting ≡ old.setting
  pub origins : (words : List ℕ) → FitsNotes now words → (before : List ℕ) × FitsNotes old before × (origin now words ≡ origin old before)

-- the change has come to this phase
pub record Reaches (geo : Geo) (change : Change) (phase : Phase) (old now : MemSeen) : Type 0 where
  pub here : IsInPhase now geo change phase
  pub from : KeepsOrigins old now

-- the words lie between the state and the one after the change
abbrev pub IsTornFor : Geo → Change → Phase
IsTornFor geo change state start words = Torn geo words state change

-- a part of a change: it comes to this phase; where an event died, the words are torn
abbrev pub Advances : {M T E : Type 0} → (M → MemSeen) → (M → M → Type 0) → Geo → Change → Phase → M → M → Result T E → Type 0
Advances seen same_rest geo change phase old now result =
    Performs seen same_rest (Reaches geo change phase) (Reaches geo change (IsTornFor geo change)) old now result

-- the parts of a change so far have come to this phase
abbrev pub HasAdvanced : {M : Type 0} → (M → MemSeen) → (M → M → Type 0) → Geo → Change → Phase → M → M → Type 0
HasAdvanced seen same_rest geo change phase old now = HasDone seen same_rest (Reaches geo change phase) old now

-- nothing was stored yet
abbrev pub IsUntouched : Phase
IsUntouched state start words = words ≡ start

-- the words rest for the state after the change
abbrev pub IsAfter : Geo → ℕ → Change → Phase
IsAfter geo segment change state start words = Resting geo segment words (after geo change state)
