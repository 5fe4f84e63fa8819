-- Laws of what a memory tells (own).
use Rattle.std.specs.Prelude.{ℕ, ◌≡◌, ◌<◌, ◌^◌, ◌↔◌, All, List}
use Rattle.cm_plain.specs.Changes.{Change}
use Rattle.cm_plain.specs.States.{State}
use Rattle.cm_words.specs.Maps.{IsWhole, MapWords, segment_in, words_before}
use Rattle.cm_words.specs.Memory.{FitsNotes, IsUnderPlan, MemSeen, Setting}
use Rattle.cm_words.specs.Notes.{notes_in}

-- at most one state is under the plan of a list
abbrev pub IsUnderAtMostOne : Type 0
IsUnderAtMostOne = (setting : Setting) (origin words : List ℕ) (a b : State) (change : Change)
    → IsUnderPlan setting origin words a change → IsUnderPlan setting origin words b change → a ≡ b

-- a memory notes each word of a segment of this map
pub record NotesAll (m : MemSeen) (map : MapWords) (segment : ℕ) (first : List ℕ) : Type 0 where
  pub geo_is : m.setting.geo ≡ map.geo
  pub here : segment < map.geo.segments
  pub whole : IsWhole map
  pub fit : All (λ word. word < 2 ^ 64) map.words
  pub noted : (at : ℕ) → m.noted at ≡ notes_in map.geo (words_before map.geo segment) map.words first at

-- the list that fits such notes is the segment's words, and no other
abbrev pub TellsItsWords : Type 0
TellsItsWords = (m : MemSeen) (map : MapWords) (segment : ℕ) (first words : List ℕ)
    → NotesAll m map segment first → FitsNotes m words ↔ (words ≡ segment_in map segment)
