-- How far the replacement of a value in place has come (own): the bits of the chunks that the new run has more are set, then the value is stored,
-- then the bits of the chunks that it has less are cleared.
use Rattle.std.specs.Prelude.{ℕ, ◌≡◌, ◌+◌, ◌-◌, ◌<◌, ◌⊎◌, ◌↔◌, false, List, Some}
use Rattle.cm_geo.specs.declared.geo.Geo.{Geo}
use Rattle.cm_plain.specs.declared.plan.Run.{Run}
use Rattle.cm_plain.specs.declared.plan.PlanKind.TheVariants as kind
use Rattle.cm_plain.specs.States.{State}
use Rattle.cm_plain.specs.Changes.{Change, new_entry}
use Rattle.cm_plain.specs.Lawful.{HasBit}
use Rattle.cm_plain.specs.Readings.{Stands}
use Rattle.cm_plain.specs.Slots.{word_at}
use Rattle.cm_chunks.specs.RunBits.{IsInRun, IsRunIn}
use Rattle.cm_segment.specs.Frames.{DiffersAt, IsBitOfTier, IsBitWord, IsChunkWord}
use Rattle.cm_segment.specs.PlacementStages.{AddsBits}
use Rattle.cm_segment.specs.PlanNumbers.{IsNewIn}

-- a change replaces the entry of one run by that of another, which begins at the same chunk, whatever state it is planned for
pub record IsReplacement (geo : Geo) (change : Change) (old run : Run) : Type 0 where
  pub kind_is : change.kind ≡ kind.InPlace
  pub old_is : change.old_run ≡ Some old
  pub run_is : change.new_run ≡ Some run
  pub links_not : change.link ≡ false
  pub place_is : run.place ≡ old.place
  pub chunk_is : run.chunk ≡ old.chunk
  pub old_in : IsRunIn geo old
  pub new_in : IsNewIn geo change run

-- a word of the new run's chunks, or of its tier's bits
pub data IsRoomWord (geo : Geo) (run : Run) (place offset : ℕ) : Type 0 where
  bits : place ≡ run.place → IsBitWord geo offset → IsRoomWord geo run place offset
  chunks : place ≡ run.place → IsChunkWord geo run.chunk run.chunks offset → IsRoomWord geo run place offset

-- the chunks of a new run behind those of the old one, and the other way round
abbrev pub chunks_more : Run → Run → Run
chunks_more old run = record { place = run.place; chunk = run.chunk + old.chunks; chunks = run.chunks - old.chunks }

abbrev pub chunks_less : Run → Run → Run
chunks_less old run = record { place = run.place; chunk = run.chunk + run.chunks; chunks = old.chunks - run.chunks }

-- the bits are those of the start, but for those of an old run and of a new one: the new run's are set, and of the old run's no others
abbrev pub ReplacesBits : Geo → Run → Run → List ℕ → List ℕ → Type 0
ReplacesBits geo old run start words = (place chunk : ℕ) → chunk < geo.chunks
    → (HasBit geo words place chunk ↔ (IsInRun run place chunk ⊎ ((IsInRun old place chunk → ⊥) × HasBit geo start place chunk)))

-- the new entry stands, and nothing but its room has changed
pub record IsNewThere (geo : Geo) (change : Change) (run : Run) (state : State) (start words : List ℕ) : Type 0 where
  pub differs : DiffersAt geo (IsRoomWord geo run) start words
  pub stands : Stands geo words (new_entry change run)

-- the phases: nothing but the bits of the chunks more was stored
pub record IsExtended (geo : Geo) (change : Change) (old run : Run) (state : State) (start words : List ℕ) : Type 0 where
  pub differs : DiffersAt geo (IsBitOfTier geo run.place) start words
  pub bits : AddsBits geo (chunks_more old run) start words
  pub in_all : word_at words 2 ≡ word_at start 2

-- and the new entry stands
pub record IsRewritten (geo : Geo) (change : Change) (old run : Run) (state : State) (start words : List ℕ) : Type 0 where
  pub there : IsNewThere geo change run state start words
  pub bits : AddsBits geo (chunks_more old run) start words
  pub in_all : word_at words 2 ≡ word_at start 2

-- and the bits are those of its run: all was stored
pub record IsReplaced (geo : Geo) (change : Change) (old run : Run) (state : State) (start words : List ℕ) : Type 0 where
  pub there : IsNewThere geo change run state start words
  pub bits : ReplacesBits geo old run start words
  pub in_all : word_at words 2 ≡ word_at start 2
