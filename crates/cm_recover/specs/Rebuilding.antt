-- While the slots, bits and counts of a segment are rebuilt (own): what calls ask of the memory, and how far the words have come.
use Rattle.std.specs.Prelude.{ℕ, ◌≡◌, ◌+◌, ◌*◌, ◌%◌, ◌^◌, ◌<◌, ◌≤◌, IsTrue, false, List, [], length, All, Contains, slice_set, Option, Some, MatchOption}
use Rattle.std.specs.List.{flat_map}
use Rattle.cm_geo.specs.declared.geo.Geo.{Geo}
use Rattle.cm_geo.specs.Addresses.{chunk_at, slot_at, tier_at, words_in_segment}
use Rattle.cm_plain.specs.declared.placed.Placed.{Placed}
use Rattle.cm_plain.specs.declared.plan.Run.{Run}
use Rattle.cm_plain.specs.declared.room.Spot.{Spot}
use Rattle.cm_plain.specs.States.{State}
use Rattle.cm_plain.specs.Changes.{run_of}
use Rattle.cm_plain.specs.Slots.{chunk_of_half, slot_of_word, word_at}
use Rattle.cm_plain.specs.Lawful.{IsAt, Resting}
use Rattle.cm_words.specs.declared.access.Access.TheVariants.{Writable}
use Rattle.cm_words.specs.Memory.{MemSeen}
use Rattle.cm_chunks.specs.RunBits.{HasSet, IsRunIn}
use Rattle.cm_lookup.specs.Probing.{IsFirstEmpty}
use Rattle.cm_lookup.specs.Tiers.{HasEmptySlot, slot_word}
use Rattle.cm_recover.specs.declared.cause.Cause.{Cause}
use Rattle.cm_recover.specs.declared.judging.Judged.{Judged}
use Rattle.cm_recover.specs.declared.judging.Judged.TheVariants.{Dropped, Kept}
use Rattle.cm_recover.specs.declared.tally.Tally.{Tally}
use Rattle.cm_recover.specs.OccupiedSlots.{OccupiedSlot, occupied_in}
use Rattle.cm_recover.specs.Judgements.{Judgement, is_dropped, is_kept, judgement}
use Rattle.cm_recover.specs.KeptSlots.{KeptEntries, kept_of, kept_with}
use Rattle.cm_recover.specs.Tallies.{Counts, count_for}

-- a memory of a segment, in which anything may be stored, and which can't die
pub record IsOpen (m : MemSeen) (geo : Geo) (segment : ℕ) : Type 0 where
  pub writable : m.setting.access ≡ Writable
  pub geo_is : m.setting.geo ≡ geo
  pub segment_is : m.setting.segment ≡ segment
  pub free : m.setting.guarded ≡ false
  pub never : IsTrue m.meter.fuse.can_die → ⊥

-- the chunks of the tiers at these places have the words that they had
abbrev pub SameChunks : Geo → List ℕ → List ℕ → List ℕ → Type 0
SameChunks geo places old words =
    (place offset : ℕ) → Contains places place → offset < geo.chunks * geo.chunk_words
    → word_at words (chunk_at geo place 0 + offset) ≡ word_at old (chunk_at geo place 0 + offset)

-- the words of a segment stand for these entries, in a chain of these places, and the chunks are those of the old words
pub record IsSoFar (geo : Geo) (segment : ℕ) (old places : List ℕ) (kept : List Placed) (words : List ℕ) : Type 0 where
  pub old_long : length old ≡ words_in_segment geo
  pub lock : word_at words 0 ≡ 0
  pub number : word_at words 1 ≡ 0
  pub rests : Resting geo segment words (record { chain = places; entries = kept })
  pub chunks : SameChunks geo places old words

-- and a tally counts what is kept and dropped
pub record HasCome (geo : Geo) (segment : ℕ) (old places : List ℕ) (kept : KeptEntries) (tally : Tally) (words : List ℕ) : Type 0 where
  pub so_far : IsSoFar geo segment old places kept.entries words
  pub counts : Counts tally kept

-- an entry of this key is in the tier at a place
pub record HasKeyAt (state : State) (place : ℕ) (key : List ℕ) : Type 0 where
  pub placed : Placed
  pub at : IsAt state place placed
  pub key_is : placed.key ≡ key

-- an entry of this key is in the state
pub record HasKeyIn (state : State) (key : List ℕ) : Type 0 where
  pub placed : Placed
  pub there : Contains state.entries placed
  pub key_is : placed.key ≡ key

-- a slot in the tier at a place has this word
pub record IsSlotWith (at : OccupiedSlot) (place word : ℕ) : Type 0 where
  pub place_is : at.place ≡ place
  pub slot_is : slot_of_word word ≡ Some at.slot

-- a slot's word points to this chunk of a tier with so many
pub record PointsToChunk (word chunks chunk : ℕ) : Type 0 where
  pub points : chunk_of_half (word % 2 ^ 32) ≡ Some chunk
  pub below : chunk < chunks

-- to which one it points, if to any
abbrev pub PointsToOne : ℕ → ℕ → Option ℕ → Type 0
PointsToOne word chunks found = MatchOption found ((chunk : ℕ) → PointsToChunk word chunks chunk → ⊥) (PointsToChunk word chunks)

-- a chunk of a tier
abbrev pub spot : ℕ → ℕ → Spot
spot place chunk = record { place = place; chunk = chunk }

-- it is judged so: it is dropped for this cause, or the entry in this run is kept
pub record KeepsRun (geo : Geo) (it : Judgement) (run : Run) : Type 0 where
  pub placed : Placed
  pub kept_is : it ≡ is_kept placed
  pub run_is : run ≡ run_of geo placed

abbrev pub IsJudged : Geo → Judgement → Judged → Type 0
IsJudged geo it (Dropped why) = it ≡ is_dropped why
IsJudged geo it (Kept run) = KeepsRun geo it run

-- the places are those of tiers
abbrev pub PlacesWithin : Geo → List ℕ → Type 0
PlacesWithin geo places = All (λ place. place < geo.tiers) places

-- a run that is kept lies in its tier
abbrev pub KeepsRunIn : Geo → Judged → Type 0
KeepsRunIn geo (Dropped why) = Unit {0}
KeepsRunIn geo (Kept run) = IsRunIn geo run

-- a list with a count raised, as words of 64 bits do it
abbrev pub raised : ℕ → List ℕ → List ℕ
raised at words = slice_set words at ((word_at words at + 1) % 2 ^ 64)

-- the bits of a run are set, a slot points to it, which is the first empty one where one is empty, and both counts are raised
pub record IsAdded (geo : Geo) (run : Run) (fingerprint : ℕ) (before words : List ℕ) : Type 0 where
  pub taken : List ℕ
  pub long : length taken ≡ words_in_segment geo
  pub set : HasSet geo run before taken
  pub slot : ℕ
  pub below : slot < 2 * geo.chunks
  pub first : HasEmptySlot geo taken run.place → IsFirstEmpty geo taken run.place fingerprint slot
  pub words_are : words ≡ raised 2
      (raised (tier_at geo run.place + 1) (slice_set taken (slot_at geo run.place slot) (slot_word fingerprint run.chunk)))

-- the slot with this word is kept or dropped, beside whatever came before
abbrev pub Settles : Geo → ℕ → List ℕ → ℕ → ℕ → Tally → Tally → List ℕ → List ℕ → Type 0
Settles geo segment places place word old_tally tally before words =
    (old : List ℕ) (kept : KeptEntries) (at : OccupiedSlot) → IsSlotWith at place word → HasCome geo segment old places kept old_tally before
    → HasCome geo segment old places (kept_with geo kept (judgement geo segment old places kept.entries at)) tally words

-- each count of a tally is at most this
pub record CountsWithin (most : ℕ) (tally : Tally) : Type 0 where
  pub kept : tally.kept ≤ most
  pub drops : (why : Cause) → count_for tally.drops why ≤ most

-- all slots of the tier at a place that aren't empty in the old words are kept or dropped
abbrev pub SettlesTier : Geo → ℕ → List ℕ → ℕ → List ℕ → Tally → Tally → List ℕ → List ℕ → Type 0
SettlesTier geo segment places place old old_tally tally before words =
    (kept : KeptEntries) → HasCome geo segment old places kept old_tally before
    → HasCome geo segment old places (kept_of geo segment old places kept (occupied_in geo old place)) tally words

-- all slots of the tiers of a chain that aren't empty in the old words are kept or dropped
abbrev pub SettlesAll : Geo → ℕ → List ℕ → List ℕ → List ℕ → Tally → List ℕ → List ℕ → Type 0
SettlesAll geo segment places chain old tally before words =
    IsSoFar geo segment old places [] before
    → HasCome geo segment old places
    (kept_of geo segment old places (record { entries = []; drops = [] }) (flat_map (occupied_in geo old) chain)) tally words
