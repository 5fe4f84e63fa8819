-- The entries that are read at chunks and pointed to by slots.
use Rattle.std.proofs.Common.{◌≡◌, ◌≢◌, ℕ, ◌+◌, ◌-◌, ◌<◌, ◌≤◌, ◌==◌, ◌&&◌, Bool, true, false, not, IsSome, is_some, List, length, Option, Some, None, refl, sym, ◌∙◌, arith, inl, inr}
use Rattle.std.proofs.lemmas.Bool.Decides.{eqb_tells}
use Rattle.cm_geo.specs.declared.geo.Geo.{Geo}
use Rattle.cm_geo.specs.Addresses.{words_in_segment}
use Rattle.cm_geo.specs.Hash.{fingerprint_in, hash, segment_of_key}
use Rattle.cm_plain.specs.declared.reply.Pair.{Pair}
use Rattle.cm_plain.specs.States.{HasRun, chunks_of}
use Rattle.cm_plain.specs.Changes.{entry_at}
use Rattle.cm_plain.specs.Slots.{Slot, chunk_of_half, slot_in}
use Rattle.cm_plain.specs.Readings.{Reading, entry, reading_at, wrong_checksum, wrong_lengths, wrong_padding}
use Rattle.cm_plain.proofs.Apart.{chunks_some}
use Rattle.cm_plain.proofs.EntryWords.{has_words}
use Rattle.cm_lookup.proofs.SlotWords.{half_chunk}
use Rattle.cm_entry.specs.declared.verdict.Verdict.TheVariants.{Good}
use Rattle.cm_entry.specs.Verdicts.{verdict_of}
use Rattle.cm_check.specs.SlotEntries.{entry_in, entry_pointed, entry_read}
use Rattle.cm_check.specs.SlotLaws.{is_astray, is_rightful}
use Rattle.cm_check.specs.SlotReads.{IsEntryAt}

-- ---- readings

-- the pair of what is read as an entry
pub pair_read : (place chunk : ℕ) (reading : Reading) → IsSome (entry_read place chunk reading) → (pair : Pair) × (reading ≡ entry pair)
pair_read place chunk wrong_lengths there = absurd (let e : false ≡ true = there in cc e)
pair_read place chunk wrong_checksum there = absurd (let e : false ≡ true = there in cc e)
pair_read place chunk wrong_padding there = absurd (let e : false ≡ true = there in cc e)
pair_read place chunk (entry pair) there = (pair, refl)

pub good_is_entry : (geo : Geo) (place chunk a b n : ℕ) (reading : Reading) → Good a b n ≡ verdict_of geo reading → is_some (entry_read place chunk reading) ≡ true
good_is_entry geo place chunk a b n wrong_lengths e = cc e
good_is_entry geo place chunk a b n wrong_checksum e = cc e
good_is_entry geo place chunk a b n wrong_padding e = cc e
good_is_entry geo place chunk a b n (entry pair) e = refl

pub other_is_none : (geo : Geo) (place chunk : ℕ) (reading : Reading) → ((a b n : ℕ) → Good a b n ≡ verdict_of geo reading → ⊥) → is_some (entry_read place chunk reading) ≡ false
other_is_none geo place chunk wrong_lengths other = refl
other_is_none geo place chunk wrong_checksum other = refl
other_is_none geo place chunk wrong_padding other = refl
other_is_none geo place chunk (entry pair) other = absurd (other _ _ _ refl)

-- an entry that stands may be stored, and its run lies in the tier
pub stands_run : (geo : Geo) (words : List ℕ) (place chunk : ℕ) (pair : Pair) → length words ≡ words_in_segment geo → place < geo.tiers → reading_at geo words place chunk ≡ entry pair
    → HasRun geo (entry_at pair.key pair.value place chunk)
stands_run geo words place chunk pair length_is low stands =
    let has = has_words geo words place chunk pair.key pair.value length_is low stands in
    record { fits = has.fits; inside = has.inside }

-- ---- slots

-- the entry of a slot that isn't astray
pub entry_rightful : (geo : Geo) (segment : ℕ) (words : List ℕ) (place number : ℕ) (slot : Slot) → length words ≡ words_in_segment geo → place < geo.tiers
    → is_astray geo segment words place number ≡ false → slot_in geo words place number ≡ Some slot → (chunk : ℕ) × (slot.chunk ≡ Some chunk) × IsEntryAt geo segment words place number chunk
unfolding is_astray entry_in
entry_rightful geo segment words place number slot length_is low kept is =
    by_chunk slot.chunk refl (rw is at kept)
  where
    both : (b : Bool) → b ≡ true → b ≡ false → ⊥
    both b one other = cc (sym one ∙ other)

    not_false : (b : Bool) → not b ≡ false → b ≡ true
    not_false true e = refl
    not_false false e = cc e

    made : (chunk : ℕ) (pair : Pair) → slot.chunk ≡ Some chunk → reading_at geo words place chunk ≡ entry pair
        → ((segment_of_key geo pair.key == segment) && (fingerprint_in geo (hash pair.key) == slot.fingerprint)) ≡ true → IsEntryAt geo segment words place number chunk
    made chunk pair e stands rightful = elim (eqb_tells (segment_of_key geo pair.key) segment) [
      | inr fails ↦ (let clash : false ≡ true = rw fails.0 at rightful in cc clash)
      | inl here ↦ (let rest = rw here.0 at rightful in elim (eqb_tells (fingerprint_in geo (hash pair.key)) slot.fingerprint) [
        | inr fails ↦ (let clash : false ≡ true = rw fails.0 at rest in cc clash)
        | inl same ↦ record {
          placed = entry_at pair.key pair.value place chunk;
          entry_is = rw (is, e, stands) refl;
          slot_is = is ∙ rw (same.1, ← e) refl;
          place_is = refl;
          chunk_is = refl;
          stands = stands;
          here = here.1;
          run = stands_run geo words place chunk pair length_is low stands;
        }
      ])
    ]

    by_reading : (chunk : ℕ) (reading : Reading) → slot.chunk ≡ Some chunk → reading_at geo words place chunk ≡ reading → not (is_rightful geo segment slot.fingerprint (entry_read place chunk reading)) ≡ false
        → (chunk : ℕ) × (slot.chunk ≡ Some chunk) × IsEntryAt geo segment words place number chunk
    by_reading chunk wrong_lengths e stands kept = cc kept
    by_reading chunk wrong_checksum e stands kept = cc kept
    by_reading chunk wrong_padding e stands kept = cc kept
    by_reading chunk (entry pair) e stands kept = (chunk, e, made chunk pair e stands (not_false _ kept))

    by_chunk : (pointed : Option ℕ) → slot.chunk ≡ pointed → not (is_rightful geo segment slot.fingerprint (entry_pointed geo words place slot.chunk)) ≡ false
        → (chunk : ℕ) × (slot.chunk ≡ Some chunk) × IsEntryAt geo segment words place number chunk
    by_chunk None e kept = (let clash : true ≡ false = rw e at kept in cc clash)
    by_chunk (Some chunk) e kept = by_reading chunk (reading_at geo words place chunk) e refl (rw e at kept)

-- a slot that is empty has no entry
pub entry_none : (geo : Geo) (words : List ℕ) (place number : ℕ) → slot_in geo words place number ≡ None → entry_in geo words place number ≡ None
unfolding entry_in
entry_none geo words place number e = rw e refl

-- ---- whether a slot is astray

pub astray_empty : (geo : Geo) (segment : ℕ) (words : List ℕ) (place number : ℕ) → slot_in geo words place number ≡ None → is_astray geo segment words place number ≡ false
unfolding is_astray
astray_empty geo segment words place number e = rw e refl

pub astray_none : (geo : Geo) (segment : ℕ) (words : List ℕ) (place number : ℕ) (slot : Slot) → slot_in geo words place number ≡ Some slot → entry_pointed geo words place slot.chunk ≡ None → is_astray geo segment words place number ≡ true
unfolding is_astray
astray_none geo segment words place number slot e none = rw (e, none) refl

pub astray_entry : (geo : Geo) (segment : ℕ) (words : List ℕ) (place number chunk : ℕ) (slot : Slot) (pair : Pair) → slot_in geo words place number ≡ Some slot → slot.chunk ≡ Some chunk → reading_at geo words place chunk ≡ entry pair
    → is_astray geo segment words place number ≡ not ((segment_of_key geo pair.key == segment) && (fingerprint_in geo (hash pair.key) == slot.fingerprint))
unfolding is_astray
astray_entry geo segment words place number chunk slot pair e chunk_is reads = rw (e, chunk_is, reads) refl

-- no entry stands behind the last chunk
pub none_beyond : (geo : Geo) (words : List ℕ) (place chunk : ℕ) → length words ≡ words_in_segment geo → place < geo.tiers → geo.chunks ≤ chunk → entry_pointed geo words place (Some chunk) ≡ None
none_beyond geo words place chunk length_is low beyond = by (reading_at geo words place chunk) refl
  where
    outside : (chunk need chunks : ℕ) → chunk + need ≤ chunks → 1 ≤ need → chunks ≤ chunk → ⊥
    outside chunk need chunks h k l = omega arith

    by : (reading : Reading) → reading_at geo words place chunk ≡ reading → entry_read place chunk reading ≡ None
    by wrong_lengths e = refl
    by wrong_checksum e = refl
    by wrong_padding e = refl
    by (entry pair) e =
        let run = stands_run geo words place chunk pair length_is low e in
        absurd (outside chunk (chunks_of geo (entry_at pair.key pair.value place chunk)) geo.chunks run.inside (chunks_some geo (entry_at pair.key pair.value place chunk)) beyond)

-- where nothing is read as an entry, none is pointed to
pub none_read : (place chunk : ℕ) (reading : Reading) → is_some (entry_read place chunk reading) ≡ false → entry_read place chunk reading ≡ None
none_read place chunk wrong_lengths e = refl
none_read place chunk wrong_checksum e = refl
none_read place chunk wrong_padding e = refl
none_read place chunk (entry pair) e = cc e

-- the halves of a slot's word: a low half of 0 points to no chunk, and another one to the chunk before it
pub half_none : (half : ℕ) → half ≡ 0 → chunk_of_half half ≡ None
half_none half e = rw e refl

pub half_some : (half : ℕ) → half ≢ 0 → chunk_of_half half ≡ Some (half - 1)
half_some half ne = (half_chunk half (half - 1)).1 (omega arith)

-- on tests: the segment differs; it is the same
pub other_segment : (a segment b fingerprint : ℕ) → a ≢ segment → not (a == segment) ≡ not ((a == segment) && (b == fingerprint))
other_segment a segment b fingerprint ne = elim (eqb_tells a segment) [
  | inl same ↦ absurd (ne same.1)
  | inr fails ↦ rw fails.0 refl
]

pub same_segment : (a segment b fingerprint : ℕ) → a ≡ segment → not (b == fingerprint) ≡ not ((a == segment) && (b == fingerprint))
same_segment a segment b fingerprint e = elim (eqb_tells a segment) [
  | inl same ↦ rw same.0 refl
  | inr fails ↦ absurd (fails.1 e)
]
