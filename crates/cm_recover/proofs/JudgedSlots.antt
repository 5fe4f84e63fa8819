-- What becomes of a slot, by what is found in words that have come so far.
use Rattle.std.proofs.Common.{◌≡◌, ℕ, ◌+◌, ◌/◌, ◌%◌, ◌^◌, ◌<◌, ◌≤◌, ◌==◌, ◌↔◌, IsTrue, Bool, true, false, List, length, nat_le, Option, Some, None, Contains, refl, ap, sym, subst, ◌∙◌, inl, inr, arith}
use Rattle.std.specs.List.{list_any}
use Rattle.std.specs.Str.{bytes_eq}
use Rattle.std.proofs.lemmas.Bool.{cases_Bool}
use Rattle.std.proofs.lemmas.Bool.Decides.{nat_tests}
use Rattle.std.proofs.lemmas.Option.{same_Some}
use Rattle.std.proofs.lemmas.Slice.Eq.{bytes_eq-Decides}
use Rattle.cm_geo.specs.declared.geo.Geo.{Geo}
use Rattle.cm_geo.specs.Addresses.{words_in_segment}
use Rattle.cm_geo.specs.Hash.{fingerprint_in, hash, segment_in}
use Rattle.cm_geo.specs.Need.{need}
use Rattle.cm_plain.specs.declared.placed.Placed.{Placed}
use Rattle.cm_plain.specs.declared.plan.Run.{Run}
use Rattle.cm_plain.specs.declared.reply.Pair.{Pair}
use Rattle.cm_plain.specs.States.{chunks_of}
use Rattle.cm_plain.specs.Rooms.{is_free, meets}
use Rattle.cm_plain.specs.Changes.{entry_at, run_of}
use Rattle.cm_plain.specs.Slots.{Slot, chunk_of_half, slot_of_word}
use Rattle.cm_plain.specs.Readings.{Reading, entry, reading_at, wrong_checksum, wrong_lengths, wrong_padding}
use Rattle.cm_plain.specs.Lawful.{Resting}
use Rattle.cm_plain.proofs.Apart.{chunks_some}
use Rattle.cm_plain.proofs.Each.{each_fails}
use Rattle.cm_plain.proofs.EntryWords.{has_words}
use Rattle.cm_plain.proofs.ListElements.{in_from, in_has, in_to, some_any}
use Rattle.cm_plain.proofs.OutsideHead.{resting_many}
use Rattle.cm_chunks.specs.Free.{IsFreeRun}
use Rattle.cm_chunks.specs.RunBits.{IsRunIn}
use Rattle.cm_chunks.proofs.StateRuns.{free_as_state}
use Rattle.cm_entry.specs.declared.verdict.Verdict.TheVariants.{Checksum, Good, Lengths, Padding}
use Rattle.cm_entry.specs.Verdicts.{verdict_of}
use Rattle.cm_recover.specs.declared.cause.Cause.TheVariants as cause
use Rattle.cm_recover.specs.declared.judging.Judged.{Judged}
use Rattle.cm_recover.specs.OccupiedSlots.{OccupiedSlot}
use Rattle.cm_recover.specs.Judgements.{is_dropped, is_kept, judgement, judgement_beside, judgement_in_tier, judgement_on_entry, judgement_on_reading}
use Rattle.cm_recover.specs.Rebuilding.{HasKeyIn, IsJudged, IsSlotWith, IsSoFar, PointsToChunk}
use Rattle.cm_recover.proofs.KeySearch.{tier_of}
use Rattle.cm_recover.proofs.ReadChunks.{reading_left}

-- ---- the slot

-- the parts of a slot that isn't empty
pub slot_parts : (word : ℕ) (slot : Slot) → slot_of_word word ≡ Some slot
    → slot ≡ record { fingerprint = word / 2 ^ 32; chunk = chunk_of_half (word % 2 ^ 32) }
slot_parts word slot e = elim (cases_Bool (word == 0)) [
  | inl empty ↦ (let clash : None ≡ Some slot = rw empty at e in cc clash)
  | inr full ↦ sym (same_Some (record { fingerprint = word / 2 ^ 32; chunk = chunk_of_half (word % 2 ^ 32) }) slot (rw full at e))
]

-- a place among some, by the test
pub place_among : (places : List ℕ) (place : ℕ) → list_any (λ other. other == place) places ≡ true → Contains places place
place_among places place found = (let one = some_any (λ other. other == place) places found in
    subst (Contains places) (equal one.0 place one.2) (in_to places one.0 one.1))
  where
    equal : (a b : ℕ) → (a == b) ≡ true → a ≡ b
    equal a b e = grind (arith, nat_tests)

-- one that points to no chunk of its tier
pub judged_range : (geo : Geo) (segment : ℕ) (old places : List ℕ) (kept : List Placed) (at : OccupiedSlot) (place word : ℕ)
    → IsSlotWith at place word
    → list_any (λ other. other == place) places ≡ true → ((chunk : ℕ) → PointsToChunk word geo.chunks chunk → ⊥)
    → judgement geo segment old places kept at ≡ is_dropped cause.Range
judged_range geo segment old places kept at place word is among none =
    let among' : list_any (λ other. other == at.place) places ≡ true = subst (λ (p : ℕ). list_any (λ other. other == p) places ≡ true)
    (sym is.place_is) among in
    rw among' (by at.slot.fingerprint at.place at.slot.chunk (ap (λ (s : Slot). s.chunk) (slot_parts word at.slot is.slot_is)))
  where
    by : (fingerprint p : ℕ) (chunk : Option ℕ) → chunk ≡ chunk_of_half (word % 2 ^ 32)
        → judgement_in_tier geo segment old kept fingerprint p chunk ≡ is_dropped cause.Range
    by fingerprint p None e = refl
    by fingerprint p (Some chunk) e = elim (cases_Bool (nat_le geo.chunks chunk)) [
      | inl outside ↦ rw outside refl
      | inr inside ↦ absurd (none chunk (record { points = sym e; below = grind (arith, nat_tests) }))
    ]

-- one that points to a chunk of its tier is judged by what is read there
pub judged_in : (geo : Geo) (segment : ℕ) (old places words : List ℕ) (kept : List Placed) (at : OccupiedSlot) (place word chunk : ℕ)
    → IsSlotWith at place word
    → list_any (λ other. other == place) places ≡ true → place < geo.tiers → PointsToChunk word geo.chunks chunk
    → IsSoFar geo segment old places kept words
    → judgement geo segment old places kept at ≡ judgement_on_reading geo segment kept (word / 2 ^ 32) place chunk (reading_at geo words place chunk)
judged_in geo segment old places words kept at place word chunk is among low points so_far =
    let among' : list_any (λ other. other == at.place) places ≡ true = subst (λ (p : ℕ). list_any (λ other. other == p) places ≡ true)
    (sym is.place_is) among in
    let parts = slot_parts word at.slot is.slot_is in
    let inside : nat_le geo.chunks chunk ≡ false = is_below geo.chunks chunk points.below in
    let there = place_among places place among in
    let same : reading_at geo words place chunk ≡ reading_at geo old place chunk =
    reading_left geo old words place chunk so_far.old_long (resting_many geo segment words _ so_far.rests) low points.below
    (λ offset below. so_far.chunks place offset there below) in
    rw among' (in_tier at.place at.slot.fingerprint at.slot.chunk is.place_is (ap (λ (s : Slot). s.fingerprint) parts)
    (ap (λ (s : Slot). s.chunk) parts ∙ points.points) inside
    ∙ ap (judgement_on_reading geo segment kept (word / 2 ^ 32) place chunk) (sym same))
  where
    is_below : (a b : ℕ) → b < a → nat_le a b ≡ false
    is_below a b h = grind (arith, nat_tests)

    in_tier : (p fingerprint : ℕ) (ch : Option ℕ) → p ≡ place → fingerprint ≡ word / 2 ^ 32 → ch ≡ Some chunk → nat_le geo.chunks chunk ≡ false
        → judgement_in_tier geo segment old kept fingerprint p ch ≡ judgement_on_reading geo segment kept (word / 2 ^ 32) place chunk
        (reading_at geo old place chunk)
    in_tier p fingerprint ch e f g inside = rw (e, f, g, inside) refl

-- ---- what is read

pub judged_lengths : (geo : Geo) (segment : ℕ) (kept : List Placed) (fingerprint place chunk : ℕ) (reading : Reading)
    → Lengths ≡ verdict_of geo reading
    → judgement_on_reading geo segment kept fingerprint place chunk reading ≡ is_dropped cause.Lengths
judged_lengths geo segment kept fingerprint place chunk wrong_lengths e = refl
judged_lengths geo segment kept fingerprint place chunk wrong_checksum e = cc e
judged_lengths geo segment kept fingerprint place chunk wrong_padding e = cc e
judged_lengths geo segment kept fingerprint place chunk (entry pair) e = cc e

pub judged_checksum : (geo : Geo) (segment : ℕ) (kept : List Placed) (fingerprint place chunk : ℕ) (reading : Reading)
    → Checksum ≡ verdict_of geo reading
    → judgement_on_reading geo segment kept fingerprint place chunk reading ≡ is_dropped cause.Checksum
judged_checksum geo segment kept fingerprint place chunk wrong_lengths e = cc e
judged_checksum geo segment kept fingerprint place chunk wrong_checksum e = refl
judged_checksum geo segment kept fingerprint place chunk wrong_padding e = cc e
judged_checksum geo segment kept fingerprint place chunk (entry pair) e = cc e

pub judged_padding : (geo : Geo) (segment : ℕ) (kept : List Placed) (fingerprint place chunk : ℕ) (reading : Reading)
    → Padding ≡ verdict_of geo reading
    → judgement_on_reading geo segment kept fingerprint place chunk reading ≡ is_dropped cause.Padding
judged_padding geo segment kept fingerprint place chunk wrong_lengths e = cc e
judged_padding geo segment kept fingerprint place chunk wrong_checksum e = cc e
judged_padding geo segment kept fingerprint place chunk wrong_padding e = refl
judged_padding geo segment kept fingerprint place chunk (entry pair) e = cc e

-- an entry with its chunks
pub record ReadsEntry (geo : Geo) (reading : Reading) (chunks : ℕ) : Type 0 where
  pub pair : Pair
  pub reading_is : reading ≡ entry pair
  pub chunks_are : chunks ≡ need geo (length pair.key) (length pair.value)

pub reads_entry : (geo : Geo) (reading : Reading) (key_len value_len chunks : ℕ) → Good key_len value_len chunks ≡ verdict_of geo reading
    → ReadsEntry geo reading chunks
reads_entry geo wrong_lengths key_len value_len chunks e = cc e
reads_entry geo wrong_checksum key_len value_len chunks e = cc e
reads_entry geo wrong_padding key_len value_len chunks e = cc e
reads_entry geo (entry pair) key_len value_len chunks
    e = record {
      pair = pair;
      reading_is = refl;
      chunks_are = same key_len value_len chunks (length pair.key) (length pair.value)
          (need geo (length pair.key) (length pair.value)) e;
    }
  where
    same : (a b c d f g : ℕ) → Good a b c ≡ Good d f g → c ≡ g
    same a b c d f g e = cc e

-- its run lies in its tier
pub run_there : (geo : Geo) (words : List ℕ) (place chunk chunks : ℕ) → length words ≡ words_in_segment geo → place < geo.tiers
    → ReadsEntry geo (reading_at geo words place chunk) chunks
    → IsRunIn geo (record { place = place; chunk = chunk; chunks = chunks })
run_there geo words place chunk chunks long low reads =
    let has = has_words geo words place chunk reads.pair.key reads.pair.value long low reads.reading_is in
    let some = chunks_some geo (entry_at reads.pair.key reads.pair.value place chunk) in
    record {
      place_inside = low;
      nonzero = omega (arith, reads.chunks_are, some);
      within_limit = omega (arith, reads.chunks_are, has.fits.run_short);
      inside = omega (arith, reads.chunks_are, has.inside);
    }

-- ---- the entry

-- a key of this segment with the slot's fingerprint
pub on_entry : (geo : Geo) (segment : ℕ) (kept : List Placed) (fingerprint : ℕ) (placed : Placed) (key : List ℕ) → key ≡ placed.key
    → segment_in geo (hash key) ≡ segment
    → fingerprint_in geo (hash key) ≡ fingerprint → judgement_on_entry geo segment kept fingerprint placed ≡ judgement_beside geo kept placed
on_entry geo segment kept fingerprint placed key key_is here same =
    let test : (segment_in geo (hash placed.key) == segment) ≡ true = equal (segment_in geo (hash placed.key)) segment
    (ap (λ (k : List ℕ). segment_in geo (hash k)) (sym key_is) ∙ here) in
    let test' : (fingerprint_in geo (hash placed.key) == fingerprint) ≡ true =
    equal (fingerprint_in geo (hash placed.key)) fingerprint (ap (λ (k : List ℕ). fingerprint_in geo (hash k)) (sym key_is) ∙ same) in
    rw (test, test') refl
  where
    equal : (a b : ℕ) → a ≡ b → (a == b) ≡ true
    equal a b e = grind (arith, nat_tests)

-- whether a key is kept already
any_key : (chain : List ℕ) (kept : List Placed) (key : List ℕ) → HasKeyIn (record { chain = chain; entries = kept }) key
    → list_any (λ other. bytes_eq other.key key) kept ≡ true
any_key chain kept key has = elim (cases_Bool (list_any (λ other. bytes_eq other.key key) kept)) [
  | inl found ↦ found
  | inr none ↦ (let differs : bytes_eq has.placed.key key ≡ false = in_has (λ other. bytes_eq other.key key ≡ false) kept has.placed
      (each_fails (λ other. bytes_eq other.key key) kept none)
      (in_from kept has.placed has.there) in
      let same : bytes_eq has.placed.key key ≡ true = (bytes_eq-Decides has.placed.key key).1 has.key_is in
      absurd (clash (bytes_eq has.placed.key key) same differs))
]
  where
    clash : (b : Bool) → b ≡ true → b ≡ false → ⊥
    clash b one other = cc (sym one ∙ other)

no_key : (chain : List ℕ) (kept : List Placed) (key : List ℕ) → (IsTrue false ↔ HasKeyIn (record { chain = chain; entries = kept }) key)
    → list_any (λ other. bytes_eq other.key key) kept ≡ false
no_key chain kept key tells = elim (cases_Bool (list_any (λ other. bytes_eq other.key key) kept)) [
  | inl found ↦ (let one = some_any (λ other. bytes_eq other.key key) kept found in
      let no : false ≡ true = tells.1
      (record { placed = one.0; there = in_to kept one.0 one.1; key_is = (bytes_eq-Decides one.0.key key).0 one.2 }) in cc no)
  | inr none ↦ none
]

pub judged_duplicate : (geo : Geo) (chain : List ℕ) (kept : List Placed) (placed : Placed) (key : List ℕ) → key ≡ placed.key
    → (IsTrue true ↔ HasKeyIn (record { chain = chain; entries = kept }) key) → judgement_beside geo kept placed ≡ is_dropped cause.Duplicate
judged_duplicate geo chain kept placed key key_is tells =
    let there : list_any (λ other. bytes_eq other.key placed.key) kept ≡ true = any_key chain kept placed.key
    (subst (HasKeyIn (record { chain = chain; entries = kept })) key_is (tells.0 refl)) in
    rw there refl

-- whether its run is free
module _ (geo : Geo) (segment : ℕ) (places words : List ℕ) (kept : List Placed) (placed : Placed) (key : List ℕ) (key_is : key ≡ placed.key)
    (new : IsTrue false ↔ HasKeyIn (record { chain = places; entries = kept }) key)
    (rests : Resting geo segment words (record { chain = places; entries = kept }))
    (chained : Contains places placed.place) (inside : placed.chunk + chunks_of geo placed ≤ geo.chunks) where
  absent : list_any (λ other. bytes_eq other.key placed.key) kept ≡ false
  absent = no_key places kept placed.key (subst (λ (k : List ℕ). IsTrue false ↔ HasKeyIn (record { chain = places; entries = kept }) k) key_is new)

  as_state : IsFreeRun geo words placed.place placed.chunk (chunks_of geo placed) ↔
      (is_free geo kept placed.place placed.chunk (chunks_of geo placed) ≡ true)
  as_state = free_as_state geo words (record { chain = places; entries = kept }) placed.place placed.chunk (chunks_of geo placed)
      (tier_of geo segment words (record { chain = places; entries = kept }) placed.place rests chained).bits (chunks_some geo placed)

  within : nat_le (placed.chunk + chunks_of geo placed) geo.chunks ≡ true
  within = test (placed.chunk + chunks_of geo placed) geo.chunks inside
    where
      test : (a b : ℕ) → a ≤ b → nat_le a b ≡ true
      test a b h = grind (arith, nat_tests)

  pub judged_overlap : (IsTrue false ↔ IsFreeRun geo words placed.place placed.chunk (chunks_of geo placed))
      → judgement_beside geo kept placed ≡ is_dropped cause.Overlap
  judged_overlap tells = elim (cases_Bool (list_any (meets geo placed.place placed.chunk (chunks_of geo placed)) kept)) [
    | inl met ↦ rw (absent, met) refl
    | inr free ↦ (let is : is_free geo kept placed.place placed.chunk (chunks_of geo placed) ≡ true = rw (within, free) refl in
        let no : false ≡ true = tells.1 (as_state.1 is) in cc no)
  ]

  pub judged_kept : (IsTrue true ↔ IsFreeRun geo words placed.place placed.chunk (chunks_of geo placed))
      → judgement_beside geo kept placed ≡ is_kept placed
  judged_kept tells = elim (cases_Bool (list_any (meets geo placed.place placed.chunk (chunks_of geo placed)) kept)) [
    | inl met ↦ (let is : is_free geo kept placed.place placed.chunk (chunks_of geo placed) ≡ true = as_state.0 (tells.0 refl) in
        let no : false ≡ true = rw (within, met) at is in cc no)
    | inr free ↦ rw (absent, free) refl
  ]

-- ---- the chunk

-- a run with the entry that is read in it is judged as the chunk is
pub chunk_judged : (geo : Geo) (segment : ℕ) (kept : List Placed) (fingerprint place chunk chunks : ℕ) (words : List ℕ) (run : Run)
    (result : Judged) → ReadsEntry geo (reading_at geo words place chunk) chunks
    → run ≡ record { place = place; chunk = chunk; chunks = chunks }
    → ((pair : Pair) → reading_at geo words run.place run.chunk ≡ entry pair → run ≡ run_of geo (entry_at pair.key pair.value run.place run.chunk)
    → IsJudged geo (judgement_on_entry geo segment kept fingerprint (entry_at pair.key pair.value run.place run.chunk)) result)
    → IsJudged geo (judgement_on_reading geo segment kept fingerprint place chunk (reading_at geo words place chunk)) result
chunk_judged geo segment kept fingerprint place chunk chunks words run result reads run_is judged =
    let here : IsJudged geo (judgement_on_entry geo segment kept fingerprint (entry_at reads.pair.key reads.pair.value place chunk)) result =
    (subst (λ (r : Run). (pair : Pair) → reading_at geo words r.place r.chunk ≡ entry pair
    → r ≡ run_of geo (entry_at pair.key pair.value r.place r.chunk)
    → IsJudged geo (judgement_on_entry geo segment kept fingerprint (entry_at pair.key pair.value r.place r.chunk)) result) run_is judged)
    reads.pair reads.reading_is (rw reads.chunks_are refl) in
    subst (λ (r : Reading). IsJudged geo (judgement_on_reading geo segment kept fingerprint place chunk r) result) (sym reads.reading_is) here
