-- The search for a key along the slots of a tier.
use Rattle.std.proofs.Common.{◌≡◌, ◌≢◌, ℕ, ◌+◌, ◌*◌, ◌<◌, ◌≤◌, List, Some, Contains, refl, ap, sym, subst, ◌∙◌, inl, inr, arith}
use Rattle.std.proofs.lemmas.Bool.{cases_eq, cases_lt}
use Rattle.cm_geo.specs.declared.geo.Geo.{Geo}
use Rattle.cm_geo.specs.Hash.{fingerprint_in, hash, home_in}
use Rattle.cm_plain.specs.declared.placed.Placed.{Placed}
use Rattle.cm_plain.specs.declared.reply.Pair.{Pair}
use Rattle.cm_plain.specs.States.{State, pair_of}
use Rattle.cm_plain.specs.Slots.{Points, Slot, slot_for, slot_in}
use Rattle.cm_plain.specs.Readings.{entry, reading_at}
use Rattle.cm_plain.specs.Lawful.{IsAt, IsSlotOf, Represents, steps_between}
use Rattle.cm_plain.proofs.Apart.{chunks_some}
use Rattle.cm_plain.proofs.States.{is_placed}
use Rattle.cm_words.specs.Memory.{FitsNotes, MemSeen}
use Rattle.cm_words.specs.Effects.{Reads}
use Rattle.cm_lookup.specs.declared.hit.Hit.{Hit}
use Rattle.cm_lookup.specs.Probing.{HasNoHit, IsFirstHit, probe}
use Rattle.cm_lookup.proofs.Finding.{law_finds, probe_below, slot_is_probe}
use Rattle.cm_entry.specs.Prefixes.{AreLengthsOf}
use Rattle.cm_segment.specs.Sights.{IsAbsentAt, IsSight}
use Rattle.cm_segment.proofs.ChainedTiers.{represents_before, tier_in}

-- the slot so many steps from the home of a key
abbrev probe_of : Geo → List ℕ → ℕ → ℕ
probe_of geo key steps = probe geo (fingerprint_in geo (hash key)) steps

-- the steps from there to a slot
abbrev steps_to : Geo → List ℕ → ℕ → ℕ
steps_to geo key slot = steps_between (2 * geo.chunks) (home_in geo (fingerprint_in geo (hash key))) slot

-- no slot of fewer steps points to an entry of the key
abbrev pub IsPassedKey : Geo → List ℕ → State → ℕ → List ℕ → ℕ → Type 0
IsPassedKey geo words state place key from =
    (steps : ℕ) → steps < from → (placed : Placed) → IsAt state place placed → placed.key ≡ key
    → slot_in geo words place (probe_of geo key steps) ≢ Some (slot_for geo key placed.chunk)

-- that is so of each list that fits
abbrev pub HasPassed : MemSeen → Geo → ℕ → List ℕ → ℕ → Type 0
HasPassed m geo place key from =
    (words : List ℕ) (state : State) → FitsNotes m words → Represents geo m.setting.segment words state → Contains state.chain place
    → IsPassedKey geo words state place key from

pub passed_none : (m : MemSeen) (geo : Geo) (place : ℕ) (key : List ℕ) → HasPassed m geo place key 0
passed_none m geo place key words state fits has chained steps below = absurd (omega arith)

-- an entry begins at a chunk of its tier
pub chunk_low : (geo : Geo) (segment : ℕ) (words : List ℕ) (state : State) (placed : Placed) → Represents geo segment words state → Contains state.entries placed
    → placed.chunk < geo.chunks
chunk_low geo segment words state placed has there =
    let run = (is_placed has.is_state placed there).run in omega (arith, run.inside, chunks_some geo placed)

-- an entry of a place is read there
pub reads_at : (geo : Geo) (segment : ℕ) (words : List ℕ) (state : State) (place chunk : ℕ) (placed : Placed) → Represents geo segment words state
    → IsAt state place placed → placed.chunk ≡ chunk
    → reading_at geo words place chunk ≡ entry (pair_of placed)
reads_at geo segment words state place chunk placed has at chunk_is =
    subst (λ (c : ℕ). reading_at geo words place c ≡ entry (pair_of placed)) chunk_is
    (subst (λ (p : ℕ). reading_at geo words p placed.chunk ≡ entry (pair_of placed)) at.place_is
    (has.stand placed at.there))

same_chunk : (geo : Geo) (key : List ℕ) (a b : ℕ) → Some (slot_for geo key a) ≡ Some (slot_for geo key b) → a ≡ b
same_chunk geo key a b e = some_chunk (ap (λ (s : Slot). s.chunk) (some_slot (slot_for geo key a) (slot_for geo key b) e))
  where
    some_slot : (s t : Slot) → Some s ≡ Some t → s ≡ t
    some_slot s t e = cc e

    some_chunk : Some a ≡ Some b → a ≡ b
    some_chunk e = cc e

-- a hit whose entry has another key is passed
passed_hit : (geo : Geo) (segment : ℕ) (words : List ℕ) (state : State) (place : ℕ) (key : List ℕ) (from : ℕ) (hit : Hit) → Represents geo segment words state
    → IsPassedKey geo words state place key from
    → IsFirstHit geo words place (fingerprint_in geo (hash key)) from hit → ((pair : Pair) → reading_at geo words place hit.chunk ≡ entry pair → pair.key ≢ key)
    → IsPassedKey geo words state place key (hit.steps + 1)
passed_hit geo segment words state place key from hit has passed first other steps below placed at key_is points = elim (cases_lt steps from) [
  | inl early ↦ passed steps early placed at key_is points
  | inr late ↦ elim (cases_eq steps hit.steps) [
    | inl same ↦
        let found : slot_in geo words place (probe_of geo key hit.steps) ≡ Some (slot_for geo key hit.chunk) =
        ap (slot_in geo words place) (sym first.hits.slot_is) ∙ first.hits.found in
        let chunk : placed.chunk ≡ hit.chunk = same_chunk geo key placed.chunk hit.chunk
        (sym points ∙ (ap (λ (k : ℕ). slot_in geo words place (probe_of geo key k)) same ∙ found)) in
        other (pair_of placed) (reads_at geo segment words state place hit.chunk placed has at chunk) key_is
    | inr differ ↦
        (first.before steps late (before steps hit.steps below differ)).other (record { steps = steps; slot = probe_of geo key steps; chunk = placed.chunk })
        refl
        (record { slot_is = refl; found = points; below = chunk_low geo segment words state placed has at.there })
  ]
]
  where
    before : (steps end : ℕ) → steps < end + 1 → steps ≢ end → steps < end
    before steps end h d = omega arith

pub passed_more : (a b c : MemSeen) (geo : Geo) (place : ℕ) (key : List ℕ) (from : ℕ) (hit : Hit) → HasPassed a geo place key from → Reads a b → Reads b c
    → ((words : List ℕ) → FitsNotes b words → IsFirstHit geo words place (fingerprint_in geo (hash key)) from hit)
    → ((words : List ℕ) → FitsNotes c words → (pair : Pair) → reading_at geo words place hit.chunk ≡ entry pair → pair.key ≢ key)
    → HasPassed c geo place key (hit.steps + 1)
passed_more a b c geo place key from hit passed one two first other words state fits has chained =
    let fits_b = two.fits words fits in
    let has_b = represents_before b c geo words state two has in
    passed_hit geo c.setting.segment words state place key from hit has
    (passed words state (one.fits words fits_b) (represents_before a b geo words state one has_b) chained) (first words fits_b) (other words fits)

-- the slot of a key's entry of this place
slot_at_place : (geo : Geo) (segment : ℕ) (words : List ℕ) (state : State) (place : ℕ) (key : List ℕ) (placed : Placed) → Represents geo segment words state
    → IsAt state place placed → placed.key ≡ key
    → (slot : ℕ) × Points geo words place key placed.chunk slot
slot_at_place geo segment words state place key placed has at key_is =
    let once = has.pointed placed at.there in (
      once.0,
      subst (λ (k : List ℕ). Points geo words place k placed.chunk once.0) key_is
          (subst (λ (p : ℕ). Points geo words p placed.key placed.chunk once.0) at.place_is once.1),
    )

-- an entry whose slot's steps were passed is none
passed_entry : (geo : Geo) (words : List ℕ) (state : State) (place : ℕ) (key : List ℕ) (from slot : ℕ) (placed : Placed)
    → IsPassedKey geo words state place key from → IsAt state place placed → placed.key ≡ key
    → Points geo words place key placed.chunk slot → steps_to geo key slot < from → ⊥
passed_entry geo words state place key from slot placed passed at key_is points early =
    passed (steps_to geo key slot) early placed at key_is
    (ap (slot_in geo words place) (slot_is_probe geo (fingerprint_in geo (hash key)) slot points.inside).1 ∙ points.slot_is)

-- where no hit is left the key has no entry in the tier
pub absent_by : (a b : MemSeen) (geo : Geo) (place : ℕ) (key : List ℕ) (from : ℕ) → HasPassed a geo place key from → Reads a b
    → ((words : List ℕ) → FitsNotes b words → HasNoHit geo words place (fingerprint_in geo (hash key)) from)
    → (words : List ℕ) (state : State) → FitsNotes b words → Represents geo b.setting.segment words state → Contains state.chain place → IsAbsentAt state place key
absent_by a b geo place key from passed reads none words state fits has chained placed at key_is =
    let slot = slot_at_place geo b.setting.segment words state place key placed has at key_is in
    let early : steps_to geo key slot.0 < from =
    law_finds geo words place (fingerprint_in geo (hash key)) from slot.0 placed.chunk (tier_in geo b.setting.segment words state place has chained).reached
    slot.1.inside
    (chunk_low geo b.setting.segment words state placed has at.there) slot.1.slot_is (none words fits) in
    passed_entry geo words state place key from slot.0 placed
    (passed words state (reads.fits words fits) (represents_before a b geo words state reads has) chained) at key_is slot.1 early

-- after a whole round it has none
pub absent_round : (m : MemSeen) (geo : Geo) (place : ℕ) (key : List ℕ) (from : ℕ) → HasPassed m geo place key from → 2 * geo.chunks ≤ from
    → (words : List ℕ) (state : State) → FitsNotes m words → Represents geo m.setting.segment words state → Contains state.chain place → IsAbsentAt state place key
absent_round m geo place key from passed past words state fits has chained placed at key_is =
    let slot = slot_at_place geo m.setting.segment words state place key placed has at key_is in
    let early = (slot_is_probe geo (fingerprint_in geo (hash key)) slot.0 slot.1.inside).0 in
    passed_entry geo words state place key from slot.0 placed (passed words state fits has chained) at key_is slot.1 (omega (arith, early, past))

-- a hit whose entry has the key is the key's
pub sight_by : (b c : MemSeen) (geo : Geo) (place : ℕ) (key : List ℕ) (from key_len value_len : ℕ) (hit : Hit) → Reads b c
    → ((words : List ℕ) → FitsNotes b words → IsFirstHit geo words place (fingerprint_in geo (hash key)) from hit)
    → ((words : List ℕ) → FitsNotes c words → (pair : Pair) → reading_at geo words place hit.chunk ≡ entry pair → AreLengthsOf pair key (key_len, value_len))
    → (words : List ℕ) (state : State) → FitsNotes c words → Represents geo c.setting.segment words state → Contains state.chain place
    → IsSight geo words state key (record { place = place; slot = hit.slot; chunk = hit.chunk; key_len = key_len; value_len = value_len })
sight_by b c geo place key from key_len value_len hit reads first lengths words state fits has chained =
    let hits = (first words (reads.fits words fits)).hits in
    let below : hit.slot < 2 * geo.chunks = subst (λ (k : ℕ). k < 2 * geo.chunks) (sym hits.slot_is) (probe_below geo (fingerprint_in geo (hash key)) hit.steps)
    in
    let of : IsSlotOf geo state place (slot_for geo key hit.chunk) = (tier_in geo c.setting.segment words state place has chained).slots hit.slot
    (slot_for geo key hit.chunk) below hits.found in
    let chunk : of.placed.chunk ≡ hit.chunk = some_chunk of.placed.chunk hit.chunk (sym (ap (λ (s : Slot). s.chunk) of.slot_is)) in
    let are = lengths words fits (pair_of of.placed) (reads_at geo c.setting.segment words state place hit.chunk of.placed has of.at chunk) in
    record {
      placed = of.placed;
      there = of.at.there;
      key_is = are.key_is;
      place_is = of.at.place_is;
      chunk_is = chunk;
      points = record { inside = below; slot_is = hits.found };
      key_len_is = are.key_len_is;
      value_len_is = are.value_len_is;
    }
  where
    some_chunk : (a b : ℕ) → Some a ≡ Some b → a ≡ b
    some_chunk a b e = cc e
