-- The search for a key along the slots of a tier whose words rest for a state.
use Rattle.std.proofs.Common.{◌≡◌, ◌≢◌, ℕ, ◌+◌, ◌*◌, ◌<◌, ◌≤◌, ◌↔◌, IsTrue, List, length, get_or, Some, Contains, true, false, refl, ap, sym, subst, ◌∙◌, inl, inr, arith}
use Rattle.std.proofs.lemmas.Bool.{cases_eq, cases_lt}
use Rattle.std.proofs.lemmas.List.{get_or_default}
use Rattle.std.proofs.lemmas.List.Elements.{All-contains}
use Rattle.cm_geo.specs.declared.geo.Geo.{Geo}
use Rattle.cm_geo.specs.Hash.{fingerprint_in, hash, home_in}
use Rattle.cm_plain.specs.declared.placed.Placed.{Placed}
use Rattle.cm_plain.specs.declared.reply.Pair.{Pair}
use Rattle.cm_plain.specs.States.{State, pair_of}
use Rattle.cm_plain.specs.Slots.{Points, Slot, slot_for, slot_in}
use Rattle.cm_plain.specs.Readings.{entry, reading_at}
use Rattle.cm_plain.specs.Lawful.{IsAt, IsSlotOf, Resting, TierRepresents, steps_between}
use Rattle.cm_plain.proofs.Apart.{chunks_some}
use Rattle.cm_plain.proofs.States.{is_placed}
use Rattle.cm_plain.proofs.OutsideHead.{resting_represents}
use Rattle.cm_words.specs.Memory.{FitsNotes, MemSeen}
use Rattle.cm_words.specs.Effects.{Reads}
use Rattle.cm_lookup.specs.declared.hit.Hit.{Hit}
use Rattle.cm_lookup.specs.Probing.{HasNoHit, IsFirstHit, probe}
use Rattle.cm_lookup.proofs.Finding.{law_finds, probe_below, slot_is_probe}
use Rattle.cm_recover.specs.Rebuilding.{HasKeyAt, HasKeyIn}

-- the key has no entry in the tier at a place
abbrev pub IsAbsentAt : State → ℕ → List ℕ → Type 0
IsAbsentAt state place key = (placed : Placed) → IsAt state place placed → placed.key ≢ key

-- the words of a tier of the chain represent its entries
pub tier_of : (geo : Geo) (segment : ℕ) (words : List ℕ) (state : State) (place : ℕ) → Resting geo segment words state → Contains state.chain place
    → TierRepresents geo words state place
tier_of geo segment words state place rests chained =
    All-contains (TierRepresents geo words state) state.chain place (resting_represents geo segment words state rests).tiers chained

-- the slot so many steps from the home of a key
abbrev probe_of : Geo → List ℕ → ℕ → ℕ
probe_of geo key steps = probe geo (fingerprint_in geo (hash key)) steps

-- the steps from there to a slot
abbrev steps_to : Geo → List ℕ → ℕ → ℕ
steps_to geo key slot = steps_between (2 * geo.chunks) (home_in geo (fingerprint_in geo (hash key))) slot

-- no slot of fewer steps points to an entry of the key
abbrev pub IsPassedKey : Geo → List ℕ → State → ℕ → List ℕ → ℕ → Type 0
IsPassedKey geo words state place key from =
    (steps : ℕ) → steps < from → (placed : Placed) → IsAt state place placed → placed.key ≡ key
    → slot_in geo words place (probe_of geo key steps) ≢ Some (slot_for geo key placed.chunk)

-- that is so of each list that fits
abbrev pub HasPassed : MemSeen → Geo → ℕ → ℕ → List ℕ → ℕ → Type 0
HasPassed m geo segment place key from =
    (words : List ℕ) (state : State) → FitsNotes m words → Resting geo segment words state → Contains state.chain place
    → IsPassedKey geo words state place key from

pub passed_none : (m : MemSeen) (geo : Geo) (segment place : ℕ) (key : List ℕ) → HasPassed m geo segment place key 0
passed_none m geo segment place key words state fits rests chained steps below = absurd (omega arith)

-- an entry begins at a chunk of its tier
pub chunk_low : (geo : Geo) (segment : ℕ) (words : List ℕ) (state : State) (placed : Placed) → Resting geo segment words state
    → Contains state.entries placed
    → placed.chunk < geo.chunks
chunk_low geo segment words state placed rests there =
    let run = (is_placed (resting_represents geo segment words state rests).is_state placed there).run in omega
    (arith, run.inside, chunks_some geo placed)

-- an entry of a place is read there
pub reads_at : (geo : Geo) (segment : ℕ) (words : List ℕ) (state : State) (place chunk : ℕ) (placed : Placed) → Resting geo segment words state
    → IsAt state place placed → placed.chunk ≡ chunk
    → reading_at geo words place chunk ≡ entry (pair_of placed)
reads_at geo segment words state place chunk placed rests at chunk_is =
    subst (λ (c : ℕ). reading_at geo words place c ≡ entry (pair_of placed)) chunk_is
    (subst (λ (p : ℕ). reading_at geo words p placed.chunk ≡ entry (pair_of placed)) at.place_is
    ((resting_represents geo segment words state rests).stand placed at.there))

same_chunk : (geo : Geo) (key : List ℕ) (a b : ℕ) → Some (slot_for geo key a) ≡ Some (slot_for geo key b) → a ≡ b
same_chunk geo key a b e = some_chunk (ap (λ (s : Slot). s.chunk) (some_slot (slot_for geo key a) (slot_for geo key b) e))
  where
    some_slot : (s t : Slot) → Some s ≡ Some t → s ≡ t
    some_slot s t e = cc e

    some_chunk : Some a ≡ Some b → a ≡ b
    some_chunk e = cc e

-- a hit whose entry has another key is passed
passed_hit : (geo : Geo) (segment : ℕ) (words : List ℕ) (state : State) (place : ℕ) (key : List ℕ) (from : ℕ) (hit : Hit)
    → Resting geo segment words state
    → IsPassedKey geo words state place key from
    → IsFirstHit geo words place (fingerprint_in geo (hash key)) from hit
    → ((pair : Pair) → reading_at geo words place hit.chunk ≡ entry pair → pair.key ≢ key)
    → IsPassedKey geo words state place key (hit.steps + 1)
passed_hit geo segment words state place key from hit rests passed first other steps below placed at key_is points = elim (cases_lt steps from) [
  | inl early ↦ passed steps early placed at key_is points
  | inr late ↦ elim (cases_eq steps hit.steps) [
    | inl same ↦
        let found : slot_in geo words place (probe_of geo key hit.steps) ≡ Some (slot_for geo key hit.chunk) =
        ap (slot_in geo words place) (sym first.hits.slot_is) ∙ first.hits.found in
        let chunk : placed.chunk ≡ hit.chunk = same_chunk geo key placed.chunk hit.chunk
        (sym points ∙ (ap (λ (k : ℕ). slot_in geo words place (probe_of geo key k)) same ∙ found)) in
        other (pair_of placed) (reads_at geo segment words state place hit.chunk placed rests at chunk) key_is
    | inr differ ↦
        (first.before steps late (before steps hit.steps below differ)).other
        (record { steps = steps; slot = probe_of geo key steps; chunk = placed.chunk })
        refl
        (record { slot_is = refl; found = points; below = chunk_low geo segment words state placed rests at.there })
  ]
]
  where
    before : (steps end : ℕ) → steps < end + 1 → steps ≢ end → steps < end
    before steps end h d = omega arith

pub passed_more : (a b c : MemSeen) (geo : Geo) (segment place : ℕ) (key : List ℕ) (from : ℕ) (hit : Hit) → HasPassed a geo segment place key from
    → Reads a b → Reads b c
    → ((words : List ℕ) → FitsNotes b words → IsFirstHit geo words place (fingerprint_in geo (hash key)) from hit)
    → ((words : List ℕ) → FitsNotes c words → (pair : Pair) → reading_at geo words place hit.chunk ≡ entry pair → pair.key ≢ key)
    → HasPassed c geo segment place key (hit.steps + 1)
passed_more a b c geo segment place key from hit passed one two first other words state fits rests chained =
    let fits_b = two.fits words fits in
    passed_hit geo segment words state place key from hit rests
    (passed words state (one.fits words fits_b) rests chained) (first words fits_b) (other words fits)

-- the slot of a key's entry of this place
slot_at_place : (geo : Geo) (segment : ℕ) (words : List ℕ) (state : State) (place : ℕ) (key : List ℕ) (placed : Placed)
    → Resting geo segment words state
    → IsAt state place placed → placed.key ≡ key
    → (slot : ℕ) × Points geo words place key placed.chunk slot
slot_at_place geo segment words state place key placed rests at key_is =
    let once = (resting_represents geo segment words state rests).pointed placed at.there in (
      once.0,
      subst (λ (k : List ℕ). Points geo words place k placed.chunk once.0) key_is
          (subst (λ (p : ℕ). Points geo words p placed.key placed.chunk once.0) at.place_is once.1),
    )

-- an entry whose slot's steps were passed is none
passed_entry : (geo : Geo) (words : List ℕ) (state : State) (place : ℕ) (key : List ℕ) (from slot : ℕ) (placed : Placed)
    → IsPassedKey geo words state place key from → IsAt state place placed → placed.key ≡ key
    → Points geo words place key placed.chunk slot → steps_to geo key slot < from → ⊥
passed_entry geo words state place key from slot placed passed at key_is points early =
    passed (steps_to geo key slot) early placed at key_is
    (ap (slot_in geo words place) (slot_is_probe geo (fingerprint_in geo (hash key)) slot points.inside).1 ∙ points.slot_is)

-- where no hit is left the key has no entry in the tier
pub absent_by : (a b : MemSeen) (geo : Geo) (segment place : ℕ) (key : List ℕ) (from : ℕ) → HasPassed a geo segment place key from → Reads a b
    → ((words : List ℕ) → FitsNotes b words → HasNoHit geo words place (fingerprint_in geo (hash key)) from)
    → (words : List ℕ) (state : State) → FitsNotes b words → Resting geo segment words state → Contains state.chain place → IsAbsentAt state place key
absent_by a b geo segment place key from passed reads none words state fits rests chained placed at key_is =
    let slot = slot_at_place geo segment words state place key placed rests at key_is in
    let early : steps_to geo key slot.0 < from =
    law_finds geo words place (fingerprint_in geo (hash key)) from slot.0 placed.chunk (tier_of geo segment words state place rests chained).reached
    slot.1.inside
    (chunk_low geo segment words state placed rests at.there) slot.1.slot_is (none words fits) in
    passed_entry geo words state place key from slot.0 placed
    (passed words state (reads.fits words fits) rests chained) at key_is slot.1 early

-- after a whole round it has none
pub absent_round : (m : MemSeen) (geo : Geo) (segment place : ℕ) (key : List ℕ) (from : ℕ) → HasPassed m geo segment place key from
    → 2 * geo.chunks ≤ from
    → (words : List ℕ) (state : State) → FitsNotes m words → Resting geo segment words state → Contains state.chain place → IsAbsentAt state place key
absent_round m geo segment place key from passed past words state fits rests chained placed at key_is =
    let slot = slot_at_place geo segment words state place key placed rests at key_is in
    let early = (slot_is_probe geo (fingerprint_in geo (hash key)) slot.0 slot.1.inside).0 in
    passed_entry geo words state place key from slot.0 placed (passed words state fits rests chained) at key_is slot.1 (omega (arith, early, past))

-- a hit whose entry has the key is an entry of it
pub has_by : (b c : MemSeen) (geo : Geo) (segment place : ℕ) (key : List ℕ) (from : ℕ) (hit : Hit) → Reads b c
    → ((words : List ℕ) → FitsNotes b words → IsFirstHit geo words place (fingerprint_in geo (hash key)) from hit)
    → ((words : List ℕ) → FitsNotes c words → (pair : Pair) → reading_at geo words place hit.chunk ≡ entry pair → pair.key ≡ key)
    → (words : List ℕ) (state : State) → FitsNotes c words → Resting geo segment words state → Contains state.chain place → HasKeyAt state place key
has_by b c geo segment place key from hit reads first keys words state fits rests chained =
    let hits = (first words (reads.fits words fits)).hits in
    let below : hit.slot < 2 * geo.chunks = subst (λ (k : ℕ). k < 2 * geo.chunks) (sym hits.slot_is)
    (probe_below geo (fingerprint_in geo (hash key)) hit.steps) in
    let of : IsSlotOf geo state place (slot_for geo key hit.chunk) = (tier_of geo segment words state place rests chained).slots hit.slot
    (slot_for geo key hit.chunk) below hits.found in
    let chunk : of.placed.chunk ≡ hit.chunk = some_chunk of.placed.chunk hit.chunk (sym (ap (λ (s : Slot). s.chunk) of.slot_is)) in
    record {
      placed = of.placed;
      at = of.at;
      key_is = keys words fits (pair_of of.placed) (reads_at geo segment words state place hit.chunk of.placed rests of.at chunk);
    }
  where
    some_chunk : (a b : ℕ) → Some a ≡ Some b → a ≡ b
    some_chunk a b e = cc e

-- an answer of no is right where there is no entry of the key, and one of yes where there is one
pub no_key : (state : State) (place : ℕ) (key : List ℕ) → IsAbsentAt state place key → IsTrue false ↔ HasKeyAt state place key
no_key state place key absent = (λ yes. absurd (clash yes), λ has. absurd (absent has.placed has.at has.key_is))
  where
    clash : IsTrue false → ⊥
    clash e = cc e

pub some_key : (state : State) (place : ℕ) (key : List ℕ) → HasKeyAt state place key → IsTrue true ↔ HasKeyAt state place key
some_key state place key has = (λ _. has, λ _. refl)

-- ---- along the tiers of a chain

-- no tier before a number has an entry of the key
abbrev pub IsAbsentBefore : MemSeen → Geo → ℕ → List ℕ → List ℕ → ℕ → Type 0
IsAbsentBefore m geo segment places key number =
    (words : List ℕ) (state : State) → FitsNotes m words → Resting geo segment words state → state.chain ≡ places
    → (k : ℕ) → k < number → IsAbsentAt state (get_or places k 0) key

pub before_none : (m : MemSeen) (geo : Geo) (segment : ℕ) (places key : List ℕ) → IsAbsentBefore m geo segment places key 0
before_none m geo segment places key words state fits rests chain k below = absurd (omega arith)

pub before_more : (a b : MemSeen) (geo : Geo) (segment : ℕ) (places key : List ℕ) (number : ℕ) → number < length places
    → IsAbsentBefore a geo segment places key number → Reads a b
    → ((words : List ℕ) (state : State) → FitsNotes b words → Resting geo segment words state → Contains state.chain (get_or places number 0)
    → IsTrue false ↔ HasKeyAt state (get_or places number 0) key)
    → IsAbsentBefore b geo segment places key (number + 1)
before_more a b geo segment places key number inside before reads here words state fits rests chain k below placed at
    key_is = elim (cases_eq k number) [
      | inl same ↦
          let chained : Contains state.chain (get_or places number 0) = subst (λ (c : List ℕ). Contains c (get_or places number 0)) (sym chain)
          (number, inside, get_or_default places number (get_or places number 0) 0 inside) in
          let at' : IsAt state (get_or places number 0) placed = subst (λ (n : ℕ). IsAt state (get_or places n 0) placed) same at in
          clash ((here words state fits rests chained).1 (record { placed = placed; at = at'; key_is = key_is }))
      | inr differ ↦ before words state (reads.fits words fits) rests chain k (earlier k differ below) placed at key_is
    ]
  where
    clash : IsTrue false → ⊥
    clash e = cc e

    earlier : (k : ℕ) → k ≢ number → k < number + 1 → k < number
    earlier k d h = omega arith

-- an entry is in a tier of the chain
pub no_key_in : (m : MemSeen) (geo : Geo) (segment : ℕ) (places key : List ℕ) (number : ℕ) → length places ≤ number
    → IsAbsentBefore m geo segment places key number
    → (words : List ℕ) (state : State) → FitsNotes m words → Resting geo segment words state → state.chain ≡ places
    → IsTrue false ↔ HasKeyIn state key
no_key_in m geo segment places key number past before words state fits rests chain = (
  λ yes. absurd (clash yes),
  λ has.
      let chained : Contains places has.placed.place = subst
      (λ (c : List ℕ). Contains c has.placed.place)
      chain (is_placed (resting_represents geo segment words state rests).is_state has.placed has.there).chained in
      absurd (before words state fits rests chain chained.0 (within chained.0 chained.1) has.placed
      (record { there = has.there; place_is = sym (sym (get_or_default places chained.0 has.placed.place 0 chained.1) ∙ chained.2) }) has.key_is),
)
  where
    clash : IsTrue false → ⊥
    clash e = cc e

    within : (k : ℕ) → k < length places → k < number
    within k h = omega arith

pub some_key_in : (m : MemSeen) (geo : Geo) (segment : ℕ) (places key : List ℕ) (number : ℕ) → number < length places
    → ((words : List ℕ) (state : State) → FitsNotes m words → Resting geo segment words state → Contains state.chain (get_or places number 0)
    → IsTrue true ↔ HasKeyAt state (get_or places number 0) key)
    → (words : List ℕ) (state : State) → FitsNotes m words → Resting geo segment words state → state.chain ≡ places → IsTrue true ↔ HasKeyIn state key
some_key_in m geo segment places key number inside here words state fits rests chain =
    let chained : Contains state.chain (get_or places number 0) = subst (λ (c : List ℕ). Contains c (get_or places number 0)) (sym chain)
    (number, inside, get_or_default places number (get_or places number 0) 0 inside) in
    let has = (here words state fits rests chained).0 refl in
    (λ _. record { placed = has.placed; there = has.at.there; key_is = has.key_is }, λ _. refl)
