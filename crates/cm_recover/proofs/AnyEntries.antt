-- Whatever stands in the words of a segment, what is kept of it is a state.
use Rattle.std.proofs.Common.{◌≡◌, ◌≢◌, ℕ, ◌+◌, ◌<◌, ◌≤◌, ◌==◌, Bool, true, false, List, [], ◌∷◌, length, nat_le, Option, Some, None, refl, sym, subst, ◌∙◌, arith, inl, inr}
use Rattle.std.specs.List.{AllByRecursion, list_any}
use Rattle.std.specs.Str.{bytes_eq}
use Rattle.std.proofs.lemmas.Bool.{cases_Bool}
use Rattle.std.proofs.lemmas.Bool.Decides.{eqb_tells, nat_tests}
use Rattle.std.proofs.lemmas.List.Elements.{All-from_recursion, recursion_from_All}
use Rattle.std.proofs.lemmas.Slice.Eq.{bytes_eq-Decides}
use Rattle.cm_geo.specs.declared.geo.Geo.{Geo}
use Rattle.cm_geo.specs.Addresses.{words_in_segment}
use Rattle.cm_geo.specs.Hash.{fingerprint_in, hash, segment_of_key}
use Rattle.cm_plain.specs.declared.placed.Placed.{Placed}
use Rattle.cm_plain.specs.States.{HasRun, IsPlaced, IsState, chunks_of}
use Rattle.cm_plain.specs.Rooms.{is_free, meets}
use Rattle.cm_plain.specs.Changes.{entry_at}
use Rattle.cm_plain.specs.Readings.{Reading, Stands, entry, reading_at, wrong_checksum, wrong_padding, wrong_lengths}
use Rattle.cm_plain.proofs.Apart.{Rising, fresh_apart, rising_with}
use Rattle.cm_plain.proofs.Each.{Pairs, all_from_pairs, each_fails, each_weaker}
use Rattle.cm_plain.proofs.Placements.{each_with, keys_with}
use Rattle.cm_plain.proofs.States.{Differs}
use Rattle.cm_plain.proofs.EntryWords.{has_words}
use Rattle.cm_plain.proofs.ListElements.{In, in_has, in_to, some_any}
use Rattle.cm_recover.specs.declared.cause.Cause.TheVariants as cause
use Rattle.cm_recover.specs.OccupiedSlots.{OccupiedSlot, occupied_slots}
use Rattle.cm_recover.specs.AllowedPlaces.{allowed_places}
use Rattle.cm_recover.specs.Judgements.{Judgement, is_dropped, is_kept, judgement, judgement_beside, judgement_in_tier, judgement_on_entry, judgement_on_reading}
use Rattle.cm_recover.specs.KeptSlots.{KeptEntries, kept_in, kept_of, kept_state, kept_with}
use Rattle.cm_recover.proofs.AnyChain.{allowed_chain}

-- an entry that is kept beside others
record IsBeside (geo : Geo) (kept : List Placed) (placed it : Placed) : Type 0 where
  is : placed ≡ it
  new : list_any (λ other. bytes_eq other.key placed.key) kept ≡ false
  free : list_any (meets geo placed.place placed.chunk (chunks_of geo placed)) kept ≡ false

kept_beside : (geo : Geo) (kept : List Placed) (placed it : Placed) → judgement_beside geo kept placed ≡ is_kept it → IsBeside geo kept placed it
kept_beside geo kept placed it e = elim (cases_Bool (list_any (λ other. bytes_eq other.key placed.key) kept)) [
  | inl there ↦ (let clash : is_dropped cause.Duplicate ≡ is_kept it = rw there at e in cc clash)
  | inr new ↦ elim (cases_Bool (list_any (meets geo placed.place placed.chunk (chunks_of geo placed)) kept)) [
    | inl met ↦ (let clash : is_dropped cause.Overlap ≡ is_kept it = rw (new, met) at e in cc clash)
    | inr free ↦ (let same : is_kept placed ≡ is_kept it = rw (new, free) at e in record { is = one placed it same; new = new; free = free })
  ]
]
  where
    one : (a b : Placed) → is_kept a ≡ is_kept b → a ≡ b
    one a b e = cc e

-- one that a slot points to
record IsOfSegment (geo : Geo) (segment : ℕ) (kept : List Placed) (fingerprint : ℕ) (placed it : Placed) : Type 0 where
  here : segment_of_key geo placed.key ≡ segment
  print : fingerprint_in geo (hash placed.key) ≡ fingerprint
  beside : IsBeside geo kept placed it

kept_on_entry : (geo : Geo) (segment : ℕ) (kept : List Placed) (fingerprint : ℕ) (placed it : Placed) → judgement_on_entry geo segment kept fingerprint placed ≡ is_kept it → IsOfSegment geo segment kept fingerprint placed it
kept_on_entry geo segment kept fingerprint placed it e = elim (eqb_tells (segment_of_key geo placed.key) segment) [
  | inr fails ↦ (let f = fails.0 in let clash : is_dropped cause.Segment ≡ is_kept it = rw f at e in cc clash)
  | inl here ↦ (let h = here.0 in elim (eqb_tells (fingerprint_in geo (hash placed.key)) fingerprint) [
    | inr fails ↦ (let f = fails.0 in let clash : is_dropped cause.Fingerprint ≡ is_kept it = rw (h, f) at e in cc clash)
    | inl same ↦ (let f = same.0 in record { here = here.1; print = same.1; beside = kept_beside geo kept placed it (rw (h, f) at e) })
  ])
]

-- what is read where it stands
record IsReadAt (geo : Geo) (segment : ℕ) (words : List ℕ) (kept : List Placed) (fingerprint place : ℕ) (it : Placed) : Type 0 where
  place_is : it.place ≡ place
  print : fingerprint_in geo (hash it.key) ≡ fingerprint
  reads : Stands geo words it
  here : segment_of_key geo it.key ≡ segment
  new : list_any (λ other. bytes_eq other.key it.key) kept ≡ false
  free : list_any (meets geo it.place it.chunk (chunks_of geo it)) kept ≡ false

kept_on_reading : (geo : Geo) (segment : ℕ) (words : List ℕ) (kept : List Placed) (fingerprint place chunk : ℕ) (it : Placed) (reading : Reading) → reading_at geo words place chunk ≡ reading
    → judgement_on_reading geo segment kept fingerprint place chunk reading ≡ is_kept it → IsReadAt geo segment words kept fingerprint place it
kept_on_reading geo segment words kept fingerprint place chunk it wrong_lengths is e = cc e
kept_on_reading geo segment words kept fingerprint place chunk it wrong_checksum is e = cc e
kept_on_reading geo segment words kept fingerprint place chunk it wrong_padding is e = cc e
kept_on_reading geo segment words kept fingerprint place chunk it (entry pair) is e =
    let up = kept_on_entry geo segment kept fingerprint (entry_at pair.key pair.value place chunk) it e in
    subst (λ (p : Placed). IsReadAt geo segment words kept fingerprint place p) up.beside.is (record { place_is = refl; print = up.print; reads = is; here = up.here; new = up.beside.new; free = up.beside.free })

kept_in_tier : (geo : Geo) (segment : ℕ) (words : List ℕ) (kept : List Placed) (fingerprint place : ℕ) (chunk : Option ℕ) (it : Placed)
    → judgement_in_tier geo segment words kept fingerprint place chunk ≡ is_kept it → IsReadAt geo segment words kept fingerprint place it
kept_in_tier geo segment words kept fingerprint place None it e = cc e
kept_in_tier geo segment words kept fingerprint place (Some chunk) it e = elim (cases_Bool (nat_le geo.chunks chunk)) [
  | inl outside ↦ (let clash : is_dropped cause.Range ≡ is_kept it = rw outside at e in cc clash)
  | inr inside ↦ kept_on_reading geo segment words kept fingerprint place chunk it (reading_at geo words place chunk) refl (rw inside at e)
]

-- what is known of the entry of a slot that is kept
pub record IsSlotKept (geo : Geo) (segment : ℕ) (words places : List ℕ) (kept : List Placed) (fingerprint : ℕ) (it : Placed) : Type 0 where
  pub among : In it.place places
  pub print : fingerprint_in geo (hash it.key) ≡ fingerprint
  pub reads : Stands geo words it
  pub here : segment_of_key geo it.key ≡ segment
  pub new : list_any (λ other. bytes_eq other.key it.key) kept ≡ false
  pub free : list_any (meets geo it.place it.chunk (chunks_of geo it)) kept ≡ false

pub slot_kept : (geo : Geo) (segment : ℕ) (words places : List ℕ) (kept : List Placed) (at : OccupiedSlot) (it : Placed) → judgement geo segment words places kept at ≡ is_kept it → IsSlotKept geo segment words places kept at.slot.fingerprint it
slot_kept geo segment words places kept at it e = elim (cases_Bool (list_any (λ place. place == at.place) places)) [
  | inr outside ↦ (let clash : is_dropped cause.Allowance ≡ is_kept it = rw outside at e in cc clash)
  | inl among ↦ (
      let read = kept_in_tier geo segment words kept at.slot.fingerprint at.place at.slot.chunk it (rw among at e) in
      let one = some_any (λ place. place == at.place) places among in
      let place_is : it.place ≡ one.0 = read.place_is ∙ sym (same one.0 at.place one.2) in
      record { among = subst (λ (p : ℕ). In p places) (sym place_is) one.1; print = read.print; reads = read.reads; here = read.here; new = read.new; free = read.free })
]
  where
    same : (a b : ℕ) → (a == b) ≡ true → a ≡ b
    same a b e = grind (arith, nat_tests)

-- an entry that is read has a run
pub stands_run : (geo : Geo) (words : List ℕ) (placed : Placed) → length words ≡ words_in_segment geo → placed.place < geo.tiers → Stands geo words placed → HasRun geo placed
stands_run geo words placed length_is low stands =
    let has = has_words geo words placed.place placed.chunk placed.key placed.value length_is low stands in
    record { fits = has.fits; inside = has.inside }

-- entries that are placed in tiers of a chain, in the order of their runs, with different keys
pub record ArePlaced (geo : Geo) (segment : ℕ) (chain : List ℕ) (entries : List Placed) : Type 0 where
  pub placed : AllByRecursion (IsPlaced geo segment chain) entries
  pub rising : Pairs (Rising geo) entries
  pub keys : Pairs Differs entries

-- one more slot
pub placed_more : (geo : Geo) (segment : ℕ) (words places : List ℕ) (kept : KeptEntries) (at : OccupiedSlot) → length words ≡ words_in_segment geo → AllByRecursion (λ place. place < geo.tiers) places
    → ArePlaced geo segment places kept.entries → (it : Judgement) → judgement geo segment words places kept.entries at ≡ it → ArePlaced geo segment places (kept_with geo kept it).entries
placed_more geo segment words places kept at length_is low was (is_dropped why) e = was
placed_more geo segment words places kept at length_is low was (is_kept placed) e =
    let slot = slot_kept geo segment words places kept.entries at placed e in
    let run = stands_run geo words placed length_is (in_has (λ place. place < geo.tiers) places placed.place low slot.among) slot.reads in
    let within : nat_le (placed.chunk + chunks_of geo placed) geo.chunks ≡ true = is_within (placed.chunk + chunks_of geo placed) geo.chunks run.inside in
    let alone = slot.free in
    let free : is_free geo kept.entries placed.place placed.chunk (chunks_of geo placed) ≡ true = rw (within, alone) refl in
    let apart = fresh_apart geo placed kept.entries (each_weaker (IsPlaced geo segment places) (HasRun geo) (λ other h. h.run) kept.entries was.placed) free in
    let others : AllByRecursion (λ other. other.key ≢ placed.key) kept.entries =
    each_weaker (λ other. bytes_eq other.key placed.key ≡ false) (λ other. other.key ≢ placed.key) (λ other fails same. clash (bytes_eq other.key placed.key) ((bytes_eq-Decides other.key placed.key).1 same) fails) kept.entries
    (each_fails (λ other. bytes_eq other.key placed.key) kept.entries slot.new) in
    record {
      placed = each_with geo (IsPlaced geo segment places) placed kept.entries was.placed (record { here = slot.here; chained = in_to places placed.place slot.among; run = run });
      rising = rising_with geo placed kept.entries was.rising apart;
      keys = keys_with geo placed kept.entries was.keys others;
    }
  where
    is_within : (a b : ℕ) → a ≤ b → nat_le a b ≡ true
    is_within a b h = grind (arith, nat_tests)

    clash : (b : Bool) → b ≡ true → b ≡ false → ⊥
    clash b one other = cc (sym one ∙ other)

all_placed : (geo : Geo) (segment : ℕ) (words places : List ℕ) (kept : KeptEntries) (slots : List OccupiedSlot) → length words ≡ words_in_segment geo → AllByRecursion (λ place. place < geo.tiers) places
    → ArePlaced geo segment places kept.entries → ArePlaced geo segment places (kept_of geo segment words places kept slots).entries
all_placed geo segment words places kept [] length_is low was = was
all_placed geo segment words places kept (at ∷ slots) length_is low was =
    all_placed geo segment words places (kept_with geo kept (judgement geo segment words places kept.entries at)) slots length_is low
    (placed_more geo segment words places kept at length_is low was (judgement geo segment words places kept.entries at) refl)

-- what is kept is a state
pub any_state : (geo : Geo) (words_of : ℕ → List ℕ) (segment : ℕ) → length (words_of segment) ≡ words_in_segment geo → IsState geo segment (kept_state geo words_of segment)
unfolding kept_in
any_state geo words_of segment length_is =
    let chain = allowed_chain geo words_of segment in
    let places : List ℕ = allowed_places geo words_of segment in
    let entries : List Placed = (kept_of geo segment (words_of segment) places (record { entries = []; drops = [] }) (occupied_slots geo (words_of segment))).entries in
    let all : ArePlaced geo segment places entries = all_placed geo segment (words_of segment) places (record { entries = []; drops = [] }) (occupied_slots geo (words_of segment)) length_is
    (recursion_from_All (λ place. place < geo.tiers) places chain.inside) (record { placed = tt; rising = tt; keys = tt }) in
    record {
      chain = chain;
      placed = All-from_recursion (IsPlaced geo segment places) entries all.placed;
      runs = all_from_pairs (Rising geo) entries all.rising;
      keys = all_from_pairs Differs entries all.keys;
    }
