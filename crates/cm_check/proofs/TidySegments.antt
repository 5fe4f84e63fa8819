-- A segment whose slots keep the laws on slots, and the state that can be read off it.
use Rattle.std.proofs.Common.{◌≡◌, ◌≢◌, ℕ, ◌*◌, ◌<◌, ◌==◌, true, List, length, filter, Option, Some, None, refl, sym, ap, subst, ◌∙◌, inl, inr, Contains}
use Rattle.std.specs.List.{sum_by}
use Rattle.std.proofs.lemmas.List.Elements.{All-from_recursion}
use Rattle.std.proofs.lemmas.Bool.{cases_eq}
use Rattle.std.proofs.lemmas.Option.{same_Some}
use Rattle.cm_geo.specs.declared.geo.Geo.{Geo}
use Rattle.cm_geo.specs.Addresses.{words_in_segment}
use Rattle.cm_plain.specs.declared.placed.Placed.{Placed}
use Rattle.cm_plain.specs.States.{HasRun, IsPlaced, IsState, State, pair_of}
use Rattle.cm_geo.specs.Hash.{segment_of_key}
use Rattle.cm_plain.specs.declared.reply.Pair.{Pair}
use Rattle.cm_plain.specs.Changes.{entry_at}
use Rattle.cm_plain.proofs.Padding.{one_entry}
use Rattle.cm_plain.specs.Slots.{IsPointedOnce, Points, Slot, slot_for, slot_in}
use Rattle.cm_plain.specs.Readings.{Stands, entry, reading_at}
use Rattle.cm_plain.specs.Lawful.{IsSlotOf, IsTaken}
use Rattle.cm_plain.proofs.Each.{all_from_pairs, pairs_from_all}
use Rattle.cm_plain.proofs.Apart.{Rising}
use Rattle.cm_plain.proofs.ListElements.{In, all_in, in_from, in_to}
use Rattle.cm_plain.proofs.States.{Differs, place_low}
use Rattle.cm_check.specs.Places.{chain_in}
use Rattle.cm_check.specs.SlotEntries.{entry_in, has_chunk}
use Rattle.cm_check.specs.SlotReads.{AreRightful, IsEntryAt}
use Rattle.cm_check.specs.CountLaws.{is_taken, occupied_among}
use Rattle.cm_check.proofs.AnyChain.{chain_of_any}
use Rattle.cm_check.proofs.GatheredEntries.{gathered, gathered_count, gathered_from, gathered_keys, gathered_length, gathered_rising, gathered_to}
use Rattle.cm_check.proofs.KeySearch.{entry_slot, slot_entry}
use Rattle.cm_check.proofs.RangeTests.{below_found, below_some}
use Rattle.cm_check.proofs.SlotLists.{AreAllTwo, entries_counted, entries_in, entries_summed, entries_two, entry_from, entry_to, one_tier_of}
use Rattle.cm_check.proofs.TakenBits.{chunks_run, entry_place, run_chunks}

-- its slots point to entries of the segment, and entries of different slots have different keys and runs apart
pub record Tidy (geo : Geo) (segment : ℕ) (words : List ℕ) : Type 0 where
  pub long : length words ≡ words_in_segment geo
  pub rightful : AreRightful geo segment words
  pub two : AreAllTwo geo words

-- the state that can be read off it
abbrev pub state_read : Geo → List ℕ → State
state_read geo words = record { chain = chain_in geo words; entries = gathered geo (entries_in geo words (chain_in geo words)) }

-- an entry of it is that of a slot
pub record IsSlotEntry (geo : Geo) (segment : ℕ) (words : List ℕ) (placed : Placed) : Type 0 where
  pub number : ℕ
  pub there : In placed.place (chain_in geo words)
  pub below : number < 2 * geo.chunks
  pub entry_is : entry_in geo words placed.place number ≡ Some placed
  pub placed_at : IsPlaced geo segment (chain_in geo words) placed
  pub slot_is : slot_in geo words placed.place number ≡ Some (slot_for geo placed.key placed.chunk)
  pub stands : Stands geo words placed

-- two entries that are read at one chunk are one
pub same_read : (geo : Geo) (words : List ℕ) (p q : Placed) → p.place ≡ q.place → p.chunk ≡ q.chunk → Stands geo words p → Stands geo words q → p ≡ q
same_read geo words p q place chunk stands stands' =
    let stands'' : reading_at geo words p.place p.chunk ≡ entry (pair_of q) = rw (place, chunk) stands' in
    let pair : pair_of p ≡ pair_of q = one_entry (pair_of p) (pair_of q) (sym stands ∙ stands'') in
    same_fields p q place chunk (ap (λ (pair : Pair). pair.key) pair) (ap (λ (pair : Pair). pair.value) pair)
  where
    same_fields : (p q : Placed) → p.place ≡ q.place → p.chunk ≡ q.chunk → p.key ≡ q.key → p.value ≡ q.value → p ≡ q
    same_fields p q place chunk key value =
        let e : entry_at p.key p.value p.place p.chunk ≡ entry_at q.key q.value q.place q.chunk = rw (key, value, place, chunk) refl in e

module _ (geo : Geo) (segment : ℕ) (words : List ℕ) (tidy : Tidy geo segment words) where
  -- by the slot
  pub slot_entry_at : (place number : ℕ) (placed : Placed) → In place (chain_in geo words) → number < 2 * geo.chunks → entry_in geo words place number ≡ Some placed → IsSlotEntry geo segment words placed
  slot_entry_at place number placed there below e =
      let chained = in_to (chain_in geo words) place there in
      let at = entry_slot geo segment words place tidy.long (place_low (chain_of_any geo words) place chained) (tidy.rightful place chained) number placed below e in
      let place_is : placed.place ≡ place = entry_place geo words place number placed e in
      made place_is at
    where
      made : placed.place ≡ place → (at : IsEntryAt geo segment words place number placed.chunk) → IsSlotEntry geo segment words placed
      made place_is at =
          let is : at.placed ≡ placed = same_Some at.placed placed (sym at.entry_is ∙ e) in
          let run = subst (λ (p : Placed). HasRun geo p) is at.run in
          let here = subst (λ (p : Placed). segment_of_key geo p.key ≡ segment) is at.here in
          let stands = subst (λ (p : Placed). Stands geo words p) is at.stands in
          let slot = at.slot_is ∙ ap (λ (p : Placed). Some (slot_for geo p.key p.chunk)) is in
          record {
            number = number;
            there = subst (λ (p : ℕ). In p (chain_in geo words)) (sym place_is) there;
            below = below;
            entry_is = ap (λ (p : ℕ). entry_in geo words p number) place_is ∙ e;
            placed_at = record { here = here; chained = in_to (chain_in geo words) placed.place (subst (λ (p : ℕ). In p (chain_in geo words)) (sym place_is) there); run = run };
            slot_is = ap (λ (p : ℕ). slot_in geo words p number) place_is ∙ slot;
            stands = stands;
          }

  -- entries of the state and of slots
  pub read_from : (placed : Placed) → In placed (gathered geo (entries_in geo words (chain_in geo words))) → IsSlotEntry geo segment words placed
  read_from placed i =
      let of = entry_from geo words (chain_in geo words) placed (gathered_from geo (entries_in geo words (chain_in geo words)) placed i) in
      slot_entry_at of.place of.number placed of.there of.below of.entry_is

  pub read_to : (place number : ℕ) (placed : Placed) → In place (chain_in geo words) → number < 2 * geo.chunks → entry_in geo words place number ≡ Some placed → In placed (gathered geo (entries_in geo words (chain_in geo words)))
  read_to place number placed there below e =
      gathered_to geo (entries_in geo words (chain_in geo words)) placed (entries_two geo words tidy.two) (entry_to geo words (chain_in geo words) place number placed there below e)

  -- it is a state
  pub read_state : IsState geo segment (state_read geo words)
  read_state = record {
    chain = chain_of_any geo words;
    placed = All-from_recursion (IsPlaced geo segment (chain_in geo words)) (gathered geo (entries_in geo words (chain_in geo words)))
        (all_in (IsPlaced geo segment (chain_in geo words)) (gathered geo (entries_in geo words (chain_in geo words))) (λ placed i. (read_from placed i).placed_at));
    runs = all_from_pairs (Rising geo) (gathered geo (entries_in geo words (chain_in geo words))) (gathered_rising geo (entries_in geo words (chain_in geo words)) (entries_two geo words tidy.two));
    keys = all_from_pairs Differs (gathered geo (entries_in geo words (chain_in geo words))) (gathered_keys geo (entries_in geo words (chain_in geo words)) (entries_two geo words tidy.two));
  }

  -- how many entries it has in a tier, and in all
  pub read_count : (place : ℕ) → Contains (chain_in geo words) place → length (filter (λ placed. placed.place == place) (gathered geo (entries_in geo words (chain_in geo words)))) ≡ occupied_among geo words place (2 * geo.chunks)
  read_count place there =
      gathered_count geo (λ placed. placed.place == place) (entries_in geo words (chain_in geo words)) (entries_two geo words tidy.two)
      ∙ (ap (λ (xs : List Placed). length xs) (one_tier_of geo words place (chain_in geo words) (pairs_from_all (λ p q. p ≢ q) (chain_in geo words) (chain_of_any geo words).apart) (in_from (chain_in geo words) place there))
      ∙ entries_counted geo segment words place tidy.long tidy.rightful there)

  pub read_length : length (gathered geo (entries_in geo words (chain_in geo words))) ≡ sum_by (λ place. occupied_among geo words place (2 * geo.chunks)) (chain_in geo words)
  read_length =
      gathered_length geo (entries_in geo words (chain_in geo words)) (entries_two geo words tidy.two)
      ∙ entries_summed geo segment words (λ place. occupied_among geo words place (2 * geo.chunks)) (chain_in geo words)
      (λ place i. entries_counted geo segment words place tidy.long tidy.rightful (in_to (chain_in geo words) place i))

  -- each slot is that of an entry of the state
  pub read_slot : (place number : ℕ) (slot : Slot) → Contains (chain_in geo words) place → number < 2 * geo.chunks → slot_in geo words place number ≡ Some slot → IsSlotOf geo (state_read geo words) place slot
  read_slot place number slot there below e =
      let at = slot_entry geo segment words place tidy.long (place_low (chain_of_any geo words) place there) (tidy.rightful place there) number slot below e in
      record {
        placed = at.2.placed;
        at = record {
          there = in_to (gathered geo (entries_in geo words (chain_in geo words))) at.2.placed (read_to place number at.2.placed (in_from (chain_in geo words) place there) below at.2.entry_is);
          place_is = at.2.place_is;
        };
        slot_is = same_Some slot (slot_for geo at.2.placed.key at.2.placed.chunk) (sym e ∙ at.2.slot_is);
      }

  -- each entry has one slot
  pub read_once : (placed : Placed) → In placed (gathered geo (entries_in geo words (chain_in geo words))) → IsPointedOnce geo words placed.place placed.key placed.chunk
  read_once placed i =
      let it = read_from placed i in
      (it.number, record { inside = it.below; slot_is = it.slot_is }, λ other points. once it other points)
    where
      clash : (a b : Placed) → a ≡ b → a.key ≢ b.key → ⊥
      clash a b e ne = ne (ap (λ (p : Placed). p.key) e)

      once : (it : IsSlotEntry geo segment words placed) (other : ℕ) → Points geo words placed.place placed.key placed.chunk other → other ≡ it.number
      once it other points = elim (cases_eq other it.number) [
        | inl same ↦ same
        | inr differ ↦
            (let chained = in_to (chain_in geo words) placed.place it.there in
            let at = slot_entry geo segment words placed.place tidy.long (place_low (chain_of_any geo words) placed.place chained) (tidy.rightful placed.place chained) other (slot_for geo placed.key placed.chunk) points.inside points.slot_is in
            let chunk : placed.chunk ≡ at.0 = same_Some placed.chunk at.0 at.1 in
            let is : at.2.placed ≡ placed = same_read geo words at.2.placed placed at.2.place_is (at.2.chunk_is ∙ sym chunk) at.2.stands it.stands in
            absurd (clash at.2.placed placed is (tidy.two placed.place other placed.place it.number at.2.placed placed it.there it.there points.inside it.below at.2.entry_is it.entry_is (inr differ)).keys))
      ]

  -- a chunk is taken by a slot's entry just where it is taken in the state
  pub taken_read : (place chunk : ℕ) → Contains (chain_in geo words) place → is_taken geo words place (2 * geo.chunks) chunk ≡ true → IsTaken geo (state_read geo words) place chunk
  unfolding is_taken
  taken_read place chunk there e =
      let slot = below_found (λ number. has_chunk geo chunk (entry_in geo words place number)) (2 * geo.chunks) e in
      by slot.0 slot.1 (entry_in geo words place slot.0) refl slot.2
    where
      by : (number : ℕ) → number < 2 * geo.chunks → (entry : Option Placed) → entry_in geo words place number ≡ entry → has_chunk geo chunk entry ≡ true → IsTaken geo (state_read geo words) place chunk
      by number below None is has = cc has
      by number below (Some placed) is has =
          let within = run_chunks geo placed chunk has in
          record {
            placed = placed;
            at = record {
              there = in_to (gathered geo (entries_in geo words (chain_in geo words))) placed (read_to place number placed (in_from (chain_in geo words) place there) below is);
              place_is = entry_place geo words place number placed is;
            };
            begun = within.begun;
            not_ended = within.not_ended;
          }

  pub read_taken : (place chunk : ℕ) → IsTaken geo (state_read geo words) place chunk → is_taken geo words place (2 * geo.chunks) chunk ≡ true
  unfolding is_taken
  read_taken place chunk taken =
      let it = read_from taken.placed (in_from (gathered geo (entries_in geo words (chain_in geo words))) taken.placed taken.at.there) in
      let e : entry_in geo words place it.number ≡ Some taken.placed = ap (λ (p : ℕ). entry_in geo words p it.number) (sym taken.at.place_is) ∙ it.entry_is in
      below_some (λ number. has_chunk geo chunk (entry_in geo words place number)) (2 * geo.chunks) it.number it.below
      (ap (has_chunk geo chunk) e ∙ chunks_run geo taken.placed chunk (record { begun = taken.begun; not_ended = taken.not_ended }))
