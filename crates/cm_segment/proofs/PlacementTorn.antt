-- While an entry is placed in a free run the words are torn.
use Rattle.std.proofs.Common.{◌≡◌, ℕ, ◌+◌, ◌*◌, ◌/◌, ◌<◌, ◌≤◌, ◌⊎◌, List, Some, Contains, refl, ap, sym, subst, ◌∙◌, inl, inr, arith}
use Rattle.std.proofs.lemmas.Option.{same_Some}
use Rattle.cm_geo.specs.declared.geo.Geo.{Geo}
use Rattle.cm_geo.proofs.AddressOrder.{rows_in_order}
use Rattle.cm_plain.specs.declared.placed.Placed.{Placed}
use Rattle.cm_plain.specs.declared.plan.Run.{Run}
use Rattle.cm_plain.specs.States.{State, chunks_of}
use Rattle.cm_plain.specs.Changes.{Change, new_entry}
use Rattle.cm_plain.specs.Slots.{IsPointed, Slot, slot_for, slot_in}
use Rattle.cm_plain.specs.Readings.{Stands}
use Rattle.cm_plain.specs.FoundChains.{chain_of}
use Rattle.cm_plain.specs.Lawful.{IsSlotOf, Represents}
use Rattle.cm_plain.specs.Torn.{BeginsAt, IsChangeSlot, IsOtherSlot, IsPointedInChain, Torn}
use Rattle.cm_plain.proofs.Apart.{IsApart}
use Rattle.cm_plain.proofs.Keys.{key_tells}
use Rattle.cm_plain.proofs.OutsideHead.{resting_many, resting_represents}
use Rattle.cm_plain.proofs.OneState.{in_chain, tier_of}
use Rattle.cm_plain.proofs.Planned.{begins_old}
use Rattle.cm_plain.proofs.States.{is_placed, place_low}
use Rattle.cm_tiers.proofs.Appending.{linked_kept}
use Rattle.cm_segment.specs.PlacementBase.{FromBase, PlacesElsewhere, base_state, base_words}
use Rattle.cm_segment.specs.Frames.{DiffersAt, IsChunkWord}
use Rattle.cm_segment.specs.Phases.{IsTornFor, IsUntouched}
use Rattle.cm_segment.specs.PlacementStages.{IsPlacing, IsPlacingWord, IsRunWord, IsWriting}
use Rattle.cm_segment.specs.PlacementStages.IsPlacingWord.{of_run, slots}
use Rattle.cm_segment.specs.PlacementStages.IsRunWord.{bits, chunks, count}
use Rattle.cm_segment.proofs.PlacementBase.{IsBase, base_is}
use Rattle.cm_segment.proofs.Frames.{differs_none, differs_weaker, link_left, slot_left}
use Rattle.cm_segment.proofs.UntouchedParts.{stands_left}
use Rattle.cm_segment.proofs.Phases.{LeadsTo}
use Rattle.cm_segment.proofs.EntryBefore.{begins_apart}

-- no slot is a word of a run
run_word_no_slot : (geo : Geo) (run : Run) (q slot : ℕ) → slot < 2 * geo.chunks → IsRunWord geo run q (4 + geo.chunks / 64 + slot) → ⊥
run_word_no_slot geo run q slot below (count p is) = omega arith
run_word_no_slot geo run q slot below (bits p is) = omega (arith, is.to)
run_word_no_slot geo run q slot below (chunks p is) = omega (arith, is.from)

pub writing_slots : (geo : Geo) (run : Run) (start words : List ℕ) (q number : ℕ) → IsWriting geo run start words → number < 2 * geo.chunks
    → slot_in geo words q number ≡ slot_in geo start q number
writing_slots geo run start words q number left below =
    slot_left geo (IsRunWord geo run) start words q number left below (run_word_no_slot geo run q number below)

-- an entry that is written, with no slot, is placed
pub writing_placing : (geo : Geo) (change : Change) (run : Run) (start words : List ℕ) → IsWriting geo run start words → IsPlacing geo change run start words
writing_placing geo change run start words left = record {
  differs = differs_weaker geo (IsRunWord geo run) (IsPlacingWord geo run) start words (λ q i h. of_run h) left;
  stay = λ q number slot below is. writing_slots geo run start words q number left below ∙ is;
  new = λ q number slot below is. inl (sym (writing_slots geo run start words q number left below) ∙ is);
}

-- ---- what is not touched: links, other tiers and other runs

pub placing_no_link : (geo : Geo) (run : Run) (q : ℕ) → IsPlacingWord geo run q 0 → ⊥
placing_no_link geo run q (of_run (count p is)) = omega arith
placing_no_link geo run q (of_run (bits p is)) = omega (arith, is.from)
placing_no_link geo run q (of_run (chunks p is)) = omega (arith, is.from)
placing_no_link geo run q (slots p slot below is) = omega arith

pub placing_place : (geo : Geo) (run : Run) (q i : ℕ) → IsPlacingWord geo run q i → q ≡ run.place
placing_place geo run q i (of_run (count p is)) = p
placing_place geo run q i (of_run (bits p is)) = p
placing_place geo run q i (of_run (chunks p is)) = p
placing_place geo run q i (slots p slot below is) = p

-- no word of another run is touched
pub placing_apart : (geo : Geo) (run : Run) (placed new : Placed) → IsApart geo placed new → new.place ≡ run.place → new.chunk ≡ run.chunk
    → run.chunks ≡ chunks_of geo new → placed.chunk + chunks_of geo placed ≤ geo.chunks
    → (i : ℕ) → IsChunkWord geo placed.chunk (chunks_of geo placed) i → IsPlacingWord geo run placed.place i → ⊥
placing_apart geo run placed new apart place chunk size inside i is word = by (placing_place geo run placed.place i word) word
  where
    on : (p : ℕ) → p ≡ run.place
        → (p * geo.chunks + placed.chunk + chunks_of geo placed ≤ run.place * geo.chunks + run.chunk) ⊎
        (run.place * geo.chunks + run.chunk + run.chunks ≤ p * geo.chunks + placed.chunk)
        → (placed.chunk + chunks_of geo placed ≤ run.chunk) ⊎ (run.chunk + run.chunks ≤ placed.chunk)
    on p e (inl h) = inl (low (subst (λ (k : ℕ). k * geo.chunks + placed.chunk + chunks_of geo placed ≤ run.place * geo.chunks + run.chunk) e h))
      where
        low : run.place * geo.chunks + placed.chunk + chunks_of geo placed ≤ run.place * geo.chunks + run.chunk
            → placed.chunk + chunks_of geo placed ≤ run.chunk
        low h = omega arith
    on p e (inr h) = inr (high (subst (λ (k : ℕ). run.place * geo.chunks + run.chunk + run.chunks ≤ k * geo.chunks + placed.chunk) e h))
      where
        high : run.place * geo.chunks + run.chunk + run.chunks ≤ run.place * geo.chunks + placed.chunk → run.chunk + run.chunks ≤ placed.chunk
        high h = omega arith

    as_numbers : IsApart geo placed new
        → (placed.place * geo.chunks + placed.chunk + chunks_of geo placed ≤ run.place * geo.chunks + run.chunk) ⊎
        (run.place * geo.chunks + run.chunk + run.chunks ≤ placed.place * geo.chunks + placed.chunk)
    as_numbers h = rw (size, ← place, ← chunk) h

    apart_rows : (a n b m : ℕ) → (a + n ≤ b) ⊎ (b + m ≤ a) → IsChunkWord geo a n i → IsChunkWord geo b m i → ⊥
    apart_rows a n b m (inl h) p q = (let rows = rows_in_order 0 geo.chunk_words (a + n) b (omega arith) in omega (arith, p.to, q.from, rows))
    apart_rows a n b m (inr h) p q = (let rows = rows_in_order 0 geo.chunk_words (b + m) a (omega arith) in omega (arith, q.to, p.from, rows))

    by : placed.place ≡ run.place → IsPlacingWord geo run placed.place i → ⊥
    by e (of_run (count p k)) = omega (arith, is.from)
    by e (of_run (bits p k)) = omega (arith, is.from, k.to)
    by e (of_run (chunks p k)) = apart_rows placed.chunk (chunks_of geo placed) run.chunk run.chunks (on placed.place e (as_numbers apart)) is k
    by e (slots p slot below k) = omega (arith, is.from)

-- ---- torn

module _ (geo : Geo) (segment : ℕ) (change : Change) (run : Run) (state mid : State) (base words : List ℕ) (is : IsBase geo segment change run state mid base)
    (placing : IsPlacing geo change run base words) where
  represents : Represents geo segment base mid
  represents = resting_represents geo segment base mid is.rests

  links : chain_of geo words ≡ chain_of geo base
  links = linked_kept geo base words (λ place low. link_left geo (IsPlacingWord geo run) base words place placing.differs (placing_no_link geo run place))

  there_too : (placed : Placed) → Contains state.entries placed → Contains mid.entries placed
  there_too placed there = subst (λ (es : List Placed). Contains es placed) (sym is.entries_are) there

  was_there : (placed : Placed) → Contains mid.entries placed → Contains state.entries placed
  was_there placed there = subst (λ (es : List Placed). Contains es placed) is.entries_are there

  -- each entry of the state stands, and a slot points to it
  stand : (placed : Placed) → Contains state.entries placed → Stands geo words placed
  stand placed there =
      let at = is_placed represents.is_state placed (there_too placed there) in
      stands_left geo (IsPlacingWord geo run) base words placed (resting_many geo segment base mid is.rests)
      (place_low represents.is_state.chain placed.place at.chained) at.run placing.differs
      (placing_apart geo run placed (new_entry change run) (is.apart placed there) refl refl is.new.size at.run.inside)
      (represents.stand placed (there_too placed there))

  point : (placed : Placed) → Contains state.entries placed → IsPointed geo words placed.place placed.key placed.chunk
  point placed there =
      let once = represents.pointed placed (there_too placed there) in (
        once.0,
        record {
          inside = once.1.inside;
          slot_is = placing.stay placed.place once.0
              (slot_for geo placed.key placed.chunk) once.1.inside once.1.slot_is;
        },
      )

  in_a_tier : (placed : Placed) → Contains state.entries placed → Contains (chain_of geo words).places placed.place
  in_a_tier placed there = rw links (in_chain geo segment base mid placed represents (there_too placed there))

  -- a slot that was there is that of an entry of the state
  slot_of : (place number : ℕ) (slot : Slot) → Contains (chain_of geo words).places place → number < 2 * geo.chunks → slot_in geo base place number ≡ Some slot
      → IsSlotOf geo mid place slot
  slot_of place number slot chained below e = (tier_of geo segment base mid place represents (rw links at chained)).slots number slot below e

  slot_was : (place : ℕ) (slot : Slot) → IsSlotOf geo mid place slot → IsOtherSlot geo state change place slot ⊎ IsChangeSlot geo change place slot
  slot_was place slot of = elim (key_tells of.placed.key change.key) [
    | inl same ↦ inr (record {
      chunk = of.placed.chunk;
      begins = inl (subst (λ (p : ℕ). BeginsAt change.old_run p of.placed.chunk) of.at.place_is
          (begins_old geo segment state change.op change of.placed is.planned.is_state is.planned (was_there of.placed of.at.there) same.1));
      slot_is = of.slot_is ∙ ap (λ (k : List ℕ). slot_for geo k of.placed.chunk) same.1;
    })
    | inr other ↦ inl (record {
      placed = of.placed;
      is_other = record { there = was_there of.placed of.at.there; other = other.1 };
      place_is = of.at.place_is;
      slot_is = of.slot_is;
    })
  ]

  new_stands : (placed : Placed) → placed ≡ new_entry change run → IsPointedInChain geo words placed → Stands geo words placed
  new_stands placed same points =
      elim (placing.new placed.place points.pointed.0 (slot_for geo placed.key placed.chunk) points.pointed.1.inside points.pointed.1.slot_is) [
        | inl was ↦
            let of = slot_of placed.place points.pointed.0 (slot_for geo placed.key placed.chunk) points.chained points.pointed.1.inside was in
            let chunk : placed.chunk ≡ of.placed.chunk = same_Some placed.chunk of.placed.chunk (ap (λ (s : Slot). s.chunk) of.slot_is) in
            absurd (begins_apart geo of.placed (new_entry change run) (is.apart of.placed (was_there of.placed of.at.there))
            (of.at.place_is ∙ ap (λ (p : Placed). p.place) same) (sym chunk ∙ ap (λ (p : Placed). p.chunk) same))
        | inr new ↦ subst (Stands geo words) (sym same) new.stands
      ]

  pub placing_torn : Torn geo words state change
  placing_torn = record {
    others_stand = λ placed it. stand placed it.there;
    others_pointed = λ placed it. point placed it.there;
    slots = λ place number slot chained below e. elim (placing.new place number slot below e) [
      | inl was ↦ slot_was place slot (slot_of place number slot chained below was)
      | inr new ↦ inr (record { chunk = run.chunk; begins = inr (rw (is.places.run_is, new.place_is) (refl, refl)); slot_is = new.slot_is })
    ];
    old_stands = λ placed it other points. stand placed it.there;
    new_stands = λ placed it apart points. new_stands placed (is.new.only placed it) points;
    pointed = λ old later is_old is_new. inl (record { chained = in_a_tier old is_old.there; pointed = point old is_old.there });
    whole = ap (λ l. l.cut) links ∙ represents.whole;
    chain = elim is.chain_is [
      | inl same ↦ inl (ap (λ l. l.places) links ∙ (represents.chain ∙ same))
      | inr linked ↦ inr (ap (λ l. l.places) links ∙ (represents.chain ∙ linked))
    ];
    unlinked = λ place low out offset below.
        let not_chained : Contains mid.chain place → ⊥ = λ c. out (rw (links, represents.chain) c) in
        placing.differs.others place offset below (λ word. not_chained (subst (Contains mid.chain) (sym (placing_place geo run place offset word)) is.chained))
        ∙ represents.unlinked place low not_chained offset below;
    between = λ old later in_place is_old is_new. absurd (is.places.kind_not in_place);
  }

-- ---- as phases

pub placing_is_torn : (geo : Geo) (segment : ℕ) (change : Change) (run : Run) → PlacesElsewhere geo change run
    → LeadsTo geo segment change (FromBase geo change run (λ _. IsPlacing geo change run)) (IsTornFor geo change) (λ words. words)
placing_is_torn geo segment change run places state start words long is placing =
    placing_torn geo segment change run state (base_state change run state) (base_words geo change run state start) words
    (base_is geo segment state change run start is places) placing

pub writing_is_torn : (geo : Geo) (segment : ℕ) (change : Change) (run : Run) → PlacesElsewhere geo change run
    → LeadsTo geo segment change (FromBase geo change run (λ _. IsWriting geo run)) (IsTornFor geo change) (λ words. words)
writing_is_torn geo segment change run places state start words long is writing =
    placing_is_torn geo segment change run places state start words long is
    (writing_placing geo change run (base_words geo change run state start) words writing)

pub untouched_is_torn : (geo : Geo) (segment : ℕ) (change : Change) (run : Run) → PlacesElsewhere geo change run
    → LeadsTo geo segment change (FromBase geo change run IsUntouched) (IsTornFor geo change) (λ words. words)
untouched_is_torn geo segment change run places state start words long is same =
    writing_is_torn geo segment change run places state start words long is
    (subst (λ (w : List ℕ). DiffersAt geo (IsRunWord geo run) w words) same (differs_none geo (IsRunWord geo run) words))
