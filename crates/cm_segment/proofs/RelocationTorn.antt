-- While an entry moves to another run the words are torn: its old slot and its new one may stand together, and one of them does.
use Rattle.std.proofs.Common.{◌≡◌, ◌≢◌, ℕ, ◌+◌, ◌*◌, ◌<◌, ◌≤◌, ◌⊎◌, List, Some, None, Contains, refl, ap, sym, subst, ◌∙◌, inl, inr}
use Rattle.std.proofs.lemmas.Bool.{cases_eq}
use Rattle.std.proofs.lemmas.Option.{same_Some}
use Rattle.cm_geo.specs.declared.geo.Geo.{Geo}
use Rattle.cm_plain.specs.declared.placed.Placed.{Placed}
use Rattle.cm_plain.specs.declared.plan.Run.{Run}
use Rattle.cm_plain.specs.States.{State, chunks_of}
use Rattle.cm_plain.specs.Changes.{Change, after, new_entry}
use Rattle.cm_plain.specs.Slots.{IsPointed, Points, Slot, slot_for, slot_in}
use Rattle.cm_plain.specs.Readings.{Stands}
use Rattle.cm_plain.specs.FoundChains.{chain_of}
use Rattle.cm_plain.specs.Lawful.{Represents}
use Rattle.cm_plain.specs.Torn.{IsChangeEntry, IsPointedInChain, Torn}
use Rattle.cm_plain.proofs.OneState.{in_chain, tier_of}
use Rattle.cm_plain.proofs.OutsideHead.{resting_many, resting_represents}
use Rattle.cm_plain.proofs.States.{is_placed, place_low}
use Rattle.cm_tiers.proofs.Appending.{linked_kept}
use Rattle.cm_segment.specs.Frames.{DiffersAt, IsChunkWord}
use Rattle.cm_segment.specs.PlacementStages.{IsRunWord, PointsToNew}
use Rattle.cm_segment.specs.RelocationStages.{IsMovingWord}
use Rattle.cm_segment.specs.RelocationStages.IsMovingWord.{from, to}
use Rattle.cm_segment.proofs.PlacementBase.{IsBase}
use Rattle.cm_segment.proofs.Frames.{differs_none, link_left}
use Rattle.cm_segment.proofs.UntouchedParts.{stands_left}
use Rattle.cm_segment.proofs.NewSlots.{empty_or_not, here_or_not}
use Rattle.cm_segment.proofs.EntryBefore.{HasOldEntry, begins_apart, slot_chunk}
use Rattle.cm_segment.proofs.PlacementTorn.{placing_apart, placing_no_link, placing_place, placing_torn, writing_placing}
use Rattle.cm_segment.proofs.RemovalTorn.{LosesSlot, index_chunks, index_link, index_place}

-- The entries of other keys keep slots, the key's old entry or its new one has one, and what is in a slot was in one before, or points to the new
-- entry, which stands.
pub record IsMoving (geo : Geo) (state : State) (change : Change) (old run : Run) (base words : List ℕ) : Type 0 where
  pub differs : DiffersAt geo (IsMovingWord geo old.place run) base words
  pub others : (placed : Placed) → Contains state.entries placed → placed.key ≢ change.key → IsPointed geo base placed.place placed.key placed.chunk
      → IsPointed geo words placed.place placed.key placed.chunk
  pub its : IsPointed geo words old.place change.key old.chunk ⊎ IsPointed geo words run.place change.key run.chunk
  pub new : (place number : ℕ) (slot : Slot) → number < 2 * geo.chunks → slot_in geo words place number ≡ Some slot
      → ((other : ℕ) × (other < 2 * geo.chunks) × (slot_in geo base place other ≡ Some slot)) ⊎ PointsToNew geo words change run place slot

-- the old entry among the entries of the base
pub old_in_base : (geo : Geo) (segment : ℕ) (change : Change) (old run : Run) (state mid : State) (base : List ℕ) → IsBase geo segment change run state mid base
    → HasOldEntry geo state change.key old → HasOldEntry geo mid change.key old
old_in_base geo segment change old run state mid base is its =
    let same : (placed : Placed) → Contains mid.entries placed → Contains state.entries placed =
    λ placed there. subst (λ (es : List Placed). Contains es placed) is.entries_are there in
    let there : Contains mid.entries its.old = subst (λ (es : List Placed). Contains es its.old) (sym is.entries_are) its.there in
    record {
      old = its.old;
      there = there;
      key_is = its.key_is;
      run_is = its.run_is;
      chained = subst (λ (r : Run). Contains mid.chain r.place) (sym its.run_is)
          (is_placed (resting_represents geo segment base mid is.rests).is_state its.old there).chained;
      only = λ placed has e. its.only placed (same placed has) e;
      apart = λ placed has differ. its.apart placed (same placed has) differ;
    }

module _ (geo : Geo) (segment : ℕ) (change : Change) (old run : Run) (state mid : State) (base words : List ℕ)
    (is : IsBase geo segment change run state mid base) (its : HasOldEntry geo state change.key old) where
  represents : Represents geo segment base mid
  represents = resting_represents geo segment base mid is.rests

  there_too : (placed : Placed) → Contains state.entries placed → Contains mid.entries placed
  there_too placed there = subst (λ (es : List Placed). Contains es placed) (sym is.entries_are) there

  -- the words on which the entry is placed are torn
  base_torn : Torn geo base state change
  base_torn = placing_torn geo segment change run state mid base base is (writing_placing geo change run base base (differs_none geo (IsRunWord geo run) base))

  old_chained : Contains mid.chain old.place
  old_chained = (old_in_base geo segment change old run state mid base is its).chained

  -- ---- torn

  module _ (moving : IsMoving geo state change old run base words) where
    no_link : (place : ℕ) → IsMovingWord geo old.place run place 0 → ⊥
    no_link place (to word) = placing_no_link geo run place word
    no_link place (from word) = index_link geo old.place place word

    in_base : (place offset : ℕ) → IsMovingWord geo old.place run place offset → Contains mid.chain place
    in_base place offset (to word) = subst (Contains mid.chain) (sym (placing_place geo run place offset word)) is.chained
    in_base place offset (from word) = subst (Contains mid.chain) (sym (index_place geo old.place place offset word)) old_chained

    links : chain_of geo words ≡ chain_of geo base
    links = linked_kept geo base words (λ place low. link_left geo (IsMovingWord geo old.place run) base words place moving.differs (no_link place))

    stand : (placed : Placed) → Contains state.entries placed → Stands geo words placed
    stand placed there =
        let at = is_placed represents.is_state placed (there_too placed there) in
        stands_left geo (IsMovingWord geo old.place run) base words placed (resting_many geo segment base mid is.rests)
        (place_low represents.is_state.chain placed.place at.chained) at.run moving.differs
        (out at.run.inside) (represents.stand placed (there_too placed there))
      where
        out : placed.chunk + chunks_of geo placed ≤ geo.chunks → (offset : ℕ) → IsChunkWord geo placed.chunk (chunks_of geo placed) offset
            → IsMovingWord geo old.place run placed.place offset → ⊥
        out inside offset of (to word) = placing_apart geo run placed (new_entry change run) (is.apart placed there) refl refl is.new.size inside offset of word
        out inside offset of (from word) = index_chunks geo old.place placed.place placed.chunk (chunks_of geo placed) offset of word

    new_stands : (placed : Placed) → placed ≡ new_entry change run → IsPointedInChain geo words placed → Stands geo words placed
    new_stands placed same points = elim
        (moving.new placed.place points.pointed.0 (slot_for geo placed.key placed.chunk) points.pointed.1.inside points.pointed.1.slot_is) [
          | inl was ↦
              let of = (tier_of geo segment base mid placed.place represents (rw links at points.chained)).slots was.0
              (slot_for geo placed.key placed.chunk) was.1 was.2 in
              let chunk : placed.chunk ≡ of.placed.chunk = same_Some placed.chunk of.placed.chunk (ap (λ (s : Slot). s.chunk) of.slot_is) in
              let there : Contains state.entries of.placed = subst (λ (es : List Placed). Contains es of.placed) is.entries_are of.at.there in
              absurd (begins_apart geo of.placed (new_entry change run) (is.apart of.placed there) (of.at.place_is ∙ ap (λ (p : Placed). p.place) same)
              (sym chunk ∙ ap (λ (p : Placed). p.chunk) same))
          | inr new ↦ subst (Stands geo words) (sym same) new.stands
        ]

    pointed : (before later : Placed) → IsChangeEntry state change before → IsChangeEntry (after geo change state) change later
        → IsPointedInChain geo words before ⊎ IsPointedInChain geo words later
    pointed before later at at_later =
        let place : before.place ≡ old.place = ap (λ (p : Placed). p.place) (its.only before at.there at.key_is) ∙ ap (λ (r : Run). r.place) (sym its.run_is) in
        let chunk : before.chunk ≡ old.chunk = ap (λ (p : Placed). p.chunk) (its.only before at.there at.key_is) ∙ ap (λ (r : Run). r.chunk) (sym its.run_is) in
        elim moving.its [
          | inl points ↦ inl (record {
            chained = rw links (in_chain geo segment base mid before represents (there_too before at.there));
            pointed = rw (at.key_is, place, chunk) points;
          })
          | inr points ↦ inr (subst (IsPointedInChain geo words) (sym (is.new.only later at_later))
              (record { chained = rw (links, represents.chain) is.chained; pointed = points }))
        ]

    pub moving_torn : Torn geo words state change
    moving_torn = record {
      others_stand = λ placed other. stand placed other.there;
      others_pointed = λ placed other. moving.others placed other.there other.other (base_torn.others_pointed placed other);
      slots = λ place number seen chained below e. elim (moving.new place number seen below e) [
        | inl was ↦ base_torn.slots place was.0 seen (rw links at chained) was.1 was.2
        | inr new ↦ inr (record { chunk = run.chunk; begins = inr (rw (is.places.run_is, new.place_is) (refl, refl)); slot_is = new.slot_is })
      ];
      old_stands = λ placed at other points. stand placed at.there;
      new_stands = λ placed at apart points. new_stands placed (is.new.only placed at) points;
      pointed = pointed;
      whole = ap (λ l. l.cut) links ∙ base_torn.whole;
      chain = rw links base_torn.chain;
      unlinked = λ place low out offset below.
          moving.differs.others place offset below (λ word. out (rw (links, represents.chain) (in_base place offset word))) ∙ base_torn.unlinked place low
          (λ c. out (rw links c)) offset below;
      between = λ before later in_place at at_later. absurd (is.places.kind_not in_place);
    }

  -- ---- which words are so

  -- a slot of another entry in the old tier is another one
  other_slot : (slot : ℕ) → Points geo base old.place change.key old.chunk slot → (placed : Placed) → Contains state.entries placed → placed.key ≢ change.key
      → (number : ℕ)
      → slot_in geo base placed.place number ≡ Some (slot_for geo placed.key placed.chunk) → placed.place ≡ old.place → number ≢ slot
  other_slot slot points placed there differ number e same it =
      let both : Some (slot_for geo placed.key placed.chunk) ≡ Some (slot_for geo change.key old.chunk) =
      sym e ∙ (ap (λ (p : ℕ). slot_in geo base p number) same ∙ (ap (slot_in geo base old.place) it ∙ points.slot_is)) in
      begins_apart geo placed its.old (its.apart placed there differ) (same ∙ ap (λ (r : Run). r.place) its.run_is)
      (slot_chunk geo placed.key change.key placed.chunk old.chunk both ∙ ap (λ (r : Run). r.chunk) its.run_is)

  -- one slot at a place points to the new entry, and the others are as they were
  new_at : (slot place number : ℕ) (seen : Slot) → slot_in geo words run.place slot ≡ Some (slot_for geo change.key run.chunk)
      → Stands geo words (new_entry change run) → place ≡ run.place → number ≡ slot → slot_in geo words place number ≡ Some seen
      → PointsToNew geo words change run place seen
  new_at slot place number seen here stands same it e = record {
    place_is = same;
    slot_is = same_Some seen (slot_for geo change.key run.chunk)
        (sym e ∙ (ap (λ (p : ℕ). slot_in geo words p number) same ∙ (ap (slot_in geo words run.place) it ∙ here)));
    stands = stands;
  }

  -- in its tier, where the old slot was stored over
  pub turned_moving : (slot : ℕ) → old.place ≡ run.place → Points geo base old.place change.key old.chunk slot
      → DiffersAt geo (IsMovingWord geo old.place run) base words
      → slot_in geo words run.place slot ≡ Some (slot_for geo change.key run.chunk)
      → ((place number : ℕ) → number < 2 * geo.chunks → (place ≡ run.place → number ≢ slot) → slot_in geo words place number ≡ slot_in geo base place number)
      → Stands geo words (new_entry change run) → IsMoving geo state change old run base words
  turned_moving slot place_is points differs here others stands = record {
    differs = differs;
    others = λ placed there differ point. (
      point.0,
      record {
        inside = point.1.inside;
        slot_is = others placed.place point.0 point.1.inside
            (λ same. other_slot slot points placed there differ point.0 point.1.slot_is (same ∙ sym place_is)) ∙ point.1.slot_is;
      },
    );
    its = inr (slot, record { inside = points.inside; slot_is = here });
    new = λ place number seen below e. elim (here_or_not run.place slot place number) [
      | inl at ↦ inr (new_at slot place number seen here stands at.0 at.1 e)
      | inr other ↦ inl (number, below, sym (others place number below other) ∙ e)
    ];
  }

  -- to another tier, while the old tier loses the old slot
  pub shifted_moving : (slot goal : ℕ) → old.place ≢ run.place → Points geo base old.place change.key old.chunk slot
      → DiffersAt geo (IsMovingWord geo old.place run) base words
      → goal < 2 * geo.chunks → slot_in geo base run.place goal ≡ None → slot_in geo words run.place goal ≡ Some (slot_for geo change.key run.chunk)
      → ((place number : ℕ) → number < 2 * geo.chunks → place ≢ old.place → (place ≡ run.place → number ≢ goal) → slot_in geo words place number
      ≡ slot_in geo base place number)
      → LosesSlot geo old.place slot base words → Stands geo words (new_entry change run) → IsMoving geo state change old run base words
  shifted_moving slot goal apart points differs inside empty here others loses stands = record {
    differs = differs;
    others = λ placed there differ point. elim (cases_eq placed.place old.place) [
      | inl same ↦
          let in_old : slot_in geo base old.place point.0 ≡ Some (slot_for geo placed.key placed.chunk) =
          subst (λ (p : ℕ). slot_in geo base p point.0 ≡ Some (slot_for geo placed.key placed.chunk)) same point.1.slot_is in
          let still = loses.still point.0 (slot_for geo placed.key placed.chunk) point.1.inside
          (other_slot slot points placed there differ point.0 point.1.slot_is same) in_old in (
            still.0,
            record {
              inside = still.1;
              slot_is = subst (λ (p : ℕ). slot_in geo words p still.0 ≡ Some (slot_for geo placed.key placed.chunk))
                  (sym same) still.2;
            },
          )
      | inr elsewhere ↦ (
        point.0,
        record {
          inside = point.1.inside;
          slot_is = others placed.place point.0 point.1.inside
              elsewhere (λ same it. not_empty placed point.0 same it point.1.slot_is) ∙ point.1.slot_is;
        },
      )
    ];
    its = inr (goal, record { inside = inside; slot_is = here });
    new = λ place number seen below e. elim (cases_eq place old.place) [
      | inl same ↦
          let was = loses.stood number seen below (subst (λ (p : ℕ). slot_in geo words p number ≡ Some seen) same e) in
          inl (was.0, was.1, subst (λ (p : ℕ). slot_in geo base p was.0 ≡ Some seen) (sym same) was.2)
      | inr elsewhere ↦ elim (here_or_not run.place goal place number) [
        | inl at ↦ inr (new_at goal place number seen here stands at.0 at.1 e)
        | inr other ↦ inl (number, below, sym (others place number below elsewhere other) ∙ e)
      ]
    ];
  }
    where
      not_empty : (placed : Placed) (number : ℕ) → placed.place ≡ run.place → number ≡ goal
          → slot_in geo base placed.place number ≡ Some (slot_for geo placed.key placed.chunk) → ⊥
      not_empty placed number same it e =
          empty_or_not (slot_for geo placed.key placed.chunk)
          (sym empty ∙ (ap (slot_in geo base run.place) (sym it) ∙ (ap (λ (p : ℕ). slot_in geo base p number) (sym same) ∙ e)))
