-- While an entry is removed the words are torn.
use Rattle.std.proofs.Common.{◌≡◌, ◌≢◌, ℕ, ◌+◌, ◌*◌, ◌/◌, ◌<◌, ◌≤◌, List, Some, Contains, ap, sym, subst, ◌∙◌, inl, inr, arith}
use Rattle.std.proofs.lemmas.Bool.{cases_eq}
use Rattle.cm_geo.specs.declared.geo.Geo.{Geo}
use Rattle.cm_geo.specs.Addresses.{slot_at, tier_at, words_in_tier}
use Rattle.cm_geo.proofs.AddressesApart.{same_offset}
use Rattle.cm_geo.proofs.AddressOrder.{slots_behind_head, tier_behind_head}
use Rattle.cm_plain.specs.declared.placed.Placed.{Placed}
use Rattle.cm_plain.specs.declared.plan.Run.{Run}
use Rattle.cm_plain.specs.States.{State, chunks_of}
use Rattle.cm_plain.specs.Changes.{Change, after, without}
use Rattle.cm_plain.specs.Slots.{IsPointed, Points, Slot, slot_for, slot_in}
use Rattle.cm_plain.specs.Readings.{Stands}
use Rattle.cm_plain.specs.FoundChains.{IsZero, chain_of}
use Rattle.cm_plain.specs.Lawful.{Represents}
use Rattle.cm_plain.specs.Torn.{IsChangeEntry, IsOtherEntry, Torn}
use Rattle.cm_plain.proofs.ListElements.{In, in_from, in_has}
use Rattle.cm_plain.proofs.OutsideHead.{resting_many, resting_represents}
use Rattle.cm_plain.proofs.Placements.{keys_differ}
use Rattle.cm_plain.proofs.RestingTorn.{resting_torn}
use Rattle.cm_plain.proofs.States.{is_placed, place_low}
use Rattle.cm_tiers.proofs.Appending.{linked_kept}
use Rattle.cm_lookup.proofs.PartialShift.{IsMidway}
use Rattle.cm_segment.specs.Frames.{DiffersAt, IsChunkWord}
use Rattle.cm_segment.specs.Phases.{IsStart}
use Rattle.cm_segment.specs.RemovalStages.{HasLostSlot, IsIndexWord, IsRemoval}
use Rattle.cm_segment.specs.RemovalStages.IsIndexWord.{bits, count, slots}
use Rattle.cm_segment.proofs.Frames.{link_left, slot_left}
use Rattle.cm_segment.proofs.UntouchedParts.{stands_left}
use Rattle.cm_segment.proofs.EntryBefore.{HasOldEntry, begins_apart, old_entry, slot_chunk}

-- ---- the index of a tier

-- no link is in it, nor the rest of a head
pub index_link : (geo : Geo) (index place : ℕ) → IsIndexWord geo index place 0 → ⊥
index_link geo index place (count p is) = omega arith
index_link geo index place (bits p is) = omega (arith, is.from)
index_link geo index place (slots p slot below is) = omega arith

pub index_head : (geo : Geo) (index place offset : ℕ) → 2 ≤ offset → offset < 4 → IsIndexWord geo index place offset → ⊥
index_head geo index place offset h k (count p is) = omega arith
index_head geo index place offset h k (bits p is) = omega (arith, is.from)
index_head geo index place offset h k (slots p slot below is) = omega arith

-- it is that of one tier
pub index_place : (geo : Geo) (index place offset : ℕ) → IsIndexWord geo index place offset → place ≡ index
index_place geo index place offset (count p is) = p
index_place geo index place offset (bits p is) = p
index_place geo index place offset (slots p slot below is) = p

-- and no word of a chunk
pub index_chunks : (geo : Geo) (index place chunk chunks offset : ℕ) → IsChunkWord geo chunk chunks offset → IsIndexWord geo index place offset → ⊥
index_chunks geo index place chunk chunks offset of (count p is) = omega (arith, of.from)
index_chunks geo index place chunk chunks offset of (bits p is) = omega (arith, of.from, is.to)
index_chunks geo index place chunk chunks offset of (slots p slot below is) = omega (arith, of.from)

-- ---- a slot is lost

-- while a tier loses a slot: each other one still stands there, and what stands there stood there before
pub record LosesSlot (geo : Geo) (place slot : ℕ) (start words : List ℕ) : Type 0 where
  pub still : (number : ℕ) (seen : Slot) → number < 2 * geo.chunks → number ≢ slot → slot_in geo start place number ≡ Some seen
      → (other : ℕ) × (other < 2 * geo.chunks) × (slot_in geo words place other ≡ Some seen)
  pub stood : (number : ℕ) (seen : Slot) → number < 2 * geo.chunks → slot_in geo words place number ≡ Some seen
      → (other : ℕ) × (other < 2 * geo.chunks) × (slot_in geo start place other ≡ Some seen)

-- so it is when it has lost it
pub lost_loses : (geo : Geo) (place slot : ℕ) (start words : List ℕ) → HasLostSlot geo place slot start words → LosesSlot geo place slot start words
lost_loses geo place slot start words lost =
    record { still = lost.still; stood = λ number seen below e. (let was = lost.stood number seen below e in (was.0, was.1, was.3)) }

-- nothing but slots has changed while a slot is removed
pub midway_differs : (geo : Geo) (place slot : ℕ) (start words : List ℕ) → IsMidway geo start words place slot
    → DiffersAt geo (IsIndexWord geo place) start words
unfolding slot_at words_in_tier
midway_differs geo place slot start words midway = record {
  length_is = midway.length_is;
  fourth = midway.left 3 (λ number below. behind number (slots_behind_head geo place number) (tier_behind_head geo place));
  others = λ q i below out. midway.left (tier_at geo q + i) (λ number number_below same.
      (let both = same_offset geo q place i (4 + geo.chunks / 64 + number) below (omega arith) (omega arith) in out (slots both.0 number number_below both.1)));
}
  where
    behind : (number : ℕ) → tier_at geo place + 4 ≤ slot_at geo place number → 4 ≤ tier_at geo place → 3 ≢ slot_at geo place number
    behind number h k = λ e. absurd (omega arith)

-- ---- torn

-- while an entry is removed: the slot pointed to it, nothing but the index of its tier has changed, and that tier loses the slot
pub record IsBeingRemoved (geo : Geo) (change : Change) (run : Run) (slot : ℕ) (start words : List ℕ) : Type 0 where
  pub points : Points geo start run.place change.key run.chunk slot
  pub differs : DiffersAt geo (IsIndexWord geo run.place) start words
  pub loses : LosesSlot geo run.place slot start words

module _ (geo : Geo) (segment : ℕ) (state : State) (change : Change) (run : Run) (slot : ℕ) (start words : List ℕ)
    (is : IsStart geo segment change start state) (removal : IsRemoval geo change run slot) (removing : IsBeingRemoved geo change run slot start words) where
  represents : Represents geo segment start state
  represents = resting_represents geo segment start state is.rests

  first : Torn geo start state change
  first = resting_torn geo segment start state change.op change is.rests is.planned

  its : HasOldEntry geo state change.key run
  its = old_entry geo segment start state change run is removal.old_is

  links : chain_of geo words ≡ chain_of geo start
  links = linked_kept geo start words
      (λ place low. link_left geo (IsIndexWord geo run.place) start words place removing.differs (index_link geo run.place place))

  stand : (placed : Placed) → Contains state.entries placed → Stands geo words placed
  stand placed there =
      let at = is_placed represents.is_state placed there in
      stands_left geo (IsIndexWord geo run.place) start words placed (resting_many geo segment start state is.rests)
      (place_low represents.is_state.chain placed.place at.chained) at.run removing.differs
      (λ i of index. index_chunks geo run.place placed.place placed.chunk (chunks_of geo placed) i of index) (represents.stand placed there)

  same_slot : (place number : ℕ) → number < 2 * geo.chunks → place ≢ run.place → slot_in geo words place number ≡ slot_in geo start place number
  same_slot place number below differ =
      slot_left geo (IsIndexWord geo run.place) start words place number removing.differs below (λ index. differ (index_place geo run.place place _ index))

  -- the slot of another entry is another one
  pointed : (placed : Placed) → IsOtherEntry state change placed → IsPointed geo start placed.place placed.key placed.chunk
      → IsPointed geo words placed.place placed.key placed.chunk
  pointed placed other point = elim (cases_eq placed.place run.place) [
    | inl same ↦
        let here : slot_in geo start run.place point.0 ≡ Some (slot_for geo placed.key placed.chunk) =
        subst (λ (p : ℕ). slot_in geo start p point.0 ≡ Some (slot_for geo placed.key placed.chunk)) same point.1.slot_is in
        let at_old : run.place ≡ its.old.place = ap (λ (r : Run). r.place) its.run_is in
        let from_old : run.chunk ≡ its.old.chunk = ap (λ (r : Run). r.chunk) its.run_is in
        let apart : point.0 ≢ slot = λ e.
        (let both : Some (slot_for geo placed.key placed.chunk) ≡ Some (slot_for geo change.key run.chunk) = sym here
        ∙ (ap (slot_in geo start run.place) e ∙ removing.points.slot_is) in
        begins_apart geo placed its.old (its.apart placed other.there other.other) (same ∙ at_old)
        (slot_chunk geo placed.key change.key placed.chunk run.chunk both ∙ from_old)) in
        let still = removing.loses.still point.0 (slot_for geo placed.key placed.chunk) point.1.inside apart here in (
          still.0,
          record {
            inside = still.1;
            slot_is = subst (λ (p : ℕ). slot_in geo words p still.0 ≡ Some (slot_for geo placed.key placed.chunk))
                (sym same) still.2;
          },
        )
    | inr differ ↦ (point.0, record { inside = point.1.inside; slot_is = same_slot placed.place point.0 point.1.inside differ ∙ point.1.slot_is })
  ]

  zero : (place : ℕ) → place < geo.tiers → (Contains (chain_of geo start).places place → ⊥) → IsZero geo words place
  zero place low out offset below =
      removing.differs.others place offset below
      (λ index. out (rw represents.chain (subst (Contains state.chain) (sym (index_place geo run.place place offset index)) its.chained)))
      ∙ represents.unlinked place low (λ c. out (rw represents.chain c)) offset below

  -- after a removal the key has no entry
  gone : (placed : Placed) → IsChangeEntry (after geo change state) change placed → ⊥
  gone placed at =
      let there : In placed (without change.key state.entries) = rw removal.new_is at (in_from (after geo change state).entries placed at.there) in
      in_has (λ other. other.key ≢ change.key) (without change.key state.entries) placed (keys_differ change.key state.entries) there at.key_is

  pub removal_torn : Torn geo words state change
  removal_torn = record {
    others_stand = λ placed other. stand placed other.there;
    others_pointed = λ placed other. pointed placed other (first.others_pointed placed other);
    slots = λ place number seen chained below e. elim (cases_eq place run.place) [
      | inl same ↦
          let was = removing.loses.stood number seen below (subst (λ (p : ℕ). slot_in geo words p number ≡ Some seen) same e) in
          first.slots place was.0 seen (rw links at chained) was.1 (subst (λ (p : ℕ). slot_in geo start p was.0 ≡ Some seen) (sym same) was.2)
      | inr differ ↦ first.slots place number seen (rw links at chained) below (sym (same_slot place number below differ) ∙ e)
    ];
    old_stands = λ placed at other points. stand placed at.there;
    new_stands = λ placed at apart points. absurd (gone placed at);
    pointed = λ before later at at_later. absurd (gone later at_later);
    whole = ap (λ l. l.cut) links ∙ represents.whole;
    chain = inl (ap (λ l. l.places) links ∙ represents.chain);
    unlinked = λ place low out. zero place low (λ c. out (rw links c));
    between = λ before later in_place at at_later. absurd (gone later at_later);
  }
