-- Words that rest for a state are torn for each change that is planned for it.
use Rattle.std.proofs.Common.{◌≡◌, ◌≢◌, ℕ, ◌*◌, ◌<◌, ◌⊎◌, false, not, Some, List, Contains, length, refl, ap, sym, subst, ◌∙◌, inl, inr}
use Rattle.std.specs.Str.{bytes_eq}
use Rattle.std.proofs.lemmas.Bool.{not_from_false}
use Rattle.std.proofs.lemmas.List.Elements.{All-contains}
use Rattle.std.proofs.lemmas.Option.{same_Some}
use Rattle.cm_geo.specs.declared.geo.Geo.{Geo}
use Rattle.cm_geo.specs.Addresses.{words_in_segment}
use Rattle.cm_geo.specs.Need.{Fits, need}
use Rattle.cm_plain.specs.declared.op.Op.{Op}
use Rattle.cm_plain.specs.declared.placed.Placed.{Placed}
use Rattle.cm_plain.specs.States.{State, run_start}
use Rattle.cm_plain.specs.Rooms.{room_for}
use Rattle.cm_plain.specs.Changes.{Change, after, entry_at, without}
use Rattle.cm_plain.specs.Steps.{Plans}
use Rattle.cm_plain.specs.Slots.{Slot, slot_for, slot_in}
use Rattle.cm_plain.specs.Readings.{Stands}
use Rattle.cm_plain.specs.FoundChains.{chain_of}
use Rattle.cm_plain.specs.Lawful.{IsSlotOf, Resting, Represents}
use Rattle.cm_plain.specs.Torn.{BeginsAt, IsBetween, IsChangeEntry, IsChangeSlot, IsOtherSlot, IsPointedInChain, Torn}
use Rattle.cm_plain.proofs.Apart.{start_same}
use Rattle.cm_plain.proofs.EntryWords.{has_words}
use Rattle.cm_plain.proofs.Keys.{key_tells}
use Rattle.cm_plain.proofs.ListElements.{In, in_from, in_kept_to, in_to}
use Rattle.cm_plain.proofs.OneState.{in_chain, tier_of}
use Rattle.cm_plain.proofs.OutsideHead.{resting_many, resting_represents}
use Rattle.cm_plain.proofs.Placements.{starts_apart}
use Rattle.cm_plain.proofs.Planned.{begins_old, in_room}
use Rattle.cm_plain.proofs.States.{is_placed, place_low}

-- each slot is another entry's or the change's
slots_are : (geo : Geo) (segment : ℕ) (words : List ℕ) (state : State) (op : Op) (change : Change) → Represents geo segment words state → Plans geo segment state op change
    → (place number : ℕ) (slot : Slot) → Contains (chain_of geo words).places place → number < 2 * geo.chunks → slot_in geo words place number ≡ Some slot
    → IsOtherSlot geo state change place slot ⊎ IsChangeSlot geo change place slot
slots_are geo segment words state op change tells plans place number slot chained inside e =
    let of : IsSlotOf geo state place slot = (tier_of geo segment words state place tells chained).slots number slot inside e in
    elim (key_tells of.placed.key change.key) [
      | inl same ↦ inr (record {
        chunk = of.placed.chunk;
        begins = inl (subst (λ (p : ℕ). BeginsAt change.old_run p of.placed.chunk) of.at.place_is (begins_old geo segment state op change of.placed tells.is_state plans of.at.there same.1));
        slot_is = of.slot_is ∙ ap (λ (k : List ℕ). slot_for geo k of.placed.chunk) same.1;
      })
      | inr other ↦ inl (record { placed = of.placed; is_other = record { there = of.at.there; other = other.1 }; place_is = of.at.place_is; slot_is = of.slot_is })
    ]

-- a slot that points to the place of the new entry, apart from the old one, there is none: that place is in no run
pub never_new : (geo : Geo) (segment : ℕ) (words : List ℕ) (state : State) (op : Op) (change : Change) (placed : Placed) → Represents geo segment words state → Plans geo segment state op change
    → IsChangeEntry (after geo change state) change placed → (BeginsAt change.old_run placed.place placed.chunk → ⊥) → IsPointedInChain geo words placed → ⊥
never_new geo segment words state op change placed tells plans is apart points =
    let point = points.pointed in
    let of : IsSlotOf geo state placed.place (slot_for geo placed.key placed.chunk) =
    (tier_of geo segment words state placed.place tells points.chained).slots point.0 (slot_for geo placed.key placed.chunk) point.1.inside point.1.slot_is in
    let chunk : placed.chunk ≡ of.placed.chunk = same_Some placed.chunk of.placed.chunk (ap (λ (s : Slot). s.chunk) of.slot_is) in
    elim (key_tells of.placed.key change.key) [
      | inl same ↦ apart (at_both placed of.placed of.at.place_is chunk (begins_old geo segment state op change of.placed tells.is_state plans of.at.there same.1))
      | inr other ↦ meets of.placed (in_from state.entries of.placed of.at.there) other.0 of.at.place_is chunk
    ]
  where
    at_both : (placed stood : Placed) → stood.place ≡ placed.place → placed.chunk ≡ stood.chunk → BeginsAt change.old_run stood.place stood.chunk → BeginsAt change.old_run placed.place placed.chunk
    at_both placed stood place chunk h = subst (λ (c : ℕ). BeginsAt change.old_run placed.place c) (sym chunk) (subst (λ (p : ℕ). BeginsAt change.old_run p stood.chunk) place h)

    meets : (stood : Placed) → In stood state.entries → bytes_eq stood.key change.key ≡ false → stood.place ≡ placed.place → placed.chunk ≡ stood.chunk → ⊥
    meets stood i other place chunk =
        let new = in_room geo segment state op change placed plans is.there is.key_is in
        let fits' = (is_placed plans.leads placed is.there).run.fits in
        let fits : Fits geo (length change.key) (length new.value) = subst (λ (p : Placed). Fits geo (length p.key) (length p.value)) new.placed_is fits' in
        let starts = starts_apart geo segment state change.key new.value new.spot tells.is_state fits (room_for geo state change.key (need geo (length change.key) (length new.value))) refl new.spot_is in
        let kept : In stood (without change.key state.entries) = in_kept_to (λ entry. not (bytes_eq entry.key change.key)) state.entries stood i (not_from_false (bytes_eq stood.key change.key) other) in
        All-contains (λ other. run_start geo other ≢ run_start geo (entry_at change.key new.value new.spot.place new.spot.chunk)) (without change.key state.entries) stood starts (in_to (without change.key state.entries) stood kept)
        (start_same geo stood placed place (sym chunk) ∙ ap (run_start geo) new.placed_is)

-- an entry that stands has its first word, its key's words and its checksum
stands_between : (geo : Geo) (words : List ℕ) (old new : Placed) → length words ≡ words_in_segment geo → old.place < geo.tiers → Stands geo words old → IsBetween geo words old new
stands_between geo words old new length_is low stands =
    let has = has_words geo words old.place old.chunk old.key old.value length_is low stands in
    record { head = inl has.head_is; key = has.key_words; stored_checksum = inl has.checksum_is }

-- words that rest for a state are torn for each change that is planned for it
pub resting_torn : (geo : Geo) (segment : ℕ) (words : List ℕ) (state : State) (op : Op) (change : Change) → Resting geo segment words state → Plans geo segment state op change → Torn geo words state change
resting_torn geo segment words state op change rests plans =
    let tells = resting_represents geo segment words state rests in
    record {
      others_stand = λ placed is. tells.stand placed is.there;
      others_pointed = λ placed is. (let once = tells.pointed placed is.there in (once.0, once.1));
      slots = slots_are geo segment words state op change tells plans;
      old_stands = λ placed is other points. tells.stand placed is.there;
      new_stands = λ placed is apart points. absurd (never_new geo segment words state op change placed tells plans is apart points);
      pointed = λ old new is_old is_new. inl (record { chained = in_chain geo segment words state old tells is_old.there; pointed = (let once = tells.pointed old is_old.there in (once.0, once.1)) });
      whole = tells.whole;
      chain = inl tells.chain;
      unlinked = λ place inside out. tells.unlinked place inside (λ chained. out (subst (λ (c : List ℕ). Contains c place) (sym tells.chain) chained));
      between = λ old new is_kind is_old is_new. stands_between geo words old new (resting_many geo segment words state rests) (place_low tells.is_state.chain old.place (is_placed tells.is_state old is_old.there).chained) (tells.stand old is_old.there);
    }
