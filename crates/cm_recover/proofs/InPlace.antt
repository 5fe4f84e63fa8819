-- Slots of the change's key, where its value is replaced in place.
use Rattle.std.proofs.Common.{◌≡◌, ◌≢◌, ℕ, ◌+◌, ◌<◌, ◌≤◌, ◌⊎◌, List, Contains, length, Option, Some, refl, ap, sym, subst, ◌∙◌, arith, inl, inr}
use Rattle.std.specs.Str.{bytes_eq}
use Rattle.std.proofs.lemmas.Bool.{cases_Bool}
use Rattle.std.proofs.lemmas.Slice.Eq.{bytes_eq-Decides}
use Rattle.std.proofs.lemmas.List.Elements.{recursion_from_All}
use Rattle.cm_geo.specs.declared.geo.Geo.{Geo}
use Rattle.cm_geo.specs.Addresses.{chunk_at, words_in_segment}
use Rattle.cm_geo.specs.Hash.{segment_of_key}
use Rattle.cm_geo.specs.Need.{Fits, need}
use Rattle.cm_plain.specs.declared.op.Op.{Op}
use Rattle.cm_plain.specs.declared.placed.Placed.{Placed}
use Rattle.cm_plain.specs.declared.plan.Run.{Run}
use Rattle.cm_plain.specs.declared.plan.PlanKind.TheVariants as kind
use Rattle.cm_plain.specs.States.{HasRun, IsPlaced, IsState, State, chunks_of, value_of}
use Rattle.cm_plain.specs.Changes.{Change, after, entry_at}
use Rattle.cm_plain.specs.Steps.{Plans}
use Rattle.cm_plain.specs.Slots.{slot_for, word_at}
use Rattle.cm_plain.specs.Readings.{HasKeyWords, Stands, entry_checksum, head_of, wrong_checksum, wrong_padding}
use Rattle.cm_plain.specs.FoundChains.{chain_of}
use Rattle.cm_plain.specs.Torn.{BeginsAt, IsBetween, Torn}
use Rattle.cm_plain.proofs.Apart.{chunks_some, shorter}
use Rattle.cm_plain.proofs.EntrySets.{found_there}
use Rattle.cm_plain.proofs.ListElements.{In, in_from, in_has, in_to}
use Rattle.cm_plain.proofs.Planned.{StaysAt, new_at, old_at, stays_at}
use Rattle.cm_plain.proofs.StatePairs.{placed_in, same_in}
use Rattle.cm_plain.proofs.States.{each_differs}
use Rattle.cm_recover.specs.declared.cause.Cause.TheVariants as cause
use Rattle.cm_recover.specs.OccupiedSlots.{OccupiedSlot}
use Rattle.cm_recover.specs.Judgements.{judgement}
use Rattle.cm_plain.specs.Outcomes.{IsChangeOutcome}
use Rattle.cm_recover.proofs.InPlaceWords.{bad_padding, bad_checksum, good, reads_key}
use Rattle.cm_recover.proofs.SlotJudgements.{by_reading}
use Rattle.cm_recover.proofs.KeptSlots.{IsJudged}
use Rattle.cm_recover.proofs.Candidates.{IsCandidate, IsOf, new_candidate, old_candidate, value_is}
use Rattle.cm_recover.proofs.OccupiedSlots.{StandsIn}

-- two lists of bytes are equal or not
same_or_not : (a b : List ℕ) → (a ≡ b) ⊎ (a ≢ b)
same_or_not a b = elim (cases_Bool (bytes_eq a b)) [
  | inl same ↦ inl ((bytes_eq-Decides a b).0 same)
  | inr other ↦ inr (λ same. (let is = (bytes_eq-Decides a b).1 same in cc (sym is ∙ other)))
]

-- what lies at a place and chunk while a key's value is replaced there
record IsBetweenAt (geo : Geo) (words : List ℕ) (place chunk : ℕ) (key old_value : List ℕ) (new : Placed) : Type 0 where
  head : (word_at words (chunk_at geo place chunk) ≡ head_of key old_value) ⊎ (word_at words (chunk_at geo place chunk) ≡ head_of key new.value)
  key_words : HasKeyWords geo words place chunk key
  stored_checksum : (word_at words (chunk_at geo place chunk + 1) ≡ entry_checksum key old_value) ⊎ Stands geo words new

between_at : (geo : Geo) (words : List ℕ) (place chunk : ℕ) (key : List ℕ) (old new : Placed) → old.place ≡ place → old.chunk ≡ chunk → old.key ≡ key → new.key ≡ key → IsBetween geo words old new
    → IsBetweenAt geo words place chunk key old.value new
between_at geo words place chunk key old new place_is chunk_is old_key new_key between =
    subst (λ (p : ℕ). IsBetweenAt geo words p chunk key old.value new) place_is
    (subst (λ (c : ℕ). IsBetweenAt geo words old.place c key old.value new) chunk_is
    (subst (λ (k : List ℕ). IsBetweenAt geo words old.place old.chunk k old.value new) old_key (record {
      head = elim between.head [
        | inl h ↦ inl h
        | inr h ↦ inr (h ∙ ap (λ (k : List ℕ). head_of k new.value) (new_key ∙ sym old_key))
      ];
      key_words = between.key;
      stored_checksum = between.stored_checksum;
    })))

-- the two entries between which a value is replaced in place, and where
record AreOldAndNew (geo : Geo) (segment : ℕ) (words : List ℕ) (state : State) (change : Change) (place chunk : ℕ) (old new : Placed) : Type 0 where
  in_place : change.kind ≡ kind.InPlace
  old_in : In old state.entries
  old_key : old.key ≡ change.key
  old_place : old.place ≡ place
  old_chunk : old.chunk ≡ chunk
  new_in : In new (after geo change state).entries
  new_key : new.key ≡ change.key
  new_place : new.place ≡ place
  new_chunk : new.chunk ≡ chunk
  old_is : IsPlaced geo segment state.chain old
  new_is : IsPlaced geo segment (after geo change state).chain new
  old_value : value_of change.key state ≡ Some old.value
  new_value : value_of change.key (after geo change state) ≡ Some new.value
  low : place < geo.tiers
  between : IsBetweenAt geo words place chunk change.key old.value new

-- an entry like one of the two, with a value as long
record IsLike (geo : Geo) (state : State) (change : Change) (place chunk : ℕ) (like : Placed) : Type 0 where
  its : IsCandidate geo state change like
  place_is : like.place ≡ place
  chunk_is : like.chunk ≡ chunk
  run : HasRun geo like

-- a value as long with the old checksum is an outcome
an_outcome : (geo : Geo) (segment : ℕ) (words : List ℕ) (state : State) (change : Change) (place chunk : ℕ) (old new : Placed) (it : List ℕ) → AreOldAndNew geo segment words state change place chunk old new
    → (length it ≡ length old.value) ⊎ (length it ≡ length new.value) → entry_checksum change.key it ≡ entry_checksum change.key old.value → IsChangeOutcome geo state change (Some it)
an_outcome geo segment words state change place chunk old new it both long stored_checksum = elim (same_or_not it old.value) [
  | inl same ↦ inl (inl (both.old_value ∙ ap Some (sym same)))
  | inr not_old ↦ elim (same_or_not it new.value) [
    | inl same ↦ inl (inr (both.new_value ∙ ap Some (sym same)))
    | inr not_new ↦ inr (record {
      in_place = both.in_place;
      old = old.value;
      new = new.value;
      old_is = both.old_value;
      new_is = both.new_value;
      not_old = not_old;
      not_new = not_new;
      as_long = long;
      checksum_same = stored_checksum;
    })
  ]
]

-- an entry with such a value may stand
its_value : (geo : Geo) (state : State) (change : Change) (place chunk : ℕ) (like : Placed) (it : List ℕ) → IsLike geo state change place chunk like → length it ≡ length like.value
    → IsChangeOutcome geo state change (Some it) → IsCandidate geo state change (entry_at change.key it place chunk)
its_value geo state change place chunk like it is long outcome =
    let made : Placed = entry_at change.key it place chunk in
    let same : need geo (length change.key) (length it) ≡ chunks_of geo like = rw (is.its.key_is, long) refl in
    record {
      key_is = refl;
      apart = λ other their. shorter geo like made other (sym is.place_is) (sym is.chunk_is) (omega (arith, same)) (is.its.apart other their);
      outcome = outcome;
    }

-- and it has a run
run_of_value : (geo : Geo) (state : State) (change : Change) (place chunk : ℕ) (like : Placed) (it : List ℕ) → IsLike geo state change place chunk like → length it ≡ length like.value
    → HasRun geo (entry_at change.key it place chunk)
run_of_value geo state change place chunk like it is long = record {
  fits = rw (sym is.its.key_is, long) is.run.fits;
  inside = rw (sym is.its.key_is, long, sym is.chunk_is) is.run.inside;
}

-- a slot of such an entry, by what is read there while the old checksum stands
by_old_sum : (geo : Geo) (segment : ℕ) (words : List ℕ) (state : State) (change : Change) (at : OccupiedSlot) (chunk : ℕ) (old new like : Placed) → length words ≡ words_in_segment geo → StandsIn geo words at
    → at.slot ≡ slot_for geo change.key chunk → AreOldAndNew geo segment words state change at.place chunk old new → IsLike geo state change at.place chunk like
    → ((it : List ℕ) → length it ≡ length like.value → (length it ≡ length old.value) ⊎ (length it ≡ length new.value))
    → word_at words (chunk_at geo at.place chunk) ≡ head_of change.key like.value → HasKeyWords geo words at.place chunk change.key
    → word_at words (chunk_at geo at.place chunk + 1) ≡ entry_checksum change.key old.value
    → IsJudged (judgement geo segment words (chain_of geo words).places) (IsOf geo segment words state change) at
by_old_sum geo segment words state change at chunk old new like length_is stands slot_is both is long head has_key stored_checksum =
    elim (reads_key geo words at.place chunk change.key like.value length_is both.low fits inside head has_key) [
      | bad_checksum e ↦ inr (record { why = cause.Checksum; of_torn = tt; is = λ kept. by_reading geo segment words (chain_of geo words).places kept at change.key chunk wrong_checksum stands.chained slot_is low e })
      | bad_padding e ↦ inr (record { why = cause.Padding; of_torn = tt; is = λ kept. by_reading geo segment words (chain_of geo words).places kept at change.key chunk wrong_padding stands.chained slot_is low e })
      | good it reads as_long sum_is ↦ inl (
        entry_at change.key it at.place chunk,
        record {
          may = record {
            here = (sym (ap (segment_of_key geo) both.old_key)) ∙ both.old_is.here;
            chained = stands.chained;
            run = run_of_value geo state change at.place chunk like it is as_long;
            role = inr (its_value geo state change at.place chunk like it is as_long (an_outcome geo segment words state change at.place chunk old new it both (long it as_long) (sum_is ∙ stored_checksum)));
          };
          place_is = refl;
          slot_is = slot_is;
          reads = reads;
        },
      )
    ]
  where
    fits : Fits geo (length change.key) (length like.value)
    fits = rw (sym is.its.key_is) is.run.fits

    inside : chunk + need geo (length change.key) (length like.value) ≤ geo.chunks
    inside = rw (sym is.its.key_is, sym is.chunk_is) is.run.inside

    low : chunk < geo.chunks
    low = below like.chunk (chunks_of geo like) geo.chunks chunk is.run.inside (chunks_some geo like) is.chunk_is
      where
        below : (begin chunks most chunk : ℕ) → begin + chunks ≤ most → 1 ≤ chunks → begin ≡ chunk → chunk < most
        below begin chunks most chunk h k e = omega arith

-- where a change in place has its slots, both entries stand
record HasBoth (geo : Geo) (segment : ℕ) (words : List ℕ) (state : State) (change : Change) (place chunk : ℕ) : Type 0 where
  old : Placed
  new : Placed
  both : AreOldAndNew geo segment words state change place chunk old new

has_both : (geo : Geo) (segment : ℕ) (words : List ℕ) (state : State) (op : Op) (change : Change) (place chunk : ℕ) → IsState geo segment state → Plans geo segment state op change → Torn geo words state change
    → change.kind ≡ kind.InPlace → BeginsAt change.old_run place chunk ⊎ BeginsAt change.new_run place chunk → HasBoth geo segment words state change place chunk
has_both geo segment words state op change place chunk is plans torn in_place begins =
    let stays = stays_at geo segment state op change plans in_place in
    let there = found_there change.key state.entries stays.old stays.old_is in
    let at : (stays.old.place ≡ place) × (stays.old.chunk ≡ chunk) = position stays there.is_in there.key_is begins in
    let new = new_at geo state change place chunk (subst (λ (r : Option Run). BeginsAt r place chunk) (sym stays.run_is) at) in
    let old_is = placed_in geo segment state stays.old is there.is_in in
    let new_is = placed_in geo segment (after geo change state) new.placed plans.leads new.is_in in
    record {
      old = stays.old;
      new = new.placed;
      both = record {
        in_place = in_place;
        old_in = there.is_in;
        old_key = there.key_is;
        old_place = at.0;
        old_chunk = at.1;
        new_in = new.is_in;
        new_key = new.key_is;
        new_place = new.place_is;
        new_chunk = new.chunk_is;
        old_is = old_is;
        new_is = new_is;
        old_value = value_is geo segment state change.key stays.old is there.is_in there.key_is;
        new_value = value_is geo segment (after geo change state) change.key new.placed plans.leads new.is_in new.key_is;
        low = in_has (λ p. p < geo.tiers) state.chain place (recursion_from_All (λ p. p < geo.tiers) state.chain is.chain.inside) (in_from state.chain place (subst (λ (p : ℕ). Contains state.chain p) at.0 old_is.chained));
        between = between_at geo words place chunk change.key stays.old new.placed at.0 at.1 there.key_is new.key_is
            (torn.between stays.old new.placed in_place (record { there = in_to state.entries stays.old there.is_in; key_is = there.key_is })
            (record { there = in_to (after geo change state).entries new.placed new.is_in; key_is = new.key_is }));
      };
    }
  where
    position : (stays : StaysAt geo state change.key change.new_run) → In stays.old state.entries → stays.old.key ≡ change.key → BeginsAt change.old_run place chunk ⊎ BeginsAt change.new_run place chunk
        → (stays.old.place ≡ place) × (stays.old.chunk ≡ chunk)
    position stays i key_is (inl h) =
        let old = old_at geo segment state op change place chunk plans h in
        let same : stays.old ≡ old.placed = same_in state.entries stays.old old.placed (each_differs is) i old.is_in (key_is ∙ sym old.key_is) in
        (ap (λ (p : Placed). p.place) same ∙ old.place_is, ap (λ (p : Placed). p.chunk) same ∙ old.chunk_is)
    position stays i key_is (inr h) = subst (λ (r : Option Run). BeginsAt r place chunk) stays.run_is h

-- such a slot is of an entry that may be kept, or it is dropped for its checksum or its padding
pub in_place_judged : (geo : Geo) (segment : ℕ) (words : List ℕ) (state : State) (op : Op) (change : Change) (at : OccupiedSlot) (chunk : ℕ) → length words ≡ words_in_segment geo → IsState geo segment state
    → Plans geo segment state op change → Torn geo words state change → change.kind ≡ kind.InPlace → StandsIn geo words at → BeginsAt change.old_run at.place chunk ⊎ BeginsAt change.new_run at.place chunk
    → at.slot ≡ slot_for geo change.key chunk → IsJudged (judgement geo segment words (chain_of geo words).places) (IsOf geo segment words state change) at
in_place_judged geo segment words state op change at chunk length_is is plans torn in_place stands begins slot_is =
    let has = has_both geo segment words state op change at.place chunk is plans torn in_place begins in
    let both = has.both in
    let like_old : IsLike geo state change at.place chunk has.old =
    record { its = old_candidate geo segment state change has.old is both.old_in both.old_key; place_is = both.old_place; chunk_is = both.old_chunk; run = both.old_is.run } in
    let like_new : IsLike geo state change at.place chunk has.new =
    record { its = new_candidate geo segment state op change has.new is plans both.new_in both.new_key; place_is = both.new_place; chunk_is = both.new_chunk; run = both.new_is.run } in
    elim both.between.stored_checksum [
      | inr reads ↦ inl (
        has.new,
        record {
          may = record {
            here = both.new_is.here;
            chained = subst (λ (p : ℕ). In p (chain_of geo words).places) (sym both.new_place) stands.chained;
            run = both.new_is.run;
            role = inr like_new.its;
          };
          place_is = both.new_place;
          slot_is = rw (both.new_key, both.new_chunk) slot_is;
          reads = reads;
        },
      )
      | inl stored_checksum ↦ elim both.between.head [
        | inl head ↦ by_old_sum geo segment words state change at chunk has.old has.new has.old length_is stands slot_is both like_old (λ it long. inl long) head both.between.key_words stored_checksum
        | inr head ↦ by_old_sum geo segment words state change at chunk has.old has.new has.new length_is stands slot_is both like_new (λ it long. inr long) head both.between.key_words stored_checksum
      ]
    ]
