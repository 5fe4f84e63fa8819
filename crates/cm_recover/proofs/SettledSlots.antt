-- A slot that is judged, and then kept or dropped: how far the words have come after it.
use Rattle.std.proofs.Common.{◌≡◌, ◌≢◌, ℕ, ◌+◌, ◌/◌, ◌^◌, ◌<◌, ◌≤◌, ◌==◌, true, false, List, [], ◌∷◌, ◌++◌, length, filter, nat_le, Contains, refl, ap, sym, subst, ◌∙◌, inl, inr, arith}
use Rattle.std.specs.List.{AllByRecursion, list_any}
use Rattle.std.proofs.lemmas.Bool.{cases_Bool}
use Rattle.std.proofs.lemmas.Bool.Decides.{nat_tests}
use Rattle.std.proofs.lemmas.List.Elements.{All-from_recursion, recursion_from_All}
use Rattle.cm_geo.specs.declared.geo.Geo.{Geo}
use Rattle.cm_geo.specs.Addresses.{words_in_segment}
use Rattle.cm_geo.specs.Hash.{fingerprint_in, hash}
use Rattle.cm_plain.specs.declared.placed.Placed.{Placed}
use Rattle.cm_plain.specs.declared.plan.Run.{Run}
use Rattle.cm_plain.specs.States.{HasRun, IsPlaced, IsState, State, chunks_of, run_start}
use Rattle.cm_plain.specs.Rooms.{is_free, meets}
use Rattle.cm_plain.specs.Changes.{run_of, with_entry}
use Rattle.cm_plain.specs.Readings.{Stands}
use Rattle.cm_plain.specs.Slots.{Slot}
use Rattle.cm_plain.proofs.Apart.{IsApart, Rising, chunks_some, fresh_apart}
use Rattle.cm_plain.proofs.Each.{all_from_pairs, each_weaker}
use Rattle.cm_plain.proofs.EntrySets.{length_with}
use Rattle.cm_plain.proofs.ListElements.{in_from, in_has, in_to}
use Rattle.cm_plain.proofs.OutsideHead.{resting_many, resting_represents}
use Rattle.cm_plain.proofs.States.{Differs, each_differs, each_placed, each_rising, each_run}
use Rattle.cm_words.specs.Memory.{FitsNotes, MemSeen}
use Rattle.cm_words.specs.Effects.{Changes, Reads}
use Rattle.cm_words.proofs.FittingLists.{keeps_transitive}
use Rattle.cm_chunks.specs.RunBits.{IsRunIn}
use Rattle.cm_recover.specs.declared.cause.Cause.{Cause}
use Rattle.cm_recover.specs.declared.tally.Tally.{Tally}
use Rattle.cm_recover.specs.OccupiedSlots.{OccupiedSlot}
use Rattle.cm_recover.specs.Judgements.{Judgement, is_dropped, is_kept, judgement}
use Rattle.cm_recover.specs.KeptSlots.{KeptEntries, kept_with, rank}
use Rattle.cm_recover.specs.Tallies.{Counts, count_for, one_if}
use Rattle.cm_recover.specs.Rebuilding.{HasCome, IsAdded, IsSlotWith, IsSoFar, KeepsRun, Settles}
use Rattle.cm_recover.proofs.AnyEntries.{ArePlaced, IsSlotKept, placed_more, slot_kept, stands_run}
use Rattle.cm_lookup.proofs.EmptySlots.{has_empty}
use Rattle.cm_recover.proofs.EntryAdded.{added_kept}
use Rattle.cm_recover.proofs.EntryKept.{IsBeside, IsKeptIn, rests_new}
use Rattle.cm_recover.proofs.Frames.{chunk_left}
use Rattle.cm_recover.proofs.JudgedSlots.{slot_parts}
use Rattle.cm_recover.proofs.ReadChunks.{reading_left}

-- ---- one that is dropped

-- one drop more is counted
counts_dropped : (tally later : Tally) (kept : KeptEntries) (why : Cause) → Counts tally kept → later.kept ≡ tally.kept
    → ((other : Cause) → count_for later.drops other ≡ count_for tally.drops other + one_if (rank other == rank why))
    → Counts later (record { entries = kept.entries; drops = kept.drops ++ why ∷ [] })
counts_dropped tally later kept why counts kept_is drops_are = record {
  kept_is = kept_is ∙ counts.kept_is;
  drops = λ other. drops_are other ∙ (ap (λ (n : ℕ). n + one_if (rank other == rank why)) (counts.drops other) ∙ sym (last other kept.drops));
}
  where
    swapped : (a b : Cause) → (rank a == rank b) ≡ (rank b == rank a)
    swapped a b = grind (arith, nat_tests)

    last : (other : Cause) (drops : List Cause)
        → length (filter (λ it. rank it == rank other) (drops ++ why ∷ [])) ≡ length (filter (λ it. rank it == rank other) drops) + one_if
        (rank other == rank why)
    last other [] = elim (cases_Bool (rank why == rank other)) [
      | inl same ↦ (let same' : (rank other == rank why) ≡ true = swapped other why ∙ same in rw (same, same') (omega arith))
      | inr differ ↦ (let differ' : (rank other == rank why) ≡ false = swapped other why ∙ differ in rw (differ, differ') (omega arith))
    ]
    last other (first ∷ drops) = elim (cases_Bool (rank first == rank other)) [
      | inl same ↦ rw same (omega (arith, last other drops))
      | inr differ ↦ rw differ (omega (arith, last other drops))
    ]

pub settled_dropped : (geo : Geo) (segment : ℕ) (old places : List ℕ) (kept : KeptEntries) (tally later : Tally) (it : Judgement) (why : Cause)
    (words : List ℕ) → it ≡ is_dropped why → later.kept ≡ tally.kept
    → ((other : Cause) → count_for later.drops other ≡ count_for tally.drops other + one_if (rank other == rank why))
    → HasCome geo segment old places kept tally words → HasCome geo segment old places (kept_with geo kept it) later words
settled_dropped geo segment old places kept tally later it why words it_is kept_is drops_are come =
    subst (λ (j : Judgement). HasCome geo segment old places (kept_with geo kept j) later words) (sym it_is)
    (record { so_far = come.so_far; counts = counts_dropped tally later kept why come.counts kept_is drops_are })

-- over a memory: the slot was judged by loads
pub drops_slot : (a b : MemSeen) (geo : Geo) (segment : ℕ) (places : List ℕ) (place word : ℕ) (tally later : Tally) (why : Cause) → Reads a b
    → ((words old : List ℕ) (kept : List Placed) (at : OccupiedSlot) → FitsNotes b words → IsSlotWith at place word
    → IsSoFar geo segment old places kept words
    → judgement geo segment old places kept at ≡ is_dropped why)
    → later.kept ≡ tally.kept → ((other : Cause) → count_for later.drops other ≡ count_for tally.drops other + one_if (rank other == rank why))
    → Changes a b (Settles geo segment places place word tally later)
drops_slot a b geo segment places place word tally later why reads judged kept_is drops_are = record {
  keeps = reads.keeps;
  came = λ words fits. (
    words,
    record {
      fits = reads.fits words fits;
      origin = reads.origin words fits;
      relates = λ old kept at is come.
          settled_dropped geo segment old places kept tally later (judgement geo segment old places kept.entries at) why words
          (judged words old kept.entries at fits is come.so_far) kept_is drops_are come;
    },
  );
  noted = reads.noted;
}

-- ---- one that is kept

-- no entry begins where one apart from it does
starts_differ : (geo : Geo) (one other : Placed) → IsApart geo one other → run_start geo one ≢ run_start geo other
starts_differ geo one other (inl h) = λ e. absurd (omega (arith, chunks_some geo one, e, h))
starts_differ geo one other (inr h) = λ e. absurd (omega (arith, chunks_some geo other, e, h))

module _ (geo : Geo) (segment : ℕ) (old places : List ℕ) (kept : KeptEntries) (at : OccupiedSlot) (placed : Placed) (tally later : Tally)
    (before words : List ℕ)
    (is : judgement geo segment old places kept.entries at ≡ is_kept placed) (inside : IsRunIn geo (run_of geo placed))
    (added : IsAdded geo (run_of geo placed) (fingerprint_in geo (hash placed.key)) before words)
    (come : HasCome geo segment old places kept tally before) (kept_is : later.kept ≡ tally.kept + 1) (drops_are : later.drops ≡ tally.drops) where
  abbrev state : State
  state = record { chain = places; entries = kept.entries }

  long : length before ≡ words_in_segment geo
  long = resting_many geo segment before state come.so_far.rests

  is_state : IsState geo segment state
  is_state = (resting_represents geo segment before state come.so_far.rests).is_state

  slot : IsSlotKept geo segment old places kept.entries at.slot.fingerprint placed
  slot = slot_kept geo segment old places kept.entries at placed is

  chained : Contains places placed.place
  chained = in_to places placed.place slot.among

  run : HasRun geo placed
  run = stands_run geo old placed come.so_far.old_long inside.place_inside slot.reads

  apart : AllByRecursion (λ other. IsApart geo other placed) kept.entries
  apart = fresh_apart geo placed kept.entries (each_run is_state)
      (free (is_within (placed.chunk + chunks_of geo placed) geo.chunks run.inside) slot.free)
    where
      is_within : (a b : ℕ) → a ≤ b → nat_le a b ≡ true
      is_within a b h = grind (arith, nat_tests)

      free : nat_le (placed.chunk + chunks_of geo placed) geo.chunks ≡ true
          → list_any (meets geo placed.place placed.chunk (chunks_of geo placed)) kept.entries ≡ false
          → is_free geo kept.entries placed.place placed.chunk (chunks_of geo placed) ≡ true
      free within alone = rw (within, alone) refl

  stands : Stands geo before placed
  stands = reading_left geo old before placed.place placed.chunk come.so_far.old_long long inside.place_inside
      (omega (arith, inside.inside, inside.nonzero))
      (λ offset below. come.so_far.chunks placed.place offset chained below) ∙ slot.reads

  beside : IsBeside geo segment state placed before
  beside = record {
    represents = resting_represents geo segment before state come.so_far.rests;
    length_is = long;
    run = run;
    low = inside.place_inside;
    chained = chained;
    stands = stands;
    apart = λ other there. in_has (λ other. IsApart geo other placed) kept.entries other apart (in_from kept.entries other there);
  }

  new_state : IsState geo segment (record { chain = places; entries = with_entry geo placed kept.entries })
  new_state =
      let all : ArePlaced geo segment places (with_entry geo placed kept.entries) =
      placed_more geo segment old places kept at come.so_far.old_long (recursion_from_All (λ place. place < geo.tiers) places is_state.chain.inside)
      (record { placed = each_placed is_state; rising = each_rising is_state; keys = each_differs is_state }) (is_kept placed) is in
      record {
        chain = is_state.chain;
        placed = All-from_recursion (IsPlaced geo segment places) (with_entry geo placed kept.entries) all.placed;
        runs = all_from_pairs (Rising geo) (with_entry geo placed kept.entries) all.rising;
        keys = all_from_pairs Differs (with_entry geo placed kept.entries) all.keys;
      }

  whole : IsKeptIn geo placed before words
  whole = added_kept geo placed before words long inside added (has_empty geo segment state before placed.place come.so_far.rests chained)

  come_on : HasCome geo segment old places (record { entries = with_entry geo placed kept.entries; drops = kept.drops }) later words
  come_on = record {
    so_far = record {
      old_long = come.so_far.old_long;
      lock = whole.differs.head 0 (omega arith) (λ e. absurd (omega arith)) ∙ come.so_far.lock;
      number = whole.differs.head 1 (omega arith) (λ e. absurd (omega arith)) ∙ come.so_far.number;
      rests = rests_new geo segment state placed before words beside whole new_state come.so_far.rests;
      chunks = λ place offset there below. chunk_left geo placed.place before words place offset whole.differs below
          ∙ come.so_far.chunks place offset there below;
    };
    counts = record {
      kept_is = kept_is ∙ (ap (λ (n : ℕ). n + 1) come.counts.kept_is ∙ sym (length_with geo placed kept.entries
          (each_weaker (λ other. IsApart geo other placed) (λ other. run_start geo other ≢ run_start geo placed)
          (λ other h. starts_differ geo other placed h) kept.entries apart)));
      drops = λ why. ap (λ d. count_for d why) drops_are ∙ come.counts.drops why;
    };
  }

  pub settled_kept : HasCome geo segment old places (kept_with geo kept (judgement geo segment old places kept.entries at)) later words
  settled_kept = subst (λ (j : Judgement). HasCome geo segment old places (kept_with geo kept j) later words) (sym is) come_on

-- the fingerprint of a slot whose entry is kept is its key's
kept_print : (geo : Geo) (segment : ℕ) (old places : List ℕ) (kept : List Placed) (at : OccupiedSlot) (placed : Placed)
    → judgement geo segment old places kept at ≡ is_kept placed
    → at.slot.fingerprint ≡ fingerprint_in geo (hash placed.key)
kept_print geo segment old places kept at placed is = sym (slot_kept geo segment old places kept at placed is).print

-- over a memory: the slot was judged by loads, and then its entry was kept
pub keeps_slot : (a b c : MemSeen) (geo : Geo) (segment : ℕ) (places : List ℕ) (place word fingerprint : ℕ) (run : Run) (tally later : Tally)
    → Reads a b
    → ((words old : List ℕ) (kept : List Placed) (at : OccupiedSlot) → FitsNotes b words → IsSlotWith at place word
    → IsSoFar geo segment old places kept words
    → KeepsRun geo (judgement geo segment old places kept at) run)
    → IsRunIn geo run → fingerprint ≡ word / 2 ^ 32 → Changes b c (IsAdded geo run fingerprint) → later.kept ≡ tally.kept + 1
    → later.drops ≡ tally.drops
    → Changes a c (Settles geo segment places place word tally later)
keeps_slot a b c geo segment places place word fingerprint run tally later reads judged inside print_is adds kept_is drops_are = record {
  keeps = keeps_transitive a b c reads.keeps adds.keeps;
  came = λ words fits.
      let far = adds.came words fits in (
        far.0,
        record {
          fits = reads.fits far.0 far.1.fits;
          origin = far.1.origin ∙ reads.origin far.0 far.1.fits;
          relates = λ old kept at is come.
              (let keeps = judged far.0 old kept.entries at far.1.fits is come.so_far in
              let print : fingerprint ≡ fingerprint_in geo (hash keeps.placed.key) =
              print_is ∙ (sym (ap (λ (s : Slot). s.fingerprint) (slot_parts word at.slot is.slot_is))
              ∙ kept_print geo segment old places kept.entries at keeps.placed keeps.kept_is) in
              let added : IsAdded geo (run_of geo keeps.placed) (fingerprint_in geo (hash keeps.placed.key)) far.0 words =
              subst (λ (f : ℕ). IsAdded geo (run_of geo keeps.placed) f far.0 words) print
              (subst (λ (r : Run). IsAdded geo r fingerprint far.0 words) keeps.run_is far.1.relates) in
              settled_kept geo segment old places kept at keeps.placed tally later far.0 words keeps.kept_is
              (subst (IsRunIn geo) keeps.run_is inside) added come kept_is drops_are);
        },
      );
  noted = λ k h. adds.noted k (reads.noted k h);
}
