-- When a fresh entry is there and counted, the words rest for the state with it.
use Rattle.cm_plain.proofs.ListElements.{in_from, in_to, all_in}
use Rattle.cm_plain.proofs.EntrySets.{count_with, count_without, in_with, length_with, stays_with, with_from, without_absent}
use Rattle.cm_plain.proofs.EntryCount.{few_entries}
use Rattle.cm_plain.proofs.Planned.{fresh_absent}
use Rattle.std.proofs.Common.{◌≡◌, ◌≢◌, ℕ, ◌+◌, ◌*◌, ◌<◌, ◌≤◌, ◌⊎◌, ◌↔◌, ◌==◌, Bool, false, true, List, [], ◌∷◌, length, filter, slice_set, mod-lt, Some, None, Contains, refl, ap, sym, subst, ◌∙◌, inl, inr, arith, eq-eqb, ne_eqb}
use Rattle.std.specs.List.{AllByRecursion}
use Rattle.std.proofs.lemmas.Bool.{cases_Bool, cases_eq}
use Rattle.std.proofs.lemmas.Option.{same_Some}
use Rattle.cm_plain.specs.declared.plan.PlanKind.TheVariants as kind
use Rattle.std.proofs.lemmas.List.Elements.{All-from_recursion, All-contains}
use Rattle.cm_geo.specs.declared.geo.Geo.{Geo}
use Rattle.cm_geo.specs.Addresses.{slot_at, tier_at, words_in_segment, words_in_tier}
use Rattle.cm_geo.specs.Hash.{fingerprint_in, hash, home_in}
use Rattle.cm_geo.proofs.Ranges.{chunks_range}
use Rattle.cm_plain.specs.declared.placed.Placed.{Placed}
use Rattle.cm_plain.specs.declared.plan.Run.{Run}
use Rattle.cm_plain.specs.States.{IsState, State, chunks_of, run_start}
use Rattle.cm_plain.specs.Changes.{Change, after, new_entry, with_entry, without}
use Rattle.cm_plain.specs.Slots.{IsPointedOnce, Slot, slot_for, slot_in, word_at}
use Rattle.cm_plain.specs.Readings.{Stands}
use Rattle.cm_plain.specs.FoundChains.{IsZero, chain_of}
use Rattle.cm_plain.specs.Lawful.{EndsHead, HasBit, IsSlotOf, IsTaken, Resting, Represents, TierRepresents, slot_behind, KeepsSlotLaw}
use Rattle.cm_plain.proofs.Apart.{IsApart, chunks_some, start_same}
use Rattle.cm_plain.proofs.OutsideHead.{resting_many, resting_represents}
use Rattle.cm_plain.proofs.States.{is_placed, place_low}
use Rattle.cm_lookup.specs.Tiers.{slot_word}
use Rattle.cm_lookup.proofs.SlotStores.{slot_in_kept_by_slot, slot_law_put_first, slot_put}
use Rattle.cm_tiers.proofs.Appending.{linked_kept}
use Rattle.cm_segment.specs.PlacementBase.{FromBase, PlacesElsewhere, base_state, base_words}
use Rattle.cm_segment.specs.Counts.{one_more}
use Rattle.cm_segment.specs.Counts.IsCountAt.{of_segment, of_tier}
use Rattle.cm_segment.specs.Phases.{IsAfter}
use Rattle.cm_segment.specs.PlacementStages.{IsEntryCounted, IsPlacingWord}
use Rattle.cm_segment.specs.PlacementStages.IsPlacingWord.{of_run, slots}
use Rattle.cm_segment.specs.PlacementStages.IsRunWord.{bits, chunks, count}
use Rattle.cm_segment.proofs.PlacementBase.{base_is}
use Rattle.cm_segment.proofs.Frames.{link_left}
use Rattle.cm_segment.proofs.UntouchedParts.{stands_left}
use Rattle.cm_segment.proofs.NewSlots.{empty_or_not, here_or_not}
use Rattle.cm_segment.proofs.Phases.{LeadsTo}
use Rattle.cm_segment.proofs.PlacementTorn.{placing_apart, placing_no_link, placing_place}

-- those of some entries that pass a test are no more than they
pub filter_few : (test : Placed → Bool) (entries : List Placed) → length (filter test entries) ≤ length entries
filter_few test [] = omega arith
filter_few test (entry ∷ entries) = elim (cases_Bool (test entry)) [
  | inl passes ↦ rw passes (omega (arith, filter_few test entries))
  | inr fails ↦ rw fails (omega (arith, filter_few test entries))
]

-- the state with the entry
abbrev pub with_new : Geo → Change → Run → State → State
with_new geo change run state = record { chain = state.chain; entries = with_entry geo (new_entry change run) state.entries }

-- what is known of a fresh entry beside a state
pub record IsBeside (geo : Geo) (segment : ℕ) (state : State) (change : Change) (run : Run) (start : List ℕ) : Type 0 where
  pub represents : Represents geo segment start state
  pub length_is : length start ≡ words_in_segment geo
  pub size : run.chunks ≡ chunks_of geo (new_entry change run)
  pub inside : run.chunk + run.chunks ≤ geo.chunks
  pub low : run.place < geo.tiers
  pub chained : Contains state.chain run.place
  pub absent : (placed : Placed) → Contains state.entries placed → placed.key ≢ change.key
  pub apart : (placed : Placed) → Contains state.entries placed → IsApart geo placed (new_entry change run)

module _ (geo : Geo) (segment : ℕ) (state : State) (change : Change) (run : Run) (start words : List ℕ) (beside : IsBeside geo segment state change run start)
    (whole : IsEntryCounted geo change run state start words) where
  -- no entry begins where the new one does
  starts_differ : (one other : Placed) → IsApart geo one other → run_start geo one ≢ run_start geo other
  starts_differ one other (inl h) = λ e. absurd (omega (arith, chunks_some geo one, e, h))
  starts_differ one other (inr h) = λ e. absurd (omega (arith, chunks_some geo other, e, h))

  all_apart : AllByRecursion (λ other. run_start geo other ≢ run_start geo (new_entry change run)) state.entries
  all_apart = all_in (λ other. run_start geo other ≢ run_start geo (new_entry change run)) state.entries
      (λ placed i. starts_differ placed (new_entry change run) (beside.apart placed (in_to state.entries placed i)))

  stays : (placed : Placed) → Contains state.entries placed → Contains (with_new geo change run state).entries placed
  stays placed there = in_to (with_entry geo (new_entry change run) state.entries) placed
      (stays_with geo (new_entry change run) state.entries placed (starts_differ placed (new_entry change run) (beside.apart placed there))
      (in_from state.entries placed there))

  is_there : Contains (with_new geo change run state).entries (new_entry change run)
  is_there = in_to (with_entry geo (new_entry change run) state.entries) (new_entry change run) (in_with geo (new_entry change run) state.entries)

  new_or_old : (placed : Placed) → Contains (with_new geo change run state).entries placed → (placed ≡ new_entry change run) ⊎ Contains state.entries placed
  new_or_old placed there = elim (with_from geo (new_entry change run) state.entries placed
      (in_from (with_entry geo (new_entry change run) state.entries) placed there)) [
        | inl same ↦ inl same
        | inr i ↦ inr (in_to state.entries placed i)
      ]

  -- no old entry is where the new one is
  not_there : (placed : Placed) → Contains state.entries placed → placed.place ≡ run.place → placed.chunk ≡ run.chunk → ⊥
  not_there placed there e f = starts_differ placed (new_entry change run) (beside.apart placed there) (start_same geo placed (new_entry change run) e f)

  slot_chunk : (key other : List ℕ) (a b : ℕ) → Some (slot_for geo key a) ≡ Some (slot_for geo other b) → a ≡ b
  slot_chunk key other a b e = same_Some a b (ap (λ (s : Slot). s.chunk) (same_Some (slot_for geo key a) (slot_for geo other b) e))

  here_is : (q number : ℕ) → q ≡ run.place → number ≡ whole.there.slot.slot → slot_in geo words q number ≡ Some (slot_for geo change.key run.chunk)
  here_is q number e f = ap (λ (p : ℕ). slot_in geo words p number) e ∙ (ap (slot_in geo words run.place) f ∙ whole.there.slot.here)

  was_none : (q number : ℕ) → q ≡ run.place → number ≡ whole.there.slot.slot → slot_in geo start q number ≡ None
  was_none q number e f = ap (λ (p : ℕ). slot_in geo start p number) e ∙ (ap (slot_in geo start run.place) f ∙ whole.there.slot.first.empty)

  -- ---- the slots of a tier

  slots_of : (q : ℕ) → Contains state.chain q → (number : ℕ) (slot : Slot) → number < 2 * geo.chunks → slot_in geo words q number ≡ Some slot
      → IsSlotOf geo (with_new geo change run state) q slot
  slots_of q chained number slot below e = elim (here_or_not run.place whole.there.slot.slot q number) [
    | inl here ↦ record {
      placed = new_entry change run;
      at = record { there = is_there; place_is = sym here.0 };
      slot_is = same_Some slot (slot_for geo change.key run.chunk) (sym e ∙ here_is q number here.0 here.1);
    }
    | inr other ↦
        let of : IsSlotOf geo state q slot =
        (All-contains (TierRepresents geo start state) state.chain q beside.represents.tiers chained).slots number slot below
        (sym (whole.there.slot.others q number below other) ∙ e) in
        record { placed = of.placed; at = record { there = stays of.placed of.at.there; place_is = of.at.place_is }; slot_is = of.slot_is }
  ]

  -- the slot law
  law_other : (q : ℕ) → q ≢ run.place → KeepsSlotLaw geo start q → KeepsSlotLaw geo words q
  law_other q differ law number slot below e steps on_way none =
      law number slot below (sym (whole.there.slot.others q number below (λ same. absurd (differ same))) ∙ e) steps on_way
      (sym (whole.there.slot.others q (slot_behind (2 * geo.chunks) (home_in geo slot.fingerprint) steps)
      (mod-lt (home_in geo slot.fingerprint + steps) (omega (arith, chunks_range geo))) (λ same. absurd (differ same))) ∙ none)

  law_here : KeepsSlotLaw geo start run.place → KeepsSlotLaw geo words run.place
  law_here law number slot below e steps on_way none =
      let put = slot_law_put_first geo start run.place whole.there.slot.slot (fingerprint_in geo (hash change.key)) run.chunk beside.length_is beside.low
      (omega (arith, beside.inside, beside.size, chunks_some geo (new_entry change run))) law whole.there.slot.first in
      put number slot below (same number below ∙ e) steps on_way
      (same (slot_behind (2 * geo.chunks) (home_in geo slot.fingerprint) steps)
      (mod-lt (home_in geo slot.fingerprint + steps) (omega (arith, chunks_range geo))) ∙ none)
    where
      same : (k : ℕ) → k < 2 * geo.chunks
          → slot_in geo (slice_set start (slot_at geo run.place whole.there.slot.slot) (slot_word (fingerprint_in geo (hash change.key)) run.chunk)) run.place k
          ≡ slot_in geo words run.place k
      same k k_below = elim (cases_eq k whole.there.slot.slot) [
        | inl it ↦ ap (slot_in geo (slice_set start (slot_at geo run.place whole.there.slot.slot) (slot_word (fingerprint_in geo (hash change.key)) run.chunk))
            run.place) it
            ∙ (slot_put geo start run.place whole.there.slot.slot (fingerprint_in geo (hash change.key)) run.chunk beside.length_is beside.low
            whole.there.slot.below (omega (arith, beside.inside, beside.size, chunks_some geo (new_entry change run)))
            ∙ sym (here_is run.place k refl it))
        | inr differ ↦ slot_in_kept_by_slot geo start run.place run.place whole.there.slot.slot k (slot_at geo run.place whole.there.slot.slot)
            (slot_word (fingerprint_in geo (hash change.key)) run.chunk) refl whole.there.slot.below k_below (λ _. differ)
            ∙ sym (whole.there.slot.others run.place k k_below (λ _. differ))
      ]

  law_of : (q : ℕ) → Contains state.chain q → KeepsSlotLaw geo words q
  law_of q chained =
      let law = (All-contains (TierRepresents geo start state) state.chain q beside.represents.tiers chained).reached in
      elim (cases_eq q run.place) [
        | inl same ↦ subst (KeepsSlotLaw geo words) (sym same) (law_here (subst (KeepsSlotLaw geo start) same law))
        | inr differ ↦ law_other q differ law
      ]

  -- ---- the bits

  bits_of : (q : ℕ) → Contains state.chain q → (chunk : ℕ) → chunk < geo.chunks
      → (HasBit geo words q chunk ↔ IsTaken geo (with_new geo change run state) q chunk)
  bits_of q chained chunk below =
      let filled = whole.there.bits q chunk below in
      let was = (All-contains (TierRepresents geo start state) state.chain q beside.represents.tiers chained).bits chunk below in (
        λ has. elim (filled.0 has) [
          | inl in_run ↦ record {
            placed = new_entry change run;
            at = record { there = is_there; place_is = sym in_run.place_is };
            begun = in_run.begun;
            not_ended = subst (λ (n : ℕ). chunk < run.chunk + n) beside.size in_run.not_ended;
          }
          | inr had ↦ (let taken = was.0 had in
              record {
                placed = taken.placed;
                at = record { there = stays taken.placed taken.at.there; place_is = taken.at.place_is };
                begun = taken.begun;
                not_ended = taken.not_ended;
              })
        ],
        λ taken. filled.1 (elim (new_or_old taken.placed taken.at.there) [
          | inl same ↦ inl (record {
            place_is = sym taken.at.place_is ∙ ap (λ (p : Placed). p.place) same;
            begun = subst (λ (p : Placed). p.chunk ≤ chunk) same taken.begun;
            not_ended = subst (λ (n : ℕ). chunk < run.chunk + n) (sym beside.size)
                (subst (λ (p : Placed). chunk < p.chunk + chunks_of geo p) same taken.not_ended);
          })
          | inr there ↦ inr (was.1 (record {
            placed = taken.placed;
            at = record { there = there; place_is = taken.at.place_is };
            begun = taken.begun;
            not_ended = taken.not_ended;
          }))
        ]),
      )

  -- ---- the counts

  no_wrap : (n : ℕ) → n ≤ length state.entries → one_more n ≡ n + 1
  no_wrap n h = omega (arith, h, few_entries geo segment state beside.represents.is_state)

  count_of : (q : ℕ) → Contains state.chain q
      → word_at words (tier_at geo q + 1) ≡ length (filter (λ placed. placed.place == q) (with_entry geo (new_entry change run) state.entries))
  unfolding words_in_tier
  count_of q chained =
      let was = (All-contains (TierRepresents geo start state) state.chain q beside.represents.tiers chained).count in
      elim (cases_eq q run.place) [
        | inl same ↦
            let passes : (run.place == q) ≡ true = eq-eqb run.place q (sym same) in
            let in_tier : word_at words (tier_at geo q + 1) ≡ one_more (word_at start (tier_at geo q + 1)) =
            subst (λ (p : ℕ). word_at words (tier_at geo p + 1) ≡ one_more (word_at start (tier_at geo p + 1))) (sym same)
            (whole.counts (tier_at geo run.place + 1) (of_tier refl)) in
            in_tier ∙ (ap (λ (n : ℕ). one_more n) was
            ∙ (no_wrap (length (filter (λ placed. placed.place == q) state.entries)) (filter_few (λ placed. placed.place == q) state.entries)
            ∙ sym (count_with geo (λ placed. placed.place == q) (new_entry change run) state.entries all_apart passes)))
        | inr differ ↦
            let fails : (run.place == q) ≡ false = ne_eqb run.place q (λ e. differ (sym e)) in
            whole.there.placing.differs.others q 1 (omega arith) (λ free. differ (placing_place geo run q 1 free))
            ∙ (was ∙ sym (count_without geo (λ placed. placed.place == q) (new_entry change run) state.entries all_apart fails))
      ]

  -- ---- the entries

  stand : (placed : Placed) → Contains (with_new geo change run state).entries placed → Stands geo words placed
  stand placed there = elim (new_or_old placed there) [
    | inl same ↦ subst (Stands geo words) (sym same) whole.there.stands
    | inr old ↦
        let at = is_placed beside.represents.is_state placed old in
        stands_left geo (IsPlacingWord geo run) start words placed beside.length_is
        (place_low beside.represents.is_state.chain placed.place at.chained) at.run whole.there.placing.differs
        (placing_apart geo run placed (new_entry change run) (beside.apart placed old) refl refl beside.size at.run.inside) (beside.represents.stand placed old)
  ]

  once_new : IsPointedOnce geo words run.place change.key run.chunk
  once_new = (
    whole.there.slot.slot,
    record { inside = whole.there.slot.below; slot_is = whole.there.slot.here },
    λ other points. elim (cases_eq other whole.there.slot.slot) [
      | inl same ↦ same
      | inr differ ↦
          let of : IsSlotOf geo state run.place (slot_for geo change.key run.chunk) =
          (All-contains (TierRepresents geo start state) state.chain run.place beside.represents.tiers beside.chained).slots other
          (slot_for geo change.key run.chunk) points.inside
          (sym (whole.there.slot.others run.place other points.inside (λ _. differ)) ∙ points.slot_is) in
          absurd (not_there of.placed of.at.there of.at.place_is
          (sym (slot_chunk change.key of.placed.key run.chunk of.placed.chunk (ap (λ (s : Slot). Some s) of.slot_is))))
    ],
  )

  once_old : (placed : Placed) → Contains state.entries placed → IsPointedOnce geo words placed.place placed.key placed.chunk
  once_old placed there =
      let once = beside.represents.pointed placed there in (
        once.0,
        record {
          inside = once.1.inside;
          slot_is = whole.there.slot.others placed.place once.0 once.1.inside
              (λ e f. empty_or_not (slot_for geo placed.key placed.chunk) (sym (was_none placed.place once.0 e f) ∙ once.1.slot_is)) ∙ once.1.slot_is;
        },
        λ other points. elim (here_or_not run.place whole.there.slot.slot placed.place other) [
          | inl here ↦ absurd (not_there placed there here.0
              (slot_chunk placed.key change.key placed.chunk run.chunk (sym points.slot_is ∙ here_is placed.place other here.0 here.1)))
          | inr differ ↦ once.2 other (record {
            inside = points.inside;
            slot_is = sym (whole.there.slot.others placed.place other points.inside differ) ∙ points.slot_is;
          })
        ],
      )

  pointed : (placed : Placed) → Contains (with_new geo change run state).entries placed → IsPointedOnce geo words placed.place placed.key placed.chunk
  pointed placed there = elim (new_or_old placed there) [
    | inl same ↦ subst (λ (p : Placed). IsPointedOnce geo words p.place p.key p.chunk) (sym same) once_new
    | inr old ↦ once_old placed old
  ]

  -- ---- all

  links : chain_of geo words ≡ chain_of geo start
  links = linked_kept geo start words
      (λ place low. link_left geo (IsPlacingWord geo run) start words place whole.there.placing.differs (placing_no_link geo run place))

  zero : (place : ℕ) → place < geo.tiers → (Contains state.chain place → ⊥) → IsZero geo words place
  zero place low out offset below =
      whole.there.placing.differs.others place offset below
      (λ free. out (subst (Contains state.chain) (sym (placing_place geo run place offset free)) beside.chained))
      ∙ beside.represents.unlinked place low out offset below

  no_third : (q i : ℕ) → 2 ≤ i → i < 4 → IsPlacingWord geo run q i → ⊥
  no_third q i h k (of_run (count p is)) = omega arith
  no_third q i h k (of_run (bits p is)) = omega (arith, is.from)
  no_third q i h k (of_run (chunks p is)) = omega (arith, is.from)
  no_third q i h k (slots p slot below is) = omega arith

  represents_new : IsState geo segment (with_new geo change run state) → Represents geo segment words (with_new geo change run state)
  represents_new is = record {
    is_state = is;
    whole = ap (λ l. l.cut) links ∙ beside.represents.whole;
    chain = ap (λ l. l.places) links ∙ beside.represents.chain;
    tiers = All-from_recursion (TierRepresents geo words (with_new geo change run state)) state.chain
        (all_in (TierRepresents geo words (with_new geo change run state)) state.chain (λ q i.
        (let chained = in_to state.chain q i in
        record { slots = slots_of q chained; reached = law_of q chained; bits = bits_of q chained; count = count_of q chained })));
    stand = stand;
    pointed = pointed;
    count = whole.counts 2 (of_segment refl)
        ∙ (ap (λ (n : ℕ). one_more n) beside.represents.count
        ∙ (no_wrap (length state.entries) (omega arith) ∙ sym (length_with geo (new_entry change run) state.entries all_apart)));
    unlinked = zero;
  }

  pub rests_new : IsState geo segment (with_new geo change run state) → Resting geo segment start state
      → Resting geo segment words (with_new geo change run state)
  unfolding Resting words_in_tier
  rests_new is rests = record {
    length_is = whole.there.placing.differs.length_is ∙ beside.length_is;
    fourth = whole.there.placing.differs.fourth ∙ rests.fourth;
    heads = All-from_recursion (EndsHead geo words) state.chain (all_in (EndsHead geo words) state.chain (λ q i.
        (let head = All-contains (EndsHead geo start) state.chain q rests.heads (in_to state.chain q i) in record {
          third = whole.there.placing.differs.others q 2 (omega arith) (no_third q 2 (omega arith) (omega arith)) ∙ head.third;
          fourth = whole.there.placing.differs.others q 3 (omega arith) (no_third q 3 (omega arith) (omega arith)) ∙ head.fourth;
        })));
    represents = represents_new is;
  }

-- ---- a fresh entry

-- the state after the change is the one with the entry
after_fresh : (geo : Geo) (state : State) (change : Change) (run : Run) → change.new_run ≡ Some run
    → ((placed : Placed) → Contains state.entries placed → placed.key ≢ change.key)
    → after geo change state ≡ with_new geo change run (base_state change run state)
after_fresh geo state change run run_is absent = elim (cases_Bool change.link) [
  | inl links ↦ rw (run_is, links, same) refl
  | inr links_not ↦ rw (run_is, links_not, same) refl
]
  where
    same : without change.key state.entries ≡ state.entries
    same = without_absent change.key state.entries (λ placed i. absent placed (in_to state.entries placed i))

pub fresh_rests : (geo : Geo) (segment : ℕ) (change : Change) (run : Run) → PlacesElsewhere geo change run → change.kind ≡ kind.Fresh
    → LeadsTo geo segment change (FromBase geo change run (IsEntryCounted geo change run)) (IsAfter geo segment change) (λ words. words)
fresh_rests geo segment change run places fresh state start words long is whole =
    let base = base_is geo segment state change run start is places in
    let absent = fresh_absent geo segment state change is.planned fresh in
    let same = after_fresh geo state change run places.run_is absent in
    let beside : IsBeside geo segment (base_state change run state) change run (base_words geo change run state start) = record {
      represents = resting_represents geo segment (base_words geo change run state start) (base_state change run state) base.rests;
      length_is = resting_many geo segment (base_words geo change run state start) (base_state change run state) base.rests;
      size = base.new.size;
      inside = places.new_in.run_in.inside;
      low = places.new_in.run_in.place_inside;
      chained = base.chained;
      absent = λ placed there. absent placed (subst (λ (es : List Placed). Contains es placed) base.entries_are there);
      apart = λ placed there. base.apart placed (subst (λ (es : List Placed). Contains es placed) base.entries_are there);
    } in
    subst (Resting geo segment words) (sym same)
    (rests_new geo segment (base_state change run state) change run (base_words geo change run state start) words beside
    (record { there = whole.there; counts = whole.counts }) (subst (IsState geo segment) same is.planned.leads) base.rests)
