-- When the bits of an entry's run are set, a slot points to it and it is counted, the words rest for the state with it.
use Rattle.std.proofs.Common.{◌≡◌, ◌≢◌, ℕ, ◌+◌, ◌*◌, ◌%◌, ◌^◌, ◌<◌, ◌≤◌, ◌⊎◌, ◌↔◌, ◌==◌, Bool, false, true, List, [], ◌∷◌, length, filter, slice_set, mod-lt, Some, None, Contains, refl, ap, sym, subst, ◌∙◌, inl, inr, arith, eq-eqb, ne_eqb}
use Rattle.std.specs.List.{AllByRecursion}
use Rattle.std.proofs.lemmas.Bool.{cases_Bool, cases_eq}
use Rattle.std.proofs.lemmas.Option.{same_Some}
use Rattle.std.proofs.lemmas.List.Elements.{All-from_recursion, All-contains}
use Rattle.cm_geo.specs.declared.geo.Geo.{Geo}
use Rattle.cm_geo.specs.Addresses.{slot_at, tier_at, words_in_segment, words_in_tier}
use Rattle.cm_geo.specs.Hash.{fingerprint_in, hash, home_in}
use Rattle.cm_geo.proofs.Ranges.{chunks_range}
use Rattle.cm_plain.specs.declared.placed.Placed.{Placed}
use Rattle.cm_plain.specs.States.{HasRun, IsState, State, chunks_of, run_start}
use Rattle.cm_plain.specs.Changes.{run_of, with_entry}
use Rattle.cm_plain.specs.Slots.{IsPointedOnce, Slot, slot_for, slot_in, word_at}
use Rattle.cm_plain.specs.Readings.{Stands}
use Rattle.cm_plain.specs.FoundChains.{IsZero, chain_of}
use Rattle.cm_plain.specs.Lawful.{EndsHead, HasBit, IsSlotOf, IsTaken, KeepsSlotLaw, Resting, Represents, TierRepresents, slot_behind}
use Rattle.cm_plain.proofs.Apart.{IsApart, chunks_some, start_same}
use Rattle.cm_plain.proofs.EntryCount.{few_entries}
use Rattle.cm_plain.proofs.EntrySets.{count_with, count_without, in_with, length_with, stays_with, with_from}
use Rattle.cm_plain.proofs.ListElements.{all_in, in_from, in_to}
use Rattle.cm_plain.proofs.States.{is_placed, place_low}
use Rattle.cm_chunks.specs.RunBits.{IsInRun}
use Rattle.cm_lookup.specs.Probing.{IsFirstEmpty}
use Rattle.cm_lookup.specs.Tiers.{slot_word}
use Rattle.cm_lookup.proofs.SlotStores.{slot_in_kept_by_slot, slot_law_put_first, slot_put}
use Rattle.cm_tiers.proofs.Appending.{linked_kept}
use Rattle.cm_recover.proofs.Frames.{DiffersIn, link_left}
use Rattle.cm_recover.proofs.ReadChunks.{stands_left}

-- a count that is raised, as words of 64 bits do it
abbrev pub one_more : ℕ → ℕ
one_more word = (word + 1) % 2 ^ 64

-- a slot is this one, or not
pub here_or_not : (place slot q number : ℕ) → ((q ≡ place) × (number ≡ slot)) ⊎ (q ≡ place → number ≢ slot)
here_or_not place slot q number = elim (cases_eq q place) [
  | inl same ↦ elim (cases_eq number slot) [
    | inl it ↦ inl (same, it)
    | inr differ ↦ inr (λ e. differ)
  ]
  | inr differ ↦ inr (λ e. absurd (differ e))
]

empty_or_not : (slot : Slot) → None ≡ Some slot → ⊥
empty_or_not slot e = cc e

-- the slot that was the first empty one for the entry points to it, and all others are as they were
pub record AddsSlot (geo : Geo) (entry : Placed) (start words : List ℕ) : Type 0 where
  pub slot : ℕ
  pub below : slot < 2 * geo.chunks
  pub first : IsFirstEmpty geo start entry.place (fingerprint_in geo (hash entry.key)) slot
  pub here : slot_in geo words entry.place slot ≡ Some (slot_for geo entry.key entry.chunk)
  pub others : (place number : ℕ) → number < 2 * geo.chunks → (place ≡ entry.place → number ≢ slot)
      → slot_in geo words place number ≡ slot_in geo start place number

-- the entry is kept: its bits are set, a slot points to it, and both counts are raised
pub record IsKeptIn (geo : Geo) (entry : Placed) (start words : List ℕ) : Type 0 where
  pub differs : DiffersIn geo entry.place start words
  pub bits : (place chunk : ℕ) → chunk < geo.chunks
      → (HasBit geo words place chunk ↔ (IsInRun (run_of geo entry) place chunk ⊎ HasBit geo start place chunk))
  pub slot : AddsSlot geo entry start words
  pub in_tier : word_at words (tier_at geo entry.place + 1) ≡ one_more (word_at start (tier_at geo entry.place + 1))
  pub in_all : word_at words 2 ≡ one_more (word_at start 2)

-- those of some entries that pass a test are no more than they
filter_few : (test : Placed → Bool) (entries : List Placed) → length (filter test entries) ≤ length entries
filter_few test [] = omega arith
filter_few test (entry ∷ entries) = elim (cases_Bool (test entry)) [
  | inl passes ↦ rw passes (omega (arith, filter_few test entries))
  | inr fails ↦ rw fails (omega (arith, filter_few test entries))
]

-- the state with the entry
abbrev pub with_one : Geo → Placed → State → State
with_one geo entry state = record { chain = state.chain; entries = with_entry geo entry state.entries }

-- what is known of an entry that is kept beside a state
pub record IsBeside (geo : Geo) (segment : ℕ) (state : State) (entry : Placed) (start : List ℕ) : Type 0 where
  pub represents : Represents geo segment start state
  pub length_is : length start ≡ words_in_segment geo
  pub run : HasRun geo entry
  pub low : entry.place < geo.tiers
  pub chained : Contains state.chain entry.place
  pub stands : Stands geo start entry
  pub apart : (placed : Placed) → Contains state.entries placed → IsApart geo placed entry

module _ (geo : Geo) (segment : ℕ) (state : State) (entry : Placed) (start words : List ℕ) (beside : IsBeside geo segment state entry start)
    (whole : IsKeptIn geo entry start words) where
  -- no entry begins where the new one does
  starts_differ : (one other : Placed) → IsApart geo one other → run_start geo one ≢ run_start geo other
  starts_differ one other (inl h) = λ e. absurd (omega (arith, chunks_some geo one, e, h))
  starts_differ one other (inr h) = λ e. absurd (omega (arith, chunks_some geo other, e, h))

  all_apart : AllByRecursion (λ other. run_start geo other ≢ run_start geo entry) state.entries
  all_apart = all_in (λ other. run_start geo other ≢ run_start geo entry) state.entries
      (λ placed i. starts_differ placed entry (beside.apart placed (in_to state.entries placed i)))

  stays : (placed : Placed) → Contains state.entries placed → Contains (with_one geo entry state).entries placed
  stays placed there = in_to (with_entry geo entry state.entries) placed
      (stays_with geo entry state.entries placed (starts_differ placed entry (beside.apart placed there))
      (in_from state.entries placed there))

  is_there : Contains (with_one geo entry state).entries entry
  is_there = in_to (with_entry geo entry state.entries) entry (in_with geo entry state.entries)

  new_or_old : (placed : Placed) → Contains (with_one geo entry state).entries placed → (placed ≡ entry) ⊎ Contains state.entries placed
  new_or_old placed there = elim (with_from geo entry state.entries placed
      (in_from (with_entry geo entry state.entries) placed there)) [
        | inl same ↦ inl same
        | inr i ↦ inr (in_to state.entries placed i)
      ]

  -- no old entry is where the new one is
  not_there : (placed : Placed) → Contains state.entries placed → placed.place ≡ entry.place → placed.chunk ≡ entry.chunk → ⊥
  not_there placed there e f = starts_differ placed entry (beside.apart placed there) (start_same geo placed entry e f)

  slot_chunk : (key other : List ℕ) (a b : ℕ) → Some (slot_for geo key a) ≡ Some (slot_for geo other b) → a ≡ b
  slot_chunk key other a b e = same_Some a b (ap (λ (s : Slot). s.chunk) (same_Some (slot_for geo key a) (slot_for geo other b) e))

  here_is : (q number : ℕ) → q ≡ entry.place → number ≡ whole.slot.slot → slot_in geo words q number ≡ Some (slot_for geo entry.key entry.chunk)
  here_is q number e f = ap (λ (p : ℕ). slot_in geo words p number) e ∙ (ap (slot_in geo words entry.place) f ∙ whole.slot.here)

  was_none : (q number : ℕ) → q ≡ entry.place → number ≡ whole.slot.slot → slot_in geo start q number ≡ None
  was_none q number e f = ap (λ (p : ℕ). slot_in geo start p number) e ∙ (ap (slot_in geo start entry.place) f ∙ whole.slot.first.empty)

  -- ---- the slots of a tier

  slots_of : (q : ℕ) → Contains state.chain q → (number : ℕ) (slot : Slot) → number < 2 * geo.chunks → slot_in geo words q number ≡ Some slot
      → IsSlotOf geo (with_one geo entry state) q slot
  slots_of q chained number slot below e = elim (here_or_not entry.place whole.slot.slot q number) [
    | inl here ↦ record {
      placed = entry;
      at = record { there = is_there; place_is = sym here.0 };
      slot_is = same_Some slot (slot_for geo entry.key entry.chunk) (sym e ∙ here_is q number here.0 here.1);
    }
    | inr other ↦
        let of : IsSlotOf geo state q slot =
        (All-contains (TierRepresents geo start state) state.chain q beside.represents.tiers chained).slots number slot below
        (sym (whole.slot.others q number below other) ∙ e) in
        record { placed = of.placed; at = record { there = stays of.placed of.at.there; place_is = of.at.place_is }; slot_is = of.slot_is }
  ]

  -- the slot law
  law_other : (q : ℕ) → q ≢ entry.place → KeepsSlotLaw geo start q → KeepsSlotLaw geo words q
  law_other q differ law number slot below e steps on_way none =
      law number slot below (sym (whole.slot.others q number below (λ same. absurd (differ same))) ∙ e) steps on_way
      (sym (whole.slot.others q (slot_behind (2 * geo.chunks) (home_in geo slot.fingerprint) steps)
      (mod-lt (home_in geo slot.fingerprint + steps) (omega (arith, chunks_range geo))) (λ same. absurd (differ same))) ∙ none)

  law_here : KeepsSlotLaw geo start entry.place → KeepsSlotLaw geo words entry.place
  law_here law number slot below e steps on_way none =
      let put = slot_law_put_first geo start entry.place whole.slot.slot (fingerprint_in geo (hash entry.key)) entry.chunk beside.length_is beside.low
      (omega (arith, beside.run.inside, chunks_some geo entry)) law whole.slot.first in
      put number slot below (same number below ∙ e) steps on_way
      (same (slot_behind (2 * geo.chunks) (home_in geo slot.fingerprint) steps)
      (mod-lt (home_in geo slot.fingerprint + steps) (omega (arith, chunks_range geo))) ∙ none)
    where
      same : (k : ℕ) → k < 2 * geo.chunks
          → slot_in geo (slice_set start (slot_at geo entry.place whole.slot.slot) (slot_word (fingerprint_in geo (hash entry.key)) entry.chunk))
          entry.place k
          ≡ slot_in geo words entry.place k
      same k k_below = elim (cases_eq k whole.slot.slot) [
        | inl it ↦ ap (slot_in geo (slice_set start (slot_at geo entry.place whole.slot.slot)
            (slot_word (fingerprint_in geo (hash entry.key)) entry.chunk))
            entry.place) it
            ∙ (slot_put geo start entry.place whole.slot.slot (fingerprint_in geo (hash entry.key)) entry.chunk beside.length_is beside.low
            whole.slot.below (omega (arith, beside.run.inside, chunks_some geo entry))
            ∙ sym (here_is entry.place k refl it))
        | inr differ ↦ slot_in_kept_by_slot geo start entry.place entry.place whole.slot.slot k (slot_at geo entry.place whole.slot.slot)
            (slot_word (fingerprint_in geo (hash entry.key)) entry.chunk) refl whole.slot.below k_below (λ _. differ)
            ∙ sym (whole.slot.others entry.place k k_below (λ _. differ))
      ]

  law_of : (q : ℕ) → Contains state.chain q → KeepsSlotLaw geo words q
  law_of q chained =
      let law = (All-contains (TierRepresents geo start state) state.chain q beside.represents.tiers chained).reached in
      elim (cases_eq q entry.place) [
        | inl same ↦ subst (KeepsSlotLaw geo words) (sym same) (law_here (subst (KeepsSlotLaw geo start) same law))
        | inr differ ↦ law_other q differ law
      ]

  -- ---- the bits

  bits_of : (q : ℕ) → Contains state.chain q → (chunk : ℕ) → chunk < geo.chunks
      → (HasBit geo words q chunk ↔ IsTaken geo (with_one geo entry state) q chunk)
  bits_of q chained chunk below =
      let filled = whole.bits q chunk below in
      let was = (All-contains (TierRepresents geo start state) state.chain q beside.represents.tiers chained).bits chunk below in (
        λ has. elim (filled.0 has) [
          | inl in_run ↦ record {
            placed = entry;
            at = record { there = is_there; place_is = sym in_run.place_is };
            begun = in_run.begun;
            not_ended = in_run.not_ended;
          }
          | inr had ↦ (let taken = was.0 had in
              record {
                placed = taken.placed;
                at = record { there = stays taken.placed taken.at.there; place_is = taken.at.place_is };
                begun = taken.begun;
                not_ended = taken.not_ended;
              })
        ],
        λ taken. filled.1 (elim (new_or_old taken.placed taken.at.there) [
          | inl same ↦ inl (record {
            place_is = sym taken.at.place_is ∙ ap (λ (p : Placed). p.place) same;
            begun = subst (λ (p : Placed). p.chunk ≤ chunk) same taken.begun;
            not_ended = subst (λ (p : Placed). chunk < p.chunk + chunks_of geo p) same taken.not_ended;
          })
          | inr there ↦ inr (was.1 (record {
            placed = taken.placed;
            at = record { there = there; place_is = taken.at.place_is };
            begun = taken.begun;
            not_ended = taken.not_ended;
          }))
        ]),
      )

  -- ---- the counts

  no_wrap : (n : ℕ) → n ≤ length state.entries → one_more n ≡ n + 1
  no_wrap n h = omega (arith, h, few_entries geo segment state beside.represents.is_state)

  count_of : (q : ℕ) → Contains state.chain q
      → word_at words (tier_at geo q + 1) ≡ length (filter (λ placed. placed.place == q) (with_entry geo entry state.entries))
  unfolding words_in_tier
  count_of q chained =
      let was = (All-contains (TierRepresents geo start state) state.chain q beside.represents.tiers chained).count in
      elim (cases_eq q entry.place) [
        | inl same ↦
            let passes : (entry.place == q) ≡ true = eq-eqb entry.place q (sym same) in
            let in_tier : word_at words (tier_at geo q + 1) ≡ one_more (word_at start (tier_at geo q + 1)) =
            subst (λ (p : ℕ). word_at words (tier_at geo p + 1) ≡ one_more (word_at start (tier_at geo p + 1))) (sym same)
            whole.in_tier in
            in_tier ∙ (ap (λ (n : ℕ). one_more n) was
            ∙ (no_wrap (length (filter (λ placed. placed.place == q) state.entries)) (filter_few (λ placed. placed.place == q) state.entries)
            ∙ sym (count_with geo (λ placed. placed.place == q) entry state.entries all_apart passes)))
        | inr differ ↦
            let fails : (entry.place == q) ≡ false = ne_eqb entry.place q (λ e. differ (sym e)) in
            whole.differs.others q 1 (omega arith) (λ is. differ is.place_is)
            ∙ (was ∙ sym (count_without geo (λ placed. placed.place == q) entry state.entries all_apart fails))
      ]

  -- ---- the entries

  stand : (placed : Placed) → Contains (with_one geo entry state).entries placed → Stands geo words placed
  stand placed there = elim (new_or_old placed there) [
    | inl same ↦ subst (Stands geo words) (sym same)
        (stands_left geo entry.place start words entry beside.length_is beside.low beside.run whole.differs beside.stands)
    | inr old ↦
        let at = is_placed beside.represents.is_state placed old in
        stands_left geo entry.place start words placed beside.length_is
        (place_low beside.represents.is_state.chain placed.place at.chained) at.run whole.differs
        (beside.represents.stand placed old)
  ]

  once_new : IsPointedOnce geo words entry.place entry.key entry.chunk
  once_new = (
    whole.slot.slot,
    record { inside = whole.slot.below; slot_is = whole.slot.here },
    λ other points. elim (cases_eq other whole.slot.slot) [
      | inl same ↦ same
      | inr differ ↦
          let of : IsSlotOf geo state entry.place (slot_for geo entry.key entry.chunk) =
          (All-contains (TierRepresents geo start state) state.chain entry.place beside.represents.tiers beside.chained).slots other
          (slot_for geo entry.key entry.chunk) points.inside
          (sym (whole.slot.others entry.place other points.inside (λ _. differ)) ∙ points.slot_is) in
          absurd (not_there of.placed of.at.there of.at.place_is
          (sym (slot_chunk entry.key of.placed.key entry.chunk of.placed.chunk (ap (λ (s : Slot). Some s) of.slot_is))))
    ],
  )

  once_old : (placed : Placed) → Contains state.entries placed → IsPointedOnce geo words placed.place placed.key placed.chunk
  once_old placed there =
      let once = beside.represents.pointed placed there in (
        once.0,
        record {
          inside = once.1.inside;
          slot_is = whole.slot.others placed.place once.0 once.1.inside
              (λ e f. empty_or_not (slot_for geo placed.key placed.chunk) (sym (was_none placed.place once.0 e f) ∙ once.1.slot_is)) ∙ once.1.slot_is;
        },
        λ other points. elim (here_or_not entry.place whole.slot.slot placed.place other) [
          | inl here ↦ absurd (not_there placed there here.0
              (slot_chunk placed.key entry.key placed.chunk entry.chunk (sym points.slot_is ∙ here_is placed.place other here.0 here.1)))
          | inr differ ↦ once.2 other (record {
            inside = points.inside;
            slot_is = sym (whole.slot.others placed.place other points.inside differ) ∙ points.slot_is;
          })
        ],
      )

  pointed : (placed : Placed) → Contains (with_one geo entry state).entries placed → IsPointedOnce geo words placed.place placed.key placed.chunk
  pointed placed there = elim (new_or_old placed there) [
    | inl same ↦ subst (λ (p : Placed). IsPointedOnce geo words p.place p.key p.chunk) (sym same) once_new
    | inr old ↦ once_old placed old
  ]

  -- ---- all

  links : chain_of geo words ≡ chain_of geo start
  links = linked_kept geo start words (λ place low. link_left geo entry.place start words place whole.differs)

  zero : (place : ℕ) → place < geo.tiers → (Contains state.chain place → ⊥) → IsZero geo words place
  zero place low out offset below =
      whole.differs.others place offset below (λ is. out (subst (Contains state.chain) (sym is.place_is) beside.chained))
      ∙ beside.represents.unlinked place low out offset below

  represents_new : IsState geo segment (with_one geo entry state) → Represents geo segment words (with_one geo entry state)
  represents_new is = record {
    is_state = is;
    whole = ap (λ l. l.cut) links ∙ beside.represents.whole;
    chain = ap (λ l. l.places) links ∙ beside.represents.chain;
    tiers = All-from_recursion (TierRepresents geo words (with_one geo entry state)) state.chain
        (all_in (TierRepresents geo words (with_one geo entry state)) state.chain (λ q i.
        (let chained = in_to state.chain q i in
        record { slots = slots_of q chained; reached = law_of q chained; bits = bits_of q chained; count = count_of q chained })));
    stand = stand;
    pointed = pointed;
    count = whole.in_all
        ∙ (ap (λ (n : ℕ). one_more n) beside.represents.count
        ∙ (no_wrap (length state.entries) (omega arith) ∙ sym (length_with geo entry state.entries all_apart)));
    unlinked = zero;
  }

  pub rests_new : IsState geo segment (with_one geo entry state) → Resting geo segment start state
      → Resting geo segment words (with_one geo entry state)
  unfolding Resting words_in_tier
  rests_new is rests = record {
    length_is = whole.differs.length_is ∙ beside.length_is;
    fourth = whole.differs.head 3 (omega arith) (λ no. absurd (omega arith)) ∙ rests.fourth;
    heads = All-from_recursion (EndsHead geo words) state.chain (all_in (EndsHead geo words) state.chain (λ q i.
        (let head = All-contains (EndsHead geo start) state.chain q rests.heads (in_to state.chain q i) in record {
          third = whole.differs.others q 2 (omega arith) (λ is. is.not_third refl) ∙ head.third;
          fourth = whole.differs.others q 3 (omega arith) (λ is. is.not_fourth refl) ∙ head.fourth;
        })));
    represents = represents_new is;
  }
