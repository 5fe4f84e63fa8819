-- When an entry was removed, with its slot, its bits and its counts, the words rest for the state without it.
use Rattle.std.proofs.Common.{◌≡◌, ◌≢◌, ℕ, ◌+◌, ◌*◌, ◌^◌, ◌<◌, ◌≤◌, ◌↔◌, ◌==◌, Bool, false, true, not, List, length, filter, Some, None, Contains, refl, ap, sym, subst, ◌∙◌, inl, inr, arith, eq-eqb, ne_eqb}
use Rattle.std.specs.Str.{bytes_eq}
use Rattle.std.proofs.lemmas.Bool.{cases_eq}
use Rattle.std.proofs.lemmas.List.Elements.{All-contains, All-from_recursion}
use Rattle.cm_geo.specs.declared.geo.Geo.{Geo}
use Rattle.cm_geo.specs.Addresses.{tier_at, words_in_tier}
use Rattle.cm_plain.specs.declared.placed.Placed.{Placed}
use Rattle.cm_plain.specs.declared.plan.Run.{Run}
use Rattle.cm_plain.specs.States.{State, chunks_of}
use Rattle.cm_plain.specs.Changes.{Change, after, chain_after, without}
use Rattle.cm_plain.specs.Slots.{IsPointedOnce, Slot, slot_for, slot_in, word_at}
use Rattle.cm_plain.specs.Readings.{Stands}
use Rattle.cm_plain.specs.FoundChains.{chain_of}
use Rattle.cm_plain.specs.Lawful.{EndsHead, HasBit, IsSlotOf, IsTaken, KeepsSlotLaw, Represents, Resting, TierRepresents}
use Rattle.cm_plain.proofs.Apart.{IsApart, chunks_some}
use Rattle.cm_plain.proofs.EntryCount.{few_entries}
use Rattle.cm_plain.proofs.Keys.{key_tells}
use Rattle.cm_plain.proofs.ListElements.{all_in, in_from, in_has, in_kept_from, in_kept_to, in_to}
use Rattle.cm_plain.proofs.OutsideHead.{resting_many, resting_represents}
use Rattle.cm_plain.proofs.Placements.{keys_differ, removed_state}
use Rattle.cm_plain.proofs.RemovalSteps.{state_without}
use Rattle.cm_plain.proofs.States.{each_differs, is_placed, place_low}
use Rattle.cm_chunks.specs.RunBits.{IsInRun}
use Rattle.cm_lookup.proofs.Finding.{probe_below}
use Rattle.cm_tiers.proofs.Appending.{linked_kept}
use Rattle.cm_segment.specs.Counts.{one_less}
use Rattle.cm_segment.specs.Phases.{IsStart}
use Rattle.cm_segment.specs.RemovalStages.{IsIndexWord, IsRemoval, IsRemoved}
use Rattle.cm_segment.proofs.EntryCounts.{count_all, count_removed, count_some, count_within, one_if}
use Rattle.cm_segment.proofs.Frames.{link_left, slot_left}
use Rattle.cm_segment.proofs.UntouchedParts.{stands_left}
use Rattle.cm_segment.proofs.EntryBefore.{HasOldEntry, begins_apart, old_entry, slot_chunk}
use Rattle.cm_segment.proofs.RemovalTorn.{index_chunks, index_head, index_link, index_place}

-- runs that are apart have no chunk in common
pub not_in_both : (geo : Geo) (placed other : Placed) (chunk : ℕ) → IsApart geo placed other → placed.place ≡ other.place → placed.chunk ≤ chunk
    → chunk < placed.chunk + chunks_of geo placed
    → other.chunk ≤ chunk → chunk < other.chunk + chunks_of geo other → ⊥
not_in_both geo placed other chunk (inl h) e a b c d =
    (let rows : placed.place * geo.chunks ≡ other.place * geo.chunks = ap (λ (p : ℕ). p * geo.chunks) e in omega (arith, rows, h, b, c))
not_in_both geo placed other chunk (inr h) e a b c d =
    (let rows : placed.place * geo.chunks ≡ other.place * geo.chunks = ap (λ (p : ℕ). p * geo.chunks) e in omega (arith, rows, h, a, d))

-- a count of at least one that is lowered is one less
pub lowered : (now was n : ℕ) → now ≡ one_less was → was ≡ n → 1 ≤ n → n < 2 ^ 32 → now + 1 ≡ was
lowered now was n e f some few = omega arith

module _ (geo : Geo) (segment : ℕ) (state : State) (change : Change) (run : Run) (slot : ℕ) (start words : List ℕ)
    (is : IsStart geo segment change start state) (removal : IsRemoval geo change run slot) (removed : IsRemoved geo change run slot state start words) where
  represents : Represents geo segment start state
  represents = resting_represents geo segment start state is.rests

  its : HasOldEntry geo state change.key run
  its = old_entry geo segment start state change run is removal.old_is

  old_place : its.old.place ≡ run.place
  old_place = ap (λ (r : Run). r.place) (sym its.run_is)

  old_chunk : its.old.chunk ≡ run.chunk
  old_chunk = ap (λ (r : Run). r.chunk) (sym its.run_is)

  old_chunks : run.chunks ≡ chunks_of geo its.old
  old_chunks = ap (λ (r : Run). r.chunks) its.run_is

  -- ---- who stays

  stays : (placed : Placed) → Contains state.entries placed → placed.key ≢ change.key → Contains (without change.key state.entries) placed
  stays placed there differ =
      in_to (without change.key state.entries) placed
      (in_kept_to (λ entry. not (bytes_eq entry.key change.key)) state.entries placed (in_from state.entries placed there) (passes differ))
    where
      passes : placed.key ≢ change.key → not (bytes_eq placed.key change.key) ≡ true
      passes ne = elim (key_tells placed.key change.key) [
        | inl same ↦ absurd (ne same.1)
        | inr other ↦ rw other.0 refl
      ]

  was : (placed : Placed) → Contains (without change.key state.entries) placed → Contains state.entries placed
  was placed there = in_to state.entries placed
      (in_kept_from (λ entry. not (bytes_eq entry.key change.key)) state.entries placed (in_from (without change.key state.entries) placed there))

  other_key : (placed : Placed) → Contains (without change.key state.entries) placed → placed.key ≢ change.key
  other_key placed there = in_has (λ other. other.key ≢ change.key) (without change.key state.entries) placed (keys_differ change.key state.entries)
      (in_from (without change.key state.entries) placed there)

  -- ---- the tiers

  tier : (q : ℕ) → Contains state.chain q → TierRepresents geo start state q
  tier q chained = All-contains (TierRepresents geo start state) state.chain q represents.tiers chained

  same_slot : (q number : ℕ) → number < 2 * geo.chunks → q ≢ run.place → slot_in geo words q number ≡ slot_in geo start q number
  same_slot q number below differ =
      slot_left geo (IsIndexWord geo run.place) start words q number removed.no_slot.differs below (λ index. differ (index_place geo run.place q _ index))

  -- an entry whose slot stands beside the removed one is another
  of_other : (q number : ℕ) (seen : Slot) → q ≡ run.place → number < 2 * geo.chunks → number ≢ slot → slot_in geo start q number ≡ Some seen
      → (of : IsSlotOf geo state q seen) → of.placed.key ≢ change.key
  of_other q number seen here below differ e of same =
      let one = its.only of.placed of.at.there same in
      let once = represents.pointed its.old its.there in
      let points = removed.no_slot.points in
      let at_number : slot_in geo start its.old.place number ≡ Some (slot_for geo its.old.key its.old.chunk) =
      ap (λ (p : ℕ). slot_in geo start p number) (old_place ∙ sym here)
      ∙ (e ∙ (ap (λ (s : Slot). Some s) of.slot_is ∙ ap (λ (p : Placed). Some (slot_for geo p.key p.chunk)) one)) in
      let at_slot : slot_in geo start its.old.place slot ≡ Some (slot_for geo its.old.key its.old.chunk) =
      ap (λ (p : ℕ). slot_in geo start p slot) old_place
      ∙ (points.slot_is ∙ (ap (λ (k : List ℕ). Some (slot_for geo k run.chunk)) (sym its.key_is) ∙ ap (λ (c : ℕ). Some (slot_for geo its.old.key c))
      (sym old_chunk))) in
      differ (once.2 number (record { inside = below; slot_is = at_number }) ∙ sym (once.2 slot (record { inside = points.inside; slot_is = at_slot })))

  slots_of : (q : ℕ) → Contains state.chain q → (number : ℕ) (seen : Slot) → number < 2 * geo.chunks → slot_in geo words q number ≡ Some seen
      → IsSlotOf geo (state_without state change.key) q seen
  slots_of q chained number seen below e = elim (cases_eq q run.place) [
    | inl same ↦
        let before = removed.no_slot.lost.stood number seen below (subst (λ (p : ℕ). slot_in geo words p number ≡ Some seen) same e) in
        let in_start : slot_in geo start q before.0 ≡ Some seen = subst (λ (p : ℕ). slot_in geo start p before.0 ≡ Some seen) (sym same) before.3 in
        let of = (tier q chained).slots before.0 seen before.1 in_start in record {
          placed = of.placed;
          at = record { there = stays of.placed of.at.there (of_other q before.0 seen same before.1 before.2 in_start of); place_is = of.at.place_is };
          slot_is = of.slot_is;
        }
    | inr differ ↦
        let of = (tier q chained).slots number seen below (sym (same_slot q number below differ) ∙ e) in record {
          placed = of.placed;
          at = record {
            there = stays of.placed of.at.there
                (λ k. differ (sym of.at.place_is ∙ (ap (λ (p : Placed). p.place) (its.only of.placed of.at.there k) ∙ old_place)));
            place_is = of.at.place_is;
          };
          slot_is = of.slot_is;
        }
  ]

  stand : (placed : Placed) → Contains (without change.key state.entries) placed → Stands geo words placed
  stand placed there =
      let at = is_placed represents.is_state placed (was placed there) in
      stands_left geo (IsIndexWord geo run.place) start words placed (resting_many geo segment start state is.rests)
      (place_low represents.is_state.chain placed.place at.chained) at.run removed.no_slot.differs
      (λ i of index. index_chunks geo run.place placed.place placed.chunk (chunks_of geo placed) i of index) (represents.stand placed (was placed there))

  pointed : (placed : Placed) → Contains (without change.key state.entries) placed → IsPointedOnce geo words placed.place placed.key placed.chunk
  pointed placed there =
      let once = represents.pointed placed (was placed there) in
      let at = is_placed represents.is_state placed (was placed there) in
      elim (cases_eq placed.place run.place) [
        | inl same ↦
            let differs : slot_in geo start run.place slot ≢ Some (slot_for geo placed.key placed.chunk) = λ e.
            (let chunk : run.chunk ≡ placed.chunk = slot_chunk geo change.key placed.key run.chunk placed.chunk (sym removed.no_slot.points.slot_is ∙ e) in
            begins_apart geo placed its.old (its.apart placed (was placed there) (other_key placed there)) (same ∙ sym old_place)
            (sym chunk ∙ sym old_chunk)) in
            subst (λ (p : ℕ). IsPointedOnce geo words p placed.key placed.chunk) (sym same)
            (removed.no_slot.lost.once placed.key placed.chunk (omega (arith, at.run.inside, chunks_some geo placed)) differs
            (subst (λ (p : ℕ). IsPointedOnce geo start p placed.key placed.chunk) same once))
        | inr differ ↦ (
          once.0,
          record { inside = once.1.inside; slot_is = same_slot placed.place once.0 once.1.inside differ ∙ once.1.slot_is },
          λ other points. once.2 other (record { inside = points.inside; slot_is = sym (same_slot placed.place other points.inside differ) ∙ points.slot_is }),
        )
      ]

  bits_of : (q : ℕ) → Contains state.chain q → (chunk : ℕ) → chunk < geo.chunks
      → (HasBit geo words q chunk ↔ IsTaken geo (state_without state change.key) q chunk)
  bits_of q chained chunk below =
      let now = removed.bits q chunk below in
      let before = (tier q chained).bits chunk below in (
        λ has. (let both = now.0 has in let taken = before.0 both.1 in record {
          placed = taken.placed;
          at = record {
            there = stays taken.placed taken.at.there (λ k. both.0 (in_run taken (its.only taken.placed taken.at.there k)));
            place_is = taken.at.place_is;
          };
          begun = taken.begun;
          not_ended = taken.not_ended;
        }),
        λ taken. now.1 (
          λ inside. not_in_both geo taken.placed its.old chunk
              (its.apart taken.placed (was taken.placed taken.at.there) (other_key taken.placed taken.at.there))
              (taken.at.place_is ∙ (inside.place_is ∙ sym old_place)) taken.begun taken.not_ended
              (subst (λ (c : ℕ). c ≤ chunk) (sym old_chunk) inside.begun)
              (subst (λ (c : ℕ). chunk < c + chunks_of geo its.old) (sym old_chunk) (subst (λ (n : ℕ). chunk < run.chunk + n) old_chunks inside.not_ended)),
          before.1 (record {
            placed = taken.placed;
            at = record { there = was taken.placed taken.at.there; place_is = taken.at.place_is };
            begun = taken.begun;
            not_ended = taken.not_ended;
          }),
        ),
      )
    where
      in_run : (taken : IsTaken geo state q chunk) → taken.placed ≡ its.old → IsInRun run q chunk
      in_run taken one = record {
        place_is = sym taken.at.place_is ∙ (ap (λ (p : Placed). p.place) one ∙ old_place);
        begun = subst (λ (c : ℕ). c ≤ chunk) (ap (λ (p : Placed). p.chunk) one ∙ old_chunk) taken.begun;
        not_ended = subst (λ (n : ℕ). chunk < run.chunk + n) (sym old_chunks)
            (subst (λ (c : ℕ). chunk < c + chunks_of geo its.old) old_chunk (subst (λ (p : Placed). chunk < p.chunk + chunks_of geo p) one taken.not_ended));
      }

  law_of : (q : ℕ) → Contains state.chain q → KeepsSlotLaw geo words q
  law_of q chained = elim (cases_eq q run.place) [
    | inl same ↦ subst (KeepsSlotLaw geo words) (sym same) removed.no_slot.lost.law
    | inr other ↦ law_kept q other (tier q chained).reached
  ]
    where
      law_kept : (q : ℕ) → q ≢ run.place → KeepsSlotLaw geo start q → KeepsSlotLaw geo words q
      law_kept q other law number seen below e steps on_way none =
          law number seen below (sym (same_slot q number below other) ∙ e) steps on_way
          (sym (same_slot q _ (probe_below geo seen.fingerprint steps) other) ∙ none)

  -- ---- the counts

  few : length state.entries < 2 ^ 32
  few = few_entries geo segment state represents.is_state

  fewer : (test : Placed → Bool) → length (filter test (without change.key state.entries)) + one_if (test its.old) ≡ length (filter test state.entries)
  fewer test = count_removed test change.key state.entries its.old (each_differs represents.is_state) (in_from state.entries its.old its.there) its.key_is

  in_tier : word_at words (tier_at geo run.place + 1) + 1 ≡ word_at start (tier_at geo run.place + 1)
  in_tier = lowered (word_at words (tier_at geo run.place + 1)) (word_at start (tier_at geo run.place + 1))
      (length (filter (λ placed. placed.place == run.place) state.entries)) removed.in_tier (tier run.place its.chained).count
      (count_some (λ placed. placed.place == run.place) state.entries its.old (in_from state.entries its.old its.there)
      (eq-eqb its.old.place run.place old_place))
      (omega (arith, few, count_within (λ placed. placed.place == run.place) state.entries))

  count_of : (q : ℕ) → Contains state.chain q
      → word_at words (tier_at geo q + 1) ≡ length (filter (λ placed. placed.place == q) (without change.key state.entries))
  unfolding words_in_tier
  count_of q chained = elim (cases_eq q run.place) [
    | inl same ↦
        let one : one_if (its.old.place == q) ≡ 1 = ap one_if (eq-eqb its.old.place q (old_place ∙ sym same)) in
        let now : word_at words (tier_at geo q + 1) + 1 ≡ word_at start (tier_at geo q + 1) =
        subst (λ (p : ℕ). word_at words (tier_at geo p + 1) + 1 ≡ word_at start (tier_at geo p + 1)) (sym same) in_tier in
        omega (arith, now, one, (tier q chained).count, fewer (λ placed. placed.place == q))
    | inr other ↦
        let none : one_if (its.old.place == q) ≡ 0 = ap one_if (ne_eqb its.old.place q (λ e. other (sym e ∙ old_place))) in
        let now : word_at words (tier_at geo q + 1) ≡ word_at start (tier_at geo q + 1) =
        removed.no_slot.differs.others q 1 (omega arith) (λ index. other (index_place geo run.place q 1 index)) in
        omega (arith, now, none, (tier q chained).count, fewer (λ placed. placed.place == q))
  ]

  in_all : word_at words 2 ≡ length (without change.key state.entries)
  in_all =
      let less = fewer (λ placed. true) in
      let before : length (filter (λ placed. true) state.entries) ≡ length state.entries = count_all state.entries in
      let now : length (filter (λ placed. true) (without change.key state.entries)) ≡ length (without change.key state.entries) =
      count_all (without change.key state.entries) in
      let some = count_some (λ placed. true) state.entries its.old (in_from state.entries its.old its.there) refl in
      let one = lowered (word_at words 2) (word_at start 2) (length state.entries) removed.in_all represents.count (omega (arith, some, before)) few in
      omega (arith, one, less, before, now, represents.count)

  -- ---- all

  links : chain_of geo words ≡ chain_of geo start
  links = linked_kept geo start words
      (λ place low. link_left geo (IsIndexWord geo run.place) start words place removed.no_slot.differs (index_link geo run.place place))

  head_same : (q offset : ℕ) → 2 ≤ offset → offset < 4 → word_at words (tier_at geo q + offset) ≡ word_at start (tier_at geo q + offset)
  unfolding words_in_tier
  head_same q offset h k = removed.no_slot.differs.others q offset (omega arith) (index_head geo run.place q offset h k)

  without_rests : Resting geo segment words (state_without state change.key)
  unfolding Resting
  without_rests = record {
    length_is = removed.no_slot.differs.length_is ∙ resting_many geo segment start state is.rests;
    fourth = removed.no_slot.differs.fourth ∙ is.rests.fourth;
    heads = All-from_recursion (EndsHead geo words) state.chain (all_in (EndsHead geo words) state.chain (λ q i.
        (let head = All-contains (EndsHead geo start) state.chain q is.rests.heads (in_to state.chain q i) in
        record { third = head_same q 2 (omega arith) (omega arith) ∙ head.third; fourth = head_same q 3 (omega arith) (omega arith) ∙ head.fourth })));
    represents = record {
      is_state = removed_state geo segment state change.key represents.is_state;
      whole = ap (λ l. l.cut) links ∙ represents.whole;
      chain = ap (λ l. l.places) links ∙ represents.chain;
      tiers = All-from_recursion (TierRepresents geo words (state_without state change.key)) state.chain
          (all_in (TierRepresents geo words (state_without state change.key)) state.chain (λ q i.
          (let chained = in_to state.chain q i in
          record { slots = slots_of q chained; reached = law_of q chained; bits = bits_of q chained; count = count_of q chained })));
      stand = stand;
      pointed = pointed;
      count = in_all;
      unlinked = λ place low out offset below.
          removed.no_slot.differs.others place offset below
          (λ index. out (subst (Contains state.chain) (sym (index_place geo run.place place offset index)) its.chained))
          ∙ represents.unlinked place low out offset below;
    };
  }

  -- that is the state after the change
  after_removal : after geo change state ≡ state_without state change.key
  after_removal = rw removal.new_is (by_link change.link)
    where
      by_link : (link : Bool) → record { chain = chain_after link None state.chain; entries = without change.key state.entries }
          ≡ state_without state change.key
      by_link true = refl
      by_link false = refl

  pub removal_rests : Resting geo segment words (after geo change state)
  removal_rests = subst (Resting geo segment words) (sym after_removal) without_rests
