-- When an entry has moved to another run, the words rest for the state with the new one.
use Rattle.std.proofs.Common.{◌≡◌, ◌≢◌, ℕ, ◌+◌, ◌*◌, ◌<◌, ◌≤◌, ◌^◌, ◌==◌, List, slice_set, Some, None, Contains, refl, ap, sym, subst, ◌∙◌, inl, inr, arith, eq-eqb, ne_eqb}
use Rattle.std.proofs.lemmas.Bool.{cases_Bool, cases_eq}
use Rattle.std.proofs.lemmas.Option.{same_Some}
use Rattle.std.proofs.lemmas.List.Elements.{All-contains}
use Rattle.cm_geo.specs.declared.geo.Geo.{Geo}
use Rattle.cm_geo.specs.Addresses.{slot_at, tier_at, words_in_tier}
use Rattle.cm_geo.specs.Hash.{fingerprint_in, hash, home_in}
use Rattle.cm_plain.specs.declared.placed.Placed.{Placed}
use Rattle.cm_plain.specs.declared.plan.Run.{Run}
use Rattle.cm_plain.specs.States.{IsState, State, chunks_of}
use Rattle.cm_plain.specs.Changes.{Change, after, new_entry}
use Rattle.cm_plain.specs.Slots.{IsPointedOnce, Points, Slot, slot_for, slot_in, word_at}
use Rattle.cm_plain.specs.Readings.{Stands}
use Rattle.cm_plain.specs.Lawful.{IsReached, IsSlotOf, KeepsSlotLaw, Represents, Resting, TierRepresents, slot_behind}
use Rattle.cm_plain.proofs.Apart.{chunks_some}
use Rattle.cm_plain.proofs.EntryCount.{few_entries}
use Rattle.cm_plain.proofs.Keys.{key_tells}
use Rattle.cm_plain.proofs.ListElements.{in_from}
use Rattle.cm_plain.proofs.OutsideHead.{resting_many, resting_represents}
use Rattle.cm_plain.proofs.States.{is_placed, place_low}
use Rattle.cm_lookup.specs.Tiers.{slot_word}
use Rattle.cm_lookup.proofs.Finding.{probe_below}
use Rattle.cm_lookup.proofs.SlotStores.{slot_in_kept_by_slot, slot_law_put_first, slot_put}
use Rattle.cm_segment.specs.PlacementBase.{base_state, base_words}
use Rattle.cm_segment.specs.Counts.{one_less, one_more}
use Rattle.cm_segment.specs.Counts.IsCountAt.{of_segment, of_tier}
use Rattle.cm_segment.specs.Frames.{DiffersAt, IsChunkWord}
use Rattle.cm_segment.specs.Phases.{IsStart}
use Rattle.cm_segment.specs.PlacementStages.{IsPlacingWord}
use Rattle.cm_segment.specs.PlacementStages.IsPlacingWord.{of_run, slots}
use Rattle.cm_segment.specs.PlacementStages.IsRunWord.{bits, chunks, count}
use Rattle.cm_segment.specs.RelocationStages.{IsMove, IsMovedInTier, IsMovedToTier, IsMovingWord}
use Rattle.cm_segment.specs.RelocationStages.IsMovingWord.{from, to}
use Rattle.cm_segment.proofs.PlacementBase.{IsBase, base_is}
use Rattle.cm_segment.proofs.EntryCounts.{count_some, count_within, one_if}
use Rattle.cm_segment.proofs.EntryReplaced.{IsOthersOrNew, MayStandFor, replaced_rests, state_with}
use Rattle.cm_segment.proofs.EntryReplaced.IsOthersOrNew.{of_new, of_other}
use Rattle.cm_segment.proofs.UntouchedParts.{stands_left}
use Rattle.cm_segment.proofs.NewSlots.{empty_or_not, here_or_not}
use Rattle.cm_segment.proofs.EntryBefore.{HasOldEntry, begins_apart, old_entry, slot_chunk}
use Rattle.cm_segment.proofs.PlacementTorn.{placing_apart, placing_no_link, placing_place}
use Rattle.cm_segment.proofs.RelocationTorn.{old_in_base}
use Rattle.cm_segment.proofs.RemovalTorn.{index_chunks, index_head, index_link, index_place}

placing_head : (geo : Geo) (run : Run) (place offset : ℕ) → 2 ≤ offset → offset < 4 → IsPlacingWord geo run place offset → ⊥
placing_head geo run place offset h k (of_run (count p is)) = omega arith
placing_head geo run place offset h k (of_run (bits p is)) = omega (arith, is.from)
placing_head geo run place offset h k (of_run (chunks p is)) = omega (arith, is.from)
placing_head geo run place offset h k (slots p slot below is) = omega arith

-- the count of a tier of which no word has changed
pub count_left : (geo : Geo) (such : ℕ → ℕ → Type 0) (base words : List ℕ) (place : ℕ) → DiffersAt geo such base words → (such place 1 → ⊥)
    → word_at words (tier_at geo place + 1) ≡ word_at base (tier_at geo place + 1)
unfolding words_in_tier
count_left geo such base words place differs out = differs.others place 1 (omega arith) out

module _ (geo : Geo) (segment : ℕ) (change : Change) (old run : Run) (state mid : State) (base : List ℕ) (on : IsBase geo segment change run state mid base)
    (its : HasOldEntry geo mid change.key old) (may : MayStandFor geo segment mid change run) where
  represents : Represents geo segment base mid
  represents = resting_represents geo segment base mid on.rests

  tier : (q : ℕ) → Contains mid.chain q → TierRepresents geo base mid q
  tier q chained = All-contains (TierRepresents geo base mid) mid.chain q represents.tiers chained

  old_place : its.old.place ≡ old.place
  old_place = ap (λ (r : Run). r.place) (sym its.run_is)

  old_chunk : its.old.chunk ≡ old.chunk
  old_chunk = ap (λ (r : Run). r.chunk) (sym its.run_is)

  -- no entry begins where the new one does
  not_new : (placed : Placed) → Contains mid.entries placed → placed.place ≡ run.place → placed.chunk ≡ run.chunk → ⊥
  not_new placed there e f = begins_apart geo placed (new_entry change run)
      (on.apart placed (subst (λ (es : List Placed). Contains es placed) on.entries_are there)) e f

  -- nor another where the old one does
  not_old : (placed : Placed) → Contains mid.entries placed → placed.key ≢ change.key → placed.place ≡ old.place → placed.chunk ≡ old.chunk → ⊥
  not_old placed there differ e f = begins_apart geo placed its.old (its.apart placed there differ) (e ∙ sym old_place) (f ∙ sym old_chunk)

  -- a slot of the base other than the old one is another entry's
  other_of : (q number slot : ℕ) (seen : Slot) → Contains mid.chain q → number < 2 * geo.chunks → Points geo base old.place change.key old.chunk slot
      → (q ≡ old.place → number ≢ slot) → slot_in geo base q number ≡ Some seen → IsOthersOrNew geo mid change run q seen
  other_of q number slot seen chained below points apart e =
      let of = (tier q chained).slots number seen below e in
      elim (key_tells of.placed.key change.key) [
        | inl same ↦
            let one = its.only of.placed of.at.there same.1 in
            let here : q ≡ old.place = sym of.at.place_is ∙ (ap (λ (p : Placed). p.place) one ∙ old_place) in
            let once = represents.pointed its.old its.there in
            let at_number : slot_in geo base its.old.place number ≡ Some (slot_for geo its.old.key its.old.chunk) =
            ap (λ (p : ℕ). slot_in geo base p number) (old_place ∙ sym here)
            ∙ (e ∙ (ap (λ (s : Slot). Some s) of.slot_is ∙ ap (λ (p : Placed). Some (slot_for geo p.key p.chunk)) one)) in
            let at_slot : slot_in geo base its.old.place slot ≡ Some (slot_for geo its.old.key its.old.chunk) =
            ap (λ (p : ℕ). slot_in geo base p slot) old_place
            ∙ (points.slot_is ∙ (ap (λ (k : List ℕ). Some (slot_for geo k old.chunk)) (sym its.key_is) ∙ ap (λ (c : ℕ). Some (slot_for geo its.old.key c))
            (sym old_chunk))) in
            absurd (apart here (once.2 number (record { inside = below; slot_is = at_number }) ∙ sym
            (once.2 slot (record { inside = points.inside; slot_is = at_slot }))))
        | inr other ↦ of_other of.placed of.at other.1 of.slot_is
      ]

  stand_on : (such : ℕ → ℕ → Type 0) (words : List ℕ) → DiffersAt geo such base words
      → ((placed : Placed) → Contains mid.entries placed → (offset : ℕ) → IsChunkWord geo placed.chunk (chunks_of geo placed) offset → such placed.place offset
      → ⊥)
      → (placed : Placed) → Contains mid.entries placed → Stands geo words placed
  stand_on such words differs out placed there =
      let at = is_placed represents.is_state placed there in
      stands_left geo such base words placed (resting_many geo segment base mid on.rests)
      (place_low represents.is_state.chain placed.place at.chained) at.run differs (out placed there) (represents.stand placed there)

  placing_out : (placed : Placed) → Contains mid.entries placed → (offset : ℕ) → IsChunkWord geo placed.chunk (chunks_of geo placed) offset
      → IsPlacingWord geo run placed.place offset → ⊥
  placing_out placed there = placing_apart geo run placed (new_entry change run)
      (on.apart placed (subst (λ (es : List Placed). Contains es placed) on.entries_are there)) refl refl may.size
      (is_placed represents.is_state placed there).run.inside

  -- the slot of the new entry points to it alone
  new_alone : (words : List ℕ) (goal : ℕ) → goal < 2 * geo.chunks → slot_in geo words run.place goal ≡ Some (slot_for geo change.key run.chunk)
      → ((number : ℕ) → number < 2 * geo.chunks → number ≢ goal → slot_in geo words run.place number ≡ slot_in geo base run.place number)
      → IsPointedOnce geo words run.place change.key run.chunk
  new_alone words goal inside here others = (
    goal,
    record { inside = inside; slot_is = here },
    λ other points. elim (cases_eq other goal) [
      | inl same ↦ same
      | inr differ ↦
          let of : IsSlotOf geo mid run.place (slot_for geo change.key run.chunk) =
          (tier run.place on.chained).slots other (slot_for geo change.key run.chunk) points.inside
          (sym (others other points.inside differ) ∙ points.slot_is) in
          absurd (not_new of.placed of.at.there of.at.place_is
          (sym (slot_chunk geo change.key of.placed.key run.chunk of.placed.chunk (ap (λ (s : Slot). Some s) of.slot_is))))
    ],
  )

  -- ---- in its tier

  module _ (slot : ℕ) (words : List ℕ) (place_is : old.place ≡ run.place) (moved : IsMovedInTier geo change old run slot state base words) where
    here_is : (q number : ℕ) → q ≡ run.place → number ≡ slot → slot_in geo words q number ≡ Some (slot_for geo change.key run.chunk)
    here_is q number e f = ap (λ (p : ℕ). slot_in geo words p number) e ∙ (ap (slot_in geo words run.place) f ∙ moved.turned.here)

    was_old : (q number : ℕ) → q ≡ run.place → number ≡ slot → slot_in geo base q number ≡ Some (slot_for geo change.key old.chunk)
    was_old q number e f = ap (λ (p : ℕ). slot_in geo base p number) (e ∙ sym place_is) ∙ (ap (slot_in geo base old.place) f ∙ moved.turned.points.slot_is)

    here_slots : (q number : ℕ) (seen : Slot) → Contains mid.chain q → number < 2 * geo.chunks → slot_in geo words q number ≡ Some seen
        → IsOthersOrNew geo mid change run q seen
    here_slots q number seen chained below e = elim (here_or_not run.place slot q number) [
      | inl at ↦ of_new at.0 (same_Some seen (slot_for geo change.key run.chunk) (sym e ∙ here_is q number at.0 at.1))
      | inr apart ↦ other_of q number slot seen chained below moved.turned.points (λ h. apart (h ∙ place_is))
          (sym (moved.turned.others q number below apart) ∙ e)
    ]

    -- what isn't empty stays so
    full_still : (q number : ℕ) → number < 2 * geo.chunks → slot_in geo words q number ≡ None → slot_in geo base q number ≡ None
    full_still q number below none = elim (here_or_not run.place slot q number) [
      | inl at ↦ absurd (empty_or_not (slot_for geo change.key run.chunk) (sym none ∙ here_is q number at.0 at.1))
      | inr apart ↦ sym (moved.turned.others q number below apart) ∙ none
    ]

    here_law : (q : ℕ) → Contains mid.chain q → KeepsSlotLaw geo words q
    here_law q chained number seen below e = elim (here_or_not run.place slot q number) [
      | inl at ↦
          let one : seen ≡ slot_for geo change.key run.chunk = same_Some seen (slot_for geo change.key run.chunk) (sym e ∙ here_is q number at.0 at.1) in
          subst (IsReached geo words q number) (sym one)
          (λ steps on_way none. (tier q chained).reached number (slot_for geo change.key old.chunk) below (was_old q number at.0 at.1) steps on_way
          (full_still q _ (probe_below geo (fingerprint_in geo (hash change.key)) steps) none))
      | inr apart ↦ (λ steps on_way none. (tier q chained).reached number seen below (sym (moved.turned.others q number below apart) ∙ e) steps on_way
          (full_still q _ (probe_below geo seen.fingerprint steps) none))
    ]

    here_others_once : (placed : Placed) → Contains mid.entries placed → placed.key ≢ change.key → IsPointedOnce geo words placed.place placed.key placed.chunk
    here_others_once placed there differ =
        let once = represents.pointed placed there in (
          once.0,
          record {
            inside = once.1.inside;
            slot_is = moved.turned.others placed.place once.0 once.1.inside
                (λ e f. not_old placed there differ (e ∙ sym place_is)
                (slot_chunk geo placed.key change.key placed.chunk old.chunk (sym once.1.slot_is ∙ was_old placed.place once.0 e f))) ∙ once.1.slot_is;
          },
          λ other points. elim (here_or_not run.place slot placed.place other) [
            | inl at ↦ absurd (not_new placed there at.0
                (slot_chunk geo placed.key change.key placed.chunk run.chunk (sym points.slot_is ∙ here_is placed.place other at.0 at.1)))
            | inr apart ↦ once.2 other (record {
              inside = points.inside;
              slot_is = sym (moved.turned.others placed.place other points.inside apart)
                  ∙ points.slot_is;
            })
          ],
        )

    here_count : (q : ℕ) → word_at words (tier_at geo q + 1) + one_if (old.place == q) ≡ word_at base (tier_at geo q + 1) + one_if (run.place == q)
    here_count q =
        let same : word_at words (tier_at geo q + 1) ≡ word_at base (tier_at geo q + 1) = elim (cases_eq q run.place) [
          | inl at ↦ subst (λ (p : ℕ). word_at words (tier_at geo p + 1) ≡ word_at base (tier_at geo p + 1)) (sym at)
              (moved.counts (tier_at geo run.place + 1) (of_tier refl))
          | inr differ ↦ count_left geo (IsPlacingWord geo run) base words q moved.turned.differs (λ h. differ (placing_place geo run q 1 h))
        ] in
        rw (same, place_is) refl

    pub moved_in_tier_rests : Resting geo segment words (state_with geo change run mid)
    moved_in_tier_rests = replaced_rests geo segment mid change old run (IsPlacingWord geo run) base words on.rests its may (record {
      differs = moved.turned.differs;
      no_link = placing_no_link geo run;
      no_head = placing_head geo run;
      in_chain = λ q i h. subst (Contains mid.chain) (sym (placing_place geo run q i h)) on.chained;
      slots = here_slots;
      law = here_law;
      others_once = here_others_once;
      new_once = new_alone words slot moved.turned.points.inside moved.turned.here
          (λ number below differ. moved.turned.others run.place number below (λ _. differ));
      others_stand = λ placed there differ. stand_on (IsPlacingWord geo run) words moved.turned.differs placing_out placed there;
      new_stands = moved.turned.stands;
      bits = moved.bits;
      count = λ q chained. here_count q;
      in_all = moved.counts 2 (of_segment refl);
    })

  -- ---- to another tier

  module _ (slot : ℕ) (words : List ℕ) (apart_is : old.place ≢ run.place) (moved : IsMovedToTier geo change old run slot state base words) where
    goal_is : (q number : ℕ) → q ≡ run.place → number ≡ moved.new.goal → slot_in geo words q number ≡ Some (slot_for geo change.key run.chunk)
    goal_is q number e f = ap (λ (p : ℕ). slot_in geo words p number) e ∙ (ap (slot_in geo words run.place) f ∙ moved.new.here)

    was_none : (q number : ℕ) → q ≡ run.place → number ≡ moved.new.goal → slot_in geo base q number ≡ None
    was_none q number e f = ap (λ (p : ℕ). slot_in geo base p number) e ∙ (ap (slot_in geo base run.place) f ∙ moved.new.first.empty)

    away_slots : (q number : ℕ) (seen : Slot) → Contains mid.chain q → number < 2 * geo.chunks → slot_in geo words q number ≡ Some seen
        → IsOthersOrNew geo mid change run q seen
    away_slots q number seen chained below e = elim (cases_eq q old.place) [
      | inl at ↦
          let before = moved.lost.stood number seen below (subst (λ (p : ℕ). slot_in geo words p number ≡ Some seen) at e) in
          other_of q before.0 slot seen chained before.1 moved.new.points (λ _. before.2)
          (subst (λ (p : ℕ). slot_in geo base p before.0 ≡ Some seen) (sym at) before.3)
      | inr elsewhere ↦ elim (here_or_not run.place moved.new.goal q number) [
        | inl here ↦ of_new here.0 (same_Some seen (slot_for geo change.key run.chunk) (sym e ∙ goal_is q number here.0 here.1))
        | inr apart ↦ other_of q number slot seen chained below moved.new.points (λ h. absurd (elsewhere h))
            (sym (moved.new.others q number below elsewhere apart) ∙ e)
      ]
    ]

    run_chunk : run.chunk < geo.chunks
    run_chunk = omega (arith, on.places.new_in.run_in.inside, on.places.new_in.run_in.nonzero)

    -- the slot law of the new tier
    law_here : KeepsSlotLaw geo base run.place → KeepsSlotLaw geo words run.place
    law_here law number seen below e steps on_way none =
        let put = slot_law_put_first geo base run.place moved.new.goal (fingerprint_in geo (hash change.key)) run.chunk
        (resting_many geo segment base mid on.rests) on.places.new_in.run_in.place_inside run_chunk law moved.new.first in
        put number seen below (same number below ∙ e) steps on_way
        (same (slot_behind (2 * geo.chunks) (home_in geo seen.fingerprint) steps) (probe_below geo seen.fingerprint steps) ∙ none)
      where
        same : (k : ℕ) → k < 2 * geo.chunks
            → slot_in geo (slice_set base (slot_at geo run.place moved.new.goal) (slot_word (fingerprint_in geo (hash change.key)) run.chunk)) run.place k
            ≡ slot_in geo words run.place k
        same k k_below = elim (cases_eq k moved.new.goal) [
          | inl it ↦ ap (slot_in geo (slice_set base (slot_at geo run.place moved.new.goal) (slot_word (fingerprint_in geo (hash change.key)) run.chunk))
              run.place) it
              ∙ (slot_put geo base run.place moved.new.goal (fingerprint_in geo (hash change.key)) run.chunk
              (resting_many geo segment base mid on.rests) on.places.new_in.run_in.place_inside moved.new.goal_inside run_chunk
              ∙ sym (goal_is run.place k refl it))
          | inr differ ↦ slot_in_kept_by_slot geo base run.place run.place moved.new.goal k (slot_at geo run.place moved.new.goal)
              (slot_word (fingerprint_in geo (hash change.key)) run.chunk) refl moved.new.goal_inside k_below (λ _. differ)
              ∙ sym (moved.new.others run.place k k_below (λ h. apart_is (sym h)) (λ _. differ))
        ]

    law_other : (q : ℕ) → q ≢ old.place → q ≢ run.place → KeepsSlotLaw geo base q → KeepsSlotLaw geo words q
    law_other q elsewhere apart law number seen below e steps on_way none =
        law number seen below (sym (moved.new.others q number below elsewhere (λ h. absurd (apart h))) ∙ e) steps on_way
        (sym (moved.new.others q _ (probe_below geo seen.fingerprint steps) elsewhere (λ h. absurd (apart h))) ∙ none)

    away_law : (q : ℕ) → Contains mid.chain q → KeepsSlotLaw geo words q
    away_law q chained = elim (cases_eq q old.place) [
      | inl at ↦ subst (KeepsSlotLaw geo words) (sym at) moved.lost.law
      | inr elsewhere ↦ elim (cases_eq q run.place) [
        | inl here ↦ subst (KeepsSlotLaw geo words) (sym here) (law_here (tier run.place on.chained).reached)
        | inr apart ↦ law_other q elsewhere apart (tier q chained).reached
      ]
    ]

    away_others_once : (placed : Placed) → Contains mid.entries placed → placed.key ≢ change.key → IsPointedOnce geo words placed.place placed.key placed.chunk
    away_others_once placed there differ =
        let once = represents.pointed placed there in
        let at = is_placed represents.is_state placed there in
        elim (cases_eq placed.place old.place) [
          | inl same ↦
              subst (λ (p : ℕ). IsPointedOnce geo words p placed.key placed.chunk) (sym same)
              (moved.lost.once placed.key placed.chunk (omega (arith, at.run.inside, chunks_some geo placed))
              (λ e. not_old placed there differ same (sym (slot_chunk geo change.key placed.key old.chunk placed.chunk (sym moved.new.points.slot_is ∙ e))))
              (subst (λ (p : ℕ). IsPointedOnce geo base p placed.key placed.chunk) same once))
          | inr elsewhere ↦ (
            once.0,
            record {
              inside = once.1.inside;
              slot_is = moved.new.others placed.place once.0 once.1.inside
                  elsewhere (λ e f. empty_or_not (slot_for geo placed.key placed.chunk) (sym (was_none placed.place once.0 e f) ∙ once.1.slot_is))
                  ∙ once.1.slot_is;
            },
            λ other points. elim (here_or_not run.place moved.new.goal placed.place other) [
              | inl here ↦ absurd (not_new placed there here.0
                  (slot_chunk geo placed.key change.key placed.chunk run.chunk (sym points.slot_is ∙ goal_is placed.place other here.0 here.1)))
              | inr apart ↦ once.2 other (record {
                inside = points.inside;
                slot_is = sym (moved.new.others placed.place other points.inside elsewhere apart)
                    ∙ points.slot_is;
              })
            ],
          )
        ]

    moving_link : (q : ℕ) → IsMovingWord geo old.place run q 0 → ⊥
    moving_link q (to word) = placing_no_link geo run q word
    moving_link q (from word) = index_link geo old.place q word

    moving_head : (q i : ℕ) → 2 ≤ i → i < 4 → IsMovingWord geo old.place run q i → ⊥
    moving_head q i h k (to word) = placing_head geo run q i h k word
    moving_head q i h k (from word) = index_head geo old.place q i h k word

    moving_chain : (q i : ℕ) → IsMovingWord geo old.place run q i → Contains mid.chain q
    moving_chain q i (to word) = subst (Contains mid.chain) (sym (placing_place geo run q i word)) on.chained
    moving_chain q i (from word) = subst (Contains mid.chain) (sym (index_place geo old.place q i word)) its.chained

    moving_out : (placed : Placed) → Contains mid.entries placed → (i : ℕ) → IsChunkWord geo placed.chunk (chunks_of geo placed) i
        → IsMovingWord geo old.place run placed.place i → ⊥
    moving_out placed there i of (to word) = placing_out placed there i of word
    moving_out placed there i of (from word) = index_chunks geo old.place placed.place placed.chunk (chunks_of geo placed) i of word

    -- the counts of the two tiers
    few : (q : ℕ) → Contains mid.chain q → word_at base (tier_at geo q + 1) < 2 ^ 32
    few q chained = omega (
      arith,
      (tier q chained).count,
      count_within
          (λ placed. placed.place == q) mid.entries,
      few_entries geo segment mid represents.is_state,
    )

    some_old : 1 ≤ word_at base (tier_at geo old.place + 1)
    some_old = rw (tier old.place its.chained).count
        (count_some (λ placed. placed.place == old.place) mid.entries its.old (in_from mid.entries its.old its.there)
        (eq-eqb its.old.place old.place old_place))

    away_count : (q : ℕ) → Contains mid.chain q
        → word_at words (tier_at geo q + 1) + one_if (old.place == q) ≡ word_at base (tier_at geo q + 1) + one_if (run.place == q)
    away_count q chained = elim (cases_eq q old.place) [
      | inl at ↦
          let now : word_at words (tier_at geo q + 1) ≡ one_less (word_at base (tier_at geo q + 1)) =
          subst (λ (p : ℕ). word_at words (tier_at geo p + 1) ≡ one_less (word_at base (tier_at geo p + 1))) (sym at) moved.in_old in
          let some : 1 ≤ word_at base (tier_at geo q + 1) = subst (λ (p : ℕ). 1 ≤ word_at base (tier_at geo p + 1)) (sym at) some_old in
          less (word_at words (tier_at geo q + 1)) (word_at base (tier_at geo q + 1)) (one_if (old.place == q)) (one_if (run.place == q)) now some
          (few q chained)
          (ap one_if (eq-eqb old.place q (sym at))) (ap one_if (ne_eqb run.place q (λ e. apart_is (sym (e ∙ at)))))
      | inr elsewhere ↦ elim (cases_eq q run.place) [
        | inl here ↦
            let now : word_at words (tier_at geo q + 1) ≡ one_more (word_at base (tier_at geo q + 1)) =
            subst (λ (p : ℕ). word_at words (tier_at geo p + 1) ≡ one_more (word_at base (tier_at geo p + 1))) (sym here) moved.in_new in
            more (word_at words (tier_at geo q + 1)) (word_at base (tier_at geo q + 1)) (one_if (old.place == q)) (one_if (run.place == q)) now (few q chained)
            (ap one_if (ne_eqb old.place q (λ e. elsewhere (sym e)))) (ap one_if (eq-eqb run.place q (sym here)))
        | inr apart ↦ same (word_at words (tier_at geo q + 1)) (word_at base (tier_at geo q + 1)) (one_if (old.place == q)) (one_if (run.place == q))
            (count_left geo (IsMovingWord geo old.place run) base words q moved.new.differs (no_count q elsewhere apart))
            (ap one_if (ne_eqb old.place q (λ e. elsewhere (sym e)))) (ap one_if (ne_eqb run.place q (λ e. apart (sym e))))
      ]
    ]
      where
        less : (now was gone came : ℕ) → now ≡ one_less was → 1 ≤ was → was < 2 ^ 32 → gone ≡ 1 → came ≡ 0 → now + gone ≡ was + came
        less now was gone came e h k f i = omega arith

        more : (now was gone came : ℕ) → now ≡ one_more was → was < 2 ^ 32 → gone ≡ 0 → came ≡ 1 → now + gone ≡ was + came
        more now was gone came e k f i = omega arith

        same : (now was gone came : ℕ) → now ≡ was → gone ≡ 0 → came ≡ 0 → now + gone ≡ was + came
        same now was gone came e f i = omega arith

        no_count : (q : ℕ) → q ≢ old.place → q ≢ run.place → IsMovingWord geo old.place run q 1 → ⊥
        no_count q elsewhere apart (to word) = apart (placing_place geo run q 1 word)
        no_count q elsewhere apart (from word) = elsewhere (index_place geo old.place q 1 word)

    pub moved_to_tier_rests : Resting geo segment words (state_with geo change run mid)
    moved_to_tier_rests = replaced_rests geo segment mid change old run (IsMovingWord geo old.place run) base words on.rests its may (record {
      differs = moved.new.differs;
      no_link = moving_link;
      no_head = moving_head;
      in_chain = moving_chain;
      slots = away_slots;
      law = away_law;
      others_once = away_others_once;
      new_once = new_alone words moved.new.goal moved.new.goal_inside moved.new.here
          (λ number below differ. moved.new.others run.place number below (λ h. apart_is (sym h)) (λ _. differ));
      others_stand = λ placed there differ. stand_on (IsMovingWord geo old.place run) words moved.new.differs moving_out placed there;
      new_stands = moved.new.stands;
      bits = moved.bits;
      count = away_count;
      in_all = moved.in_all;
    })

-- ---- the state after the change

after_is : (geo : Geo) (change : Change) (run : Run) (state : State) → change.new_run ≡ Some run
    → after geo change state ≡ state_with geo change run (base_state change run state)
after_is geo change run state run_is = elim (cases_Bool change.link) [
  | inl links ↦ rw (run_is, links) refl
  | inr links_not ↦ rw (run_is, links_not) refl
]

module _ (geo : Geo) (segment : ℕ) (change : Change) (old run : Run) (slot : ℕ) (state : State) (start words : List ℕ)
    (is : IsStart geo segment change start state) (move : IsMove geo change old run slot) where
  on : IsBase geo segment change run state (base_state change run state) (base_words geo change run state start)
  on = base_is geo segment state change run start is move.places

  its : HasOldEntry geo (base_state change run state) change.key old
  its = old_in_base geo segment change old run state (base_state change run state) (base_words geo change run state start) on
      (old_entry geo segment start state change old is move.old_is)

  may : MayStandFor geo segment (base_state change run state) change run
  may = record {
    size = on.new.size;
    apart = λ other there differ. on.apart other (subst (λ (es : List Placed). Contains es other) on.entries_are there);
    is_state = subst (IsState geo segment) (after_is geo change run state move.places.run_is) is.planned.leads;
  }

  pub move_in_tier_rests : old.place ≡ run.place → IsMovedInTier geo change old run slot state (base_words geo change run state start) words
      → Resting geo segment words (after geo change state)
  move_in_tier_rests same moved = subst (Resting geo segment words) (sym (after_is geo change run state move.places.run_is))
      (moved_in_tier_rests geo segment change old run state (base_state change run state)
      (base_words geo change run state start) on its may slot words same moved)

  pub move_to_tier_rests : old.place ≢ run.place → IsMovedToTier geo change old run slot state (base_words geo change run state start) words
      → Resting geo segment words (after geo change state)
  move_to_tier_rests apart moved = subst (Resting geo segment words) (sym (after_is geo change run state move.places.run_is))
      (moved_to_tier_rests geo segment change old run state (base_state change run state)
      (base_words geo change run state start) on its may slot words apart moved)
