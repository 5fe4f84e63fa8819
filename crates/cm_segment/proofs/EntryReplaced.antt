-- When a key's entry was replaced by a new one, wherever that stands, the words rest for the state with the new one.
use Rattle.std.proofs.Common.{◌≡◌, ◌≢◌, ℕ, ◌+◌, ◌*◌, ◌<◌, ◌≤◌, ◌⊎◌, ◌↔◌, ◌==◌, Bool, false, true, not, List, length, filter, Some, Contains, refl, ap, sym, subst, ◌∙◌, inl, inr, arith}
use Rattle.std.specs.List.{AllByRecursion}
use Rattle.std.specs.Str.{bytes_eq}
use Rattle.std.proofs.lemmas.List.Elements.{All-contains, All-from_recursion}
use Rattle.cm_geo.specs.declared.geo.Geo.{Geo}
use Rattle.cm_geo.specs.Addresses.{tier_at, words_in_tier}
use Rattle.cm_plain.specs.declared.placed.Placed.{Placed}
use Rattle.cm_plain.specs.declared.plan.Run.{Run}
use Rattle.cm_plain.specs.States.{IsState, State, chunks_of, run_start}
use Rattle.cm_plain.specs.Changes.{Change, new_entry, with_entry, without}
use Rattle.cm_plain.specs.Slots.{IsPointedOnce, Slot, slot_for, slot_in, word_at}
use Rattle.cm_plain.specs.Readings.{Stands}
use Rattle.cm_plain.specs.FoundChains.{chain_of}
use Rattle.cm_plain.specs.Lawful.{EndsHead, HasBit, IsAt, IsSlotOf, IsTaken, KeepsSlotLaw, Represents, Resting, TierRepresents}
use Rattle.cm_plain.proofs.Apart.{IsApart, apart_starts}
use Rattle.cm_plain.proofs.EntrySets.{in_with, stays_with, with_from}
use Rattle.cm_plain.proofs.Keys.{key_tells}
use Rattle.cm_plain.proofs.ListElements.{In, all_in, in_from, in_has, in_kept_from, in_kept_to, in_to}
use Rattle.cm_plain.proofs.OutsideHead.{resting_many, resting_represents}
use Rattle.cm_plain.proofs.Placements.{keys_differ}
use Rattle.cm_plain.proofs.States.{each_differs}
use Rattle.cm_chunks.specs.RunBits.{IsInRun}
use Rattle.cm_tiers.proofs.Appending.{linked_kept}
use Rattle.cm_segment.specs.Frames.{DiffersAt}
use Rattle.cm_segment.specs.ReplacementStages.{ReplacesBits}
use Rattle.cm_segment.proofs.EntryCounts.{count_all, count_put, count_removed, one_if}
use Rattle.cm_segment.proofs.EntryRemoved.{not_in_both}
use Rattle.cm_segment.proofs.Frames.{link_left}
use Rattle.cm_segment.proofs.EntryBefore.{HasOldEntry}

-- the state in which the new entry stands for the old one
abbrev pub state_with : Geo → Change → Run → State → State
state_with geo change run state = record { chain = state.chain; entries = with_entry geo (new_entry change run) (without change.key state.entries) }

-- a slot at a place is that of an entry of another key, or of the new one
pub data IsOthersOrNew (geo : Geo) (state : State) (change : Change) (run : Run) (place : ℕ) (seen : Slot) : Type 0 where
  of_other : (placed : Placed) → IsAt state place placed → placed.key ≢ change.key → seen ≡ slot_for geo placed.key placed.chunk
      → IsOthersOrNew geo state change run place seen
  of_new : place ≡ run.place → seen ≡ slot_for geo change.key run.chunk → IsOthersOrNew geo state change run place seen

-- the new entry may stand among those of other keys
pub record MayStandFor (geo : Geo) (segment : ℕ) (state : State) (change : Change) (run : Run) : Type 0 where
  pub size : run.chunks ≡ chunks_of geo (new_entry change run)
  pub apart : (other : Placed) → Contains state.entries other → other.key ≢ change.key → IsApart geo other (new_entry change run)
  pub is_state : IsState geo segment (state_with geo change run state)

-- all that was stored
pub record HasReplaced (geo : Geo) (state : State) (change : Change) (old run : Run) (such : ℕ → ℕ → Type 0) (base words : List ℕ) : Type 0 where
  pub differs : DiffersAt geo such base words
  pub no_link : (place : ℕ) → such place 0 → ⊥
  pub no_head : (place offset : ℕ) → 2 ≤ offset → offset < 4 → such place offset → ⊥
  pub in_chain : (place offset : ℕ) → such place offset → Contains state.chain place
  pub slots : (place number : ℕ) (seen : Slot) → Contains state.chain place → number < 2 * geo.chunks → slot_in geo words place number ≡ Some seen
      → IsOthersOrNew geo state change run place seen
  pub law : (place : ℕ) → Contains state.chain place → KeepsSlotLaw geo words place
  pub others_once : (placed : Placed) → Contains state.entries placed → placed.key ≢ change.key → IsPointedOnce geo words placed.place placed.key placed.chunk
  pub new_once : IsPointedOnce geo words run.place change.key run.chunk
  pub others_stand : (placed : Placed) → Contains state.entries placed → placed.key ≢ change.key → Stands geo words placed
  pub new_stands : Stands geo words (new_entry change run)
  pub bits : ReplacesBits geo old run base words
  pub count : (place : ℕ) → Contains state.chain place
      → word_at words (tier_at geo place + 1) + one_if (old.place == place) ≡ word_at base (tier_at geo place + 1) + one_if (run.place == place)
  pub in_all : word_at words 2 ≡ word_at base 2

module _ (geo : Geo) (segment : ℕ) (state : State) (change : Change) (old run : Run) (such : ℕ → ℕ → Type 0) (base words : List ℕ)
    (rests : Resting geo segment base state) (its : HasOldEntry geo state change.key old) (may : MayStandFor geo segment state change run)
    (has : HasReplaced geo state change old run such base words) where
  represents : Represents geo segment base state
  represents = resting_represents geo segment base state rests

  tier : (q : ℕ) → Contains state.chain q → TierRepresents geo base state q
  tier q chained = All-contains (TierRepresents geo base state) state.chain q represents.tiers chained

  -- ---- the entries

  other_key : (placed : Placed) → In placed (without change.key state.entries) → placed.key ≢ change.key
  other_key placed i = in_has (λ other. other.key ≢ change.key) (without change.key state.entries) placed (keys_differ change.key state.entries) i

  was : (placed : Placed) → In placed (without change.key state.entries) → Contains state.entries placed
  was placed i = in_to state.entries placed (in_kept_from (λ entry. not (bytes_eq entry.key change.key)) state.entries placed i)

  starts_differ : (placed : Placed) → Contains state.entries placed → placed.key ≢ change.key → run_start geo placed ≢ run_start geo (new_entry change run)
  starts_differ placed there differ = apart_starts geo (new_entry change run) placed (may.apart placed there differ)

  all_apart : AllByRecursion (λ other. run_start geo other ≢ run_start geo (new_entry change run)) (without change.key state.entries)
  all_apart = all_in (λ other. run_start geo other ≢ run_start geo (new_entry change run)) (without change.key state.entries)
      (λ placed i. starts_differ placed (was placed i) (other_key placed i))

  stays : (placed : Placed) → Contains state.entries placed → placed.key ≢ change.key → Contains (state_with geo change run state).entries placed
  stays placed there differ = in_to (with_entry geo (new_entry change run) (without change.key state.entries)) placed
      (stays_with geo (new_entry change run) (without change.key state.entries) placed (starts_differ placed there differ)
      (in_kept_to (λ entry. not (bytes_eq entry.key change.key)) state.entries placed (in_from state.entries placed there)
      (passes (key_tells placed.key change.key))))
    where
      passes : ((bytes_eq placed.key change.key ≡ true) × (placed.key ≡ change.key)) ⊎ ((bytes_eq placed.key change.key ≡ false) × (placed.key ≢ change.key))
          → not (bytes_eq placed.key change.key) ≡ true
      passes (inl same) = absurd (differ same.1)
      passes (inr other) = rw other.0 refl

  is_there : Contains (state_with geo change run state).entries (new_entry change run)
  is_there = in_to (with_entry geo (new_entry change run) (without change.key state.entries)) (new_entry change run)
      (in_with geo (new_entry change run) (without change.key state.entries))

  new_or_other : (placed : Placed) → Contains (state_with geo change run state).entries placed
      → (placed ≡ new_entry change run) ⊎ (Contains state.entries placed × (placed.key ≢ change.key))
  new_or_other placed there = elim
      (with_from geo (new_entry change run) (without change.key state.entries) placed
      (in_from (with_entry geo (new_entry change run) (without change.key state.entries)) placed there)) [
        | inl same ↦ inl same
        | inr i ↦ inr (was placed i, other_key placed i)
      ]

  -- ---- a tier

  slots_of : (q : ℕ) → Contains state.chain q → (number : ℕ) (seen : Slot) → number < 2 * geo.chunks → slot_in geo words q number ≡ Some seen
      → IsSlotOf geo (state_with geo change run state) q seen
  slots_of q chained number seen below e = by (has.slots q number seen chained below e)
    where
      by : IsOthersOrNew geo state change run q seen → IsSlotOf geo (state_with geo change run state) q seen
      by (of_other placed at differ is) = record { placed = placed; at = record { there = stays placed at.there differ; place_is = at.place_is }; slot_is = is }
      by (of_new here is) = record { placed = new_entry change run; at = record { there = is_there; place_is = sym here }; slot_is = is }

  bits_of : (q : ℕ) → Contains state.chain q → (chunk : ℕ) → chunk < geo.chunks
      → (HasBit geo words q chunk ↔ IsTaken geo (state_with geo change run state) q chunk)
  bits_of q chained chunk below =
      let now = has.bits q chunk below in
      let before = (tier q chained).bits chunk below in (
        λ bit. elim (now.0 bit) [
          | inl in_run ↦ record {
            placed = new_entry change run;
            at = record { there = is_there; place_is = sym in_run.place_is };
            begun = in_run.begun;
            not_ended = subst (λ (n : ℕ). chunk < run.chunk + n) may.size in_run.not_ended;
          }
          | inr both ↦ (let taken = before.0 both.1 in record {
            placed = taken.placed;
            at = record {
              there = stays taken.placed taken.at.there (λ k. both.0 (in_old taken (its.only taken.placed taken.at.there k)));
              place_is = taken.at.place_is;
            };
            begun = taken.begun;
            not_ended = taken.not_ended;
          })
        ],
        λ taken. now.1 (elim (new_or_other taken.placed taken.at.there) [
          | inl same ↦ inl (record {
            place_is = sym taken.at.place_is ∙ ap (λ (p : Placed). p.place) same;
            begun = subst (λ (p : Placed). p.chunk ≤ chunk) same taken.begun;
            not_ended = subst (λ (n : ℕ). chunk < run.chunk + n) (sym may.size)
                (subst (λ (p : Placed). chunk < p.chunk + chunks_of geo p) same taken.not_ended);
          })
          | inr other ↦ inr (
            λ inside. (let here = subst (λ (r : Run). IsInRun r q chunk) its.run_is inside in
                not_in_both geo taken.placed its.old chunk (its.apart taken.placed other.0 other.1)
                (taken.at.place_is ∙ here.place_is) taken.begun taken.not_ended here.begun here.not_ended),
            before.1 (record {
              placed = taken.placed;
              at = record { there = other.0; place_is = taken.at.place_is };
              begun = taken.begun;
              not_ended = taken.not_ended;
            }),
          )
        ]),
      )
    where
      in_old : (taken : IsTaken geo state q chunk) → taken.placed ≡ its.old → IsInRun old q chunk
      in_old taken one = subst (λ (r : Run). IsInRun r q chunk) (sym its.run_is) (record {
        place_is = sym taken.at.place_is ∙ ap (λ (p : Placed). p.place) one;
        begun = subst (λ (p : Placed). p.chunk ≤ chunk) one taken.begun;
        not_ended = subst (λ (p : Placed). chunk < p.chunk + chunks_of geo p) one taken.not_ended;
      })

  -- ---- the counts

  counted : (test : Placed → Bool)
      → length (filter test (state_with geo change run state).entries) + one_if (test its.old)
      ≡ length (filter test state.entries) + one_if (test (new_entry change run))
  counted test =
      let put = count_put geo test (new_entry change run) (without change.key state.entries) all_apart in
      let removed = count_removed test change.key state.entries its.old (each_differs represents.is_state)
      (in_from state.entries its.old its.there) its.key_is in
      omega (arith, put, removed)

  count_of : (q : ℕ) → Contains state.chain q
      → word_at words (tier_at geo q + 1) ≡ length (filter (λ placed. placed.place == q) (state_with geo change run state).entries)
  count_of q chained =
      let old_place : one_if (old.place == q) ≡ one_if (its.old.place == q) = ap (λ (r : Run). one_if (r.place == q)) its.run_is in
      omega (arith, old_place, has.count q chained, (tier q chained).count, counted (λ placed. placed.place == q))

  in_all : word_at words 2 ≡ length (state_with geo change run state).entries
  in_all =
      let later : length (filter (λ placed. true) (state_with geo change run state).entries) ≡ length (state_with geo change run state).entries =
      count_all (state_with geo change run state).entries in
      let earlier : length (filter (λ placed. true) state.entries) ≡ length state.entries = count_all state.entries in
      omega (arith, has.in_all, represents.count, counted (λ placed. true), later, earlier)

  -- ---- all

  links : chain_of geo words ≡ chain_of geo base
  links = linked_kept geo base words (λ place low. link_left geo such base words place has.differs (has.no_link place))

  head_same : (q offset : ℕ) → 2 ≤ offset → offset < 4 → word_at words (tier_at geo q + offset) ≡ word_at base (tier_at geo q + offset)
  unfolding words_in_tier
  head_same q offset h k = has.differs.others q offset (omega arith) (has.no_head q offset h k)

  pub replaced_rests : Resting geo segment words (state_with geo change run state)
  unfolding Resting
  replaced_rests = record {
    length_is = has.differs.length_is ∙ resting_many geo segment base state rests;
    fourth = has.differs.fourth ∙ rests.fourth;
    heads = All-from_recursion (EndsHead geo words) state.chain (all_in (EndsHead geo words) state.chain (λ q i.
        (let head = All-contains (EndsHead geo base) state.chain q rests.heads (in_to state.chain q i) in
        record { third = head_same q 2 (omega arith) (omega arith) ∙ head.third; fourth = head_same q 3 (omega arith) (omega arith) ∙ head.fourth })));
    represents = record {
      is_state = may.is_state;
      whole = ap (λ l. l.cut) links ∙ represents.whole;
      chain = ap (λ l. l.places) links ∙ represents.chain;
      tiers = All-from_recursion (TierRepresents geo words (state_with geo change run state)) state.chain
          (all_in (TierRepresents geo words (state_with geo change run state)) state.chain (λ q i.
          (let chained = in_to state.chain q i in
          record { slots = slots_of q chained; reached = has.law q chained; bits = bits_of q chained; count = count_of q chained })));
      stand = λ placed there. elim (new_or_other placed there) [
        | inl same ↦ subst (Stands geo words) (sym same) has.new_stands
        | inr other ↦ has.others_stand placed other.0 other.1
      ];
      pointed = λ placed there. elim (new_or_other placed there) [
        | inl same ↦ subst (λ (p : Placed). IsPointedOnce geo words p.place p.key p.chunk) (sym same) has.new_once
        | inr other ↦ has.others_once placed other.0 other.1
      ];
      count = in_all;
      unlinked = λ place low out offset below. has.differs.others place offset below (λ h. out (has.in_chain place offset h))
          ∙ represents.unlinked place low out offset below;
    };
  }
