-- Each call that replaces a value in place leads from phase to phase, and at the end the words rest with the new value.
use Rattle.std.proofs.Common.{◌≡◌, ℕ, ◌+◌, ◌-◌, ◌*◌, ◌/◌, ◌<◌, ◌≤◌, ◌⊎◌, ◌↔◌, ◌==◌, List, [], ◌∷◌, ◌++◌, length, Contains, refl, ap, sym, subst, ◌∙◌, inl, inr, arith}
use Rattle.std.specs.List.{AllByRecursion}
use Rattle.std.proofs.lemmas.Bool.{cases_lt}
use Rattle.std.proofs.lemmas.List.{append-nil}
use Rattle.std.proofs.lemmas.List.Elements.{All-contains}
use Rattle.cm_geo.specs.declared.geo.Geo.{Geo}
use Rattle.cm_geo.specs.Addresses.{chunk_at, tier_at, words_in_segment, words_in_tier}
use Rattle.cm_geo.specs.Need.{parts_for}
use Rattle.cm_geo.proofs.AddressOrder.{bits_behind_head, chunks_behind_head, tier_behind_head}
use Rattle.cm_geo.proofs.Ranges.{chunk_words_range}
use Rattle.cm_plain.specs.declared.placed.Placed.{Placed}
use Rattle.cm_plain.specs.declared.plan.Run.{Run}
use Rattle.cm_plain.specs.States.{HasRun, IsState, State}
use Rattle.cm_plain.specs.Changes.{Change, after, new_entry}
use Rattle.cm_plain.specs.Slots.{IsPointedOnce, Slot, slot_for, slot_in, word_at}
use Rattle.cm_plain.specs.Readings.{HasEntry, Stands}
use Rattle.cm_plain.specs.Lawful.{HasBit, IsSlotOf, Represents, Resting, TierRepresents}
use Rattle.cm_plain.specs.Torn.{IsBetween, IsChangeEntry}
use Rattle.cm_plain.proofs.EntryWords.{words_within}
use Rattle.cm_plain.proofs.Keys.{key_tells}
use Rattle.cm_plain.proofs.OutsideHead.{resting_many, resting_represents}
use Rattle.cm_plain.proofs.Planned.{IsNew, is_new}
use Rattle.cm_plain.proofs.States.{is_placed, place_low}
use Rattle.std.specs.declared.result.Result.{Result}
use Rattle.cm_words.specs.Calls.{Performs}
use Rattle.cm_words.specs.Memory.{MemSeen}
use Rattle.cm_words.specs.Stores.{MayStoreEach, WordStore, WritesPrefixEach, after_stores}
use Rattle.cm_chunks.specs.RunBits.{Clears, IsApart, IsInRun, IsRunIn, Sets}
use Rattle.cm_chunks.specs.Turns.{stores_to_clear, stores_to_set}
use Rattle.cm_chunks.proofs.TurnedRuns.{in_run_or_not}
use Rattle.cm_entry.specs.EntryStores.{HasRoom, LeadsReplacement, Replaces, replacing_stores}
use Rattle.cm_entry.proofs.Packing.{AreBytes}
use Rattle.cm_entry.proofs.PartialWrites.{Each, IsWithin, prefix_stays, replacing_within, value_between}
use Rattle.cm_lookup.proofs.Finding.{probe_below}
use Rattle.cm_segment.specs.Frames.{DiffersAt, IsBitOfTier, IsChunkWord}
use Rattle.cm_segment.specs.Phases.{Advances, IsAfter, IsInPhase, IsStart, IsTornFor, IsUntouched, Reaches}
use Rattle.cm_segment.specs.ReplacementStages.{IsExtended, IsNewThere, IsReplaced, IsReplacement, IsRewritten, IsRoomWord, chunks_less, chunks_more}
use Rattle.cm_segment.specs.ReplacementStages.IsRoomWord.{bits, chunks}
use Rattle.cm_segment.proofs.BitPhases.{BitsLeadTo, clear_advances, may_clear_in, may_set_in, set_advances}
use Rattle.cm_segment.proofs.EntryCounts.{one_if}
use Rattle.cm_segment.proofs.EntryReplaced.{IsOthersOrNew, replaced_rests, state_with}
use Rattle.cm_segment.proofs.EntryReplaced.IsOthersOrNew.{of_new, of_other}
use Rattle.cm_segment.proofs.Frames.{IsTouchedAt, differs_none, differs_stores, differs_then, differs_weaker, slot_left, touched_chunk}
use Rattle.cm_segment.proofs.UntouchedParts.{added_bits_left, stands_left}
use Rattle.cm_segment.proofs.EntryBefore.{HasOldEntry, old_entry}
use Rattle.cm_segment.proofs.Phases.{LeadsTo, PrefixesLeadTo, call_as, may_store_each_in, phase_after, phase_prefix_each, phase_weaker}
use Rattle.cm_segment.proofs.ReplacementTorn.{IsBeingReplaced, its_entry, new_between, old_between, replacement_torn, room_apart, room_head, room_place, room_slot}
use Rattle.cm_segment.proofs.TouchedWords.{each_front}

-- stores within so many words from an address on touch these words alone
each_touched : (geo : Geo) (such : ℕ → ℕ → Type 0) (at count : ℕ) (stores : List WordStore) → Each (IsWithin at count) stores
    → ((j : ℕ) → j < count → IsTouchedAt geo such (at + j)) → AllByRecursion (λ store. IsTouchedAt geo such store.at) stores
each_touched geo such at count [] within all = tt
each_touched geo such at count (store ∷ stores) within all = (
  subst (λ (n : ℕ). IsTouchedAt geo such n) (back store.at within.0) (all (store.at - at) (inside store.at within.0)),
  each_touched geo such at count stores within.1 all,
)
  where
    back : (to : ℕ) → (at ≤ to) × (to < at + count) → at + (to - at) ≡ to
    back to h = omega (arith, h.0)

    inside : (to : ℕ) → (at ≤ to) × (to < at + count) → to - at < count
    inside to h = omega (arith, h.0, h.1)

-- an entry that stands stays where bits alone were stored
pub stand_on : (geo : Geo) (index : ℕ) (words later : List ℕ) (placed : Placed) → length words ≡ words_in_segment geo → placed.place < geo.tiers
    → HasRun geo placed → DiffersAt geo (IsBitOfTier geo index) words later → Stands geo words placed → Stands geo later placed
stand_on geo index words later placed long low has differs stands =
    stands_left geo (IsBitOfTier geo index) words later placed long low has differs (λ i of h. omega (arith, of.from, h.1.to)) stands

-- the count of the segment is no word of bits
all_apart : (geo : Geo) (run : Run) → IsApart geo run 2
all_apart geo run chunk in_run e = omega (arith, e, bits_behind_head geo run.place (chunk / 64), tier_behind_head geo run.place)

module _ {geo : Geo} {change : Change} {old run : Run} (replacement : IsReplacement geo change old run) where
  torn : (segment : ℕ) (state : State) (start words : List ℕ) → IsStart geo segment change start state → IsBeingReplaced geo change run state start words
      → IsTornFor geo change state start words
  torn segment state start words is replacing = replacement_torn geo segment state change old run start is replacement words replacing

  to_room : (place offset : ℕ) → IsBitOfTier geo run.place place offset → IsRoomWord geo run place offset
  to_room place offset h = bits h.0 h.1

  has_run : HasRun geo (new_entry change run)
  has_run = record {
    fits = replacement.new_in.fits;
    inside = subst
        (λ (n : ℕ). run.chunk + n ≤ geo.chunks) replacement.new_in.size replacement.new_in.run_in.inside;
  }

  room : HasRoom geo run.place run.chunk change.key change.value
  room = record { place_low = replacement.new_in.run_in.place_inside; fits = replacement.new_in.fits; run = has_run.inside }

  -- ---- the chunks more

  more_in : old.chunks < run.chunks → IsRunIn geo (chunks_more old run)
  more_in more = record {
    place_inside = replacement.new_in.run_in.place_inside;
    nonzero = omega (arith, more);
    within_limit = omega (arith, replacement.new_in.run_in.within_limit);
    inside = omega (arith, replacement.new_in.run_in.inside, more);
  }

  -- while their bits are set the old entry stands
  bits_alone : (segment : ℕ) (state : State) (start words : List ℕ) → IsStart geo segment change start state
      → DiffersAt geo (IsBitOfTier geo run.place) start words → (placed : Placed) → IsChangeEntry state change placed → Stands geo words placed
  bits_alone segment state start words is differs placed at =
      let represents = resting_represents geo segment start state is.rests in
      let placed_at = is_placed represents.is_state placed at.there in
      stand_on geo run.place start words placed (resting_many geo segment start state is.rests)
      (place_low represents.is_state.chain placed.place placed_at.chained) placed_at.run differs (represents.stand placed at.there)

  bits_torn : (segment : ℕ) (state : State) (start words : List ℕ) → length words ≡ words_in_segment geo → IsStart geo segment change start state
      → DiffersAt geo (IsBitOfTier geo run.place) start words → IsTornFor geo change state start words
  bits_torn segment state start words long is differs = torn segment state start words is
      (old_between geo segment state change old run start is replacement words long
      (differs_weaker geo (IsBitOfTier geo run.place) (IsRoomWord geo run) start words to_room differs) (bits_alone segment state start words is differs))

  more_torn : (segment : ℕ) → BitsLeadTo geo segment change run.place IsUntouched (IsTornFor geo change)
  more_torn segment state start before words long is untouched differs =
      bits_torn segment state start words (differs.length_is ∙ long) is
      (subst (λ (s : List ℕ). DiffersAt geo (IsBitOfTier geo run.place) s words) untouched differs)

  pub may_extend : {m : MemSeen} → old.chunks < run.chunks → IsInPhase m geo change IsUntouched → MayStoreEach m (stores_to_set geo (chunks_more old run))
  may_extend {m} more here = may_set_in m geo change (chunks_more old run) IsUntouched here (more_in more) (more_torn m.setting.segment)

  pub extend_advances : {M T E : Type 0} {seen : M → MemSeen} {rest : M → M → Type 0} {a b : M} {result : Result T E} → old.chunks < run.chunks
      → IsInPhase (seen a) geo change IsUntouched
      → Performs seen rest (λ before now. Sets before now geo (chunks_more old run))
      (λ before now. WritesPrefixEach before now (stores_to_set geo (chunks_more old run))) a b result
      → Advances seen rest geo change (IsExtended geo change old run) a b result
  extend_advances {M} {T} {E} {seen} {rest} {a} {b} {result} more here call =
      set_advances seen rest geo change (chunks_more old run) IsUntouched (IsExtended geo change old run) a b result here (more_in more) call
      (λ state start before words long is untouched differs set. subst (λ (s : List ℕ). IsExtended geo change old run state s words) untouched
      (record { differs = differs; bits = set.bits; in_all = set.others 2 (all_apart geo (chunks_more old run)) }))
      (more_torn (seen a).setting.segment)

  -- where there are none more
  pub extend_none : {m : MemSeen} → run.chunks ≤ old.chunks → IsInPhase m geo change IsUntouched → IsInPhase m geo change (IsExtended geo change old run)
  extend_none {m} fewer here = phase_weaker m geo change IsUntouched (IsExtended geo change old run) here
      (λ state start words long is untouched. subst (λ (w : List ℕ). IsExtended geo change old run state start w) (sym untouched) (record {
        differs = differs_none geo (IsBitOfTier geo run.place) start;
        bits = λ place chunk below. (
          λ has. inr has,
          λ either. elim either [
            | inl in_run ↦ absurd (omega (arith, in_run.begun, in_run.not_ended, fewer))
            | inr has ↦ has
          ],
        );
        in_all = refl;
      }))

  -- ---- the value

  -- the words of the run
  IsRunWord : ℕ → ℕ → Type 0
  IsRunWord place offset = (place ≡ run.place) × IsChunkWord geo run.chunk run.chunks offset

  value_touched : (words : List ℕ)
      → AllByRecursion (λ store. IsTouchedAt geo IsRunWord store.at) (replacing_stores (chunk_at geo run.place run.chunk) change.key change.value words)
  unfolding IsRunWord
  value_touched words =
      let pk : ℕ = parts_for 8 (length change.key) in
      let pv : ℕ = parts_for 8 (length change.value) in
      let some : 1 ≤ geo.chunk_words = omega (arith, (chunk_words_range geo).0) in
      let enough : 2 + pk + pv ≤ run.chunks * geo.chunk_words = rw replacement.new_in.size (words_within (2 + pk + pv) geo.chunk_words some) in
      each_touched geo IsRunWord (chunk_at geo run.place run.chunk) (2 + pk + pv)
      (replacing_stores (chunk_at geo run.place run.chunk) change.key change.value words)
      (replacing_within (chunk_at geo run.place run.chunk) change.key change.value words)
      (λ j below. touched_chunk geo IsRunWord run.place run.chunk run.chunks j replacement.new_in.run_in.inside
      (within j (2 + pk + pv) (run.chunks * geo.chunk_words) enough below) (λ i h. (refl, h)))
    where
      within : (j n size : ℕ) → n ≤ size → j < n → j < size
      within j n size h k = omega arith

  value_differs : (words : List ℕ) (made left : List WordStore)
      → made ++ left ≡ replacing_stores (chunk_at geo run.place run.chunk) change.key change.value words
      → DiffersAt geo IsRunWord words (after_stores words made)
  value_differs words made left parts = differs_stores geo IsRunWord words words made
      (each_front _ made left (replacing_stores (chunk_at geo run.place run.chunk) change.key change.value words) parts (value_touched words))
      (differs_none geo IsRunWord words)

  value_room : (state : State) (start words later : List ℕ) → IsExtended geo change old run state start words → DiffersAt geo IsRunWord words later
      → DiffersAt geo (IsRoomWord geo run) start later
  unfolding IsRunWord
  value_room state start words later extended differs = differs_then geo (IsRoomWord geo run) start words later
      (differs_weaker geo (IsBitOfTier geo run.place) (IsRoomWord geo run) start words to_room extended.differs)
      (differs_weaker geo IsRunWord (IsRoomWord geo run) words later (λ place offset h. chunks h.0 h.1) differs)

  -- the old entry stood, so its words lie between the two
  value_between_both : (segment : ℕ) (state : State) (start words : List ℕ) (made left : List WordStore) → AreBytes change.value
      → length words ≡ words_in_segment geo → IsStart geo segment change start state → IsExtended geo change old run state start words
      → made ++ left ≡ replacing_stores (chunk_at geo run.place run.chunk) change.key change.value words
      → IsBeingReplaced geo change run state start (after_stores words made)
  value_between_both segment state start words made left small long is extended parts = record {
    differs = value_room state start words (after_stores words made) extended (value_differs words made left parts);
    between = λ placed at.
        (let same = its_entry geo segment state change old run start is replacement placed at in
        let has : HasEntry geo words run.place run.chunk change.key placed.value =
        subst (Stands geo words) same (bits_alone segment state start words is extended.differs placed at) in
        subst (λ (p : Placed). IsBetween geo (after_stores words made) p (new_entry change run)) (sym same)
        (value_between geo words run.place run.chunk change.key placed.value change.value made left small room long has parts));
  }

  value_torn : AreBytes change.value → (segment : ℕ)
      → PrefixesLeadTo geo segment change (IsExtended geo change old run) (IsTornFor geo change)
      (replacing_stores (chunk_at geo run.place run.chunk) change.key change.value)
  value_torn small segment state start words made left parts long is extended =
      torn segment state start (after_stores words made) is (value_between_both segment state start words made left small long is extended parts)

  pub may_rewrite : {m : MemSeen} (value : List ℕ) → AreBytes value → value ≡ change.value → IsInPhase m geo change (IsExtended geo change old run)
      → MayStoreEach m (replacing_stores (chunk_at geo run.place run.chunk) change.key value)
  may_rewrite {m} value small same here = subst (λ (v : List ℕ). MayStoreEach m (replacing_stores (chunk_at geo run.place run.chunk) change.key v)) (sym same)
      (may_store_each_in m geo change (IsExtended geo change old run) (replacing_stores (chunk_at geo run.place run.chunk) change.key change.value) here
      (value_torn (subst AreBytes same small) m.setting.segment))

  -- after all of them the new entry stands
  value_leads : (segment : ℕ) (a b : MemSeen) (state : State) (start before words : List ℕ) → length before ≡ words_in_segment geo
      → IsStart geo segment change start state → IsExtended geo change old run state start before
      → LeadsReplacement a b geo run.place run.chunk change.key change.value before words → IsRewritten geo change old run state start words
  unfolding IsRunWord
  value_leads segment a b state start before words long is was replaced =
      let its = old_entry geo segment start state change old is replacement.old_is in
      let at : IsChangeEntry state change its.old = record { there = its.there; key_is = its.key_is } in
      let has : HasEntry geo before run.place run.chunk change.key its.old.value =
      subst (Stands geo before) (its_entry geo segment state change old run start is replacement its.old at)
      (bits_alone segment state start before is was.differs its.old at) in
      let whole : DiffersAt geo IsRunWord before words = subst (DiffersAt geo IsRunWord before) replaced.by.leads
      (value_differs before (replacing_stores (chunk_at geo run.place run.chunk) change.key change.value before) []
      (append-nil (replacing_stores (chunk_at geo run.place run.chunk) change.key change.value before))) in
      record {
        there = record { differs = value_room state start before words was whole; stands = replaced.stands (its.old.value, has) };
        bits = added_bits_left geo (chunks_more old run) IsRunWord start before words whole (λ place offset bit h. omega (arith, bit.to, h.1.from)) was.bits;
        in_all = subst (λ (w : List ℕ). word_at w 2 ≡ word_at before 2) replaced.by.leads
            (prefix_stays before (chunk_at geo run.place run.chunk) (2 + parts_for 8 (length change.key) + parts_for 8 (length change.value)) 2
            (replacing_stores (chunk_at geo run.place run.chunk) change.key change.value before) []
            (replacing_stores (chunk_at geo run.place run.chunk) change.key change.value before)
            (append-nil (replacing_stores (chunk_at geo run.place run.chunk) change.key change.value before))
            (replacing_within (chunk_at geo run.place run.chunk) change.key change.value before)
            (inl (low (chunks_behind_head geo run.place run.chunk) (tier_behind_head geo run.place)))) ∙ was.in_all;
      }
    where
      low : tier_at geo run.place + 4 ≤ chunk_at geo run.place run.chunk → 4 ≤ tier_at geo run.place → 2 < chunk_at geo run.place run.chunk
      low h k = omega arith

  pub rewrite_advances : {M T E : Type 0} {seen : M → MemSeen} {rest : M → M → Type 0} {a b : M} {result : Result T E} (value : List ℕ) → AreBytes value
      → value ≡ change.value → IsInPhase (seen a) geo change (IsExtended geo change old run)
      → Performs seen rest (λ before now. Replaces before now geo run.place run.chunk change.key value)
      (λ before now. WritesPrefixEach before now (replacing_stores (chunk_at geo run.place run.chunk) change.key value)) a b result
      → Advances seen rest geo change (IsRewritten geo change old run) a b result
  rewrite_advances {M} {T} {E} {seen} {rest} {a} {b} {result} value small same here call =
      call_as seen rest (λ before now. Replaces before now geo run.place run.chunk change.key value)
      (λ before now. WritesPrefixEach before now (replacing_stores (chunk_at geo run.place run.chunk) change.key value))
      (Reaches geo change (IsRewritten geo change old run)) (Reaches geo change (IsTornFor geo change)) a b result call
      (λ replaces. phase_after (seen a) (seen b) geo change (IsExtended geo change old run) (IsRewritten geo change old run)
      (LeadsReplacement (seen a) (seen b) geo run.place run.chunk change.key change.value) here
      (subst (λ (v : List ℕ). Replaces (seen a) (seen b) geo run.place run.chunk change.key v) same replaces)
      (λ state start before words fits long is was replaced. value_leads (seen a).setting.segment (seen a)
      (seen b) state start before words long is was replaced))
      (λ prefix. phase_prefix_each (seen a) (seen b) geo change (IsExtended geo change old run) (IsTornFor geo change)
      (replacing_stores (chunk_at geo run.place run.chunk) change.key change.value) here
      (subst (λ (v : List ℕ). WritesPrefixEach (seen a) (seen b) (replacing_stores (chunk_at geo run.place run.chunk) change.key v)) same prefix)
      (value_torn (subst AreBytes same small) (seen a).setting.segment))

  -- ---- the chunks less

  less_in : run.chunks < old.chunks → IsRunIn geo (chunks_less old run)
  less_in less = record {
    place_inside = replacement.new_in.run_in.place_inside;
    nonzero = omega (arith, less);
    within_limit = omega (arith, replacement.old_in.within_limit);
    inside = omega (arith, replacement.old_in.inside, less, replacement.chunk_is);
  }

  -- the new entry stays there
  bits_leave : (state : State) (start words later : List ℕ) → length words ≡ words_in_segment geo → DiffersAt geo (IsBitOfTier geo run.place) words later
      → IsNewThere geo change run state start words → IsNewThere geo change run state start later
  bits_leave state start words later long differs there = record {
    differs = differs_then geo (IsRoomWord geo run) start words later there.differs
        (differs_weaker geo (IsBitOfTier geo run.place) (IsRoomWord geo run) words later to_room differs);
    stands = stand_on geo run.place words later (new_entry change run) long replacement.new_in.run_in.place_inside has_run differs there.stands;
  }

  less_torn : (segment : ℕ) → BitsLeadTo geo segment change run.place (IsRewritten geo change old run) (IsTornFor geo change)
  less_torn segment state start before words long is at differs =
      torn segment state start words is
      (new_between geo segment state change old run start is replacement words (differs.length_is ∙ long)
      (bits_leave state start before words long differs at.there))

  pub may_shrink : {m : MemSeen} → run.chunks < old.chunks → IsInPhase m geo change (IsRewritten geo change old run)
      → MayStoreEach m (stores_to_clear geo (chunks_less old run))
  may_shrink {m} less here = may_clear_in m geo change (chunks_less old run) (IsRewritten geo change old run) here (less_in less) (less_torn m.setting.segment)

  -- the bits of the chunks more were set, and those of the chunks less cleared: they are those of the new run
  bits_replaced : (start words : List ℕ) (q chunk : ℕ)
      → (HasBit geo words q chunk ↔ ((IsInRun (chunks_less old run) q chunk → ⊥) × (IsInRun (chunks_more old run) q chunk ⊎ HasBit geo start q chunk)))
      → (IsInRun old q chunk → HasBit geo start q chunk)
      → (HasBit geo words q chunk ↔ (IsInRun run q chunk ⊎ ((IsInRun old q chunk → ⊥) × HasBit geo start q chunk)))
  bits_replaced start words q chunk now had = (forth, back)
    where
      less_of : IsInRun old q chunk → (IsInRun run q chunk → ⊥) → IsInRun (chunks_less old run) q chunk
      less_of in_old out = elim (cases_lt chunk (run.chunk + run.chunks)) [
        | inl inside ↦ absurd (out (record {
          place_is = in_old.place_is ∙ sym replacement.place_is;
          begun = omega (arith, in_old.begun, replacement.chunk_is);
          not_ended = inside;
        }))
        | inr past ↦ record {
          place_is = in_old.place_is ∙ sym replacement.place_is;
          begun = past;
          not_ended = omega (arith, in_old.not_ended, replacement.chunk_is, past);
        }
      ]

      more_of : IsInRun (chunks_more old run) q chunk → IsInRun run q chunk
      more_of in_more = record {
        place_is = in_more.place_is;
        begun = omega (arith, in_more.begun);
        not_ended = omega (arith, in_more.begun, in_more.not_ended);
      }

      forth : HasBit geo words q chunk → IsInRun run q chunk ⊎ ((IsInRun old q chunk → ⊥) × HasBit geo start q chunk)
      forth has = (let h = now.0 has in elim (in_run_or_not run q chunk) [
        | inl inside ↦ inl inside
        | inr out ↦ elim h.1 [
          | inl more ↦ inl (more_of more)
          | inr start_has ↦ inr (λ in_old. h.0 (less_of in_old out), start_has)
        ]
      ])

      back : IsInRun run q chunk ⊎ ((IsInRun old q chunk → ⊥) × HasBit geo start q chunk) → HasBit geo words q chunk
      back (inl inside) = now.1 (
        λ less. omega (arith, less.begun, inside.not_ended),
        elim (cases_lt chunk (run.chunk + old.chunks)) [
          | inl before ↦ inr (had (record {
            place_is = inside.place_is ∙ replacement.place_is;
            begun = omega (arith, inside.begun, replacement.chunk_is);
            not_ended = omega (arith, before, replacement.chunk_is);
          }))
          | inr past ↦ inl (record { place_is = inside.place_is; begun = past; not_ended = omega (arith, inside.not_ended, past) })
        ],
      )
      back (inr other) = now.1 (
        λ less. other.0 (record {
          place_is = less.place_is ∙ replacement.place_is;
          begun = omega (arith, less.begun, replacement.chunk_is);
          not_ended = omega (arith, less.begun, less.not_ended, replacement.chunk_is);
        }),
        inr other.1,
      )

  -- the bits of the old run are set at the start
  old_bits : (segment : ℕ) (state : State) (start : List ℕ) → IsStart geo segment change start state → (q chunk : ℕ) → chunk < geo.chunks → IsInRun old q chunk
      → HasBit geo start q chunk
  old_bits segment state start is q chunk below in_old =
      let represents = resting_represents geo segment start state is.rests in
      let its = old_entry geo segment start state change old is replacement.old_is in
      let tier : TierRepresents geo start state old.place = All-contains (TierRepresents geo start state) state.chain old.place represents.tiers its.chained in
      subst (λ (p : ℕ). HasBit geo start p chunk) (sym in_old.place_is) ((tier.bits chunk below).1 (record {
        placed = its.old;
        at = record { there = its.there; place_is = ap (λ (r : Run). r.place) (sym its.run_is) };
        begun = subst (λ (r : Run). r.chunk ≤ chunk) its.run_is in_old.begun;
        not_ended = subst (λ (r : Run). chunk < r.chunk + r.chunks) its.run_is in_old.not_ended;
      }))

  pub shrink_advances : {M T E : Type 0} {seen : M → MemSeen} {rest : M → M → Type 0} {a b : M} {result : Result T E} → run.chunks < old.chunks
      → IsInPhase (seen a) geo change (IsRewritten geo change old run)
      → Performs seen rest (λ before now. Clears before now geo (chunks_less old run))
      (λ before now. WritesPrefixEach before now (stores_to_clear geo (chunks_less old run))) a b result
      → Advances seen rest geo change (IsReplaced geo change old run) a b result
  shrink_advances {M} {T} {E} {seen} {rest} {a} {b} {result} less here call =
      clear_advances seen rest geo change (chunks_less old run) (IsRewritten geo change old run) (IsReplaced geo change old run) a b result here
      (less_in less) call
      (λ state start before words long is was differs cleared. record {
        there = bits_leave state start before words long differs was.there;
        bits = λ place chunk below.
            (let now = cleared.bits place chunk below in
            let same = was.bits place chunk below in
            bits_replaced start words place chunk (λ has. (let h = now.0 has in (h.0, same.0 h.1)), λ h. now.1 (h.0, same.1 h.1))
            (old_bits (seen a).setting.segment state start is place chunk below));
        in_all = cleared.others 2 (all_apart geo (chunks_less old run)) ∙ was.in_all;
      })
      (less_torn (seen a).setting.segment)

  -- where there are none less
  pub shrink_none : {m : MemSeen} → old.chunks ≤ run.chunks → IsInPhase m geo change (IsRewritten geo change old run)
      → IsInPhase m geo change (IsReplaced geo change old run)
  shrink_none {m} more here = phase_weaker m geo change (IsRewritten geo change old run) (IsReplaced geo change old run) here
      (λ state start words long is at. record {
        there = at.there;
        bits = λ place chunk below. bits_replaced start words place chunk
            (λ has. (λ in_run. omega (arith, in_run.begun, in_run.not_ended, more), (at.bits place chunk below).0 has), λ h. (at.bits place chunk below).1 h.1)
            (old_bits m.setting.segment state start is place chunk below);
        in_all = at.in_all;
      })

  -- ---- all

  module _ (segment : ℕ) (state : State) (start words : List ℕ) (is : IsStart geo segment change start state)
      (replaced : IsReplaced geo change old run state start words) where
    represents : Represents geo segment start state
    represents = resting_represents geo segment start state is.rests

    its : HasOldEntry geo state change.key old
    its = old_entry geo segment start state change old is replacement.old_is

    fresh : IsNew geo segment state change run
    fresh = is_new geo segment state change run is.planned replacement.run_is

    after_is : after geo change state ≡ state_with geo change run state
    after_is = rw (replacement.run_is, replacement.links_not) refl

    old_place : its.old.place ≡ run.place
    old_place = ap (λ (r : Run). r.place) (sym its.run_is) ∙ sym replacement.place_is

    old_chunk : its.old.chunk ≡ run.chunk
    old_chunk = ap (λ (r : Run). r.chunk) (sym its.run_is) ∙ sym replacement.chunk_is

    tier : (q : ℕ) → Contains state.chain q → TierRepresents geo start state q
    tier q chained = All-contains (TierRepresents geo start state) state.chain q represents.tiers chained

    slot_same : (q number : ℕ) → number < 2 * geo.chunks → slot_in geo words q number ≡ slot_in geo start q number
    slot_same q number below = slot_left geo (IsRoomWord geo run) start words q number replaced.there.differs below (room_slot geo run q number below)

    once_same : (q : ℕ) (key : List ℕ) (chunk : ℕ) → IsPointedOnce geo start q key chunk → IsPointedOnce geo words q key chunk
    once_same q key chunk once = (
      once.0,
      record { inside = once.1.inside; slot_is = slot_same q once.0 once.1.inside ∙ once.1.slot_is },
      λ other points. once.2 other (record { inside = points.inside; slot_is = sym (slot_same q other points.inside) ∙ points.slot_is }),
    )

    seen_as : (q : ℕ) (seen : Slot) → IsSlotOf geo state q seen → IsOthersOrNew geo state change run q seen
    seen_as q seen of = elim (key_tells of.placed.key change.key) [
      | inl same ↦
          let one = its.only of.placed of.at.there same.1 in
          of_new (sym of.at.place_is ∙ (ap (λ (p : Placed). p.place) one ∙ old_place))
          (of.slot_is ∙ (ap (λ (k : List ℕ). slot_for geo k of.placed.chunk) same.1 ∙ ap (slot_for geo change.key)
          (ap (λ (p : Placed). p.chunk) one ∙ old_chunk)))
      | inr other ↦ of_other of.placed of.at other.1 of.slot_is
    ]

    new_once : IsPointedOnce geo start run.place change.key run.chunk
    new_once =
        subst (λ (p : ℕ). IsPointedOnce geo start p change.key run.chunk) old_place
        (subst (λ (c : ℕ). IsPointedOnce geo start its.old.place change.key c) old_chunk
        (subst (λ (key : List ℕ). IsPointedOnce geo start its.old.place key its.old.chunk) its.key_is (represents.pointed its.old its.there)))

    counts : (q : ℕ) → word_at words (tier_at geo q + 1) + one_if (old.place == q) ≡ word_at start (tier_at geo q + 1) + one_if (run.place == q)
    unfolding words_in_tier
    counts q =
        let same : word_at words (tier_at geo q + 1) ≡ word_at start (tier_at geo q + 1) =
        replaced.there.differs.others q 1 (omega arith) (room_head geo run q 1 (omega arith)) in
        rw (same, replacement.place_is) refl

    pub replacement_rests : Resting geo segment words (after geo change state)
    replacement_rests = subst (Resting geo segment words) (sym after_is)
        (replaced_rests geo segment state change old run (IsRoomWord geo run) start words is.rests its
        (record { size = fresh.size; apart = fresh.apart; is_state = subst (IsState geo segment) after_is is.planned.leads })
        (record {
          differs = replaced.there.differs;
          no_link = λ q. room_head geo run q 0 (omega arith);
          no_head = λ q offset h k. room_head geo run q offset k;
          in_chain = λ q offset h. subst (Contains state.chain) (sym (room_place geo run q offset h ∙ replacement.place_is)) its.chained;
          slots = λ q number seen chained below e. seen_as q seen ((tier q chained).slots number seen below (sym (slot_same q number below) ∙ e));
          law = λ q chained number seen below e steps on_way none. (tier q chained).reached number seen below (sym (slot_same q number below) ∙ e) steps on_way
              (sym (slot_same q _ (probe_below geo seen.fingerprint steps)) ∙ none);
          others_once = λ placed there differ. once_same placed.place placed.key placed.chunk (represents.pointed placed there);
          new_once = once_same run.place change.key run.chunk new_once;
          others_stand = λ placed there differ.
              (let at = is_placed represents.is_state placed there in
              stands_left geo (IsRoomWord geo run) start words placed (resting_many geo segment start state is.rests)
              (place_low represents.is_state.chain placed.place at.chained) at.run replaced.there.differs
              (room_apart geo change run placed (fresh.apart placed there differ) fresh.size) (represents.stand placed there));
          new_stands = replaced.there.stands;
          bits = replaced.bits;
          count = λ q chained. counts q;
          in_all = replaced.in_all;
        }))

  pub replaced_is_after : (segment : ℕ) → LeadsTo geo segment change (IsReplaced geo change old run) (IsAfter geo segment change) (λ words. words)
  replaced_is_after segment state start words long is at = replacement_rests segment state start words is at
