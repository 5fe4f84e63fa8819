-- The pairs of the entries that stand before a cursor, one more at a time.
use Rattle.std.proofs.Common.{◌≡◌, ◌≢◌, ◌∙◌, ◌⊎◌, ℕ, ◌<◌, ◌≤◌, true, List, [], ◌∷◌, ◌++◌, length, map, take, Some, None, Contains, refl, sym, ap, subst, inl, inr, arith, length-append}
use Rattle.std.specs.List.{AllByRecursion, AllPairs, slice_get}
use Rattle.std.proofs.lemmas.Bool.{cases_eq, cases_lt}
use Rattle.std.proofs.lemmas.Option.{get_or_from_slice_get, same_Some, slice_get_within}
use Rattle.cm_geo.specs.declared.geo.Geo.{Geo}
use Rattle.cm_plain.specs.declared.placed.Placed.{Placed}
use Rattle.cm_plain.specs.declared.reply.Pair.{Pair}
use Rattle.cm_plain.specs.States.{Lists, State, pair_of, value_in, value_of}
use Rattle.cm_plain.specs.Steps.{has_prefix}
use Rattle.cm_plain.specs.Slots.{Slot, slot_for, slot_in}
use Rattle.cm_plain.specs.Readings.{entry}
use Rattle.cm_plain.specs.Lawful.{Resting}
use Rattle.cm_plain.proofs.Each.{Pairs, pairs_append}
use Rattle.cm_plain.proofs.EntrySets.{found_is}
use Rattle.cm_plain.proofs.ListElements.{In, all_in, in_either, in_from, in_has, in_left, in_right, in_to}
use Rattle.cm_plain.proofs.OutsideHead.{resting_represents}
use Rattle.cm_plain.proofs.States.{each_differs, is_placed}
use Rattle.cm_segment.specs.declared.walks.Cursor.{Cursor}
use Rattle.cm_segment.specs.declared.walks.Stand.{Stand}
use Rattle.cm_segment.specs.Walks.{IsBefore, IsFirstMatch, StandsAt}
use Rattle.cm_segment.proofs.ChainedTiers.{number_of}
use Rattle.cm_segment.proofs.KeySearch.{reads_at}
use Rattle.cm_plain.specs.declared.op.Op.TheVariants.{List as ListAll}
use Rattle.cm_plain.specs.declared.reply.Reply.TheVariants as reply
use Rattle.cm_words.specs.Memory.{MemSeen}
use Rattle.cm_lock.specs.Answers.{IsReplyHere}
use Rattle.cm_turn.specs.Conditions.{EachHere}
use Rattle.cm_turn.proofs.Cursors.{before_behind, before_or, behind, here_before, on_before, same_cursor}
use Rattle.cm_turn.proofs.FoundValues.{unmet_right}
use Rattle.cm_turn.specs.Listings.{AllBefore, IsNextPair, IsPairAt, PermutesPairs}
use Rattle.cm_turn.proofs.SameElements.{AreApart, same_elements}

-- a pair is that of an entry that stands before a cursor
pub record IsPassedPair (geo : Geo) (words : List ℕ) (state : State) (from : Cursor) (pair : Pair) : Type 0 where
  pub cursor : Cursor
  pub here : IsPairAt geo words state cursor pair
  pub before : IsBefore cursor from

-- the pairs are those of the entries that stand before a cursor, each once
pub record ListsBefore (geo : Geo) (words : List ℕ) (state : State) (from : Cursor) (pairs : List Pair) : Type 0 where
  pub all : (placed : Placed) (cursor : Cursor) → StandsAt geo words state placed cursor → IsBefore cursor from → In (pair_of placed) pairs
  pub each : AllByRecursion (IsPassedPair geo words state from) pairs
  pub once : AreApart pairs

-- ---- one step of a walk

any_prefix : (key : List ℕ) → has_prefix [] key ≡ true
any_prefix [] = refl
any_prefix (byte ∷ key) = refl

-- an entry's key has its value
there_value : (geo : Geo) (segment : ℕ) (words : List ℕ) (state : State) (placed : Placed) → Resting geo segment words state → Contains state.entries placed
    → value_of placed.key state ≡ Some placed.value
there_value geo segment words state placed rests there =
    ap value_in (found_is geo segment state placed.key placed (resting_represents geo segment words state rests).is_state there refl)

-- a walk ends at no key without a value
pub walked_none : (geo : Geo) (segment : ℕ) (words : List ℕ) (state : State) (from : Cursor) (key : List ℕ) (stand : Stand) → Resting geo segment words state
    → IsFirstMatch geo words state from [] key stand → value_of (take stand.key_len key) state ≡ None → ⊥
walked_none geo segment words state from key stand rests first none =
    let value = there_value geo segment words state first.placed rests first.is_match.stands.there in
    let clash : Some first.placed.value ≡ None = sym value ∙ (ap (λ (k : List ℕ). value_of k state) (sym first.copied) ∙ none) in
    cc clash

-- it ends at the next pair
pub walked_pair : (geo : Geo) (segment : ℕ) (words : List ℕ) (state : State) (from : Cursor) (key value : List ℕ) (stand : Stand) (len : ℕ) (pair : Pair)
    → Resting geo segment words state → IsFirstMatch geo words state from [] key stand → value_of (take stand.key_len key) state ≡ Some (take len value)
    → pair ≡ record { key = take stand.key_len key; value = take len value } → IsNextPair geo words state from stand.at pair
walked_pair geo segment words state from key value stand len pair rests first some pair_is =
    let there = there_value geo segment words state first.placed rests first.is_match.stands.there in
    let value_is : Some (take len value) ≡ Some first.placed.value = sym some ∙ (ap (λ (k : List ℕ). value_of k state) first.copied ∙ there) in
    record {
      here = record {
        placed = first.placed;
        stands = first.is_match.stands;
        pair_is = pair_is ∙ same_pair_of (take stand.key_len key) (take len value) first.placed first.copied (same_Some _ _ value_is);
      };
      not_before = first.is_match.not_before;
      first = λ placed cursor stands after. first.first placed cursor (record { stands = stands; not_before = after; prefixed = any_prefix placed.key });
    }
  where
    same_pair_of : (k v : List ℕ) (placed : Placed) → k ≡ placed.key → v ≡ placed.value → record { key = k; value = v } ≡ pair_of placed
    same_pair_of k v placed e f = rw (e, f) refl

-- ---- one entry stands at a cursor

module _ (geo : Geo) (segment : ℕ) (words : List ℕ) (state : State) (rests : Resting geo segment words state) where
  -- entries that stand at one cursor have one pair
  one_pair : (placed other : Placed) (cursor : Cursor) → StandsAt geo words state placed cursor → StandsAt geo words state other cursor
      → pair_of other ≡ pair_of placed
  one_pair placed other cursor a b =
      let place : other.place ≡ placed.place = same_Some _ _ (sym b.tier ∙ a.tier) in
      let slots : Some (slot_for geo other.key other.chunk) ≡ Some (slot_for geo placed.key placed.chunk) =
      sym b.points.slot_is ∙ (ap (λ (p : ℕ). slot_in geo words p cursor.slot) place ∙ a.points.slot_is) in
      let chunk : other.chunk ≡ placed.chunk = same_Some _ _ (ap (λ (s : Slot). s.chunk) (same_Some _ _ slots)) in
      let read_b = reads_at geo segment words state other.place other.chunk other (resting_represents geo segment words state rests) (record { there = b.there; place_is = refl }) refl in
      let read_a = reads_at geo segment words state other.place other.chunk placed (resting_represents geo segment words state rests) (record { there = a.there; place_is = sym place }) (sym chunk) in
      same_entry (pair_of other) (pair_of placed) (sym read_b ∙ read_a)
    where
      same_entry : (x y : Pair) → entry x ≡ entry y → x ≡ y
      same_entry x y e = cc e

  -- an entry stands at one cursor
  one_cursor : (placed : Placed) (c d : Cursor) → StandsAt geo words state placed c → StandsAt geo words state placed d → c ≡ d
  one_cursor placed c d a b =
      let once = (resting_represents geo segment words state rests).pointed placed a.there in
      same_cursor c d (one_link state.chain c.link d.link placed.place (resting_represents geo segment words state rests).is_state.chain.apart a.tier b.tier)
      (once.2 c.slot a.points ∙ sym (once.2 d.slot b.points))
    where
      clash : (chain : List ℕ) (i j place : ℕ) → AllPairs (λ one other. one ≢ other) chain
          → slice_get chain i ≡ Some place → slice_get chain j ≡ Some place → i < j → ⊥
      clash chain i j place apart at_i at_j low =
          apart i j place low (slice_get_within chain j place at_j)
          (get_or_from_slice_get chain i place place at_i ∙ sym (get_or_from_slice_get chain j place place at_j))

      one_link : (chain : List ℕ) (i j place : ℕ) → AllPairs (λ one other. one ≢ other) chain
          → slice_get chain i ≡ Some place → slice_get chain j ≡ Some place → i ≡ j
      one_link chain i j place apart at_i at_j = elim (cases_eq i j) [
        | inl e ↦ e
        | inr other ↦ elim (cases_lt i j) [
          | inl low ↦ absurd (clash chain i j place apart at_i at_j low)
          | inr high ↦ absurd (clash chain j i place apart at_j at_i (omega arith))
        ]
      ]

  -- and each entry stands at one
  pub stands_at : (placed : Placed) → Contains state.entries placed → (cursor : Cursor) × StandsAt geo words state placed cursor
  stands_at placed there =
      let is = resting_represents geo segment words state rests in
      let once = is.pointed placed there in
      let number = number_of state.chain placed.place (is_placed is.is_state placed there).chained in
      (record { link = number.0; slot = once.0 }, record { there = there; tier = number.2; points = once.1 })

  -- ---- the pairs so far

  pub lists_none : ListsBefore geo words state (record { link = 0; slot = 0 }) []
  lists_none = record {
    all = λ placed cursor stands before. absurd (none cursor before);
    each = tt;
    once = tt;
  }
    where
      none : (cursor : Cursor) → IsBefore cursor (record { link = 0; slot = 0 }) → ⊥
      none cursor (inl low) = omega arith
      none cursor (inr low) = (let h = low.1 in omega arith)

  pub lists_more : (from at : Cursor) (pairs : List Pair) (pair : Pair) → ListsBefore geo words state from pairs → IsNextPair geo words state from at pair
      → ListsBefore geo words state (behind at) (pairs ++ pair ∷ [])
  lists_more from at pairs pair so_far next = record {
    all = λ placed cursor stands before. by placed cursor stands before (before_or cursor from);
    each = all_in _ (pairs ++ pair ∷ []) (λ it i. passed it (in_either pairs (pair ∷ []) it i));
    once = pairs_append (λ one other. one ≢ other) pairs (pair ∷ []) so_far.once (tt, tt) (all_in _ pairs (λ it i. (fresh it i, tt)));
  }
    where
      new : (placed : Placed) → pair_of placed ≡ pair → In (pair_of placed) (pairs ++ pair ∷ [])
      new placed e = in_right pairs (pair ∷ []) (pair_of placed) (inl e)

      by : (placed : Placed) (cursor : Cursor) → StandsAt geo words state placed cursor → IsBefore cursor (behind at)
          → IsBefore cursor from ⊎ (IsBefore cursor from → ⊥) → In (pair_of placed) (pairs ++ pair ∷ [])
      by placed cursor stands before (inl early) = in_left pairs (pair ∷ []) (pair_of placed) (so_far.all placed cursor stands early)
      by placed cursor stands before (inr late) = elim (before_behind cursor at before) [
        | inl low ↦ absurd (next.first placed cursor stands late low)
        | inr same ↦ new placed (one_pair next.here.placed placed at next.here.stands
            (subst (λ (c : Cursor). StandsAt geo words state placed c) same stands) ∙ sym next.here.pair_is)
      ]

      passed : (it : Pair) → In it pairs ⊎ In it (pair ∷ []) → IsPassedPair geo words state (behind at) it
      passed it (inl i) =
          let old = in_has (IsPassedPair geo words state from) pairs it so_far.each i in
          record { cursor = old.cursor; here = old.here; before = on_before old.cursor from at next.not_before old.before }
      passed it (inr (inl e)) = subst (λ (p : Pair). IsPassedPair geo words state (behind at) p) (sym e)
          (record { cursor = at; here = next.here; before = here_before at })
      passed it (inr (inr i)) = absurd i

      -- the pair was none of those before
      fresh : (it : Pair) → In it pairs → it ≢ pair
      fresh it i e =
          let old = in_has (IsPassedPair geo words state from) pairs it so_far.each i in
          let is = (resting_represents geo segment words state rests).is_state in
          let key : old.here.placed.key ≡ next.here.placed.key = ap (λ (p : Pair). p.key) (sym old.here.pair_is ∙ (e ∙ next.here.pair_is)) in
          let same : old.here.placed ≡ next.here.placed =
          same_Some _ _ (sym (found_is geo segment state next.here.placed.key old.here.placed is old.here.stands.there key)
          ∙ found_is geo segment state next.here.placed.key next.here.placed is next.here.stands.there refl) in
          let cursor : old.cursor ≡ at = one_cursor next.here.placed old.cursor at
          (subst (λ (p : Placed). StandsAt geo words state p old.cursor) same old.here.stands) next.here.stands in
          next.not_before (subst (λ (c : Cursor). IsBefore c from) cursor old.before)

  -- at the end they are all
  pub lists_all : (from : Cursor) (pairs : List Pair) → ListsBefore geo words state from pairs → AllBefore geo words state from → PermutesPairs state pairs
  lists_all from pairs so_far done =
      same_elements (map pair_of state.entries) pairs (apart state.entries (each_differs (resting_represents geo segment words state rests).is_state)) so_far.once
      (λ it i. (let m = mapped state.entries it i in subst (λ (p : Pair). In p pairs) (sym m.2) (listed m.0 (in_to state.entries m.0 m.1))))
      (λ it i. (let old = in_has (IsPassedPair geo words state from) pairs it so_far.each i in
      subst (λ (p : Pair). In p (map pair_of state.entries)) (sym old.here.pair_is)
      (maps state.entries old.here.placed (in_from state.entries old.here.placed old.here.stands.there))))
    where
      maps : (entries : List Placed) (placed : Placed) → In placed entries → In (pair_of placed) (map pair_of entries)
      maps [] placed i = absurd i
      maps (front ∷ entries) placed (inl e) = inl (ap pair_of e)
      maps (front ∷ entries) placed (inr i) = inr (maps entries placed i)

      mapped : (entries : List Placed) (pair : Pair) → In pair (map pair_of entries) → (placed : Placed) × In placed entries × (pair ≡ pair_of placed)
      mapped [] pair i = absurd i
      mapped (front ∷ entries) pair (inl e) = (front, inl refl, e)
      mapped (front ∷ entries) pair (inr i) = (let m = mapped entries pair i in (m.0, inr m.1, m.2))

      apart : (entries : List Placed) → Pairs (λ one other. one.key ≢ other.key) entries → AreApart (map pair_of entries)
      apart [] h = tt
      apart (front ∷ entries) h = (
        all_in _ (map pair_of entries) (λ it i. (let m = mapped entries it i in
            λ e. in_has (λ (other : Placed). front.key ≢ other.key) entries m.0 h.0 m.1 (ap (λ (p : Pair). p.key) (e ∙ m.2)))),
        apart entries h.1,
      )

      listed : (placed : Placed) → Contains state.entries placed → In (pair_of placed) pairs
      listed placed there = (let at = stands_at placed there in elim (before_or at.0 from) [
        | inl before ↦ so_far.all placed at.0 at.1 before
        | inr late ↦ absurd (done placed at.0 at.1 late)
      ])

pub one_more : (pairs : List Pair) (pair : Pair) (before later : ℕ) → length pairs ≤ before → before < later → length (pairs ++ pair ∷ []) ≤ later
one_more pairs pair before later few up = omega (arith, length-append pairs (pair ∷ []))

-- ---- the answer to a listing

pub listed_right : (m : MemSeen) (geo : Geo) (segment : ℕ) (pairs : List Pair) → m.setting.geo ≡ geo → EachHere m geo (λ state. Lists state pairs)
    → IsReplyHere m (ListAll segment) (reply.Pairs pairs)
listed_right m geo segment pairs geo_is lists =
    unmet_right m geo (ListAll segment) (reply.Pairs pairs) geo_is (λ words state fits rests. (refl, (pairs, lists words state fits rests, refl)))
