-- Where the laws on slots are kept a segment is tidy, and so is one whose words represent a state.
use Rattle.std.proofs.Common.{◌≡◌, ◌≢◌, ℕ, ◌+◌, ◌*◌, ◌<◌, ◌≤◌, ◌==◌, ◌&&◌, ◌||◌, ◌⊎◌, not, Bool, true, false, List, [], ◌∷◌, length, nat_le, Option, Some, None, refl, sym, ap, subst, ◌∙◌, arith, inl, inr}
use Rattle.std.specs.List.{list_any}
use Rattle.std.proofs.lemmas.Bool.{cases_eq, cases_lt}
use Rattle.std.proofs.lemmas.Bool.Decides.{eqb_tells, nat_tests}
use Rattle.std.proofs.lemmas.Option.{same_Some}
use Rattle.cm_geo.specs.declared.geo.Geo.{Geo}
use Rattle.cm_geo.specs.Addresses.{words_in_segment}
use Rattle.cm_geo.specs.Hash.{fingerprint_in, hash, segment_of_key}
use Rattle.cm_plain.specs.declared.placed.Placed.{Placed}
use Rattle.cm_plain.specs.States.{HasRun, State, chunks_of, pair_of}
use Rattle.cm_plain.specs.Rooms.{is_free, meets}
use Rattle.cm_plain.specs.Slots.{Slot, slot_for, slot_in}
use Rattle.cm_plain.specs.Readings.{Stands, entry, reading_at}
use Rattle.cm_plain.specs.Lawful.{IsSlotOf, Represents, TierRepresents}
use Rattle.cm_plain.proofs.Apart.{IsApart, apart_not_met, apart_places, apart_symmetric, fresh_apart}
use Rattle.cm_plain.proofs.ListElements.{In, in_from, in_to}
use Rattle.std.proofs.lemmas.List.Elements.{All-contains}
use Rattle.cm_plain.specs.Changes.{entry_at}
use Rattle.cm_plain.proofs.States.{each_differs, each_rising, place_low}
use Rattle.cm_plain.proofs.StatePairs.{apart_in, placed_in, same_in}
use Rattle.cm_check.specs.Places.{chain_in, places_before}
use Rattle.cm_check.specs.SlotEntries.{entry_in, has_key, run_meets}
use Rattle.cm_check.specs.SlotLaws.{duplicate_broken, is_again, is_astray, is_key_among, is_overlapping, slots_where}
use Rattle.cm_check.specs.SlotReads.{AreRightful, AreRunsApart, IsEntryAt}
use Rattle.cm_check.proofs.AnyChain.{chain_of_any}
use Rattle.cm_check.proofs.EntryReads.{astray_empty, astray_entry, entry_none}
use Rattle.cm_check.proofs.FirstFound.{joined_none, none_joined}
use Rattle.cm_check.proofs.KeySearch.{again_is, again_none, entry_has_key, entry_lacks_key, entry_slot}
use Rattle.cm_check.proofs.LawsKept.{none_slots, slots_none}
use Rattle.cm_check.proofs.RangeTests.{any_none, below_fails, below_none, fails_in}
use Rattle.cm_check.proofs.SlotLists.{AreAllTwo}
use Rattle.cm_check.proofs.TidySegments.{Tidy}
use Rattle.cm_check.proofs.TakenBits.{entry_place}

both : (b : Bool) → b ≡ true → b ≡ false → ⊥
both b one other = cc (sym one ∙ other)

-- ---- places before others

-- of two places of a chain one comes before the other
before_or_behind : (chain : List ℕ) (place other : ℕ) → In place chain → In other chain → place ≢ other → In place (places_before chain other) ⊎ In other (places_before chain place)
before_or_behind [] place other i j ne = absurd i
before_or_behind (linked ∷ chain) place other (inl e) j ne = elim (eqb_tells linked other) [
  | inl same ↦ absurd (ne (e ∙ same.1))
  | inr differ ↦ inl (rw differ.0 (inl e))
]
before_or_behind (linked ∷ chain) place other (inr i) (inl f) ne = elim (eqb_tells linked place) [
  | inl same ↦ absurd (ne (sym same.1 ∙ sym f))
  | inr differ ↦ inr (rw differ.0 (inl f))
]
before_or_behind (linked ∷ chain) place other (inr i) (inr j) ne = elim (eqb_tells linked other) [
  | inl same ↦ elim (eqb_tells linked place) [
    | inl same' ↦ absurd (ne (sym same'.1 ∙ same.1))
    | inr differ ↦ inr (rw differ.0 (inl (sym same.1)))
  ]
  | inr differ ↦ elim (eqb_tells linked place) [
    | inl same ↦ inl (rw differ.0 (inl (sym same.1)))
    | inr differ' ↦ more (before_or_behind chain place other i j ne) differ.0 differ'.0
  ]
]
  where
    more : In place (places_before chain other) ⊎ In other (places_before chain place) → (linked == other) ≡ false → (linked == place) ≡ false
        → In place (places_before (linked ∷ chain) other) ⊎ In other (places_before (linked ∷ chain) place)
    more (inl h) e f = inl (rw e (inr h))
    more (inr h) e f = inr (rw f (inr h))

-- those before a place are other places of the chain
before_in : (chain : List ℕ) (place other : ℕ) → In other (places_before chain place) → In other chain × (other ≢ place)
before_in [] place other i = absurd i
before_in (linked ∷ chain) place other i = elim (eqb_tells linked place) [
  | inl same ↦ (let none : In other [] = rw same.0 at i in absurd none)
  | inr differ ↦ by differ.1 (before_in chain place other) (rw differ.0 at i)
]
  where
    by : linked ≢ place → (In other (places_before chain place) → In other chain × (other ≢ place)) → In other (linked ∷ places_before chain place) → In other (linked ∷ chain) × (other ≢ place)
    by ne rest (inl e) = (inl e, λ f. ne (sym e ∙ f))
    by ne rest (inr j) = (let r = rest j in (inr r.0, r.1))

-- ---- from the laws

-- no slot has a key that was there before
pub again_kept : (geo : Geo) (words : List ℕ) → duplicate_broken geo words ≡ [] → (place number : ℕ) → In place (chain_in geo words) → number < 2 * geo.chunks → is_again geo words (places_before (chain_in geo words) place) place number ≡ false
unfolding duplicate_broken
again_kept geo words none place number there below =
    slots_none geo place (is_again geo words (places_before (chain_in geo words) place) place) number
    (none_joined (λ place. slots_where geo place (is_again geo words (places_before (chain_in geo words) place) place)) (chain_in geo words) place none there) below

-- a test that is none of two is neither
neither : (a b : Bool) → (a || b) ≡ false → (a ≡ false) × (b ≡ false)
neither true b e = cc e
neither false b e = (refl, e)

key_differs : (geo : Geo) (words : List ℕ) (place count number : ℕ) (placed : Placed) (key : List ℕ) → is_key_among geo words key count place ≡ false → number < count → entry_in geo words place number ≡ Some placed → placed.key ≢ key
unfolding is_key_among
key_differs geo words place count number placed key none below e same =
    both (has_key key (entry_in geo words place number)) (entry_has_key geo words place number placed key e same) (below_fails (λ number. has_key key (entry_in geo words place number)) count number none below)

-- runs that don't meet are apart
not_met_apart : (geo : Geo) (one other : Placed) → HasRun geo one → HasRun geo other → meets geo one.place one.chunk (chunks_of geo one) other ≡ false → IsApart geo other one
not_met_apart geo one other run run' e =
    let within : nat_le (one.chunk + chunks_of geo one) geo.chunks ≡ true = is_within (one.chunk + chunks_of geo one) geo.chunks run.inside in
    let free : is_free geo (other ∷ []) one.place one.chunk (chunks_of geo one) ≡ true = rw (within, e) refl in
    (fresh_apart geo one (other ∷ []) (run', tt) free).0
  where
    is_within : (a b : ℕ) → a ≤ b → nat_le a b ≡ true
    is_within a b h = grind (arith, nat_tests)

module _ (geo : Geo) (segment : ℕ) (words : List ℕ) (long : length words ≡ words_in_segment geo) (rightful : AreRightful geo segment words) (again : (place number : ℕ) → In place (chain_in geo words) → number < 2 * geo.chunks → is_again geo words (places_before (chain_in geo words) place) place number ≡ false) (apart : AreRunsApart geo words) where
  at_slot : (place number : ℕ) (placed : Placed) → In place (chain_in geo words) → number < 2 * geo.chunks → entry_in geo words place number ≡ Some placed → IsEntryAt geo segment words place number placed.chunk
  at_slot place number placed there below e =
      (let chained = in_to (chain_in geo words) place there in entry_slot geo segment words place long (place_low (chain_of_any geo words) place chained) (rightful place chained) number placed below e)

  run_at : (place number : ℕ) (placed : Placed) → In place (chain_in geo words) → number < 2 * geo.chunks → entry_in geo words place number ≡ Some placed → HasRun geo placed
  run_at place number placed there below e =
      (let at = at_slot place number placed there below e in subst (λ (p : Placed). HasRun geo p) (same_Some at.placed placed (sym at.entry_is ∙ e)) at.run)

  -- an earlier slot of the tier, or one of an earlier tier, has another key
  earlier_number : (place number later : ℕ) (one two : Placed) → In place (chain_in geo words) → later < 2 * geo.chunks → number < later → entry_in geo words place number ≡ Some one → entry_in geo words place later ≡ Some two → one.key ≢ two.key
  earlier_number place number later one two there below before e f =
      let none = (neither (list_any (is_key_among geo words two.key (2 * geo.chunks)) (places_before (chain_in geo words) place)) (is_key_among geo words two.key later place) (sym (again_is geo words (places_before (chain_in geo words) place) place later two f) ∙ again place later there below)).1 in
      key_differs geo words place later number one two.key none before e

  earlier_place : (place number other later : ℕ) (one two : Placed) → In place (places_before (chain_in geo words) other) → In other (chain_in geo words) → number < 2 * geo.chunks → later < 2 * geo.chunks → entry_in geo words place number ≡ Some one → entry_in geo words other later ≡ Some two → one.key ≢ two.key
  earlier_place place number other later one two before there below below' e f =
      let none = (neither (list_any (is_key_among geo words two.key (2 * geo.chunks)) (places_before (chain_in geo words) other)) (is_key_among geo words two.key later other) (sym (again_is geo words (places_before (chain_in geo words) other) other later two f) ∙ again other later there below')).0 in
      key_differs geo words place (2 * geo.chunks) number one two.key (fails_in (is_key_among geo words two.key (2 * geo.chunks)) (places_before (chain_in geo words) other) place none before) below e

  -- runs of a tier
  earlier_run : (place number later : ℕ) (one two : Placed) → In place (chain_in geo words) → later < 2 * geo.chunks → number < later → entry_in geo words place number ≡ Some one → entry_in geo words place later ≡ Some two → IsApart geo one two
  unfolding is_overlapping
  earlier_run place number later one two there below before e f =
      not_met_apart geo two one (run_at place later two there below f) (run_at place number one there (omega (arith, before, below)) e) (unmet place number later one two there below before e f)
    where
      unmet : (place number later : ℕ) (one two : Placed) → In place (chain_in geo words) → later < 2 * geo.chunks → number < later → entry_in geo words place number ≡ Some one → entry_in geo words place later ≡ Some two → meets geo two.place two.chunk (chunks_of geo two) one ≡ false
      unmet place number later one two there below before e f =
          let kept : is_overlapping geo words place later ≡ false = apart place (in_to (chain_in geo words) place there) later below in
          ap (λ (o : Option Placed). run_meets geo (Some two) o) (sym e) ∙ (ap (λ (o : Option Placed). run_meets geo o (entry_in geo words place number)) (sym f)
          ∙ below_fails (λ earlier. run_meets geo (entry_in geo words place later) (entry_in geo words place earlier)) later number kept before)

  keys_two : AreAllTwo geo words
  keys_two place number other number' one two there there' below below' e f differ = elim (cases_eq place other) [
    | inl same ↦
        (let e' : entry_in geo words other number ≡ Some one = ap (λ (p : ℕ). entry_in geo words p number) (sym same) ∙ e in
        elim (cases_lt number number') [
          | inl before ↦ record { apart = earlier_run other number number' one two there' below' before e' f; keys = earlier_number other number number' one two there' below' before e' f }
          | inr behind ↦
              (let before : number' < number = later number number' behind (number_differs same differ) in
              record { apart = apart_symmetric geo two one (earlier_run other number' number two one there' below before f e'); keys = λ k. earlier_number other number' number two one there' below before f e' (sym k) })
        ])
    | inr ne ↦ record {
      apart = apart_places geo one two (run_at place number one there below e).inside (run_at other number' two there' below' f).inside (λ k. ne (sym (entry_place geo words place number one e) ∙ (k ∙ entry_place geo words other number' two f)));
      keys = elim (before_or_behind (chain_in geo words) place other there there' ne) [
        | inl before ↦ earlier_place place number other number' one two before there' below below' e f
        | inr behind ↦ (λ k. earlier_place other number' place number two one behind there below' below f e (sym k))
      ];
    }
  ]
    where
      later : (a b : ℕ) → b ≤ a → a ≢ b → b < a
      later a b h ne = omega arith

      number_differs : place ≡ other → (place ≢ other) ⊎ (number ≢ number') → number ≢ number'
      number_differs same (inl ne) = absurd (ne same)
      number_differs same (inr ne) = ne

  pub tidy_kept : Tidy geo segment words
  tidy_kept = record { long = long; rightful = rightful; two = keys_two }

-- ---- from a state

-- a slot of an entry that stands
pub entry_stands : (geo : Geo) (words : List ℕ) (place number : ℕ) (placed : Placed) → slot_in geo words place number ≡ Some (slot_for geo placed.key placed.chunk) → placed.place ≡ place → Stands geo words placed → entry_in geo words place number ≡ Some placed
unfolding entry_in
entry_stands geo words place number placed there place_is stands =
    let reads : reading_at geo words place placed.chunk ≡ entry (pair_of placed) = ap (λ (p : ℕ). reading_at geo words p placed.chunk) (sym place_is) ∙ stands in
    rw (there, reads) (ap (λ (p : ℕ). Some (entry_at placed.key placed.value p placed.chunk)) (sym place_is))

module _ (geo : Geo) (segment : ℕ) (words : List ℕ) (state : State) (long : length words ≡ words_in_segment geo) (tells : Represents geo segment words state) (chain_is : chain_in geo words ≡ state.chain) where
  -- a slot of the chain is that of an entry
  state_tier : (place : ℕ) → In place (chain_in geo words) → TierRepresents geo words state place
  state_tier place there = All-contains (TierRepresents geo words state) state.chain place tells.tiers (in_to state.chain place (subst (λ (c : List ℕ). In place c) chain_is there))

  state_entry : (place number : ℕ) (slot : Slot) (of : IsSlotOf geo state place slot) → slot_in geo words place number ≡ Some slot → entry_in geo words place number ≡ Some of.placed
  state_entry place number slot of e = entry_stands geo words place number of.placed (e ∙ ap (λ (s : Slot). Some s) of.slot_is) of.at.place_is (tells.stand of.placed of.at.there)

  -- an entry of a slot is one of the state, and the slot is its one slot
  pub state_has : (place number : ℕ) (placed : Placed) → In place (chain_in geo words) → number < 2 * geo.chunks → entry_in geo words place number ≡ Some placed
      → In placed state.entries × (slot_in geo words placed.place number ≡ Some (slot_for geo placed.key placed.chunk))
  state_has place number placed there below e = by (slot_in geo words place number) refl
    where
      by : (slot : Option Slot) → slot_in geo words place number ≡ slot → In placed state.entries × (slot_in geo words placed.place number ≡ Some (slot_for geo placed.key placed.chunk))
      by None is = (let clash : None ≡ Some placed = sym (entry_none geo words place number is) ∙ e in cc clash)
      by (Some slot) is =
          let of : IsSlotOf geo state place slot = (state_tier place there).slots number slot below is in
          let same : of.placed ≡ placed = same_Some of.placed placed (sym (state_entry place number slot of is) ∙ e) in (
            subst (λ (p : Placed). In p state.entries) same (in_from state.entries of.placed of.at.there),
            subst (λ (p : Placed). slot_in geo words p.place number ≡ Some (slot_for geo p.key p.chunk)) same (ap (λ (p : ℕ). slot_in geo words p number) of.at.place_is ∙ (is ∙ ap (λ (s : Slot). Some s) of.slot_is)),
          )

  state_rightful : AreRightful geo segment words
  state_rightful place chained number below = by (slot_in geo words place number) refl
    where
      same : (a b : ℕ) → a ≡ b → (a == b) ≡ true
      same a b e = elim (eqb_tells a b) [
        | inl yes' ↦ yes'.0
        | inr fails ↦ absurd (fails.1 e)
      ]

      right : (a segment b fingerprint : ℕ) → a ≡ segment → b ≡ fingerprint → not ((a == segment) && (b == fingerprint)) ≡ false
      right a segment b fingerprint e f = rw (same a segment e, same b fingerprint f) refl

      by : (slot : Option Slot) → slot_in geo words place number ≡ slot → is_astray geo segment words place number ≡ false
      by None is = astray_empty geo segment words place number is
      by (Some slot) is =
          let of : IsSlotOf geo state place slot = (state_tier place (in_from (chain_in geo words) place chained)).slots number slot below is in
          let placed = placed_in geo segment state of.placed tells.is_state (in_from state.entries of.placed of.at.there) in
          let reads : reading_at geo words place of.placed.chunk ≡ entry (pair_of of.placed) = ap (λ (p : ℕ). reading_at geo words p of.placed.chunk) (sym of.at.place_is) ∙ tells.stand of.placed of.at.there in
          astray_entry geo segment words place number of.placed.chunk slot (pair_of of.placed) is (ap (λ (s : Slot). s.chunk) of.slot_is) reads
          ∙ right (segment_of_key geo of.placed.key) segment (fingerprint_in geo (hash of.placed.key)) slot.fingerprint placed.here (sym (ap (λ (s : Slot). s.fingerprint) of.slot_is))

  state_two : AreAllTwo geo words
  state_two place number other number' one two there there' below below' e f differ =
      let has = state_has place number one there below e in
      let has' = state_has other number' two there' below' f in
      let keys : one.key ≢ two.key = λ k. clash (same_in state.entries one two (each_differs tells.is_state) has.0 has'.0 k) in
      record { apart = apart_in geo state.entries one two (each_rising tells.is_state) has.0 has'.0 keys; keys = keys }
    where
      clash : one ≡ two → ⊥
      clash same =
          let has = state_has place number one there below e in
          let has' = state_has other number' two there' below' f in
          let once = tells.pointed one (in_to state.entries one has.0) in
          let first = once.2 number (record { inside = below; slot_is = has.1 }) in
          let second = once.2 number' (record { inside = below'; slot_is = subst (λ (p : Placed). slot_in geo words p.place number' ≡ Some (slot_for geo p.key p.chunk)) (sym same) has'.1 }) in
          no differ (sym (entry_place geo words place number one e) ∙ (ap (λ (p : Placed). p.place) same ∙ entry_place geo words other number' two f)) (first ∙ sym second)
        where
          no : (place ≢ other) ⊎ (number ≢ number') → place ≡ other → number ≡ number' → ⊥
          no (inl ne) k l = ne k
          no (inr ne) k l = ne l

  pub tidy_state : Tidy geo segment words
  tidy_state = record { long = long; rightful = state_rightful; two = state_two }

-- ---- and the laws on slots of a tidy segment

-- no key is there again
pub tidy_again : (geo : Geo) (segment : ℕ) (words : List ℕ) → Tidy geo segment words → duplicate_broken geo words ≡ []
unfolding duplicate_broken is_key_among
tidy_again geo segment words tidy =
    joined_none (λ place. slots_where geo place (is_again geo words (places_before (chain_in geo words) place) place)) (chain_in geo words)
    (λ place there. none_slots geo place (is_again geo words (places_before (chain_in geo words) place) place) (λ number below. by place number there below (entry_in geo words place number) refl))
  where
    or_none : (a b : Bool) → a ≡ false → b ≡ false → (a || b) ≡ false
    or_none a b e f = rw (e, f) refl

    lacks : (place number other number' : ℕ) (one : Placed) → In place (chain_in geo words) → In other (chain_in geo words) → number < 2 * geo.chunks → number' < 2 * geo.chunks → entry_in geo words place number ≡ Some one → (other ≢ place) ⊎ (number' ≢ number)
        → (entry : Option Placed) → entry_in geo words other number' ≡ entry → has_key one.key (entry_in geo words other number') ≡ false
    lacks place number other number' one there there' below below' e differ None is = rw is refl
    lacks place number other number' one there there' below below' e differ (Some two) is =
        entry_lacks_key geo words other number' two one.key is (tidy.two other number' place number two one there' there below' below is e differ).keys

    by : (place number : ℕ) → In place (chain_in geo words) → number < 2 * geo.chunks → (entry : Option Placed) → entry_in geo words place number ≡ entry → is_again geo words (places_before (chain_in geo words) place) place number ≡ false
    by place number there below None e = again_none geo words (places_before (chain_in geo words) place) place number e
    by place number there below (Some one) e =
        again_is geo words (places_before (chain_in geo words) place) place number one e
        ∙ or_none (list_any (is_key_among geo words one.key (2 * geo.chunks)) (places_before (chain_in geo words) place)) (is_key_among geo words one.key number place)
        (any_none (is_key_among geo words one.key (2 * geo.chunks)) (places_before (chain_in geo words) place) (λ other i. (let before = before_in (chain_in geo words) place other i in
        below_none (λ number'. has_key one.key (entry_in geo words other number')) (2 * geo.chunks) (λ number' below'. lacks place number other number' one there before.0 below below' e (inl before.1) (entry_in geo words other number') refl))))
        (below_none (λ number'. has_key one.key (entry_in geo words place number')) number (λ number' before. lacks place number place number' one there there below (omega (arith, before, below)) e (inr (λ k. absurd (omega (arith, before, k)))) (entry_in geo words place number') refl))

-- no run meets an earlier one
pub tidy_apart : (geo : Geo) (segment : ℕ) (words : List ℕ) → Tidy geo segment words → AreRunsApart geo words
unfolding is_overlapping
tidy_apart geo segment words tidy place chained number below =
    below_none (λ earlier. run_meets geo (entry_in geo words place number) (entry_in geo words place earlier)) number (λ earlier before. by earlier before (entry_in geo words place number) refl (entry_in geo words place earlier) refl)
  where
    by : (earlier : ℕ) → earlier < number → (one : Option Placed) → entry_in geo words place number ≡ one → (two : Option Placed) → entry_in geo words place earlier ≡ two → run_meets geo (entry_in geo words place number) (entry_in geo words place earlier) ≡ false
    by earlier before None e two f = rw e refl
    by earlier before (Some one) e None f = rw (e, f) refl
    by earlier before (Some one) e (Some two) f =
        let there = in_from (chain_in geo words) place chained in
        let apart = (tidy.two place earlier place number two one there there (omega (arith, before, below)) below f e (inr (λ k. absurd (omega (arith, before, k))))).apart in
        rw (e, f) (apart_not_met geo one two apart)
