-- No law of a segment is broken exactly where its words represent a state.
use Rattle.std.proofs.Common.{◌≡◌, ℕ, ◌+◌, ◌*◌, ◌/◌, ◌%◌, ◌^◌, ◌==◌, not, Bool, true, false, List, [], ◌∷◌, All, Contains, length, filter, bit_and, refl, sym, ap, subst, ◌∙◌, ◌++◌, arith, inl, inr, Some, if◌then◌else◌}
use Rattle.std.specs.List.{sum_by}
use Rattle.std.specs.Int.{IsBitSet, bit_at}
use Rattle.std.proofs.lemmas.Bool.Decides.{eqb_tells}
use Rattle.std.proofs.lemmas.List.Elements.{All-contains, All-from_recursion}
use Rattle.std.proofs.lemmas.List.Sums.{sum_by-cons}
use Rattle.std.proofs.lemmas.Nat.{pow_pos}
use Rattle.std.proofs.lemmas.Nat.Bits.{and_pow}
use Rattle.cm_geo.specs.declared.geo.Geo.{Geo}
use Rattle.cm_geo.specs.Addresses.{bits_at, tier_at, words_in_segment}
use Rattle.cm_chunks.proofs.WordBits.{one_of_set}
use Rattle.cm_plain.specs.declared.placed.Placed.{Placed}
use Rattle.cm_plain.specs.States.{State}
use Rattle.cm_plain.specs.Slots.{word_at}
use Rattle.cm_plain.specs.FoundChains.{chain_of}
use Rattle.cm_plain.specs.Lawful.{EndsHead, HasBit, IsTaken, Lawful, Represents, TierRepresents}
use Rattle.cm_plain.proofs.ListElements.{In, all_in, in_from, in_to}
use Rattle.cm_plain.proofs.OneState.{same_entries}
use Rattle.cm_plain.proofs.States.{each_rising, same_state}
use Rattle.cm_plain.proofs.StatePairs.{placed_in}
use Rattle.cm_check.specs.SlotEntries.{entry_in}
use Rattle.cm_check.specs.declared.law.Law.{Law}
use Rattle.cm_check.specs.declared.law.Law.TheVariants.{Bits, Chain, Duplicate, Gap, Header, Lock, Number, Overlap, Reserved, SegmentCount, Slot, TierCount, Unlinked, Allowance}
use Rattle.cm_words.specs.LawfulMaps.{IsLawfulSegment}
use Rattle.cm_check.specs.LawOrder.{breaks_in, breaks_of, count_laws, head_laws, slot_laws, words_broken}
use Rattle.cm_check.specs.Places.{chain_in}
use Rattle.cm_check.specs.CountLaws.{has_bit, is_bit_wrong, is_taken, occupied_among}
use Rattle.cm_check.specs.SlotReads.{AreCounted}
use Rattle.cm_check.proofs.BrokenLaws.{all_kept, breaks_none, breaks_parts, each_kept}
use Rattle.cm_check.proofs.FirstFound.{append_none}
use Rattle.cm_check.proofs.GatheredEntries.{gathered, gathered_rising}
use Rattle.cm_check.proofs.HeadLawsKept.{chain_kept, chain_none, header_kept, header_none, lock_kept, lock_none, number_kept, number_none, reserved_kept, reserved_none, unlinked_kept, unlinked_none}
use Rattle.cm_check.proofs.KeySearch.{law_kept, law_reaches}
use Rattle.cm_check.proofs.LawsKept.{bits_kept, bits_none, counts_kept, gaps_kept, none_astray, none_cut_off, none_miscounted, none_overlapping, overlaps_kept, segment_count_kept, segment_count_none, slots_kept}
use Rattle.cm_check.proofs.SlotLists.{entries_in, entries_two}
use Rattle.cm_check.proofs.TidyLaws.{again_kept, entry_stands, state_has, tidy_again, tidy_apart, tidy_kept, tidy_state}
use Rattle.cm_check.proofs.TidySegments.{Tidy, read_count, read_from, read_length, read_once, read_slot, read_state, read_taken, read_to, state_read, taken_read}

-- ---- bits

-- the bit of a chunk, as a test
bit_tested : (geo : Geo) (words : List ℕ) (place chunk : ℕ) → HasBit geo words place chunk → has_bit geo words place chunk ≡ true
bit_tested geo words place chunk set = rw (one_of_set (word_at words (bits_at geo place (chunk / 64))) (chunk % 64) set) refl

tested_bit : (geo : Geo) (words : List ℕ) (place chunk : ℕ) → has_bit geo words place chunk ≡ true → HasBit geo words place chunk
tested_bit geo words place chunk e = is_set (word_at words (bits_at geo place (chunk / 64))) (chunk % 64) e
  where
    is_set : (word k : ℕ) → (bit_at word k == 1) ≡ true → IsBitSet word k
    is_set word k e none = elim (eqb_tells (bit_at word k) 1) [
      | inr fails ↦ (let clash : false ≡ true = rw fails.0 at e in cc clash)
      | inl one ↦ (let product : bit_and word (2 ^ k) ≡ bit_at word k * 2 ^ k = and_pow word k in let whole : bit_and word (2 ^ k) ≡ 1 * 2 ^ k = rw one.1 at product in absurd (positive k (sym whole ∙ none)))
    ]
      where
        positive : (k : ℕ) → 1 * 2 ^ k ≡ 0 → ⊥
        positive k e = omega (arith, e, pow_pos k)

-- a bit that isn't wrong
right_bit : (taken bit : Bool) → (if taken then not bit else bit) ≡ false → bit ≡ taken
right_bit true true e = refl
right_bit true false e = cc e
right_bit false bit e = e

bit_right : (taken bit : Bool) → (bit ≡ true → taken ≡ true) → (taken ≡ true → bit ≡ true) → (if taken then not bit else bit) ≡ false
bit_right true true to from = refl
bit_right true false to from = (let e : false ≡ true = from refl in cc e)
bit_right false true to from = (let e : false ≡ true = to refl in cc e)
bit_right false false to from = refl

-- ---- sums

same_sums : (f g : ℕ → ℕ) (xs : List ℕ) → ((x : ℕ) → In x xs → f x ≡ g x) → sum_by f xs ≡ sum_by g xs
same_sums f g [] h = refl
same_sums f g (x ∷ xs) h = sum_by-cons f x xs ∙ (omega (arith, h x (inl refl), same_sums f g xs (λ y i. h y (inr i))) ∙ sym (sum_by-cons g x xs))

-- ---- where no law is broken

-- what the laws say, one after the other
record AreKept (geo : Geo) (segment : ℕ) (words : List ℕ) : Type 0 where
  kept : (law : Law) → words_broken geo segment words law ≡ []

-- that a law is broken at no word
abbrev Kept : Geo → ℕ → List ℕ → Law → Type 0
Kept geo segment words law = words_broken geo segment words law ≡ []

module _ (geo : Geo) (segment : ℕ) (words : List ℕ) where
  which : Kept geo segment words Lock → Kept geo segment words Number → Kept geo segment words Header → Kept geo segment words Chain → Kept geo segment words Reserved → Kept geo segment words Slot → Kept geo segment words Gap → Kept geo segment words Duplicate → Kept geo segment words Overlap → Kept geo segment words Bits → Kept geo segment words TierCount → Kept geo segment words SegmentCount → Kept geo segment words Unlinked → (law : Law) → Kept geo segment words law
  which a b c d e f g h i j k l m Lock = a
  which a b c d e f g h i j k l m Number = b
  which a b c d e f g h i j k l m Header = c
  which a b c d e f g h i j k l m Chain = d
  which a b c d e f g h i j k l m Reserved = e
  which a b c d e f g h i j k l m Slot = f
  which a b c d e f g h i j k l m Gap = g
  which a b c d e f g h i j k l m Duplicate = h
  which a b c d e f g h i j k l m Overlap = i
  which a b c d e f g h i j k l m Bits = j
  which a b c d e f g h i j k l m TierCount = k
  which a b c d e f g h i j k l m SegmentCount = l
  which a b c d e f g h i j k l m Unlinked = m
  which a b c d e f g h i j k l m Allowance = refl

none_of : (geo : Geo) (segment : ℕ) (words : List ℕ) → breaks_in geo segment words ≡ [] → AreKept geo segment words
none_of geo segment words none =
    let parts = append_none (breaks_of head_laws geo segment words) (breaks_of slot_laws geo segment words ++ breaks_of count_laws geo segment words) (sym (breaks_parts geo segment words) ∙ none) in
    let more = append_none (breaks_of slot_laws geo segment words) (breaks_of count_laws geo segment words) parts.1 in
    let lock = each_kept Lock (Number ∷ Header ∷ Chain ∷ Reserved ∷ []) geo segment words parts.0 in
    let number = each_kept Number (Header ∷ Chain ∷ Reserved ∷ []) geo segment words lock.1 in
    let header = each_kept Header (Chain ∷ Reserved ∷ []) geo segment words number.1 in
    let chain = each_kept Chain (Reserved ∷ []) geo segment words header.1 in
    let reserved = each_kept Reserved [] geo segment words chain.1 in
    let slot = each_kept Slot (Gap ∷ Duplicate ∷ Overlap ∷ []) geo segment words more.0 in
    let gap = each_kept Gap (Duplicate ∷ Overlap ∷ []) geo segment words slot.1 in
    let duplicate = each_kept Duplicate (Overlap ∷ []) geo segment words gap.1 in
    let overlap = each_kept Overlap [] geo segment words duplicate.1 in
    let bits = each_kept Bits (TierCount ∷ SegmentCount ∷ Unlinked ∷ []) geo segment words more.1 in
    let tier_count = each_kept TierCount (SegmentCount ∷ Unlinked ∷ []) geo segment words bits.1 in
    let segment_count = each_kept SegmentCount (Unlinked ∷ []) geo segment words tier_count.1 in
    let unlinked = each_kept Unlinked [] geo segment words segment_count.1 in
    record { kept = which geo segment words lock.0 number.0 header.0 chain.0 reserved.0 slot.0 gap.0 duplicate.0 overlap.0 bits.0 tier_count.0 segment_count.0 unlinked.0 }

all_of : (geo : Geo) (segment : ℕ) (words : List ℕ) → AreKept geo segment words → breaks_in geo segment words ≡ []
all_of geo segment words are =
    let done = breaks_none geo segment words in
    let head = all_kept Lock (Number ∷ Header ∷ Chain ∷ Reserved ∷ []) geo segment words (are.kept Lock) (all_kept Number (Header ∷ Chain ∷ Reserved ∷ []) geo segment words (are.kept Number)
    (all_kept Header (Chain ∷ Reserved ∷ []) geo segment words (are.kept Header) (all_kept Chain (Reserved ∷ []) geo segment words (are.kept Chain) (all_kept Reserved [] geo segment words (are.kept Reserved) done)))) in
    let slots = all_kept Slot (Gap ∷ Duplicate ∷ Overlap ∷ []) geo segment words (are.kept Slot) (all_kept Gap (Duplicate ∷ Overlap ∷ []) geo segment words (are.kept Gap)
    (all_kept Duplicate (Overlap ∷ []) geo segment words (are.kept Duplicate) (all_kept Overlap [] geo segment words (are.kept Overlap) done))) in
    let counts = all_kept Bits (TierCount ∷ SegmentCount ∷ Unlinked ∷ []) geo segment words (are.kept Bits) (all_kept TierCount (SegmentCount ∷ Unlinked ∷ []) geo segment words (are.kept TierCount)
    (all_kept SegmentCount (Unlinked ∷ []) geo segment words (are.kept SegmentCount) (all_kept Unlinked [] geo segment words (are.kept Unlinked) done))) in
    breaks_parts geo segment words ∙ rw (head, slots, counts) refl

-- the places of the found chain are the chain's
pub chain_places : (geo : Geo) (words : List ℕ) → chain_in geo words ≡ (chain_of geo words).places
unfolding chain_in
chain_places geo words = refl

-- a state can be read off a segment that keeps the laws
pub lawful_of_none : (geo : Geo) (segment : ℕ) (words : List ℕ) → length words ≡ words_in_segment geo → breaks_in geo segment words ≡ [] → IsLawfulSegment geo segment words
unfolding is_bit_wrong
lawful_of_none geo segment words long none =
    let laws = (none_of geo segment words none).kept in
    let rightful = slots_kept geo segment words (laws Slot) in
    let reached = gaps_kept geo words (laws Gap) in
    let tidy : Tidy geo segment words = tidy_kept geo segment words long rightful (again_kept geo words (laws Duplicate)) (overlaps_kept geo words (laws Overlap)) in
    let counted = counts_kept geo words (laws TierCount) in
    let number = number_kept words (laws Number) in
    let state : State = state_read geo words in (
      number.0,
      state_read geo words,
      record {
        lock = lock_kept words (laws Lock);
        number_is = number.1;
        number_within_limit = number.2;
        apart = record {
          length_is = long;
          fourth = header_kept words (laws Header);
          heads = reserved_kept geo words (laws Reserved);
          represents = record {
            is_state = read_state geo segment words tidy;
            whole = chain_kept geo words (laws Chain);
            chain = sym (chain_places geo words);
            tiers = All-from_recursion (TierRepresents geo words (state_read geo words)) (chain_in geo words) (all_in (TierRepresents geo words (state_read geo words)) (chain_in geo words) (λ place i.
                (let there = in_to (chain_in geo words) place i in
                record {
                  slots = λ n slot below e. read_slot geo segment words tidy place n slot there below e;
                  reached = law_kept geo words place (reached place there);
                  bits = λ chunk below.
                      (let right : has_bit geo words place chunk ≡ is_taken geo words place (2 * geo.chunks) chunk = right_bit (is_taken geo words place (2 * geo.chunks) chunk) (has_bit geo words place chunk) (bits_kept geo words place chunk (laws Bits) there below) in (
                        λ set. taken_read geo segment words tidy place chunk there (sym right ∙ bit_tested geo words place chunk set),
                        λ taken. tested_bit geo words place chunk (right ∙ read_taken geo segment words tidy place chunk taken),
                      ));
                  count = counted place there ∙ sym (read_count geo segment words tidy place there);
                })));
            stand = λ placed there. (read_from geo segment words tidy placed (in_from (gathered geo (entries_in geo words (chain_in geo words))) placed there)).stands;
            pointed = λ placed there. read_once geo segment words tidy placed (in_from (gathered geo (entries_in geo words (chain_in geo words))) placed there);
            count = segment_count_kept geo words (laws SegmentCount)
                ∙ (same_sums (λ place. word_at words (tier_at geo place + 1)) (λ place. occupied_among geo words place (2 * geo.chunks)) (chain_in geo words) (λ place i. counted place (in_to (chain_in geo words) place i))
                ∙ sym (read_length geo segment words tidy));
            unlinked = unlinked_kept geo words (laws Unlinked);
          };
        };
      },
    )

-- ---- where a state is represented

-- it is the one that can be read off the words
pub lawful_entries : (geo : Geo) (segment : ℕ) (words : List ℕ) (state : State) (tidy : Tidy geo segment words) → length words ≡ words_in_segment geo → (tells : Represents geo segment words state) → chain_in geo words ≡ state.chain
    → gathered geo (entries_in geo words (chain_in geo words)) ≡ state.entries
lawful_entries geo segment words state tidy long tells chain_is =
    same_entries geo (gathered geo (entries_in geo words (chain_in geo words))) state.entries (gathered_rising geo (entries_in geo words (chain_in geo words)) (entries_two geo words tidy.two)) (each_rising tells.is_state)
    (λ placed i. (let it = read_from geo segment words tidy placed i in (state_has geo segment words state long tells chain_is placed.place it.number placed it.there it.below it.entry_is).0))
    (λ placed i. back placed i)
  where
    back : (placed : Placed) → In placed state.entries → In placed (gathered geo (entries_in geo words (chain_in geo words)))
    back placed i =
        let point = tells.pointed placed (in_to state.entries placed i) in
        let is = placed_in geo segment state placed tells.is_state i in
        let there : In placed.place (chain_in geo words) = subst (λ (c : List ℕ). In placed.place c) (sym chain_is) (in_from state.chain placed.place is.chained) in
        let e : entry_in geo words placed.place point.0 ≡ Some placed = entry_stands geo words placed.place point.0 placed point.1.slot_is refl (tells.stand placed (in_to state.entries placed i)) in
        read_to geo segment words tidy placed.place point.0 placed there point.1.inside e

pub none_of_lawful : (geo : Geo) (segment : ℕ) (words : List ℕ) → IsLawfulSegment geo segment words → breaks_in geo segment words ≡ []
unfolding is_bit_wrong
none_of_lawful geo segment words lawful =
    let number : ℕ = lawful.0 in
    let state : State = lawful.1 in
    let is : Lawful geo segment words lawful.0 lawful.1 = lawful.2 in
    let tells = is.apart.represents in
    let long = is.apart.length_is in
    let chain_is : chain_in geo words ≡ lawful.1.chain = chain_places geo words ∙ tells.chain in
    let tidy = tidy_state geo segment words lawful.1 long tells chain_is in
    let entries = lawful_entries geo segment words lawful.1 tidy long tells chain_is in
    let tier : (place : ℕ) → Contains (chain_in geo words) place → TierRepresents geo words lawful.1 place = λ place there. All-contains (TierRepresents geo words lawful.1) lawful.1.chain place tells.tiers (subst (λ (c : List ℕ). Contains c place) chain_is there) in
    let counted : AreCounted geo words = λ place there. (tier place there).count ∙ (ap (λ (xs : List Placed). length (filter (λ placed. placed.place == place) xs)) (sym entries) ∙ read_count geo segment words tidy place there) in
    let read_is : state_read geo words ≡ lawful.1 = same_state (state_read geo words) lawful.1 chain_is entries in
    all_of geo segment words (record {
      kept = which geo segment words
          (lock_none words is.lock) (number_none words lawful.0 is.number_is is.number_within_limit) (header_none words is.apart.fourth) (chain_none geo words tells.whole)
          (reserved_none geo words (subst (λ (c : List ℕ). All (EndsHead geo words) c) (sym chain_is) is.apart.heads))
          (none_astray geo segment words tidy.rightful) (none_cut_off geo words (λ place there. law_reaches geo words place (tier place there).reached)) (tidy_again geo segment words tidy) (none_overlapping geo words (tidy_apart geo segment words tidy))
          (bits_none geo words (λ place chunk there below. (let bit = (tier place there).bits chunk below in
          bit_right (is_taken geo words place (2 * geo.chunks) chunk) (has_bit geo words place chunk)
          (λ e. read_taken geo segment words tidy place chunk (subst (λ (s : State). IsTaken geo s place chunk) (sym read_is) (bit.0 (tested_bit geo words place chunk e))))
          (λ e. bit_tested geo words place chunk (bit.1 (subst (λ (s : State). IsTaken geo s place chunk) read_is (taken_read geo segment words tidy place chunk there e)))))))
          (none_miscounted geo words counted)
          (segment_count_none geo words (tells.count ∙ (ap (λ (xs : List Placed). length xs) (sym entries) ∙ (read_length geo segment words tidy
          ∙ same_sums (λ place. occupied_among geo words place (2 * geo.chunks)) (λ place. word_at words (tier_at geo place + 1)) (chain_in geo words) (λ place i. sym (counted place (in_to (chain_in geo words) place i)))))))
          (unlinked_none geo words (λ place low outside. tells.unlinked place low (λ c. outside (subst (λ (c : List ℕ). Contains c place) (sym chain_is) c))));
    })
