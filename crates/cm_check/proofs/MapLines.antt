-- The lines of a lawful map.
use Rattle.std.proofs.Common.{◌≡◌, ◌≢◌, ℕ, ◌+◌, ◌*◌, ◌<◌, ◌==◌, not, Bool, List, [], ◌∷◌, ◌++◌, length, map, filter, get_or, nat_lt, Option, Some, None, refl, sym, ap, subst, ◌∙◌, arith, inl, inr, All, if◌then◌else◌}
use Rattle.std.specs.List.{AllByRecursion, cons_option, filter_map, flat_map, range_with_len}
use Rattle.std.specs.Option.{option_map}
use Rattle.std.specs.Ordering.{nat_cmp}
use Rattle.std.specs.Cmp.Lexicographic.{slice_cmp}
use Rattle.std.specs.List.Sorted.{IsPermutation, IsSortedByKey}
use Rattle.std.proofs.lemmas.Bool.Decides.{eqb_tells, nat_tests}
use Rattle.std.proofs.lemmas.List.{get_or-map, length-map}
use Rattle.std.proofs.lemmas.List.Concat.{flat_map-append}
use Rattle.std.proofs.lemmas.List.Elements.{All-from_recursion, filter_map-append, recursion_from_All}
use Rattle.std.proofs.lemmas.List.Sorted.{All-permutation, IsPermutation-cons, IsPermutation-filter_both, IsPermutation-map, IsPermutation-middle, IsPermutation-refl, IsPermutation-sym, IsPermutation-trans}
use Rattle.cm_geo.specs.declared.geo.Geo.{Geo}
use Rattle.cm_plain.specs.declared.placed.Placed.{Placed}
use Rattle.cm_plain.specs.declared.receipt.MapLine.{MapLine}
use Rattle.cm_plain.specs.declared.reply.Pair.{Pair}
use Rattle.cm_plain.specs.States.{State, pair_of, run_start}
use Rattle.cm_plain.specs.Changes.{with_entry}
use Rattle.cm_plain.specs.Lawful.{Lawful}
use Rattle.cm_plain.proofs.Each.{Pairs}
use Rattle.cm_plain.proofs.ListElements.{In, in_has, range_from}
use Rattle.cm_check.specs.Contents.{ListsSegment, line_of, lines_in, slot_lines}
use Rattle.cm_words.specs.LawfulMaps.{IsLawfulSegment}
use Rattle.cm_check.specs.Places.{chain_in}
use Rattle.cm_check.specs.SlotEntries.{entry_in}
use Rattle.cm_check.specs.SlotReads.{AreRightful}
use Rattle.cm_check.proofs.GatheredEntries.{AreTwo, gathered, starts_first}
use Rattle.cm_check.proofs.LawfulSegments.{chain_places, lawful_entries}
use Rattle.cm_check.proofs.RangeTests.{range_more}
use Rattle.cm_check.proofs.SlotLists.{entries_in, entries_of, entries_two}
use Rattle.cm_check.proofs.TidyLaws.{tidy_state}

-- ---- one slot more

lines_next : (geo : Geo) (segment : ℕ) (words : List ℕ) (count place : ℕ) → lines_in geo segment words (count + 1) place ≡ lines_in geo segment words count place ++ cons_option (option_map (λ placed. line_of segment (pair_of placed)) (entry_in geo words place count)) []
lines_next geo segment words count place =
    ap (filter_map (λ number. option_map (λ placed. line_of segment (pair_of placed)) (entry_in geo words place number))) (range_more count)
    ∙ filter_map-append (λ number. option_map (λ placed. line_of segment (pair_of placed)) (entry_in geo words place number)) (range_with_len 0 count) (count ∷ [])

pub lines_some : (geo : Geo) (segment : ℕ) (words : List ℕ) (count place : ℕ) (placed : Placed) → entry_in geo words place count ≡ Some placed
    → lines_in geo segment words (count + 1) place ≡ lines_in geo segment words count place ++ line_of segment (pair_of placed) ∷ []
lines_some geo segment words count place placed e = lines_next geo segment words count place ∙ ap (λ (o : Option Placed). lines_in geo segment words count place ++ cons_option (option_map (λ placed. line_of segment (pair_of placed)) o) []) e

pub lines_none : (geo : Geo) (segment : ℕ) (words : List ℕ) (count place : ℕ) → entry_in geo words place count ≡ None → lines_in geo segment words (count + 1) place ≡ lines_in geo segment words count place
lines_none geo segment words count place e =
    lines_next geo segment words count place ∙ (ap (λ (o : Option Placed). lines_in geo segment words count place ++ cons_option (option_map (λ placed. line_of segment (pair_of placed)) o) []) e ∙ none_more (lines_in geo segment words count place))
  where
    none_more : (xs : List MapLine) → xs ++ [] ≡ xs
    none_more [] = refl
    none_more (x ∷ xs) = ap (λ (ys : List MapLine). x ∷ ys) (none_more xs)

-- ---- the lines are those of the entries

mapped_lines : (segment : ℕ) (h : ℕ → Option Placed) (numbers : List ℕ) → filter_map (λ number. option_map (λ placed. line_of segment (pair_of placed)) (h number)) numbers ≡ map (λ placed. line_of segment (pair_of placed)) (filter_map h numbers)
mapped_lines segment h [] = refl
mapped_lines segment h (number ∷ numbers) = by (h number) (mapped_lines segment h numbers)
  where
    by : (made : Option Placed) → filter_map (λ number. option_map (λ placed. line_of segment (pair_of placed)) (h number)) numbers ≡ map (λ placed. line_of segment (pair_of placed)) (filter_map h numbers)
        → cons_option (option_map (λ placed. line_of segment (pair_of placed)) made) (filter_map (λ number. option_map (λ placed. line_of segment (pair_of placed)) (h number)) numbers) ≡ map (λ placed. line_of segment (pair_of placed)) (cons_option made (filter_map h numbers))
    by None rest = rest
    by (Some placed) rest = ap (λ (xs : List MapLine). line_of segment (pair_of placed) ∷ xs) rest

map_both : {X Y : Type 0} (f : X → Y) (xs ys : List X) → map f (xs ++ ys) ≡ map f xs ++ map f ys
map_both f [] ys = refl
map_both f (x ∷ xs) ys = ap (λ zs. f x ∷ zs) (map_both f xs ys)

lines_are : (geo : Geo) (segment : ℕ) (words places : List ℕ) → slot_lines geo segment words places ≡ map (λ placed. line_of segment (pair_of placed)) (entries_in geo words places)
lines_are geo segment words [] = refl
lines_are geo segment words (place ∷ places) =
    rw (mapped_lines segment (entry_in geo words place) (range_with_len 0 (2 * geo.chunks)), lines_are geo segment words places) (sym (map_both (λ placed. line_of segment (pair_of placed)) (entries_of geo words place) (entries_in geo words places)))

-- ---- the entries in the order of their runs are the same entries

same_filter : (p q : Placed → Bool) (xs : List Placed) → ((x : Placed) → In x xs → p x ≡ q x) → filter p xs ≡ filter q xs
same_filter p q [] same = refl
same_filter p q (x ∷ xs) same = rw (same x (inl refl), same_filter p q xs (λ y i. same y (inr i))) refl

put_among : (geo : Geo) (entry : Placed) (entries : List Placed) → AllByRecursion (λ other. run_start geo other ≢ run_start geo entry) entries → IsPermutation (entry ∷ entries) (with_entry geo entry entries)
put_among geo entry entries apart =
    let low : Placed → Bool = λ other. nat_lt (run_start geo other) (run_start geo entry) in
    let high : Placed → Bool = λ other. nat_lt (run_start geo entry) (run_start geo other) in
    let parts = IsPermutation-filter_both (λ other. nat_lt (run_start geo other) (run_start geo entry)) (λ other. not (nat_lt (run_start geo other) (run_start geo entry))) (λ x. refl) entries in
    let e : filter (λ other. not (nat_lt (run_start geo other) (run_start geo entry))) entries ≡ filter high entries =
    same_filter (λ other. not (nat_lt (run_start geo other) (run_start geo entry))) high entries (λ other i. turned (run_start geo other) (run_start geo entry) (in_has (λ other. run_start geo other ≢ run_start geo entry) entries other apart i)) in
    let parts' : IsPermutation entries (filter low entries ++ filter high entries) = subst (λ (xs : List Placed). IsPermutation entries (filter low entries ++ xs)) e parts in
    IsPermutation-trans (entry ∷ entries) (entry ∷ (filter low entries ++ filter high entries)) (with_entry geo entry entries)
    (IsPermutation-cons entry entries (filter low entries ++ filter high entries) parts')
    (IsPermutation-sym (with_entry geo entry entries) (entry ∷ (filter low entries ++ filter high entries)) (IsPermutation-middle (filter low entries) entry (filter high entries)))
  where
    turned : (a b : ℕ) → a ≢ b → not (nat_lt a b) ≡ nat_lt b a
    turned a b ne = grind (arith, nat_tests)

gathered_same : (geo : Geo) (entries : List Placed) → Pairs (AreTwo geo) entries → IsPermutation entries (gathered geo entries)
gathered_same geo [] two = IsPermutation-refl []
gathered_same geo (entry ∷ entries) two =
    IsPermutation-trans (entry ∷ entries) (entry ∷ gathered geo entries) (with_entry geo entry (gathered geo entries))
    (IsPermutation-cons entry entries (gathered geo entries) (gathered_same geo entries two.1))
    (put_among geo entry (gathered geo entries) (starts_first geo entry entries two.0))

-- ---- a segment's lines

-- a line as a pair
pair_from : MapLine → Pair
pair_from line = record { key = line.key; value = line.value }

-- lines of one segment are those of their pairs
unpaired : (segment : ℕ) (lines : List MapLine) → AllByRecursion (λ line. line.segment ≡ segment) lines → lines ≡ map (line_of segment) (map pair_from lines)
unfolding pair_from
unpaired segment [] here = refl
unpaired segment (line ∷ lines) here = together line (line_of segment (pair_from line)) (same line here.0) lines (map (line_of segment) (map pair_from lines)) (unpaired segment lines here.1)
  where
    same : (line : MapLine) → line.segment ≡ segment → line ≡ line_of segment (pair_from line)
    same line e = let of : ℕ → MapLine = λ s. record { segment = s; key = line.key; value = line.value } in ap of e

    together : (a b : MapLine) → a ≡ b → (xs ys : List MapLine) → xs ≡ ys → a ∷ xs ≡ b ∷ ys
    together a b e xs ys f = rw (e, f) refl

paired : (segment : ℕ) (entries : List Placed) → map pair_from (map (λ placed. line_of segment (pair_of placed)) entries) ≡ map pair_of entries
unfolding pair_from
paired segment [] = refl
paired segment (entry ∷ entries) = ap (λ (xs : List Pair). pair_of entry ∷ xs) (paired segment entries)

-- sorted lines give sorted pairs
sorted_pairs : (lines : List MapLine) → IsSortedByKey (λ line. line.key) (slice_cmp nat_cmp) lines → IsSortedByKey (λ pair. pair.key) (slice_cmp nat_cmp) (map pair_from lines)
unfolding pair_from
sorted_pairs lines sorted k d low below =
    let inside : k + 1 < length lines = omega (arith, below, length-map lines pair_from) in
    let next : get_or (map pair_from lines) (k + 1) d ≡ pair_from (get_or lines (k + 1) (line_of 0 d)) = get_or-map pair_from lines (k + 1) (line_of 0 d) d inside in
    let this : get_or (map pair_from lines) k d ≡ pair_from (get_or lines k (line_of 0 d)) = get_or-map pair_from lines k (line_of 0 d) d (omega (arith, inside)) in
    rw (next, this) (sorted k (line_of 0 d) low inside)

pub segment_listed : (geo : Geo) (segment : ℕ) (words : List ℕ) (found lines : List MapLine) → IsLawfulSegment geo segment words → found ≡ slot_lines geo segment words (chain_in geo words) → IsPermutation found lines
    → IsSortedByKey (λ line. line.key) (slice_cmp nat_cmp) lines → ListsSegment geo segment words lines
segment_listed geo segment words found lines lawful found_is moved sorted = record {
  pairs = map pair_from lines;
  lines_are = unpaired segment lines (recursion_from_All (λ line. line.segment ≡ segment) lines (All-permutation (λ line. line.segment ≡ segment) found lines moved
      (subst (λ (xs : List MapLine). All (λ line. line.segment ≡ segment) xs) (sym are) (All-from_recursion (λ line. line.segment ≡ segment) (map (λ placed. line_of segment (pair_of placed)) entries) (of_segment entries)))));
  listed = λ number state is. record { all = all number state is; in_order = sorted_pairs lines sorted };
}
  where
    entries : List Placed
    entries = entries_in geo words (chain_in geo words)

    are : found ≡ map (λ placed. line_of segment (pair_of placed)) entries
    are = found_is ∙ lines_are geo segment words (chain_in geo words)

    of_segment : (xs : List Placed) → AllByRecursion (λ line. line.segment ≡ segment) (map (λ placed. line_of segment (pair_of placed)) xs)
    of_segment [] = tt
    of_segment (x ∷ xs) = (refl, of_segment xs)

    all : (number : ℕ) (state : State) → Lawful geo segment words number state → IsPermutation (map pair_of state.entries) (map pair_from lines)
    all number state is =
        let chain_is : chain_in geo words ≡ state.chain = chain_places geo words ∙ is.apart.represents.chain in
        let tidy = tidy_state geo segment words state is.apart.length_is is.apart.represents chain_is in
        let gathered_is : gathered geo (entries_in geo words (chain_in geo words)) ≡ state.entries = lawful_entries geo segment words state tidy is.apart.length_is is.apart.represents chain_is in
        let same : IsPermutation (entries_in geo words (chain_in geo words)) state.entries = subst (λ (xs : List Placed). IsPermutation (entries_in geo words (chain_in geo words)) xs) gathered_is (gathered_same geo (entries_in geo words (chain_in geo words)) (entries_two geo words tidy.two)) in
        let pairs : IsPermutation (map pair_of (entries_in geo words (chain_in geo words))) (map pair_of state.entries) = IsPermutation-map pair_of (entries_in geo words (chain_in geo words)) state.entries same in
        let moved' : IsPermutation (map pair_from found) (map pair_from lines) = IsPermutation-map pair_from found lines moved in
        let from : map pair_from found ≡ map pair_of (entries_in geo words (chain_in geo words)) = ap (map pair_from) (found_is ∙ lines_are geo segment words (chain_in geo words)) ∙ paired segment (entries_in geo words (chain_in geo words)) in
        IsPermutation-trans (map pair_of state.entries) (map pair_of (entries_in geo words (chain_in geo words))) (map pair_from lines)
        (IsPermutation-sym (map pair_of (entries_in geo words (chain_in geo words))) (map pair_of state.entries) pairs)
        (subst (λ (xs : List Pair). IsPermutation xs (map pair_from lines)) from moved')

-- its slots keep their law
pub lawful_rightful : (geo : Geo) (segment : ℕ) (words : List ℕ) → IsLawfulSegment geo segment words → AreRightful geo segment words
lawful_rightful geo segment words lawful =
    (tidy_state geo segment words lawful.1 lawful.2.apart.length_is lawful.2.apart.represents (chain_places geo words ∙ lawful.2.apart.represents.chain)).rightful

-- ---- segment after segment

abbrev later : (ℕ → List MapLine) → ℕ → List MapLine → ℕ → List MapLine
later parts segment more number = if number == segment then more else parts number

pub parts_more : (parts : ℕ → List MapLine) (segment : ℕ) (more : List MapLine) → (with_more : ℕ → List MapLine) × (flat_map with_more (range_with_len 0 (segment + 1)) ≡ flat_map parts (range_with_len 0 segment) ++ more)
    × ((earlier : ℕ) → earlier < segment → with_more earlier ≡ parts earlier) × (with_more segment ≡ more)
parts_more parts segment more = (later parts segment more, joined, λ earlier below. kept earlier (λ e. absurd (omega (arith, e, below))), here)
  where
    here : later parts segment more segment ≡ more
    here = elim (eqb_tells segment segment) [
      | inl yes' ↦ rw yes'.0 refl
      | inr fails ↦ absurd (fails.1 refl)
    ]

    kept : (number : ℕ) → number ≢ segment → later parts segment more number ≡ parts number
    kept number ne = elim (eqb_tells number segment) [
      | inl same ↦ absurd (ne same.1)
      | inr fails ↦ rw fails.0 refl
    ]

    same_joined : (f g : ℕ → List MapLine) (xs : List ℕ) → ((x : ℕ) → In x xs → f x ≡ g x) → flat_map f xs ≡ flat_map g xs
    same_joined f g [] h = refl
    same_joined f g (x ∷ xs) h = rw (h x (inl refl), same_joined f g xs (λ y i. h y (inr i))) refl

    append_none : (xs : List MapLine) → xs ++ [] ≡ xs
    append_none [] = refl
    append_none (x ∷ xs) = ap (λ (ys : List MapLine). x ∷ ys) (append_none xs)

    joined : flat_map (later parts segment more) (range_with_len 0 (segment + 1)) ≡ flat_map parts (range_with_len 0 segment) ++ more
    joined =
        ap (flat_map (later parts segment more)) (range_more segment)
        ∙ (flat_map-append (later parts segment more) (range_with_len 0 segment) (segment ∷ [])
        ∙ rw (same_joined (later parts segment more) parts (range_with_len 0 segment) (λ x i. kept x (λ e. absurd (let r = range_from 0 segment x i in omega (arith, r.1, e)))), here) (ap (λ (xs : List MapLine). flat_map parts (range_with_len 0 segment) ++ xs) (append_none more)))
