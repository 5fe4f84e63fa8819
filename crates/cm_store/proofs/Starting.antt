-- The start of a store.
use Rattle.std.proofs.Common.{◌≡◌, ℕ, zero, suc, ◌+◌, ◌*◌, ◌-◌, ◌%◌, ◌<◌, ◌≤◌, ◌^◌, List, [], ◌∷◌, ◌++◌, length, map, get_or, slice_get, drop, All, Some, refl, sym, ap, ◌∙◌, subst, arith}
use Rattle.std.specs.List.{range_with_len}
use Rattle.std.proofs.lemmas.List.{get_or-map, length-take-le, length-map, map_push}
use Rattle.std.proofs.lemmas.List.FromFn.{get_or-map-range_with_len, length-map-range_with_len}
use Rattle.std.proofs.lemmas.List.Elements.{All-drop, All-take}
use Rattle.std.proofs.lemmas.Option.{get_or_from_slice_get, slice_get_within}
use Rattle.cm_geo.specs.declared.geo.Geo.{Geo}
use Rattle.cm_geo.specs.Addresses.{words_in_segment}
use Rattle.cm_geo.proofs.Ranges.{tiers_range}
use Rattle.cm_plain.specs.States.{State}
use Rattle.cm_plain.specs.FoundChains.{FoundChain}
use Rattle.cm_plain.specs.Lawful.{IsSegmentWords, Lawful, Resting}
use Rattle.cm_plain.specs.Slots.{word_at}
use Rattle.cm_words.specs.declared.fixed.FixedMem.{FixedMem}
use Rattle.cm_words.specs.Fixed.{SameWords, fixed_seen}
use Rattle.cm_words.specs.Maps.{MapWords, segment_in, words_before}
use Rattle.cm_words.specs.Memory.{FitsNotes}
use Rattle.cm_words.specs.Parity.{IsEven}
use Rattle.cm_words.proofs.OneMemoryState.{fixed_notes_all, its_words}
use Rattle.cm_tiers.specs.declared.places.Chain.{Chain}
use Rattle.cm_tiers.specs.Chains.{IsLinked, IsRead, places_of}
use Rattle.cm_lock.specs.declared.table.SegSeat.{SegSeat}
use Rattle.cm_lock.specs.declared.table.SegTable.{SegTable}
use Rattle.cm_lock.specs.declared.view.Key.{Key}
use Rattle.cm_lock.specs.declared.view.View.{View}
use Rattle.cm_lock.specs.Rule.{root_view}
use Rattle.cm_lock.specs.Tables.{IsOf, key_of, view_of}
use Rattle.cm_store.specs.Passes.{AreSeatsOf, views}
use Rattle.cm_words.specs.LawfulMaps.{IsLawfulMap}
use Rattle.cm_store.specs.Tables.{AreTables, key_in, keys_of, linked_in}
use Rattle.cm_yard.specs.Claims.{claims_for}
use Rattle.cm_yard.specs.Views.{new_view as yard_new_view}
use Rattle.cm_store.specs.Balance.{Balances, linking_in}
use Rattle.cm_store.specs.Splits.{IsRootSeat}
use Rattle.cm_turn.specs.Turns.{links_in}
use Rattle.cm_store.proofs.Elements.{element_at, mapped_at}

-- the words of a segment fit the notes of each memory over them
pub fits_words : (a b : FixedMem) (map : MapWords) (segment : ℕ) → SameWords a b → a.words.now ≡ map → a.segment ≡ segment → FitsNotes (fixed_seen b) (segment_in map segment)
fits_words a b map segment same words_are segment_is =
    (its_words (fixed_seen b) b.words.now b.segment b.words.now.words (segment_in map segment) (fixed_notes_all b)).1
    (rw (same.words ∙ words_are, same.segment ∙ segment_is) refl)

-- a chain has as many tiers as it says
pub linked_is : (map : MapWords) (segment : ℕ) (chain : Chain) → length chain.places ≡ 8 → IsRead map.geo chain → IsLinked map.geo (segment_in map segment) chain → chain.len - 1 ≡ linked_in map segment
linked_is map segment chain eight read linked =
    let many : length (places_of chain) ≡ chain.len = length-take-le chain.len chain.places (let r = (tiers_range map.geo).1 in let w = read.within_limit in omega arith) in
    ap (λ (n : ℕ). n - 1) (sym many ∙ ap (λ (c : FoundChain). length c.places) (sym linked))

-- one segment more
pub range_more : (a n : ℕ) → range_with_len a (suc n) ≡ range_with_len a n ++ (a + n) ∷ []
range_more a zero = let e : a ≡ a + 0 = omega arith in ap (λ (k : ℕ). k ∷ []) e
range_more a (suc n) = let e : (a + 1) + n ≡ a + suc n = omega arith in ap (λ (t : List ℕ). a ∷ t) (range_more (a + 1) n ∙ ap (λ (k : ℕ). range_with_len (a + 1) n ++ k ∷ []) e)

pub map_more : {X : Type 0} (f : ℕ → X) (n : ℕ) → map f (range_with_len 0 (n + 1)) ≡ map f (range_with_len 0 n) ++ f n ∷ []
map_more f n =
    let one : n + 1 ≡ suc n = omega arith in
    let here : 0 + n ≡ n = omega arith in
    ap (λ (k : ℕ). map f (range_with_len 0 k)) one ∙ (ap (map f) (range_more 0 n ∙ ap (λ (k : ℕ). range_with_len 0 n ++ k ∷ []) here) ∙ map_push f (range_with_len 0 n) n)

-- lawful words may be shared
twice_even : (n w : ℕ) → w ≡ 2 * n → w % 2 ≡ 0
twice_even n w is = omega arith

module _ (geo : Geo) (segment number : ℕ) (state : State) (words : List ℕ) (lawful : Lawful geo segment words number state) where
  pub even_number : IsEven (word_at words 1)
  even_number = twice_even number (word_at words 1) lawful.number_is

  pub few_changes : word_at words 1 ≤ 2 ^ 63
  few_changes = let n = lawful.number_is in let l = lawful.number_within_limit in omega arith

  pub rests : Resting geo segment words state
  unfolding Resting
  rests = lawful.apart

module _ (map_words : MapWords) (lawful : IsLawfulMap map_words) (geo : Geo) (geo_is : geo ≡ map_words.geo) (segment count : ℕ) (count_is : count ≡ geo.segments) (below : segment < count)
    (words : List ℕ) (is : words ≡ segment_in map_words segment) where
  here : segment < map_words.geo.segments
  here = subst (λ (n : ℕ). segment < n) (count_is ∙ ap (λ (g : Geo). g.segments) geo_is) below

  law : (number : ℕ) × (state : State) × Lawful geo segment words number state
  law = rw (geo_is, is) (lawful.segments segment here)

  pub lawful_words : All (λ word. word < 2 ^ 64) map_words.words → IsSegmentWords geo words
  lawful_words fit = record {
    length_is = law.2.apart.length_is;
    fit = subst (λ (ws : List ℕ). All (λ word. word < 2 ^ 64) ws) (sym is)
        (All-take (λ word. word < 2 ^ 64) (words_in_segment map_words.geo) (drop (words_before map_words.geo segment) map_words.words)
        (All-drop (λ word. word < 2 ^ 64) (words_before map_words.geo segment) map_words.words fit));
  }

  pub lawful_unlocked : word_at words 0 ≡ 0
  lawful_unlocked = law.2.lock

  pub lawful_even : IsEven (word_at words 1)
  lawful_even = even_number geo segment law.0 law.1 words law.2

  pub lawful_limit : word_at words 1 ≤ 2 ^ 63
  lawful_limit = few_changes geo segment law.0 law.1 words law.2

  pub lawful_rests : (state : State) × Resting geo segment words state
  lawful_rests = (law.1, rests geo segment law.0 law.1 words law.2)

-- one table more, and its seat
module _ (map_words : MapWords) (n : ℕ) (tables : List SegTable) (seats : List SegSeat) (t : SegTable) (s : SegSeat) where
  pub keys_more : (tables' : List SegTable) → tables' ≡ tables ++ t ∷ [] → map key_of tables ≡ map (key_in map_words) (range_with_len 0 n) → key_of t ≡ key_in map_words n
      → map key_of tables' ≡ map (key_in map_words) (range_with_len 0 (n + 1))
  keys_more tables' more keys mine =
      ap (map key_of) more ∙ (map_push key_of tables t ∙ (ap (λ (ks : List Key). ks ++ key_of t ∷ []) keys
      ∙ (ap (λ (k : Key). map (key_in map_words) (range_with_len 0 n) ++ k ∷ []) mine ∙ sym (map_more (key_in map_words) n))))

  pub seats_more : (tables' : List SegTable) (seats' : List SegSeat) → tables' ≡ tables ++ t ∷ [] → seats' ≡ seats ++ s ∷ [] → AreSeatsOf tables seats → IsOf s t → AreSeatsOf tables' seats'
  seats_more tables' seats' more_tables more_seats its mine =
      ap (map (λ (x : SegSeat). x.seat.table_id)) more_seats ∙ (map_push (λ (x : SegSeat). x.seat.table_id) seats s
      ∙ (ap (λ ids. ids ++ s.seat.table_id ∷ []) its ∙ (ap (λ id. map (λ (x : SegTable). x.table.shared.table_id) tables ++ id ∷ []) mine
      ∙ (sym (map_push (λ (x : SegTable). x.table.shared.table_id) tables t) ∙ sym (ap (map (λ (x : SegTable). x.table.shared.table_id)) more_tables)))))

  pub roots_more : (seats' : List SegSeat) → seats' ≡ seats ++ s ∷ [] → views seats ≡ map root_view (map (key_in map_words) (range_with_len 0 n)) → view_of s ≡ root_view (key_of t) → key_of t ≡ key_in map_words n
      → views seats' ≡ map root_view (map (key_in map_words) (range_with_len 0 (n + 1)))
  roots_more seats' more roots mine key =
      ap views more ∙ (map_push view_of seats s ∙ (ap (λ (vs : List View). vs ++ view_of s ∷ []) roots
      ∙ (ap (λ (v : View). map root_view (map (key_in map_words) (range_with_len 0 n)) ++ v ∷ []) (mine ∙ ap root_view key)
      ∙ (sym (map_push root_view (map (key_in map_words) (range_with_len 0 n)) (key_in map_words n)) ∙ sym (ap (map root_view) (map_more (key_in map_words) n))))))

-- the tables of a map
pub tables_are : (map_words : MapWords) (tables : List SegTable) → map key_of tables ≡ keys_of map_words → AreTables map_words.geo tables
tables_are map_words tables keys = record {
  many = many;
  geos = λ segment table there. ap (λ (k : Key). k.geo) (key_at segment table there);
  segments = λ segment table there. ap (λ (k : Key). k.segment) (key_at segment table there);
}
  where
    many : length tables ≡ map_words.geo.segments
    many = sym (length-map tables key_of) ∙ (ap length keys ∙ length-map-range_with_len (key_in map_words) 0 map_words.geo.segments)

    key_at : (segment : ℕ) (table : SegTable) → slice_get tables segment ≡ Some table → key_of table ≡ key_in map_words segment
    key_at segment table there =
        let inside = slice_get_within tables segment table there in
        let m = many in
        sym (get_or-map key_of tables segment table (key_of table) inside ∙ ap key_of (get_or_from_slice_get tables segment table table there))
        ∙ (ap (λ (ks : List Key). get_or ks segment (key_of table)) keys
        ∙ get_or-map-range_with_len (key_in map_words) 0 map_words.geo.segments segment segment (key_of table) (omega arith) (omega arith))

pub starts_balance : (keys : List Key) → Balances (map root_view keys) (yard_new_view 64)
starts_balance keys s w there =
    let m = mapped_at root_view keys s w there in
    subst (λ (v : View). links_in v + linking_in v ≤ claims_for s (yard_new_view 64)) (sym m.is) (omega arith)

pub starts_root : (keys : List Key) → All IsRootSeat (map root_view keys)
starts_root keys i d below =
    let inside : i < length keys = subst (λ (n : ℕ). i < n) (length-map keys root_view) below in
    let (k, here) = element_at keys i inside in
    ap (λ (v : View). v.own.number) (get_or-map root_view keys i k d inside)
