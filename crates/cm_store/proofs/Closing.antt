-- The end of all tables.
use Rattle.std.proofs.Common.{◌≡◌, ℕ, ◌+◌, ◌*◌, ◌<◌, ◌≤◌, List, [], ◌∷◌, ◌++◌, length, map, get_or, take, drop, slice_get, All, Some, inl, inr, refl, sym, ap, ◌∙◌, subst, arith, length-append}
use Rattle.std.proofs.lemmas.Bool.{cases_lt}
use Rattle.std.proofs.lemmas.List.{drop-append-le, drop_at, get_or_append_left, get_or_default, get_or_push, length-drop, length-map, map_push, take-append-le, take_all, take_at}
use Rattle.std.proofs.lemmas.Option.{get_or_from_slice_get, slice_get_read, slice_get_within}
use Rattle.cm_geo.specs.declared.geo.Geo.{Geo}
use Rattle.cm_geo.specs.Addresses.{words_in_map, words_in_segment}
use Rattle.cm_lock.specs.declared.table.SegSeat.{SegSeat}
use Rattle.cm_lock.specs.declared.table.SegTable.{SegTable}
use Rattle.cm_lock.specs.declared.view.Key.{Key}
use Rattle.cm_lock.specs.declared.view.View.{View}
use Rattle.cm_lock.specs.Tables.{Closes, IsOf, key_of, view_of}
use Rattle.cm_store.specs.Closes.{ClosesAll}
use Rattle.cm_store.specs.Passes.{AreSeatsOf, views}
use Rattle.cm_store.specs.Tables.{AreTables}
use Rattle.cm_store.proofs.Seats.{as_many}

-- ---- lists with one more

snoc_parts : {X : Type 0} (xs ys : List X) (x y : X) → xs ++ x ∷ [] ≡ ys ++ y ∷ [] → (xs ≡ ys) × (x ≡ y)
snoc_parts xs ys x y e =
    let long : length xs ≡ length ys = let a = ap length e in let b = length-append xs (x ∷ []) in let c = length-append ys (y ∷ []) in omega arith in (
      sym (take_at xs (x ∷ []) (length xs) refl) ∙ (ap (take (length xs)) e ∙ take_at ys (y ∷ []) (length xs) (sym long)),
      sym (get_or_push xs x x (length xs) refl) ∙ (ap (λ (l : List _). get_or l (length xs) x) e ∙ get_or_push ys y x (length xs) (sym long)),
    )

all_snoc : {X : Type 0} (P : X → Type 0) (xs : List X) (x : X) → All P (xs ++ x ∷ []) → All P xs × P x
all_snoc P xs x all = (
  (λ k d h. subst P (get_or_append_left xs (x ∷ []) d k h) (all k d (let l = length-append xs (x ∷ []) in omega arith))),
  subst P (get_or_push xs x x (length xs) refl) (all (length xs) x (let l = length-append xs (x ∷ []) in omega arith)),
)

-- an element stands in front, or is the last one
in_front : {X : Type 0} (xs : List X) (x y : X) (i : ℕ) → i < length xs → slice_get (xs ++ x ∷ []) i ≡ Some y → slice_get xs i ≡ Some y
in_front xs x y i low there = slice_get_read xs (length xs) i y refl low (sym (sym (get_or_append_left xs (x ∷ []) y i low) ∙ get_or_from_slice_get (xs ++ x ∷ []) i y y there))

is_last : {X : Type 0} (xs : List X) (x y : X) (i : ℕ) → length xs ≤ i → slice_get (xs ++ x ∷ []) i ≡ Some y → (i ≡ length xs) × (y ≡ x)
is_last xs x y i high there =
    let here : i ≡ length xs = let w = slice_get_within (xs ++ x ∷ []) i y there in let l = length-append xs (x ∷ []) in omega arith in
    (here, sym (get_or_from_slice_get (xs ++ x ∷ []) i y y there) ∙ get_or_push xs x y i (sym here))

-- ---- words with those of one segment more

row_inside : (s t n : ℕ) → s < t → s * n + n ≤ t * n
row_inside s t n h = grind arith

row_more : (t n : ℕ) → t * n + n ≡ (t + 1) * n
row_more t n = grind arith

no_row : (n : ℕ) → 0 ≡ 0 * n
no_row n = grind arith

segment_front : (n c i : ℕ) (words more : List ℕ) → length words ≡ c * n → i < c → take n (drop (i * n) (words ++ more)) ≡ take n (drop (i * n) words)
segment_front n c i words more long below =
    let row = row_inside i c n below in
    let rest = length-drop (i * n) words in
    ap (take n) (drop-append-le (i * n) words more (omega arith)) ∙ take-append-le n (drop (i * n) words) more (omega arith)

segment_last : (n c : ℕ) (words more : List ℕ) → length words ≡ c * n → length more ≡ n → take n (drop (c * n) (words ++ more)) ≡ more
segment_last n c words more long is = ap (take n) (drop_at words more (c * n) long) ∙ take_all n more (omega arith)

-- ---- the tables but the last one

module _ (tables all_tables : List SegTable) (seats all_seats : List SegSeat) (t : SegTable) (s : SegSeat) (is_t : all_tables ≡ tables ++ t ∷ []) (is_s : all_seats ≡ seats ++ s ∷ []) where
  parts : AreSeatsOf all_tables all_seats → AreSeatsOf tables seats × IsOf s t
  parts its = snoc_parts (map (λ (x : SegSeat). x.seat.table_id) seats) (map (λ (x : SegTable). x.table.shared.table_id) tables) s.seat.table_id t.table.shared.table_id
      (sym (ap (map (λ (x : SegSeat). x.seat.table_id)) is_s ∙ map_push (λ (x : SegSeat). x.seat.table_id) seats s)
      ∙ (its ∙ (ap (map (λ (x : SegTable). x.table.shared.table_id)) is_t ∙ map_push (λ (x : SegTable). x.table.shared.table_id) tables t)))

  pub front_its : AreSeatsOf all_tables all_seats → AreSeatsOf tables seats
  front_its its = (parts its).0

  pub last_its : AreSeatsOf all_tables all_seats → IsOf s t
  last_its its = (parts its).1

  views_are : (P : View → Type 0) → All P (views all_seats) → All P (views seats) × P (view_of s)
  views_are P all = all_snoc P (views seats) (view_of s) (subst (λ (l : List View). All P l) (ap views is_s ∙ map_push view_of seats s) all)

  pub front_views : (P : View → Type 0) → All P (views all_seats) → All P (views seats)
  front_views P all = (views_are P all).0

  pub last_view : (P : View → Type 0) → All P (views all_seats) → P (view_of s)
  last_view P all = (views_are P all).1

  tables_are : (geo : Geo) → All (λ (x : SegTable). (key_of x).geo ≡ geo) all_tables → All (λ (x : SegTable). (key_of x).geo ≡ geo) tables × ((key_of t).geo ≡ geo)
  tables_are geo all = all_snoc (λ (x : SegTable). (key_of x).geo ≡ geo) tables t (subst (λ (l : List SegTable). All (λ (x : SegTable). (key_of x).geo ≡ geo) l) is_t all)

  pub front_geos : (geo : Geo) → All (λ (x : SegTable). (key_of x).geo ≡ geo) all_tables → All (λ (x : SegTable). (key_of x).geo ≡ geo) tables
  front_geos geo all = (tables_are geo all).0

  pub closes_more : (geo : Geo) (words last all_words : List ℕ) → all_words ≡ words ++ last → AreSeatsOf all_tables all_seats → All (λ (x : SegTable). (key_of x).geo ≡ geo) all_tables
      → ClosesAll (map key_of tables) (views seats) (record { geo = geo; words = words }) → Closes (key_of t) (view_of s) last
      → ClosesAll (map key_of all_tables) (views all_seats) (record { geo = geo; words = all_words })
  closes_more geo words last all_words is_words its geos h mine =
      let n = words_in_segment geo in
      let keys_long = length-map tables key_of in
      let views_long : length (views seats) ≡ length tables = length-map seats view_of ∙ as_many tables seats (front_its its) in
      let long : length words ≡ length tables * n = h.many ∙ ap (λ (c : ℕ). c * n) keys_long in
      let wide : length last ≡ n = mine.are.length_is ∙ ap words_in_segment (tables_are geo geos).1 in
      let keys_is : map key_of all_tables ≡ map key_of tables ++ key_of t ∷ [] = ap (map key_of) is_t ∙ map_push key_of tables t in
      let views_is : views all_seats ≡ views seats ++ view_of s ∷ [] = ap views is_s ∙ map_push view_of seats s in
      subst (λ (ks : List Key). ClosesAll ks (views all_seats) (record { geo = geo; words = all_words })) (sym keys_is)
      (subst (λ (vs : List View). ClosesAll (map key_of tables ++ key_of t ∷ []) vs (record { geo = geo; words = all_words })) (sym views_is)
      (subst (λ (ws : List ℕ). ClosesAll (map key_of tables ++ key_of t ∷ []) (views seats ++ view_of s ∷ []) (record { geo = geo; words = ws })) (sym is_words)
      (record {
        many =
            let a = length-append words last in let b = length-append (map key_of tables) (key_of t ∷ []) in
            let sum : length (words ++ last) ≡ length tables * n + n = omega arith in
            let count : length (map key_of tables ++ key_of t ∷ []) ≡ length tables + 1 = omega arith in
            sum ∙ (row_more (length tables) n ∙ ap (λ (c : ℕ). c * n) (sym count));
        each = λ i key v key_there view_there. elim (cases_lt i (length tables)) [
          | inl low ↦ subst (Closes key v) (sym (segment_front n (length tables) i words last long low))
              (h.each i key v (in_front (map key_of tables) (key_of t) key i (subst (λ (c : ℕ). i < c) (sym keys_long) low) key_there)
              (in_front (views seats) (view_of s) v i (subst (λ (c : ℕ). i < c) (sym views_long) low) view_there))
          | inr high ↦ (
              let k = is_last (map key_of tables) (key_of t) key i (subst (λ (c : ℕ). c ≤ i) (sym keys_long) high) key_there in
              let w = is_last (views seats) (view_of s) v i (subst (λ (c : ℕ). c ≤ i) (sym views_long) high) view_there in
              let here : i ≡ length tables = k.0 ∙ keys_long in
              subst (λ (ws : List ℕ). Closes key v ws) (sym (ap (λ (j : ℕ). take n (drop (j * n) (words ++ last))) here ∙ segment_last n (length tables) words last long wide))
              (subst (λ (x : Key). Closes x v last) (sym k.1) (subst (λ (x : View). Closes (key_of t) x last) (sym w.1) mine)))
        ];
      })))

pub closes_none : (geo : Geo) (tables : List SegTable) (seats : List SegSeat) → length tables ≡ 0 → ClosesAll (map key_of tables) (views seats) (record { geo = geo; words = [] })
closes_none geo tables seats none =
    let many : length (map key_of tables) ≡ 0 = length-map tables key_of ∙ none in
    record {
      many = no_row (words_in_segment geo) ∙ ap (λ (c : ℕ). c * words_in_segment geo) (sym many);
      each = λ i key v there view_there. absurd (let w = slice_get_within (map key_of tables) i key there in omega arith);
    }

-- ---- all tables of a store

pub tables_geo : (geo : Geo) (tables : List SegTable) → AreTables geo tables → All (λ (x : SegTable). (key_of x).geo ≡ geo) tables
tables_geo geo tables are i x below =
    are.geos i (get_or tables i x) (slice_get_read tables (length tables) i (get_or tables i x) refl below (get_or_default tables i x (get_or tables i x) below))

pub closed_whole : (geo : Geo) (tables : List SegTable) (roots : List View) (words : List ℕ) → AreTables geo tables → ClosesAll (map key_of tables) roots (record { geo = geo; words = words }) → length words ≡ words_in_map geo
closed_whole geo tables roots words are h = h.many ∙ ap (λ (c : ℕ). c * words_in_segment geo) (length-map tables key_of ∙ are.many)
