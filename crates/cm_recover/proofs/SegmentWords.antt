-- The words of a segment, as a memory over them has them.
use Rattle.std.proofs.Common.{◌≡◌, ◌≢◌, ℕ, ◌+◌, ◌-◌, ◌<◌, ◌≤◌, List, ◌++◌, length, take, drop, refl, ap, sym, subst, ◌∙◌, inl, inr, arith, length-append, length-drop}
use Rattle.std.proofs.lemmas.Bool.{cases_lt}
use Rattle.std.proofs.lemmas.List.{drop-append-le, length-take-le, take-append-drop, take-append-le}
use Rattle.std.proofs.Math.Seq.{drop-append-add, drop-append_seam, take-append_seam}
use Rattle.cm_geo.specs.Addresses.{words_in_map, words_in_segment}
use Rattle.cm_geo.proofs.AddressOrder.{rows_in_order, segment_within}
use Rattle.cm_words.specs.Effects.{Changes}
use Rattle.cm_words.specs.Fuses.{FuseSeen}
use Rattle.cm_words.specs.Plain.{SameRest, plain_seen}
use Rattle.cm_words.specs.declared.plain.PlainMem.{PlainMem}
use Rattle.cm_geo.specs.declared.geo.Geo.{Geo}
use Rattle.cm_words.specs.Maps.{IsWhole, MapWords, Rest, rest_of, segment_in, with_segment, words_before}
use Rattle.cm_words.specs.Memory.{FitsNotes}
use Rattle.cm_words.specs.Fixed.{SameWords, fixed_seen}
use Rattle.cm_words.specs.declared.fixed.FixedMem.{FixedMem}
use Rattle.cm_words.proofs.OneMemoryState.{fixed_notes_all, its_words, plain_notes_all}
use Rattle.cm_tiers.specs.declared.places.Chain.{Chain}
use Rattle.cm_tiers.specs.Chains.{IsLinked}

-- the chain that was found is that of the segment's words
pub linked_in : (a m : FixedMem) (map : MapWords) (segment : ℕ) (geo : Geo) (chain : Chain) → a.words.now ≡ map → a.segment ≡ segment
    → SameWords a m → geo ≡ map.geo
    → ((words : List ℕ) → FitsNotes (fixed_seen m) words → IsLinked geo words chain) → IsLinked map.geo (segment_in map segment) chain
linked_in a m map segment geo chain words_are segment_is same geo_is linked =
    let fits : FitsNotes (fixed_seen m)
    (segment_in m.words.now m.segment) = (its_words (fixed_seen m) m.words.now m.segment m.words.now.words (segment_in m.words.now m.segment)
    (fixed_notes_all m)).1 refl in
    let here : IsLinked geo (segment_in m.words.now m.segment) chain = linked (segment_in m.words.now m.segment) fits in
    subst (λ (g : Geo). IsLinked g (segment_in map segment) chain) geo_is
    (subst (λ (w : MapWords). IsLinked geo (segment_in w segment) chain) (same.words ∙ words_are)
    (subst (λ (s : ℕ). IsLinked geo (segment_in m.words.now s) chain) (same.segment ∙ segment_is) here))

-- ---- a memory that stores

-- what relates the lists that fit relates the segment's words
changed_in : {F : Type 0} {g : _} (fused : F → FuseSeen) (a b : PlainMem F g) (R : List ℕ → List ℕ → Type 0)
    → Changes (plain_seen fused a) (plain_seen fused b) R
    → R (segment_in a.words.now a.segment) (segment_in b.words.now b.segment)
changed_in fused a b R changes =
    let fits = (its_words (plain_seen fused b) b.words.now b.segment b.first.value.words (segment_in b.words.now b.segment)
    (plain_notes_all fused b)).1 refl in
    let came = changes.came (segment_in b.words.now b.segment) fits in
    let before = (its_words (plain_seen fused a) a.words.now a.segment a.first.value.words came.0 (plain_notes_all fused a)).0 came.1.fits in
    subst (λ (w : List ℕ). R w (segment_in b.words.now b.segment)) before came.1.relates

-- the same of the lender's words
pub lender_changed : {F : Type 0} {g : _} (fused : F → FuseSeen) (a b : PlainMem F g) (old now : MapWords) (segment : ℕ)
    (R : List ℕ → List ℕ → Type 0) → Changes (plain_seen fused a) (plain_seen fused b) R
    → a.words.now ≡ old → a.segment ≡ segment → b.segment ≡ a.segment → now ≡ b.words.now → R (segment_in old segment) (segment_in now segment)
lender_changed fused a b old now segment R changes was a_is b_is is =
    let here = changed_in fused a b R changes in
    let here' : R (segment_in a.words.now segment) (segment_in b.words.now segment) =
    subst (λ (s : ℕ). R (segment_in a.words.now s) (segment_in b.words.now s)) a_is
    (subst (λ (s : ℕ). R (segment_in a.words.now a.segment) (segment_in b.words.now s)) b_is here) in
    subst (λ (w : MapWords). R (segment_in old segment) (segment_in w segment)) (sym is)
    (subst (λ (w : MapWords). R (segment_in w segment) (segment_in b.words.now segment)) was here')

-- ---- the other segments

-- parts of lists that have the same beginning, or the same end
part_before : (xs ys : List ℕ) (from count all : ℕ) → take all xs ≡ take all ys → from + count ≤ all → all ≤ length xs → all ≤ length ys
    → take count (drop from xs) ≡ take count (drop from ys)
part_before xs ys from count all same within x_long y_long = one xs x_long
    ∙ (ap (λ (zs : List ℕ). take count (drop from zs)) same ∙ sym (one ys y_long))
  where
    one : (zs : List ℕ) → all ≤ length zs → take count (drop from zs) ≡ take count (drop from (take all zs))
    one zs long =
        let whole : take all zs ++ drop all zs ≡ zs = take-append-drop all zs in
        let len : length (take all zs) ≡ all = length-take-le all zs long in
        let dropped : drop from (take all zs ++ drop all zs) ≡ drop from (take all zs) ++ drop all zs = drop-append-le from (take all zs)
        (drop all zs) (omega (arith, len)) in
        ap (λ (ws : List ℕ). take count (drop from ws)) (sym whole) ∙ (ap (λ (ws : List ℕ). take count ws) dropped
        ∙ take-append-le count (drop from (take all zs)) (drop all zs) (omega (arith, len, length-drop from (take all zs))))

part_behind : (xs ys : List ℕ) (from start : ℕ) → drop start xs ≡ drop start ys → start ≤ from → start ≤ length xs → start ≤ length ys
    → drop from xs ≡ drop from ys
part_behind xs ys from start same within x_long y_long = one xs x_long ∙ (ap (λ (zs : List ℕ). drop (from - start) zs) same ∙ sym (one ys y_long))
  where
    one : (zs : List ℕ) → start ≤ length zs → drop from zs ≡ drop (from - start) (drop start zs)
    one zs long =
        let whole : take start zs ++ drop start zs ≡ zs = take-append-drop start zs in
        let len : length (take start zs) ≡ start = length-take-le start zs long in
        let e : from ≡ length (take start zs) + (from - start) = omega (arith, len) in
        ap (λ (ws : List ℕ). drop from ws) (sym whole)
        ∙ (ap (λ (n : ℕ). drop n (take start zs ++ drop start zs)) e ∙ drop-append-add (take start zs) (drop start zs) (from - start))

-- where the rest is the same, the other segments are
pub others_same : (old now : MapWords) (segment : ℕ) → rest_of now segment ≡ rest_of old segment → IsWhole old → IsWhole now
    → segment < old.geo.segments
    → (other : ℕ) → other < old.geo.segments → other ≢ segment → segment_in now other ≡ segment_in old other
others_same old now segment same old_whole now_whole here other inside differ =
    let geo_is : now.geo ≡ old.geo = ap (λ (r : Rest). r.geo) same in
    let size : words_in_segment now.geo ≡ words_in_segment old.geo = ap words_in_segment geo_is in
    let all : words_in_map now.geo ≡ words_in_map old.geo = ap (λ g. words_in_map g) geo_is in
    let before : take (words_before old.geo segment) now.words ≡ take (words_before old.geo segment) old.words =
    subst (λ g. take (words_before g segment) now.words ≡ take (words_before old.geo segment) old.words) geo_is (ap (λ (r : Rest). r.before) same) in
    let later : drop (words_before old.geo segment + words_in_segment old.geo) now.words ≡ drop
    (words_before old.geo segment + words_in_segment old.geo) old.words =
    subst (λ g. drop (words_before g segment + words_in_segment g) now.words ≡ drop
    (words_before old.geo segment + words_in_segment old.geo) old.words) geo_is (ap (λ (r : Rest). r.later) same) in
    let ends = segment_within old.geo segment here in
    let now_long : length now.words ≡ words_in_map old.geo = now_whole ∙ all in
    subst (λ g. take (words_in_segment g) (drop (words_before g other) now.words) ≡ segment_in old other) (sym geo_is)
    (elim (cases_lt other segment) [
      | inl low ↦ part_before now.words old.words (words_before old.geo other) (words_in_segment old.geo) (words_before old.geo segment) before
          (omega (arith, rows_in_order 1 (words_in_segment old.geo) other segment (omega (arith, low)))) (omega (arith, ends, now_long))
          (omega (arith, ends, old_whole))
      | inr high ↦ ap (λ (ws : List ℕ). take (words_in_segment old.geo) ws)
          (part_behind now.words old.words (words_before old.geo other) (words_before old.geo segment + words_in_segment old.geo) later
          (omega (arith, rows_in_order 1 (words_in_segment old.geo) segment other (omega (arith, high, differ)))) (omega (arith, ends, now_long))
          (omega (arith, ends, old_whole)))
    ])

-- ---- a segment that is written over

module _ (map : MapWords) (segment : ℕ) (words : List ℕ) (whole : IsWhole map) (here : segment < map.geo.segments)
    (long : length words ≡ words_in_segment map.geo) where
  abbrev front : List ℕ
  front = take (words_before map.geo segment) map.words

  abbrev back : List ℕ
  back = drop (length words) (drop (words_before map.geo segment) map.words)

  front_long : length front ≡ words_before map.geo segment
  front_long = length-take-le (words_before map.geo segment) map.words (omega (arith, segment_within map.geo segment here, whole))

  all_long : length (front ++ (words ++ back)) ≡ length map.words
  all_long = omega (
    arith,
    length-append front (words ++ back),
    length-append words back,
    front_long,
    length-drop (length words) (drop (words_before map.geo segment) map.words),
    length-drop (words_before map.geo segment) map.words,
    segment_within map.geo segment here,
    whole,
    long,
  )

  written : (with_segment map segment words).words ≡ front ++ (words ++ back)
  written = ap (λ (n : ℕ). take n ((front ++ (words ++ back)) ++ drop (length (front ++ (words ++ back))) map.words)) (sym all_long)
      ∙ take-append_seam (front ++ (words ++ back)) (drop (length (front ++ (words ++ back))) map.words)

  pub written_whole : IsWhole (with_segment map segment words)
  written_whole = ap (λ (ws : List ℕ). length ws) written ∙ (all_long ∙ whole)

  pub written_here : segment_in (with_segment map segment words) segment ≡ words
  written_here =
      ap (λ (ws : List ℕ). take (words_in_segment map.geo) (drop (words_before map.geo segment) ws)) written
      ∙ (ap (λ (n : ℕ). take (words_in_segment map.geo) (drop n (front ++ (words ++ back)))) (sym front_long)
      ∙ (ap (λ (ws : List ℕ). take (words_in_segment map.geo) ws) (drop-append_seam front (words ++ back))
      ∙ (ap (λ (n : ℕ). take n (words ++ back)) (sym long) ∙ take-append_seam words back)))

  pub written_rest : rest_of (with_segment map segment words) segment ≡ rest_of map segment
  written_rest =
      let before : take (words_before map.geo segment) (with_segment map segment words).words ≡ front =
      ap (λ (ws : List ℕ). take (words_before map.geo segment) ws) written
      ∙ (ap (λ (n : ℕ). take n (front ++ (words ++ back))) (sym front_long) ∙ take-append_seam front (words ++ back)) in
      let e : words_before map.geo segment + words_in_segment map.geo ≡ length front + length words = omega (arith, front_long, long) in
      let later : drop (words_before map.geo segment + words_in_segment map.geo) (with_segment map segment words).words ≡ back =
      ap (λ (ws : List ℕ). drop (words_before map.geo segment + words_in_segment map.geo) ws) written
      ∙ (ap (λ (n : ℕ). drop n (front ++ (words ++ back))) e ∙ (drop-append-add front (words ++ back) (length words) ∙ drop-append_seam words back))
      in
      let end : back ≡ drop (words_before map.geo segment + words_in_segment map.geo) map.words =
      part_end (words_before map.geo segment) (words_in_segment map.geo) map.words (omega (arith, segment_within map.geo segment here, whole)) long in
      ap (λ (b : List ℕ). rest map.geo b (drop (words_before map.geo segment + words_in_segment map.geo) (with_segment map segment words).words))
      before
      ∙ ap (λ (l : List ℕ). rest map.geo front l) (later ∙ end)
    where
      rest : Geo → List ℕ → List ℕ → Rest
      rest geo before later = record { geo = geo; before = before; later = later }

      part_end : (from count : ℕ) (ws : List ℕ) → from + count ≤ length ws → length words ≡ count
          → drop (length words) (drop from ws) ≡ drop (from + count) ws
      part_end from count ws within e =
          let split : take from ws ++ drop from ws ≡ ws = take-append-drop from ws in
          let len : length (take from ws) ≡ from = length-take-le from ws (omega arith) in
          ap (λ (n : ℕ). drop n (drop from ws)) e ∙ (sym (drop-append-add (take from ws) (drop from ws) count)
          ∙ (ap (λ (n : ℕ). drop (n + count) (take from ws ++ drop from ws)) len ∙ ap (λ (vs : List ℕ). drop (from + count) vs) split))

-- ---- as calls need it

-- a segment has as many words as the geometry says
pub part_long : (map : MapWords) (segment : ℕ) → IsWhole map → segment < map.geo.segments → length (segment_in map segment) ≡ words_in_segment map.geo
part_long map segment whole here =
    length-take-le (words_in_segment map.geo) (drop (words_before map.geo segment) map.words)
    (omega (arith, length-drop (words_before map.geo segment) map.words, segment_within map.geo segment here, whole))

-- a memory leaves the other segments of the lender's words
pub lender_others : {F : Type 0} {g : _} (a b : PlainMem F g) (old now : MapWords) (segment : ℕ) → SameRest a b → a.words.now ≡ old
    → a.segment ≡ segment → now ≡ b.words.now → IsWhole old
    → segment < old.geo.segments → (other : ℕ) → other < old.geo.segments → other ≢ segment → segment_in now other ≡ segment_in old other
lender_others a b old now segment same was a_is is whole here =
    others_same old now segment
    (ap (λ (m : MapWords). rest_of m segment) is
    ∙ (ap (λ (s : ℕ). rest_of b.words.now s) (sym (same.segment ∙ a_is))
    ∙ (same.rest ∙ (ap (λ (s : ℕ). rest_of a.words.now s) a_is ∙ ap (λ (m : MapWords). rest_of m segment) was))))
    whole (subst IsWhole (sym is) b.whole) here
