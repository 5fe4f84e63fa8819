-- The words of a segment, tier after tier, once all but the entries is cleared.
use Rattle.std.proofs.Common.{◌≡◌, ◌≢◌, ℕ, zero, suc, ◌+◌, ◌-◌, ◌*◌, ◌/◌, ◌<◌, ◌≤◌, ◌⊎◌, ◌==◌, Bool, true, false, List, length, get_or, nat_lt, slice_set, Contains, refl, ap, sym, subst, ◌∙◌, inl, inr, arith, length-set, get_or-set_other, get_or-set_same}
use Rattle.std.specs.List.{AllPairs}
use Rattle.std.specs.Prelude.{All}
use Rattle.std.proofs.lemmas.Bool.{cases_Bool, cases_eq, cases_lt}
use Rattle.std.proofs.lemmas.Bool.Decides.{nat_tests}
use Rattle.std.proofs.lemmas.List.Elements.{All-contains}
use Rattle.std.proofs.lemmas.List.{get_or_default}
use Rattle.std.proofs.Math.Nat.{add-mul}
use Rattle.cm_geo.specs.declared.geo.Geo.{Geo}
use Rattle.cm_geo.specs.Addresses.{chunk_at, tier_at, words_in_segment, words_in_tier}
use Rattle.cm_geo.proofs.AddressOrder.{tier_behind_head, tier_head_in_range, tiers_in_order}
use Rattle.cm_geo.proofs.Ranges.{chunks_range}
use Rattle.cm_geo.proofs.Unchanged.{offset_kept}
use Rattle.cm_plain.specs.Slots.{word_at}
use Rattle.cm_plain.proofs.Each.{each_fails}
use Rattle.cm_plain.proofs.ListElements.{in_from, in_has, in_to, some_any}
use Rattle.cm_recover.specs.Clearing.{AreTiersCleared, IsCleared, IsTierCleared, IsZeroed, cleared, is_among}

-- ---- one tier

-- the last chunk ends where the tier does
pub tier_end : (geo : Geo) (place : ℕ) → chunk_at geo place (geo.chunks - 1) + geo.chunk_words ≡ tier_at geo place + words_in_tier geo
unfolding chunk_at words_in_tier
tier_end geo place = omega (arith, last geo.chunks geo.chunk_words (omega (arith, chunks_range geo)))
  where
    last : (chunks width : ℕ) → 1 ≤ chunks → (chunks - 1) * width + width ≡ chunks * width
    last zero width h = absurd (omega arith)
    last (suc chunks) width h =
        let e : suc chunks - 1 ≡ chunks = omega arith in
        let e' : chunks + 1 ≡ suc chunks = omega arith in
        rw (e, ← e') (omega (arith, add-mul chunks 1 width))

-- where its chunks begin
chunks_begin : (geo : Geo) (place : ℕ) → chunk_at geo place 0 ≡ tier_at geo place + (4 + geo.chunks / 64 + 2 * geo.chunks)
unfolding chunk_at
chunks_begin geo place = omega arith

-- words of other tiers, which stay
others_stay : (geo : Geo) (tier from to : ℕ) (old words : List ℕ) → IsZeroed from to old words → tier_at geo tier ≤ from
    → to ≤ tier_at geo tier + words_in_tier geo
    → (place offset : ℕ) → place ≢ tier → offset < words_in_tier geo
    → word_at words (tier_at geo place + offset) ≡ word_at old (tier_at geo place + offset)
others_stay geo tier from to old words zeroed begins ends place offset differ below = elim (cases_lt place tier) [
  | inl before ↦ zeroed.before (tier_at geo place + offset) (omega (arith, begins, tiers_in_order geo place tier before))
  | inr behind ↦ zeroed.behind (tier_at geo place + offset) (omega (arith, ends, tiers_in_order geo tier place (omega (arith, behind, differ))))
]

pub tier_cleared_covered : (geo : Geo) (tier from to : ℕ) (old words : List ℕ) → from ≡ tier_at geo tier + 1 → to ≡ chunk_at geo tier 0
    → IsZeroed from to old words → IsTierCleared geo tier true old words
unfolding words_in_tier
tier_cleared_covered geo tier from to old words from_is to_is zeroed = record {
  length_is = zeroed.length_is;
  head = λ at low. zeroed.before at (omega (arith, from_is, tier_behind_head geo tier));
  here = λ offset below. by offset (cases_lt 0 offset) (cases_lt offset (4 + geo.chunks / 64 + 2 * geo.chunks));
  others = others_stay geo tier from to old words zeroed (omega (arith, from_is)) (omega (arith, to_is, chunks_begin geo tier));
}
  where
    by : (offset : ℕ) → (0 < offset) ⊎ (offset ≤ 0)
        → (offset < 4 + geo.chunks / 64 + 2 * geo.chunks) ⊎ (4 + geo.chunks / 64 + 2 * geo.chunks ≤ offset)
        → word_at words (tier_at geo tier + offset) ≡ cleared geo true offset (word_at old (tier_at geo tier + offset))
    by offset (inr first) inside =
        let test : nat_lt 0 offset ≡ false = grind (arith, nat_tests) in
        rw test (zeroed.before (tier_at geo tier + offset) (omega (arith, from_is, first)))
    by offset (inl later) (inl inside) =
        let test : nat_lt 0 offset ≡ true = grind (arith, nat_tests) in
        let test' : nat_lt offset (4 + geo.chunks / 64 + 2 * geo.chunks) ≡ true = grind (arith, nat_tests) in
        rw (test, test') (zeroed.zero (tier_at geo tier + offset) (omega (arith, from_is, later))
        (omega (arith, to_is, chunks_begin geo tier, inside)))
    by offset (inl later) (inr behind) =
        let test : nat_lt 0 offset ≡ true = grind (arith, nat_tests) in
        let test' : nat_lt offset (4 + geo.chunks / 64 + 2 * geo.chunks) ≡ false = grind (arith, nat_tests) in
        rw (test, test') (zeroed.behind (tier_at geo tier + offset) (omega (arith, to_is, chunks_begin geo tier, behind)))

pub tier_cleared_whole : (geo : Geo) (tier from to : ℕ) (old words : List ℕ) → from ≡ tier_at geo tier
    → to ≡ chunk_at geo tier (geo.chunks - 1) + geo.chunk_words → IsZeroed from to old words → IsTierCleared geo tier false old words
tier_cleared_whole geo tier from to old words from_is to_is zeroed = record {
  length_is = zeroed.length_is;
  head = λ at low. zeroed.before at (omega (arith, from_is, tier_behind_head geo tier));
  here = λ offset below. zeroed.zero (tier_at geo tier + offset) (omega (arith, from_is)) (omega (arith, to_is, tier_end geo tier, below));
  others = others_stay geo tier from to old words zeroed (omega (arith, from_is)) (omega (arith, to_is, tier_end geo tier));
}

-- ---- one tier after the other

-- the tiers at lower places are cleared, and the others are as before
pub record AreClearedBelow (geo : Geo) (places : List ℕ) (end : ℕ) (old words : List ℕ) : Type 0 where
  pub length_is : length words ≡ length old
  pub head : (at : ℕ) → at < 4 → word_at words at ≡ word_at old at
  pub cleared_are : (place offset : ℕ) → place < end → offset < words_in_tier geo
      → word_at words (tier_at geo place + offset) ≡ cleared geo (is_among places place) offset (word_at old (tier_at geo place + offset))
  pub others : (place offset : ℕ) → end ≤ place → offset < words_in_tier geo
      → word_at words (tier_at geo place + offset) ≡ word_at old (tier_at geo place + offset)

pub below_none : (geo : Geo) (places words : List ℕ) → AreClearedBelow geo places 0 words words
below_none geo places words = record {
  length_is = refl;
  head = λ at low. refl;
  cleared_are = λ place offset below. absurd
      (omega arith);
  others = λ place offset h inside. refl;
}

pub below_more : (geo : Geo) (places : List ℕ) (end : ℕ) (covered : Bool) (old words later : List ℕ) → covered ≡ is_among places end
    → AreClearedBelow geo places end old words
    → IsTierCleared geo end covered words later → AreClearedBelow geo places (end + 1) old later
below_more geo places end covered old words later covered_is was one = record {
  length_is = one.length_is ∙ was.length_is;
  head = λ at low. one.head at low ∙ was.head at low;
  cleared_are = λ place offset below inside. elim (cases_eq place end) [
    | inl same ↦ subst (λ (p : ℕ). word_at later (tier_at geo p + offset) ≡ cleared geo (is_among places p) offset
        (word_at old (tier_at geo p + offset))) (sym same)
        (subst (λ (b : Bool). word_at later (tier_at geo end + offset) ≡ cleared geo b offset (word_at old (tier_at geo end + offset))) covered_is
        (one.here offset inside ∙ ap (cleared geo covered offset) (was.others end offset (omega arith) inside)))
    | inr differ ↦ one.others place offset differ inside ∙ was.cleared_are place offset (before place below differ) inside
  ];
  others = λ place offset behind inside. one.others place offset (apart place behind) inside ∙ was.others place offset (omega arith) inside;
}
  where
    before : (place : ℕ) → place < end + 1 → place ≢ end → place < end
    before place h d = omega arith

    apart : (place : ℕ) → end + 1 ≤ place → place ≢ end
    apart place h e = omega arith

pub all_below : (geo : Geo) (places : List ℕ) (end : ℕ) (old words : List ℕ) → geo.tiers ≤ end → AreClearedBelow geo places end old words
    → AreTiersCleared geo places old words
all_below geo places end old words past was = record {
  length_is = was.length_is;
  head = was.head;
  tiers = λ place offset low inside. was.cleared_are place offset (omega arith) inside;
}

-- ---- the whole segment

-- whether a place is among some
pub among : (places : List ℕ) (place : ℕ) → Contains places place → is_among places place ≡ true
among places place there = elim (cases_Bool (is_among places place)) [
  | inl found ↦ found
  | inr fails ↦ (let differs : (place == place) ≡ false = in_has (λ other. (other == place) ≡ false) places place
      (each_fails (λ other. other == place) places fails) (in_from places place there) in
      absurd (grind (arith, nat_tests)))
]

pub not_among : (places : List ℕ) (place : ℕ) → (Contains places place → ⊥) → is_among places place ≡ false
not_among places place out = elim (cases_Bool (is_among places place)) [
  | inl found ↦ (let one = some_any (λ other. other == place) places found in
      let same : one.0 ≡ place = equal one.0 place one.2 in
      absurd (out (subst (Contains places) same (in_to places one.0 one.1))))
  | inr fails ↦ fails
]
  where
    equal : (a b : ℕ) → (a == b) ≡ true → a ≡ b
    equal a b e = grind (arith, nat_tests)

module _ (geo : Geo) (places old a b : List ℕ) (last to : ℕ) (to_is : to ≡ tier_at geo last) (last_is : last ≡ get_or places (length places - 1) 0)
    (nonempty : 0 < length places)
    (inside : All (λ place. place < geo.tiers) places) (apart : AllPairs (λ place other. place ≢ other) places)
    (long : length old ≡ words_in_segment geo)
    (zeroed : IsZeroed 0 4 old a) (tiers : AreTiersCleared geo places a b) where
  abbrev words : List ℕ
  words = slice_set b to 0

  last_there : Contains places last
  last_there = (length places - 1, omega arith, get_or_default places (length places - 1) last 0 (omega arith) ∙ sym last_is)

  -- a word of a tier that is no link of the last one
  word_is : (place offset : ℕ) → place < geo.tiers → offset < words_in_tier geo → (place ≡ last → offset ≢ 0)
      → word_at words (tier_at geo place + offset) ≡ cleared geo (is_among places place) offset (word_at old (tier_at geo place + offset))
  unfolding words_in_tier
  word_is place offset low below other =
      offset_kept geo b last place 0 offset to (tier_at geo place + offset) 0 (omega (arith, to_is)) refl (omega arith) below other
      ∙ (tiers.tiers place offset low below
      ∙ ap (cleared geo (is_among places place) offset) (zeroed.behind (tier_at geo place + offset) (omega (arith, tier_behind_head geo place))))

  low_of : (place : ℕ) → Contains places place → place < geo.tiers
  low_of place there = All-contains (λ place. place < geo.tiers) places place inside there

  book : (place offset : ℕ) → Contains places place → 0 < offset → offset < 4 + geo.chunks / 64 + 2 * geo.chunks
      → word_at words (tier_at geo place + offset) ≡ 0
  unfolding words_in_tier
  book place offset there later below =
      let test : nat_lt 0 offset ≡ true = grind (arith, nat_tests) in
      let test' : nat_lt offset (4 + geo.chunks / 64 + 2 * geo.chunks) ≡ true = grind (arith, nat_tests) in
      word_is place offset (low_of place there) (omega arith) (λ _ e. absurd (omega (arith, later, e)))
      ∙ rw (among places place there, test, test') refl

  chunk_word : (place offset : ℕ) → Contains places place → offset < geo.chunks * geo.chunk_words
      → word_at words (chunk_at geo place 0 + offset) ≡ word_at old (chunk_at geo place 0 + offset)
  unfolding words_in_tier
  chunk_word place offset there below =
      let e : tier_at geo place + (4 + geo.chunks / 64 + 2 * geo.chunks + offset) ≡ chunk_at geo place 0 + offset = omega
      (arith, chunks_begin geo place) in
      let test : nat_lt 0 (4 + geo.chunks / 64 + 2 * geo.chunks + offset) ≡ true = grind (arith, nat_tests) in
      let test' : nat_lt (4 + geo.chunks / 64 + 2 * geo.chunks + offset) (4 + geo.chunks / 64 + 2 * geo.chunks) ≡ false = grind (arith, nat_tests) in
      subst (λ (n : ℕ). word_at words n ≡ word_at old n) e
      (word_is place (4 + geo.chunks / 64 + 2 * geo.chunks + offset) (low_of place there) (omega arith) (λ _ e. absurd (omega (arith, e)))
      ∙ rw (among places place there, test, test') refl)

  link : (number : ℕ) → number + 1 < length places
      → word_at words (tier_at geo (get_or places number 0)) ≡ word_at old (tier_at geo (get_or places number 0))
  unfolding words_in_tier
  link number before =
      let place : ℕ = get_or places number 0 in
      let there : Contains places place = (number, omega arith, get_or_default places number place 0 (omega arith)) in
      let differ : place ≢ last = λ same. apart number (length places - 1) 0 (omega arith) (omega arith) (same ∙ last_is) in
      let e : tier_at geo place + 0 ≡ tier_at geo place = omega arith in
      subst (λ (n : ℕ). word_at words n ≡ word_at old n) e
      (word_is place 0 (low_of place there) (omega arith) (λ same. absurd (differ same)) ∙ rw (among places place there) refl)

  pub cleared_by : IsCleared geo places old words
  unfolding words_in_tier
  cleared_by = record {
    length_is = length-set b to 0 ∙ (tiers.length_is ∙ zeroed.length_is);
    head = λ at low. get_or-set_other b to at 0 0 (head_apart at low (tier_behind_head geo last))
        ∙ (tiers.head at low ∙ zeroed.zero at (omega arith) low);
    books = book;
    chunks = chunk_word;
    links = link;
    last = subst (λ (n : ℕ). word_at words (tier_at geo n) ≡ 0) last_is (subst (λ (n : ℕ). word_at words n ≡ 0) to_is
        (get_or-set_same b to 0 0 (omega
        (arith, to_is, tier_head_in_range geo last 0 (low_of last last_there) (omega arith), tiers.length_is, zeroed.length_is, long))));
    unlinked = λ place low out offset below.
        word_is place offset low below (λ same. absurd (out (subst (Contains places) (sym same) last_there))) ∙ rw (not_among places place out) refl;
  }
    where
      head_apart : (at : ℕ) → at < 4 → 4 ≤ tier_at geo last → at ≢ to
      head_apart at low h e = omega (arith, to_is)
