-- What is left of a list of words by stores in the head, the bits and the slots of one tier, and in the count of the segment.
use Rattle.std.proofs.Common.{◌≡◌, ◌≢◌, ℕ, ◌+◌, ◌*◌, ◌/◌, ◌<◌, ◌≤◌, List, length, slice_set, refl, sym, subst, ap, ◌∙◌, arith, length-set, get_or-set_other}
use Rattle.cm_geo.specs.declared.geo.Geo.{Geo}
use Rattle.cm_geo.specs.Addresses.{bits_at, chunk_at, slot_at, tier_at, words_in_tier}
use Rattle.cm_geo.proofs.AddressOrder.{tier_behind_head}
use Rattle.cm_geo.proofs.AddressesApart.{same_offset}
use Rattle.cm_geo.proofs.Ranges.{chunks_whole}
use Rattle.cm_geo.proofs.Unchanged.{offset_kept}
use Rattle.cm_plain.specs.declared.plan.Run.{Run}
use Rattle.cm_plain.specs.Slots.{slot_in, slot_of_word, word_at}
use Rattle.cm_chunks.specs.RunBits.{HasSet, IsRunIn}

-- the offset of the first chunk's first word
abbrev pub chunks_from : Geo → ℕ
chunks_from geo = 4 + geo.chunks / 64 + 2 * geo.chunks

-- the count, a word of bits or a slot of a tier
pub record IsBookWord (geo : Geo) (tier place offset : ℕ) : Type 0 where
  pub place_is : place ≡ tier
  pub nonzero : 1 ≤ offset
  pub not_third : offset ≢ 2
  pub not_fourth : offset ≢ 3
  pub below : offset < chunks_from geo

-- a list differs from another one at most at these, and at the segment's count
pub record DiffersIn (geo : Geo) (tier : ℕ) (start words : List ℕ) : Type 0 where
  pub length_is : length words ≡ length start
  pub head : (at : ℕ) → at < 4 → at ≢ 2 → word_at words at ≡ word_at start at
  pub others : (place offset : ℕ) → offset < words_in_tier geo → (IsBookWord geo tier place offset → ⊥)
      → word_at words (tier_at geo place + offset) ≡ word_at start (tier_at geo place + offset)

pub differs_then : (geo : Geo) (tier : ℕ) (start words later : List ℕ) → DiffersIn geo tier start words → DiffersIn geo tier words later
    → DiffersIn geo tier start later
differs_then geo tier start words later p q = record {
  length_is = q.length_is ∙ p.length_is;
  head = λ at low other. q.head at low other ∙ p.head at low other;
  others = λ place offset below out. q.others place offset below out ∙ p.others place offset below out;
}

-- a store at such a word
pub differs_store : (geo : Geo) (tier : ℕ) (words : List ℕ) (at offset word : ℕ) → at ≡ tier_at geo tier + offset → offset < words_in_tier geo
    → IsBookWord geo tier tier offset
    → DiffersIn geo tier words (slice_set words at word)
differs_store geo tier words at offset word at_is inside is = record {
  length_is = length-set words at word;
  head = λ low low_below other. get_or-set_other words at low word 0 (head_apart low low_below (tier_behind_head geo tier));
  others = λ q i below out. offset_kept geo words tier q offset i at (tier_at geo q + i) word at_is refl inside below
      (λ same_place same_offset. out (here q i same_place same_offset));
}
  where
    head_apart : (low : ℕ) → low < 4 → 4 ≤ tier_at geo tier → low ≢ at
    head_apart low below h = λ no. absurd (omega arith)

    here : (q i : ℕ) → q ≡ tier → i ≡ offset → IsBookWord geo tier q i
    here q i e f = subst (λ (p : ℕ). IsBookWord geo tier p i) (sym e) (subst (λ (j : ℕ). IsBookWord geo tier tier j) (sym f) is)

-- a store at the segment's count
pub differs_count : (geo : Geo) (tier : ℕ) (words : List ℕ) (word : ℕ) → DiffersIn geo tier words (slice_set words 2 word)
differs_count geo tier words word = record {
  length_is = length-set words 2 word;
  head = λ at low other. get_or-set_other words 2 at word 0 other;
  others = λ q i below out. get_or-set_other words 2 (tier_at geo q + i) word 0 (behind q i (tier_behind_head geo q));
}
  where
    behind : (q i : ℕ) → 4 ≤ tier_at geo q → tier_at geo q + i ≢ 2
    behind q i h = λ no. absurd (omega arith)

-- bits that are set
pub differs_set : (geo : Geo) (run : Run) (start words : List ℕ) → IsRunIn geo run → length words ≡ length start → HasSet geo run start words
    → DiffersIn geo run.place start words
unfolding bits_at words_in_tier
differs_set geo run start words inside long set = record {
  length_is = long;
  head = λ at low other. set.others at (λ chunk here. head_apart at low (chunk / 64) (tier_behind_head geo run.place));
  others = λ q i below out. set.others (tier_at geo q + i) (λ chunk here same.
      (let number : chunk / 64 < geo.chunks / 64 = omega (arith, (chunks_whole geo).1, here.not_ended, inside.inside) in
      let both = same_offset geo q run.place i (4 + chunk / 64) below (omega arith) (omega arith) in
      out (record {
        place_is = both.0;
        nonzero = omega (arith, both.1);
        not_third = λ no. absurd (omega (arith, both.1));
        not_fourth = λ no. absurd
            (omega (arith, both.1));
        below = omega (arith, both.1);
      })));
}
  where
    head_apart : (at : ℕ) → at < 4 → (number : ℕ) → 4 ≤ tier_at geo run.place → at ≢ tier_at geo run.place + 4 + number
    head_apart at low number h = λ no. absurd (omega arith)

-- ---- what is left

-- a link
pub link_left : (geo : Geo) (tier : ℕ) (start words : List ℕ) (q : ℕ) → DiffersIn geo tier start words
    → word_at words (tier_at geo q) ≡ word_at start (tier_at geo q)
unfolding words_in_tier
link_left geo tier start words q left =
    let e : tier_at geo q + 0 ≡ tier_at geo q = omega arith in
    subst (λ (n : ℕ). word_at words n ≡ word_at start n) e (left.others q 0 (omega arith) (λ is. omega (arith, is.nonzero)))

-- a slot whose word is left
pub slot_by : (geo : Geo) (start words : List ℕ) (q number : ℕ) → word_at words (slot_at geo q number) ≡ word_at start (slot_at geo q number)
    → slot_in geo words q number ≡ slot_in geo start q number
unfolding slot_in
slot_by geo start words q number e = ap slot_of_word e

-- a word of a tier's chunks
pub chunk_left : (geo : Geo) (tier : ℕ) (start words : List ℕ) (q offset : ℕ) → DiffersIn geo tier start words → offset < geo.chunks * geo.chunk_words
    → word_at words (chunk_at geo q 0 + offset) ≡ word_at start (chunk_at geo q 0 + offset)
unfolding chunk_at words_in_tier
chunk_left geo tier start words q offset left below =
    let e : tier_at geo q + (chunks_from geo + offset) ≡ chunk_at geo q 0 + offset = omega arith in
    subst (λ (n : ℕ). word_at words n ≡ word_at start n) e (left.others q (chunks_from geo + offset) (omega arith) (λ is. omega (arith, is.below)))
