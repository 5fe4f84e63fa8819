-- Which run of free chunks of a tier is the first, by its bit words.
use Rattle.std.proofs.Common.{◌≡◌, ℕ, ◌+◌, ◌-◌, ◌*◌, ◌/◌, ◌%◌, ◌^◌, ◌<◌, ◌≤◌, List, get_or, sym, subst, ap, ◌∙◌, arith, inl, inr}
use Rattle.std.specs.Int.{bit_at, trailing_zeros, leading_zeros, w64}
use Rattle.std.proofs.lemmas.Bool.{cases_lt}
use Rattle.cm_geo.specs.declared.geo.Geo.{Geo}
use Rattle.cm_geo.specs.Addresses.{bits_at}
use Rattle.cm_geo.proofs.Ranges.{chunks_whole}
use Rattle.cm_plain.specs.Lawful.{HasBit}
use Rattle.cm_chunks.specs.Bits.{AreClear, IsFirstClear}
use Rattle.cm_chunks.specs.Free.{IsFirstFit, IsFreeRun}
use Rattle.cm_chunks.specs.Passing.{GoesOn, IsPassed}
use Rattle.cm_chunks.proofs.WordBits.{clear_of_zero, leading_clear, leading_set, leading_short, trailing_clear, trailing_set, trailing_short, zero_of_clear}

-- the bit of a chunk as a number
unfoldable pub bit_of : Geo → List ℕ → ℕ → ℕ → ℕ
bit_of geo words place chunk = bit_at (get_or words (bits_at geo place (chunk / 64)) 0) (chunk % 64)

pub bit_clear : (geo : Geo) (words : List ℕ) (place chunk : ℕ) → bit_of geo words place chunk ≡ 0 → HasBit geo words place chunk → ⊥
unfolding bit_of
bit_clear geo words place chunk zero set = clear_of_zero (get_or words (bits_at geo place (chunk / 64)) 0) (chunk % 64) zero set

pub clear_bit : (geo : Geo) (words : List ℕ) (place chunk : ℕ) → (HasBit geo words place chunk → ⊥) → bit_of geo words place chunk ≡ 0
unfolding bit_of
clear_bit geo words place chunk clear = zero_of_clear (get_or words (bits_at geo place (chunk / 64)) 0) (chunk % 64) clear

-- the bit word of a number is this word
pub record HasWord (geo : Geo) (words : List ℕ) (place number word : ℕ) : Type 0 where
  pub small : word < 2 ^ 64
  pub here : get_or words (bits_at geo place number) 0 ≡ word

-- the bit of a chunk stands there
pub bit_here : (geo : Geo) (words : List ℕ) (place number word bit : ℕ) → HasWord geo words place number word → bit < 64 → bit_of geo words place (64 * number + bit) ≡ bit_at word bit
unfolding bit_of
bit_here geo words place number word bit has inside =
    let which : (64 * number + bit) / 64 ≡ number = omega arith in
    let where_is : (64 * number + bit) % 64 ≡ bit = omega arith in
    rw (which, where_is) (ap (λ (w : ℕ). bit_at w bit) has.here)

-- so it is clear, if the bit is
pub clear_here : (geo : Geo) (words : List ℕ) (place number word chunk : ℕ) → HasWord geo words place number word → 64 * number ≤ chunk → chunk < 64 * number + 64 → bit_at word (chunk - 64 * number) ≡ 0 → HasBit geo words place chunk → ⊥
clear_here geo words place number word chunk has from to zero =
    let same : 64 * number + (chunk - 64 * number) ≡ chunk = omega arith in
    bit_clear geo words place chunk (subst (λ (c : ℕ). bit_of geo words place c ≡ 0) same (bit_here geo words place number word (chunk - 64 * number) has (omega arith) ∙ zero))

-- the bits of a free run are clear
pub zero_in_run : (geo : Geo) (words : List ℕ) (place chunks number word chunk bit : ℕ) → HasWord geo words place number word → IsFreeRun geo words place chunk chunks → bit < 64 → chunk ≤ 64 * number + bit → 64 * number + bit < chunk + chunks → bit_at word bit ≡ 0
zero_in_run geo words place chunks number word chunk bit has run inside from to =
    sym (bit_here geo words place number word bit has inside) ∙ clear_bit geo words place (64 * number + bit) (run.clear (64 * number + bit) from to)

-- a free run that lies in one bit word
pub clear_in_word : (geo : Geo) (words : List ℕ) (place chunks number word chunk : ℕ) → HasWord geo words place number word → IsFreeRun geo words place chunk chunks → 64 * number ≤ chunk → chunk + chunks ≤ 64 * number + 64 → AreClear word (chunk - 64 * number) chunks
clear_in_word geo words place chunks number word chunk has run from to = record {
  inside = omega arith;
  clear = λ other first last. clear_of_zero word other (zero_in_run geo words place chunks number word chunk other has run (omega arith) (omega arith) (omega arith));
}

-- ---- a search that has passed the bit words before one

-- of the first word there is nothing to say
pub passed_none : (geo : Geo) (words : List ℕ) (place chunks : ℕ) → IsPassed geo words place chunks 0 0
passed_none geo words place chunks = record { free = λ chunk not_before early. absurd (omega arith); runs = λ chunk early. absurd (omega arith) }

-- no run begins before the word, if its lowest clear bits are too few
none_before : (geo : Geo) (words : List ℕ) (place chunks number before word chunk : ℕ) → IsPassed geo words place chunks number before → HasWord geo words place number word → chunks ≤ 64
    → before + trailing_zeros w64 word < chunks → chunk < 64 * number → IsFreeRun geo words place chunk chunks → ⊥
none_before geo words place chunks number before word chunk passed has within_limit in_one_word early run =
    let fuse = passed.runs chunk early run in
    let inside : trailing_zeros w64 word < 64 = omega arith in
    let zero = zero_in_run geo words place chunks number word chunk (trailing_zeros w64 word) has run inside (omega arith) (omega (arith, fuse.not_before)) in
    let one = trailing_set word has.small inside in
    omega (arith, zero, one)

-- a run that begins in the word and lies in no part of it goes on behind it, and begins among its last clear bits
begins_here : (geo : Geo) (words : List ℕ) (place chunks number word chunk : ℕ) → HasWord geo words place number word → ((bit : ℕ) → AreClear word bit chunks → ⊥)
    → 64 * number ≤ chunk → chunk < 64 * number + 64 → IsFreeRun geo words place chunk chunks → GoesOn (number + 1) (leading_zeros w64 word) chunks chunk
begins_here geo words place chunks number word chunk has none from to run = record {
  not_before = elim (cases_lt (chunk + leading_zeros w64 word) (64 * (number + 1))) [
    | inl early ↦ absurd (set_in_run early)
    | inr not_before ↦ not_before
  ];
  past = past;
}
  where
    past : 64 * (number + 1) < chunk + chunks
    past = elim (cases_lt (64 * (number + 1)) (chunk + chunks)) [
      | inl more ↦ more
      | inr inside ↦ absurd (none (chunk - 64 * number) (clear_in_word geo words place chunks number word chunk has run from (omega arith)))
    ]

    set_in_run : chunk + leading_zeros w64 word < 64 * (number + 1) → ⊥
    set_in_run early =
        let in_one_word : leading_zeros w64 word < 64 = omega arith in
        let zero = zero_in_run geo words place chunks number word chunk (63 - leading_zeros w64 word) has run (omega arith) (omega arith) (omega (arith, past)) in
        let one = leading_set word has.small in_one_word in
        omega (arith, zero, one)

-- the word is passed, if no run ends in it
pub passes_word : (geo : Geo) (words : List ℕ) (place chunks number before word : ℕ) → IsPassed geo words place chunks number before → HasWord geo words place number word → chunks ≤ 64
    → before + trailing_zeros w64 word < chunks → ((bit : ℕ) → AreClear word bit chunks → ⊥) → IsPassed geo words place chunks (number + 1) (leading_zeros w64 word)
passes_word geo words place chunks number before word passed has within_limit in_one_word none = record {
  free = λ chunk not_before early. (let lead = leading_short word has.small in
      clear_here geo words place number word chunk has (omega arith) (omega arith) (leading_clear word (chunk - 64 * number) has.small (omega arith)));
  runs = λ chunk early run. elim (cases_lt chunk (64 * number)) [
    | inl before_it ↦ absurd (none_before geo words place chunks number before word chunk passed has within_limit in_one_word before_it run)
    | inr in_it ↦ begins_here geo words place chunks number word chunk has none in_it (omega arith) run
  ];
}

-- the run that ends among the word's lowest clear bits is the first
pub fits_across : (geo : Geo) (words : List ℕ) (place chunks number before word : ℕ) → IsPassed geo words place chunks number before → HasWord geo words place number word
    → number < geo.chunks / 64 → before ≤ 64 * number → chunks ≤ before + trailing_zeros w64 word → IsFirstFit geo words place chunks (64 * number - before)
fits_across geo words place chunks number before word passed has inside within_limit enough =
    let whole = chunks_whole geo in
    let front = trailing_short word in
    record {
      run = record {
        inside = omega (arith, whole.1, front);
        clear = λ other from to. elim (cases_lt other (64 * number)) [
          | inl early ↦ passed.free other (omega arith) early
          | inr not_before ↦ clear_here geo words place number word other has not_before (omega (arith, front)) (trailing_clear word (other - 64 * number) has.small (omega arith))
        ];
      };
      least = λ other run. elim (cases_lt other (64 * number)) [
        | inl early ↦ (let fuse = passed.runs other early run in omega (arith, fuse.not_before))
        | inr not_before ↦ omega arith
      ];
    }

-- the first run of clear bits in the word is the first, if no run ends before it
pub fits_inside : (geo : Geo) (words : List ℕ) (place chunks number before word bit : ℕ) → IsPassed geo words place chunks number before → HasWord geo words place number word → chunks ≤ 64
    → number < geo.chunks / 64 → before + trailing_zeros w64 word < chunks → IsFirstClear word chunks bit → IsFirstFit geo words place chunks (64 * number + bit)
fits_inside geo words place chunks number before word bit passed has within_limit inside in_one_word first =
    let whole = chunks_whole geo in
    let room = first.run.inside in
    record {
      run = record {
        inside = omega (arith, whole.1, room);
        clear = λ other from to. clear_here geo words place number word other has (omega arith) (omega (arith, room))
            (zero_of_clear word (other - 64 * number) (first.run.clear (other - 64 * number) (omega arith) (omega arith)));
      };
      least = λ other run. elim (cases_lt other (64 * number)) [
        | inl early ↦ absurd (none_before geo words place chunks number before word other passed has within_limit in_one_word early run)
        | inr not_before ↦ elim (cases_lt other (64 * number + bit)) [
          | inl less ↦ (let least = first.least (other - 64 * number) (clear_in_word geo words place chunks number word other has run not_before (omega (arith, room))) in omega (arith, least))
          | inr more ↦ more
        ]
      ];
    }

-- no run, if all words were passed
pub none_fits : (geo : Geo) (words : List ℕ) (place chunks number before chunk : ℕ) → IsPassed geo words place chunks number before → geo.chunks / 64 ≤ number → 1 ≤ chunks → IsFreeRun geo words place chunk chunks → ⊥
none_fits geo words place chunks number before chunk passed past nonzero run =
    let whole = chunks_whole geo in
    let room = run.inside in
    let fuse = passed.runs chunk (omega (arith, whole.1, room)) run in
    omega (arith, whole.1, room, fuse.past)
