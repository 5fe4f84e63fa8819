-- Words of bits that tell which chunks are taken: one more chunk, and the words of a tier against them.
use Rattle.std.proofs.Common.{◌≡◌, ◌≢◌, ℕ, ◌+◌, ◌-◌, ◌*◌, ◌/◌, ◌%◌, ◌^◌, ◌<◌, ◌≤◌, ◌==◌, ◌&&◌, ◌||◌, ◌⊎◌, not, Bool, true, false, List, length, get_or, set, bit_and, bit_or, Option, Some, None, w64, refl, sym, ap, subst, ◌∙◌, arith, inl, inr, nat_le, nat_lt, get_or-set_other, get_or-set_same, replicate, if◌then◌else◌, zero, suc}
use Rattle.std.specs.Int.{bit_at}
use Rattle.std.specs.List.{list_any, range_with_len}
use Rattle.std.proofs.Math.Pow.{pow-lt}
use Rattle.std.proofs.lemmas.Nat.{pow_pos}
use Rattle.std.proofs.Math.Nat.{mod-eq_of_lt}
use Rattle.std.proofs.lemmas.Bool.{cases_Bool, cases_eq, cases_lt}
use Rattle.std.proofs.lemmas.Bool.Decides.{nat_tests}
use Rattle.std.proofs.lemmas.Nat.Bits.{and_pow, bit_at-lt, bit_at-zero, bit_at_set_other, bit_at_set_same, same_from_bits_below}
use Rattle.cm_geo.specs.declared.geo.Geo.{Geo}
use Rattle.cm_geo.proofs.Ranges.{chunks_range, chunks_whole}
use Rattle.cm_geo.specs.Addresses.{bits_at}
use Rattle.cm_plain.specs.declared.placed.Placed.{Placed}
use Rattle.cm_plain.specs.States.{HasRun, chunks_of}
use Rattle.cm_plain.specs.Rooms.{meets}
use Rattle.cm_plain.specs.Slots.{Slot, slot_in, word_at}
use Rattle.cm_plain.specs.Changes.{entry_at}
use Rattle.cm_plain.specs.Readings.{Reading, entry, reading_at, wrong_checksum, wrong_lengths, wrong_padding}
use Rattle.cm_plain.proofs.Apart.{chunks_some}
use Rattle.std.proofs.lemmas.Option.{same_Some}
use Rattle.cm_check.specs.SlotEntries.{entry_in, entry_of_slot, entry_pointed, entry_read, has_chunk, run_meets}
use Rattle.cm_check.specs.SlotLaws.{is_overlapping}
use Rattle.cm_check.specs.CountLaws.{are_bits_wrong, has_bit, is_bit_wrong, is_taken}
use Rattle.cm_check.specs.SlotReads.{IsEntryAt}
use Rattle.cm_check.specs.TakenChunks.{AddsRun, IsWithin, MeetsRun, Tells, has_taken}
use Rattle.cm_check.proofs.RangeTests.{below_found, below_more, below_none, below_some, fails_in, any_none}
use Rattle.cm_plain.proofs.ListElements.{in_range, range_from}

-- a mask of one bit
mask_is : (k : ℕ) → k < 64 → 1 * 2 ^ k % 2 ^ 64 ≡ 2 ^ k
mask_is k below = let e : 1 * 2 ^ k ≡ 2 ^ k = omega arith in ap (λ (n : ℕ). n % 2 ^ 64) e ∙ mod-eq_of_lt (pow-lt below)

-- a bit is 0 or 1
bit_cases : (word k : ℕ) → (bit_at word k ≡ 0) ⊎ (bit_at word k ≡ 1)
bit_cases word k = by (bit_at word k) (bit_at-lt word k)
  where
    by : (b : ℕ) → b < 2 → (b ≡ 0) ⊎ (b ≡ 1)
    by b h = grind arith

-- the test of a bit
pub bit_met : (word k : ℕ) → k < 64 → bit_and word (1 * 2 ^ k % 2 ^ 64) ≢ 0 → bit_at word k ≡ 1
bit_met word k below met = elim (bit_cases word k) [
  | inr one ↦ one
  | inl clear ↦ absurd (met (ap (bit_and word) (mask_is k below) ∙ (and_pow word k ∙ (let e : bit_at word k * 2 ^ k ≡ 0 = rw clear (omega arith) in e))))
]

pub bit_fresh : (word k : ℕ) → k < 64 → bit_and word (1 * 2 ^ k % 2 ^ 64) ≡ 0 → bit_at word k ≡ 0
bit_fresh word k below none = elim (bit_cases word k) [
  | inl clear ↦ clear
  | inr one ↦ (let product : bit_and word (2 ^ k) ≡ bit_at word k * 2 ^ k = and_pow word k in let whole : bit_and word (2 ^ k) ≡ 1 * 2 ^ k = rw one at product in absurd (positive k (sym whole ∙ (ap (bit_and word) (sym (mask_is k below)) ∙ none))))
]
  where
    positive : (k : ℕ) → 1 * 2 ^ k ≡ 0 → ⊥
    positive k e = omega (arith, e, pow_pos k)

-- the numbers of a chunk's word and of its bit
chunk_parts : (at : ℕ) → at < 4096 → (at / 64 < 64) × (at % 64 < 64)
chunk_parts at below = (omega arith, omega arith)

pub chunk_met : (bits : List ℕ) (at : ℕ) → bit_and (get_or bits (at / 64) 0) (1 * 2 ^ (at % 64) % 2 ^ 64) ≢ 0 → has_taken bits at ≡ true
unfolding has_taken
chunk_met bits at met = rw (bit_met (get_or bits (at / 64) 0) (at % 64) (omega arith) met) refl

pub chunk_fresh : (bits : List ℕ) (at : ℕ) → bit_and (get_or bits (at / 64) 0) (1 * 2 ^ (at % 64) % 2 ^ 64) ≡ 0 → has_taken bits at ≡ false
unfolding has_taken
chunk_fresh bits at none = rw (bit_fresh (get_or bits (at / 64) 0) (at % 64) (omega arith) none) refl

-- a chunk is taken; the others are as they were
abbrev pub with_chunk : List ℕ → ℕ → List ℕ
with_chunk bits at = set bits (at / 64) (bit_or (get_or bits (at / 64) 0) (1 * 2 ^ (at % 64) % 2 ^ 64))

pub chunk_taken : (bits : List ℕ) (at : ℕ) → length bits ≡ 64 → at < 4096 → has_taken (with_chunk bits at) at ≡ true
unfolding has_taken
chunk_taken bits at long below =
    let inside : at / 64 < length bits = omega (arith, long) in
    let same : get_or (with_chunk bits at) (at / 64) 0 ≡ bit_or (get_or bits (at / 64) 0) (1 * 2 ^ (at % 64) % 2 ^ 64) = rw get_or-set_same refl in
    let bit : bit_at (get_or (with_chunk bits at) (at / 64) 0) (at % 64) ≡ 1 = ap (λ (w : ℕ). bit_at w (at % 64)) same ∙ bit_at_set_same w64 (get_or bits (at / 64) 0) (at % 64) (omega arith) in
    rw bit refl

pub chunk_other : (bits : List ℕ) (at other : ℕ) → length bits ≡ 64 → at < 4096 → other ≢ at → has_taken (with_chunk bits at) other ≡ has_taken bits other
unfolding has_taken
chunk_other bits at other long below differs = elim (cases_eq (other / 64) (at / 64)) [
  | inl same ↦
      (let inside : at / 64 < length bits = omega (arith, long) in
      let bit_differs : other % 64 ≢ at % 64 = λ e. differs (omega arith) in
      let word : get_or (with_chunk bits at) (at / 64) 0 ≡ bit_or (get_or bits (at / 64) 0) (1 * 2 ^ (at % 64) % 2 ^ 64) = rw get_or-set_same refl in
      let bit : bit_at (get_or (with_chunk bits at) (at / 64) 0) (other % 64) ≡ bit_at (get_or bits (at / 64) 0) (other % 64) =
      ap (λ (w : ℕ). bit_at w (other % 64)) word ∙ bit_at_set_other w64 (get_or bits (at / 64) 0) (at % 64) (omega arith) (other % 64) bit_differs in
      rw same (ap (λ (b : ℕ). b == 1) bit))
  | inr apart ↦ (let word : get_or (with_chunk bits at) (other / 64) 0 ≡ get_or bits (other / 64) 0 = rw get_or-set_other refl in ap (λ (w : ℕ). bit_at w (other % 64) == 1) word)
]

-- no chunk yet
pub adds_none : (bits : List ℕ) (chunk : ℕ) → AddsRun bits bits chunk (chunk - chunk)
adds_none bits chunk = record {
  fresh = λ at inside. absurd (omega (arith, inside.begun, inside.not_ended));
  added = λ at inside. absurd (omega (arith, inside.begun, inside.not_ended));
  others = λ at below apart. refl;
}

-- one chunk more
pub adds_more : (old bits : List ℕ) (chunk at : ℕ) → length bits ≡ 64 → chunk ≤ at → at < 4096 → AddsRun old bits chunk (at - chunk)
    → bit_and (get_or bits (at / 64) 0) (1 * 2 ^ (at % 64) % 2 ^ 64) ≡ 0 → AddsRun old (with_chunk bits at) chunk (at + 1 - chunk)
adds_more old bits chunk at long from below adds none = record {
  fresh = λ other inside. elim (cases_eq other at) [
    | inl same ↦ (let was : has_taken bits other ≡ has_taken old other = adds.others other (omega arith) (inr (omega arith)) in sym was ∙ rw same (chunk_fresh bits at none))
    | inr differs ↦ adds.fresh other (record { begun = inside.begun; not_ended = omega (arith, inside.begun, inside.not_ended) })
  ];
  added = λ other inside. elim (cases_eq other at) [
    | inl same ↦ rw same (chunk_taken bits at long below)
    | inr differs ↦ chunk_other bits at other long below differs ∙ adds.added other (record { begun = inside.begun; not_ended = omega (arith, inside.begun, inside.not_ended) })
  ];
  others = λ other low apart. (let differs : other ≢ at = λ e. not_in other e apart in chunk_other bits at other long below differs ∙ adds.others other low (outside other apart));
}
  where
    not_in : (other : ℕ) → other ≡ at → (other < chunk) ⊎ (chunk + (at + 1 - chunk) ≤ other) → ⊥
    not_in other e (inl h) = omega arith
    not_in other e (inr h) = omega arith

    outside : (other : ℕ) → (other < chunk) ⊎ (chunk + (at + 1 - chunk) ≤ other) → (other < chunk) ⊎ (chunk + (at - chunk) ≤ other)
    outside other (inl h) = inl h
    outside other (inr h) = inr (omega arith)

-- ---- the chunks of a tier's runs

-- a run, by its chunks
pub run_chunks : (geo : Geo) (placed : Placed) (at : ℕ) → has_chunk geo at (Some placed) ≡ true → IsWithin placed.chunk (chunks_of geo placed) at
run_chunks geo placed at e = by placed.chunk (chunks_of geo placed) e
  where
    by : (chunk chunks : ℕ) → (nat_le chunk at && nat_lt at (chunk + chunks)) ≡ true → IsWithin chunk chunks at
    by chunk chunks e = record { begun = grind (arith, nat_tests); not_ended = grind (arith, nat_tests) }

pub chunks_run : (geo : Geo) (placed : Placed) (at : ℕ) → IsWithin placed.chunk (chunks_of geo placed) at → has_chunk geo at (Some placed) ≡ true
chunks_run geo placed at is = by placed.chunk (chunks_of geo placed) is.begun is.not_ended
  where
    by : (chunk chunks : ℕ) → chunk ≤ at → at < chunk + chunks → (nat_le chunk at && nat_lt at (chunk + chunks)) ≡ true
    by chunk chunks h k = grind (arith, nat_tests)

-- an entry of a slot stands in the slot's tier
pub entry_place : (geo : Geo) (words : List ℕ) (place number : ℕ) (placed : Placed) → entry_in geo words place number ≡ Some placed → placed.place ≡ place
unfolding entry_in
entry_place geo words place number placed e = by_slot (slot_in geo words place number) e
  where
    by_reading : (chunk : ℕ) (reading : Reading) → entry_read place chunk reading ≡ Some placed → placed.place ≡ place
    by_reading chunk wrong_lengths e = cc e
    by_reading chunk wrong_checksum e = cc e
    by_reading chunk wrong_padding e = cc e
    by_reading chunk (entry pair) e = ap (λ (p : Placed). p.place) (sym (same_Some (entry_at pair.key pair.value place chunk) placed e))

    by_chunk : (chunk : Option ℕ) → entry_pointed geo words place chunk ≡ Some placed → placed.place ≡ place
    by_chunk None e = cc e
    by_chunk (Some chunk) e = by_reading chunk (reading_at geo words place chunk) e

    by_slot : (slot : Option Slot) → entry_of_slot geo words place slot ≡ Some placed → placed.place ≡ place
    by_slot None e = cc e
    by_slot (Some slot) e = by_chunk slot.chunk e

-- zeros
zeros_at : (count at : ℕ) → get_or {A = ℕ} (replicate count 0) at 0 ≡ 0
zeros_at zero at = refl
zeros_at (suc count) zero = refl
zeros_at (suc count) (suc at) = zeros_at count at

-- no chunk is taken at first
pub tells_none : (geo : Geo) (words : List ℕ) (place : ℕ) (bits : List ℕ) → bits ≡ replicate 64 0 → Tells geo words place 0 bits
unfolding has_taken is_taken
tells_none geo words place bits e chunk below =
    let zero : get_or (replicate 64 0) (chunk / 64) 0 ≡ 0 = zeros_at 64 (chunk / 64) in
    let bit : bit_at (get_or bits (chunk / 64) 0) (chunk % 64) ≡ 0 = ap (λ (xs : List ℕ). bit_at (get_or xs (chunk / 64) 0) (chunk % 64)) e ∙ (ap (λ (w : ℕ). bit_at w (chunk % 64)) zero ∙ bit_at-zero (chunk % 64)) in
    rw bit refl

-- a slot without entry takes none
pub tells_same : (geo : Geo) (words : List ℕ) (place number : ℕ) (bits : List ℕ) → entry_in geo words place number ≡ None → Tells geo words place number bits → Tells geo words place (number + 1) bits
unfolding is_taken
tells_same geo words place number bits none tells chunk below =
    tells chunk below ∙ sym (below_more (λ n. has_chunk geo chunk (entry_in geo words place n)) number ∙ rw none (or_false (list_any (λ n. has_chunk geo chunk (entry_in geo words place n)) (range_with_len 0 number))))
  where
    or_false : (b : Bool) → (b || false) ≡ b
    or_false true = refl
    or_false false = refl

-- a run that is added takes its chunks
pub tells_more : (geo : Geo) (words : List ℕ) (place number : ℕ) (placed : Placed) (old now : List ℕ) → entry_in geo words place number ≡ Some placed → HasRun geo placed → AddsRun old now placed.chunk (chunks_of geo placed)
    → Tells geo words place number old → Tells geo words place (number + 1) now
unfolding is_taken
tells_more geo words place number placed old now e run adds tells chunk below =
    sym (below_more (λ n. has_chunk geo chunk (entry_in geo words place n)) number
    ∙ (ap (λ (o : Option Placed). list_any (λ n. has_chunk geo chunk (entry_in geo words place n)) (range_with_len 0 number) || has_chunk geo chunk o) e ∙ sym (by (has_chunk geo chunk (Some placed)) refl)))
  where
    or_true : (b : Bool) → (b || true) ≡ true
    or_true true = refl
    or_true false = refl

    or_false : (b : Bool) → (b || false) ≡ b
    or_false true = refl
    or_false false = refl

    outside : (chunk at chunks : ℕ) → (nat_le at chunk && nat_lt chunk (at + chunks)) ≡ false → (chunk < at) ⊎ (at + chunks ≤ chunk)
    outside chunk at chunks e = grind (arith, nat_tests)

    by : (inside : Bool) → has_chunk geo chunk (Some placed) ≡ inside → has_taken now chunk ≡ (list_any (λ n. has_chunk geo chunk (entry_in geo words place n)) (range_with_len 0 number) || has_chunk geo chunk (Some placed))
    by true is =
        let within = run_chunks geo placed chunk is in
        adds.added chunk within ∙ sym (ap (λ b. list_any (λ n. has_chunk geo chunk (entry_in geo words place n)) (range_with_len 0 number) || b) is ∙ or_true (list_any (λ n. has_chunk geo chunk (entry_in geo words place n)) (range_with_len 0 number)))
    by false is =
        let apart = outside chunk placed.chunk (chunks_of geo placed) is in
        adds.others chunk (omega (arith, below, chunks_range geo)) apart ∙ (tells chunk below ∙ sym (ap (λ b. list_any (λ n. has_chunk geo chunk (entry_in geo words place n)) (range_with_len 0 number) || b) is ∙ or_false (list_any (λ n. has_chunk geo chunk (entry_in geo words place n)) (range_with_len 0 number))))

-- ---- runs that meet

-- chunks of a run lie in the tier
within_tier : (geo : Geo) (placed : Placed) (at : ℕ) → HasRun geo placed → IsWithin placed.chunk (chunks_of geo placed) at → at < geo.chunks
within_tier geo placed at run is = omega (arith, run.inside, is.not_ended)

-- a run with a chunk that was taken meets an earlier one
pub overlap_met : (geo : Geo) (words : List ℕ) (place number : ℕ) (placed : Placed) (bits : List ℕ) → entry_in geo words place number ≡ Some placed → HasRun geo placed → Tells geo words place number bits
    → MeetsRun bits placed.chunk (chunks_of geo placed) → is_overlapping geo words place number ≡ true
unfolding is_overlapping is_taken
overlap_met geo words place number placed bits e run tells met =
    let taken = sym (tells met.0 (within_tier geo placed met.0 run met.1)) ∙ met.2 in
    let earlier = below_found (λ n. has_chunk geo met.0 (entry_in geo words place n)) number taken in
    rw e (below_some (λ n. run_meets geo (Some placed) (entry_in geo words place n)) number earlier.0 earlier.1 (by earlier.0 (entry_in geo words place earlier.0) refl earlier.2))
  where
    meet : (place other chunk chunks chunk' chunks' at : ℕ) → other ≡ place → IsWithin chunk chunks at → IsWithin chunk' chunks' at → (other == place && (nat_lt chunk' (chunk + chunks) && nat_lt chunk (chunk' + chunks'))) ≡ true
    meet place other chunk chunks chunk' chunks' at same h k = grind (arith, nat_tests, h.begun, h.not_ended, k.begun, k.not_ended)

    by : (earlier : ℕ) (entry : Option Placed) → entry_in geo words place earlier ≡ entry → has_chunk geo met.0 entry ≡ true → run_meets geo (Some placed) entry ≡ true
    by earlier None is has = cc has
    by earlier (Some other) is has =
        meet placed.place other.place placed.chunk (chunks_of geo placed) other.chunk (chunks_of geo other) met.0
        (entry_place geo words place earlier other is ∙ sym (entry_place geo words place number placed e)) met.1 (run_chunks geo other met.0 has)

-- a run whose chunks are fresh meets none
pub overlap_none : (geo : Geo) (words : List ℕ) (place number : ℕ) (placed : Placed) (bits : List ℕ) → entry_in geo words place number ≡ Some placed → HasRun geo placed → Tells geo words place number bits
    → ((at : ℕ) → IsWithin placed.chunk (chunks_of geo placed) at → has_taken bits at ≡ false) → is_overlapping geo words place number ≡ false
unfolding is_overlapping is_taken
overlap_none geo words place number placed bits e run tells fresh =
    rw e (below_none (λ n. run_meets geo (Some placed) (entry_in geo words place n)) number (λ earlier below. by earlier below (entry_in geo words place earlier) refl))
  where
    both : (b : Bool) → b ≡ true → b ≡ false → ⊥
    both b one other = cc (sym one ∙ other)

    common : (same : Bool) (chunk chunks chunk' chunks' : ℕ) → 1 ≤ chunks → 1 ≤ chunks' → (same && (nat_lt chunk' (chunk + chunks) && nat_lt chunk (chunk' + chunks'))) ≡ true
        → (at : ℕ) × IsWithin chunk chunks at × IsWithin chunk' chunks' at
    common same chunk chunks chunk' chunks' h k e =
        let low : chunk' < chunk + chunks = grind (arith, nat_tests) in
        let high : chunk < chunk' + chunks' = grind (arith, nat_tests) in
        elim (cases_lt chunk chunk') [
          | inl before ↦ (chunk', record { begun = omega arith; not_ended = low }, record { begun = omega arith; not_ended = omega arith })
          | inr behind ↦ (chunk, record { begun = omega arith; not_ended = omega arith }, record { begun = behind; not_ended = high })
        ]

    by : (earlier : ℕ) → earlier < number → (entry : Option Placed) → entry_in geo words place earlier ≡ entry → run_meets geo (Some placed) entry ≡ false
    by earlier below None is = refl
    by earlier below (Some other) is = elim (cases_Bool (meets geo placed.place placed.chunk (chunks_of geo placed) other)) [
      | inr apart ↦ apart
      | inl met ↦
          (let at = common (other.place == placed.place) placed.chunk (chunks_of geo placed) other.chunk (chunks_of geo other) (chunks_some geo placed) (chunks_some geo other) met in
          let taken = below_some (λ n. has_chunk geo at.0 (entry_in geo words place n)) number earlier below (ap (has_chunk geo at.0) is ∙ chunks_run geo other at.0 at.2) in
          absurd (both (has_taken bits at.0) (tells at.0 (within_tier geo placed at.0 run at.1) ∙ taken) (fresh at.0 at.1)))
    ]

pub overlap_empty : (geo : Geo) (words : List ℕ) (place number : ℕ) → entry_in geo words place number ≡ None → is_overlapping geo words place number ≡ false
unfolding is_overlapping
overlap_empty geo words place number e = rw e (below_none (λ n. false) number (λ earlier below. refl))

-- ---- words of bits

-- the chunk of a bit
bit_of_chunk : (word chunk : ℕ) → 64 * word ≤ chunk → chunk < 64 * word + 64 → chunk / 64 ≡ word
bit_of_chunk word chunk h k = omega arith

-- bits that are those of the runs
pub bits_right : (geo : Geo) (words : List ℕ) (place word : ℕ) (bits : List ℕ) → word < geo.chunks / 64 → Tells geo words place (2 * geo.chunks) bits → word_at words (bits_at geo place word) ≡ get_or bits word 0 → are_bits_wrong geo words place word ≡ false
unfolding are_bits_wrong is_bit_wrong has_taken
bits_right geo words place word bits below tells same =
    any_none (is_bit_wrong geo words place) (range_with_len (64 * word) 64) (λ chunk i. (let inside = range_from (64 * word) 64 chunk i in
    let low : chunk < geo.chunks = omega (arith, inside.1, chunks_whole geo, below) in
    let there : chunk / 64 ≡ word = bit_of_chunk word chunk inside.0 inside.1 in
    let is : has_bit geo words place chunk ≡ is_taken geo words place (2 * geo.chunks) chunk =
    ap (λ (w : ℕ). bit_at (word_at words (bits_at geo place w)) (chunk % 64) == 1) there ∙ (ap (λ (w : ℕ). bit_at w (chunk % 64) == 1) same ∙ (ap (λ (w : ℕ). bit_at (get_or bits w 0) (chunk % 64) == 1) (sym there) ∙ tells chunk low)) in
    by (is_taken geo words place (2 * geo.chunks) chunk) (has_bit geo words place chunk) is))
  where
    by : (taken bit : Bool) → bit ≡ taken → (if taken then not bit else bit) ≡ false
    by true bit e = rw e refl
    by false bit e = e

-- another word has a wrong bit
pub bits_differ : (geo : Geo) (words : List ℕ) (place word : ℕ) (bits : List ℕ) → word < geo.chunks / 64 → Tells geo words place (2 * geo.chunks) bits → word_at words (bits_at geo place word) < 2 ^ 64 → get_or bits word 0 < 2 ^ 64
    → word_at words (bits_at geo place word) ≢ get_or bits word 0 → are_bits_wrong geo words place word ≡ true
unfolding are_bits_wrong is_bit_wrong has_taken
bits_differ geo words place word bits below tells short short' differ = elim (cases_Bool (list_any (is_bit_wrong geo words place) (range_with_len (64 * word) 64))) [
  | inl wrong ↦ wrong
  | inr right ↦ absurd (differ (same_from_bits_below 64 (word_at words (bits_at geo place word)) (get_or bits word 0) short short' (λ bit low.
      (let chunk : ℕ = 64 * word + bit in
      let there : (64 * word + bit) / 64 ≡ word = bit_of_chunk word (64 * word + bit) (omega arith) (omega arith) in
      let which : (64 * word + bit) % 64 ≡ bit = omega (arith, there) in
      let inside : 64 * word + bit < geo.chunks = omega (arith, chunks_whole geo, below, low) in
      let fine = fails_in (is_bit_wrong geo words place) (range_with_len (64 * word) 64) chunk right (in_range (64 * word) 64 chunk (omega arith) (omega arith)) in
      let is : has_bit geo words place chunk ≡ is_taken geo words place (2 * geo.chunks) chunk = by (is_taken geo words place (2 * geo.chunks) chunk) (has_bit geo words place chunk) fine in
      let one : (bit_at (word_at words (bits_at geo place word)) bit == 1) ≡ (bit_at (get_or bits word 0) bit == 1) =
      sym (ap (λ (w : ℕ). bit_at (word_at words (bits_at geo place w)) ((64 * word + bit) % 64) == 1) there ∙ ap (λ (b : ℕ). bit_at (word_at words (bits_at geo place word)) b == 1) which)
      ∙ (is ∙ (sym (tells chunk inside) ∙ (ap (λ (w : ℕ). bit_at (get_or bits w 0) ((64 * word + bit) % 64) == 1) there ∙ ap (λ (b : ℕ). bit_at (get_or bits word 0) b == 1) which))) in
      same_bit (bit_at (word_at words (bits_at geo place word)) bit) (bit_at (get_or bits word 0) bit) (bit_at-lt (word_at words (bits_at geo place word)) bit) (bit_at-lt (get_or bits word 0) bit) one))))
]
  where
    by : (taken bit : Bool) → (if taken then not bit else bit) ≡ false → bit ≡ taken
    by true true e = refl
    by true false e = cc e
    by false bit e = e

    same_bit : (a b : ℕ) → a < 2 → b < 2 → (a == 1) ≡ (b == 1) → a ≡ b
    same_bit a b h k e = grind (arith, nat_tests)

-- ---- the same of a slot's entry, by its chunk and how many it has

pub tells_at : (geo : Geo) (segment : ℕ) (words : List ℕ) (place number chunk chunks : ℕ) (old now : List ℕ) (at : IsEntryAt geo segment words place number chunk) → chunks ≡ chunks_of geo at.placed → AddsRun old now chunk chunks
    → Tells geo words place number old → Tells geo words place (number + 1) now
tells_at geo segment words place number chunk chunks old now at e adds tells =
    tells_more geo words place number at.placed old now at.entry_is at.run
    (subst (λ (n : ℕ). AddsRun old now n (chunks_of geo at.placed)) (sym at.chunk_is) (subst (λ (n : ℕ). AddsRun old now chunk n) e adds)) tells

pub met_at : (geo : Geo) (segment : ℕ) (words : List ℕ) (place number chunk chunks : ℕ) (bits : List ℕ) (at : IsEntryAt geo segment words place number chunk) → chunks ≡ chunks_of geo at.placed → MeetsRun bits chunk chunks
    → Tells geo words place number bits → is_overlapping geo words place number ≡ true
met_at geo segment words place number chunk chunks bits at e met tells =
    overlap_met geo words place number at.placed bits at.entry_is at.run tells
    (subst (λ (n : ℕ). MeetsRun bits n (chunks_of geo at.placed)) (sym at.chunk_is) (subst (λ (n : ℕ). MeetsRun bits chunk n) e met))

pub apart_at : (geo : Geo) (segment : ℕ) (words : List ℕ) (place number chunk chunks : ℕ) (old now : List ℕ) (at : IsEntryAt geo segment words place number chunk) → chunks ≡ chunks_of geo at.placed → AddsRun old now chunk chunks
    → Tells geo words place number old → is_overlapping geo words place number ≡ false
apart_at geo segment words place number chunk chunks old now at e adds tells =
    let adds' : AddsRun old now at.placed.chunk (chunks_of geo at.placed) = subst (λ (n : ℕ). AddsRun old now n (chunks_of geo at.placed)) (sym at.chunk_is) (subst (λ (n : ℕ). AddsRun old now chunk n) e adds) in
    overlap_none geo words place number at.placed old at.entry_is at.run tells adds'.fresh

-- a run ends below the greatest number of chunks
pub run_short : (geo : Geo) (segment : ℕ) (words : List ℕ) (place number chunk chunks : ℕ) (at : IsEntryAt geo segment words place number chunk) → chunks ≡ chunks_of geo at.placed → chunk + chunks ≤ 4096
run_short geo segment words place number chunk chunks at e = omega (arith, at.run.inside, at.chunk_is, e, chunks_range geo)
