-- Whether the chunks of a run are free, by the bits of the one or two words in which it lies.
use Rattle.std.proofs.Common.{◌≡◌, ◌≢◌, ◌↔◌, ℕ, ◌+◌, ◌-◌, ◌*◌, ◌/◌, ◌%◌, ◌^◌, ◌<◌, ◌≤◌, List, sym, ap, ◌∙◌, arith, inl, inr, bit_and, IsTrue, nat_eq, false, eqb-true, eq-eqb}
use Rattle.std.proofs.lemmas.Bool.{cases_lt}
use Rattle.cm_geo.specs.declared.geo.Geo.{Geo}
use Rattle.cm_plain.specs.Lawful.{HasBit}
use Rattle.cm_words.specs.Memory.{FitsNotes, MemSeen}
use Rattle.cm_chunks.specs.Free.{IsFreeRun}
use Rattle.cm_chunks.proofs.WordBits.{between_none, none_between}
use Rattle.cm_chunks.proofs.Fitting.{HasWord, clear_here, zero_in_run}
use Rattle.cm_chunks.proofs.SearchLoop.{LoadedWord, has_word}

-- chunks of which the word has no bit are clear
part_clear : (geo : Geo) (words : List ℕ) (place number word low high other : ℕ) → HasWord geo words place number word → high ≤ 64 → bit_and word (2 ^ high - 2 ^ low) ≡ 0
    → 64 * number + low ≤ other → other < 64 * number + high → HasBit geo words place other → ⊥
part_clear geo words place number word low high other has inside none from to =
    clear_here geo words place number word other has (omega arith) (omega arith) (none_between word low high (other - 64 * number) none (omega arith) (omega arith))

-- the word has no bit of chunks in a free run
clear_part : (geo : Geo) (words : List ℕ) (place chunks number word low high chunk : ℕ) → HasWord geo words place number word → high ≤ 64 → IsFreeRun geo words place chunk chunks
    → chunk ≤ 64 * number + low → 64 * number + high ≤ chunk + chunks → bit_and word (2 ^ high - 2 ^ low) ≡ 0
clear_part geo words place chunks number word low high chunk has inside run from to =
    between_none word low high (λ bit low_to high_to. zero_in_run geo words place chunks number word chunk bit has run (omega arith) (omega arith) (omega arith))

-- a run in one word
free_in_one : (geo : Geo) (words : List ℕ) (place chunk chunks word : ℕ) → HasWord geo words place (chunk / 64) word → chunk + chunks ≤ geo.chunks → chunk % 64 + chunks ≤ 64
    → (bit_and word (2 ^ (chunk % 64 + chunks) - 2 ^ (chunk % 64)) ≡ 0) ↔ IsFreeRun geo words place chunk chunks
free_in_one geo words place chunk chunks word has inside in_one_word = (
  λ none. record {
    inside = inside;
    clear = λ other from to. part_clear geo words place (chunk / 64) word (chunk % 64) (chunk % 64 + chunks) other has in_one_word none (omega arith) (omega arith);
  },
  λ run. clear_part geo words place chunks (chunk / 64) word (chunk % 64) (chunk % 64 + chunks) chunk has in_one_word run (omega arith) (omega arith),
)

-- a run that goes on in the next word, and is clear in the first
free_in_two : (geo : Geo) (words : List ℕ) (place chunk chunks word next : ℕ) → HasWord geo words place (chunk / 64) word → HasWord geo words place (chunk / 64 + 1) next
    → chunk + chunks ≤ geo.chunks → 64 < chunk % 64 + chunks → chunks ≤ 64 → bit_and word (2 ^ 64 - 2 ^ (chunk % 64)) ≡ 0
    → (bit_and next (2 ^ (chunk % 64 + chunks - 64) - 2 ^ 0) ≡ 0) ↔ IsFreeRun geo words place chunk chunks
free_in_two geo words place chunk chunks word next has has_next inside long within_limit clear = (
  λ none. record {
    inside = inside;
    clear = λ other from to. elim (cases_lt other (64 * (chunk / 64) + 64)) [
      | inl here ↦ part_clear geo words place (chunk / 64) word (chunk % 64) 64 other has (omega arith) clear (omega arith) here
      | inr behind ↦ part_clear geo words place (chunk / 64 + 1) next 0 (chunk % 64 + chunks - 64) other has_next (omega arith) none (omega arith) (omega arith)
    ];
  },
  λ run. clear_part geo words place chunks (chunk / 64 + 1) next 0 (chunk % 64 + chunks - 64) chunk has_next (omega arith) run (omega arith) (omega arith),
)

-- a test for 0
zero_test : {P : Type 0} (n : ℕ) → ((n ≡ 0) ↔ P) → (IsTrue (nat_eq n 0) ↔ P)
zero_test n same = (λ test. same.0 (eqb-true n 0 test), λ p. eq-eqb n 0 (same.1 p))

-- ---- over a memory

pub free_after_one : (a b : MemSeen) (geo : Geo) (place chunk chunks word bits : ℕ) → LoadedWord a b geo place (chunk / 64) word → chunk + chunks ≤ geo.chunks → chunk % 64 + chunks ≤ 64
    → bits ≡ 2 ^ (chunk % 64 + chunks) - 2 ^ (chunk % 64) → (words : List ℕ) → FitsNotes b words → (IsTrue (nat_eq (bit_and word bits) 0) ↔ IsFreeRun geo words place chunk chunks)
free_after_one a b geo place chunk chunks word bits loaded inside in_one_word bits_are words fits =
    rw bits_are (zero_test (bit_and word (2 ^ (chunk % 64 + chunks) - 2 ^ (chunk % 64))) (free_in_one geo words place chunk chunks word (has_word a b geo place (chunk / 64) word loaded words fits) inside in_one_word))

pub free_after_two : (a b c : MemSeen) (geo : Geo) (place chunk chunks word first next second : ℕ) → LoadedWord a b geo place (chunk / 64) word → LoadedWord b c geo place (chunk / 64 + 1) next
    → chunk + chunks ≤ geo.chunks → 64 < chunk % 64 + chunks → chunks ≤ 64 → first ≡ 2 ^ 64 - 2 ^ (chunk % 64) → bit_and word first ≡ 0 → second ≡ 2 ^ (chunk % 64 + chunks - 64) - 2 ^ 0
    → (words : List ℕ) → FitsNotes c words → (IsTrue (nat_eq (bit_and next second) 0) ↔ IsFreeRun geo words place chunk chunks)
free_after_two a b c geo place chunk chunks word first next second loaded loaded_next inside long within_limit first_is clear second_is words fits =
    rw second_is (zero_test (bit_and next (2 ^ (chunk % 64 + chunks - 64) - 2 ^ 0))
    (free_in_two geo words place chunk chunks word next (has_word a b geo place (chunk / 64) word loaded words (loaded_next.reads.fits words fits)) (has_word b c geo place (chunk / 64 + 1) next loaded_next words fits)
    inside long within_limit (ap (bit_and word) (sym first_is) ∙ clear)))

pub not_free_after : (a b : MemSeen) (geo : Geo) (place chunk chunks word bits : ℕ) → LoadedWord a b geo place (chunk / 64) word → 64 < chunk % 64 + chunks → bits ≡ 2 ^ 64 - 2 ^ (chunk % 64) → bit_and word bits ≢ 0
    → (words : List ℕ) → FitsNotes b words → (IsTrue false ↔ IsFreeRun geo words place chunk chunks)
not_free_after a b geo place chunk chunks word bits loaded long bits_are nonzero words fits = (
  λ no. absurd (cc no),
  λ run. absurd (nonzero (ap (bit_and word) bits_are ∙ clear_part geo words place chunks (chunk / 64) word (chunk % 64) 64 chunk (has_word a b geo place (chunk / 64) word loaded words fits) (omega arith) run (omega arith) (omega arith))),
)
