-- The stores that set or clear the bits of a run (own).
use Rattle.std.specs.Prelude.{ℕ, ◌+◌, ◌-◌, ◌*◌, ◌/◌, ◌%◌, ◌^◌, min, nat_lt, List, [], ◌∷◌, flat_map, bit_and, bit_or, if◌then◌else◌}
use Rattle.std.specs.Int.{bit_not, w64}
use Rattle.cm_words.specs.Stores.{WordStore, store_at}
use Rattle.cm_geo.specs.declared.geo.Geo.{Geo}
use Rattle.cm_geo.specs.Addresses.{bits_at}
use Rattle.cm_plain.specs.declared.plan.Run.{Run}
use Rattle.cm_plain.specs.Slots.{word_at}
use Rattle.cm_chunks.specs.declared.turn.Turn.{Turn}
use Rattle.cm_chunks.specs.declared.turn.Turn.TheVariants.{Set, Clear}

-- a word with some bits set or cleared
abbrev pub turned_word : Turn → ℕ → ℕ → ℕ
turned_word Set word bits = bit_or word bits
turned_word Clear word bits = bit_and word (bit_not w64 bits)

-- the bits of a run in the bit word of a number
abbrev pub bits_in : Run → ℕ → ℕ
bits_in run number = 2 ^ min 64 (run.chunk + run.chunks - 64 * number) - 2 ^ (run.chunk - 64 * number)

-- the store of this bit word
abbrev pub turn_at : Turn → Geo → Run → ℕ → List ℕ → List WordStore
turn_at turn geo run number words =
    store_at (bits_at geo run.place number) (turned_word turn (word_at words (bits_at geo run.place number)) (bits_in run number)) ∷ []

-- the bit words in which a run lies: that of its first chunk, and the next one where it goes on there
abbrev pub bit_words_of : Run → List ℕ
bit_words_of run =
    if nat_lt 64 (run.chunk % 64 + run.chunks) then run.chunk / 64 ∷ (run.chunk / 64 + 1) ∷ [] else run.chunk / 64 ∷ []

-- a store of each of these, the lower one first
abbrev pub stores_for : Turn → Geo → Run → List ℕ → List WordStore
stores_for turn geo run words = flat_map (λ number. turn_at turn geo run number words) (bit_words_of run)

abbrev pub stores_to_set : Geo → Run → List ℕ → List WordStore
stores_to_set geo run words = stores_for Set geo run words

abbrev pub stores_to_clear : Geo → Run → List ℕ → List WordStore
stores_to_clear geo run words = stores_for Clear geo run words
