-- The stores that set or clear the bits of a run over a memory.
use Rattle.std.proofs.Common.{◌≡◌, ◌≢◌, ℕ, ◌+◌, ◌/◌, ◌%◌, ◌<◌, ◌≤◌, List, [], ◌∷◌, ◌++◌, sym, subst, ap, ◌∙◌, arith, true, false, nat_lt, if◌then◌else◌, get_or-set_other, flat_map}
use Rattle.std.proofs.lemmas.Bool.Decides.{nat_tests}
use Rattle.cm_geo.specs.declared.geo.Geo.{Geo}
use Rattle.cm_geo.specs.Addresses.{bits_at}
use Rattle.cm_geo.proofs.AddressesApart.{bits_apart}
use Rattle.cm_geo.proofs.Ranges.{chunks_whole}
use Rattle.cm_plain.specs.declared.plan.Run.{Run}
use Rattle.cm_words.specs.Memory.{MayStore, MemSeen}
use Rattle.cm_words.specs.Effects.{Knows, Reads}
use Rattle.cm_words.specs.Stores.{MayStoreEach, WordStore, Writes, WritesEach, WritesPrefixEach, after_stores, store_at}
use Rattle.cm_words.proofs.StoreLists.{AreJoined, prefix_each_some, may_store_first, may_store_remade, may_store_same, may_store_then, writes_remade, writes_same, writes_then}
use Rattle.cm_chunks.specs.declared.turn.Turn.{Turn}
use Rattle.cm_chunks.specs.Turns.{bits_in, stores_for, bit_words_of, turn_at, turned_word}
use Rattle.cm_chunks.proofs.SearchLoop.{bits_inner}

-- ---- one bit word

-- what the code made of the word that it loaded
pub record Made (b : MemSeen) (turn : Turn) (geo : Geo) (run : Run) (number at found bits word : ℕ) : Type 0 where
  pub at_is : at ≡ bits_at geo run.place number
  pub bits_are : bits ≡ bits_in run number
  pub knows : Knows b at found
  pub word_is : word ≡ turned_word turn found bits

made_is : (b : MemSeen) (turn : Turn) (geo : Geo) (run : Run) (number at found bits word : ℕ) → Made b turn geo run number at found bits word → word ≡ turned_word turn found (bits_in run number)
made_is b turn geo run number at found bits word made = made.word_is ∙ ap (turned_word turn found) made.bits_are

pub may_turn : (a b : MemSeen) (turn : Turn) (geo : Geo) (run : Run) (number at found bits word : ℕ) → Made b turn geo run number at found bits word → MayStoreEach a (turn_at turn geo run number) → Reads a b → MayStore b at word
may_turn a b turn geo run number at found bits word made may reads =
    let inner : 0 < bits_at geo run.place number = omega (arith, bits_inner geo run.place number) in
    subst (λ (k : ℕ). MayStore b k word) (sym made.at_is)
    (may_store_remade a b (bits_at geo run.place number) found word (λ w. turned_word turn w (bits_in run number)) may reads inner (subst (λ (k : ℕ). Knows b k found) made.at_is made.knows) (made_is b turn geo run number at found bits word made))

pub turns_word : (a b c : MemSeen) (turn : Turn) (geo : Geo) (run : Run) (number at found bits word : ℕ) → Made b turn geo run number at found bits word → Reads a b → Writes b c (store_at at word ∷ []) → WritesEach a c (turn_at turn geo run number)
turns_word a b c turn geo run number at found bits word made reads writes =
    let inner : 0 < bits_at geo run.place number = omega (arith, bits_inner geo run.place number) in
    writes_remade a b c (bits_at geo run.place number) found word (λ w. turned_word turn w (bits_in run number)) reads inner (subst (λ (k : ℕ). Knows b k found) made.at_is made.knows) (made_is b turn geo run number at found bits word made)
    (subst (λ (k : ℕ). Writes b c (store_at k word ∷ [])) made.at_is writes)

-- ---- the words in which a run lies

bit_words_one : (run : Run) → run.chunk % 64 + run.chunks ≤ 64 → bit_words_of run ≡ run.chunk / 64 ∷ []
bit_words_one run in_one_word = (let test : nat_lt 64 (run.chunk % 64 + run.chunks) ≡ false = grind (arith, nat_tests) in ap (λ b. if b then run.chunk / 64 ∷ (run.chunk / 64 + 1) ∷ [] else run.chunk / 64 ∷ []) test)

bit_words_two : (run : Run) → 64 < run.chunk % 64 + run.chunks → bit_words_of run ≡ run.chunk / 64 ∷ (run.chunk / 64 + 1) ∷ []
bit_words_two run long = (let test : nat_lt 64 (run.chunk % 64 + run.chunks) ≡ true = grind (arith, nat_tests) in ap (λ b. if b then run.chunk / 64 ∷ (run.chunk / 64 + 1) ∷ [] else run.chunk / 64 ∷ []) test)

-- one word
pub stores_one : (turn : Turn) (geo : Geo) (run : Run) → run.chunk % 64 + run.chunks ≤ 64 → (words : List ℕ) → stores_for turn geo run words ≡ turn_at turn geo run (run.chunk / 64) words
stores_one turn geo run in_one_word words = ap (flat_map (λ number. turn_at turn geo run number words)) (bit_words_one run in_one_word)

-- two words: the store of the second is the same in the list after the first
pub stores_two : (turn : Turn) (geo : Geo) (run : Run) → run.chunk + run.chunks ≤ geo.chunks → 64 < run.chunk % 64 + run.chunks
    → AreJoined (stores_for turn geo run) (turn_at turn geo run (run.chunk / 64)) (turn_at turn geo run (run.chunk / 64 + 1))
stores_two turn geo run inside long words =
    let whole = chunks_whole geo in
    let apart : bits_at geo run.place (run.chunk / 64 + 1) ≢ bits_at geo run.place (run.chunk / 64) =
    bits_apart geo run.place run.place (run.chunk / 64 + 1) (run.chunk / 64) (omega (arith, whole.1)) (omega (arith, whole.1)) (λ _ same. omega (arith, same)) in
    let second : turn_at turn geo run (run.chunk / 64 + 1) words ≡ turn_at turn geo run (run.chunk / 64 + 1) (after_stores words (turn_at turn geo run (run.chunk / 64) words)) =
    ap (λ (w : ℕ). store_at (bits_at geo run.place (run.chunk / 64 + 1)) (turned_word turn w (bits_in run (run.chunk / 64 + 1))) ∷ [])
    (sym (get_or-set_other words (bits_at geo run.place (run.chunk / 64)) (bits_at geo run.place (run.chunk / 64 + 1)) _ 0 apart)) in
    ap (flat_map (λ number. turn_at turn geo run number words)) (bit_words_two run long)
    ∙ ap (λ (stores : List WordStore). turn_at turn geo run (run.chunk / 64) words ++ stores) second

-- ---- a run

-- where the run lies in its tier
pub record InOne (geo : Geo) (run : Run) : Type 0 where
  pub in_one_word : run.chunk % 64 + run.chunks ≤ 64

pub record InTwo (geo : Geo) (run : Run) : Type 0 where
  pub inside : run.chunk + run.chunks ≤ geo.chunks
  pub long : 64 < run.chunk % 64 + run.chunks

pub may_one : (m : MemSeen) (turn : Turn) (geo : Geo) (run : Run) → InOne geo run → MayStoreEach m (stores_for turn geo run) → MayStoreEach m (turn_at turn geo run (run.chunk / 64))
may_one m turn geo run one may = may_store_same m (turn_at turn geo run (run.chunk / 64)) (stores_for turn geo run) (stores_one turn geo run one.in_one_word) may

pub may_first : (m : MemSeen) (turn : Turn) (geo : Geo) (run : Run) → InTwo geo run → MayStoreEach m (stores_for turn geo run) → MayStoreEach m (turn_at turn geo run (run.chunk / 64))
may_first m turn geo run two may = may_store_first m (stores_for turn geo run) (turn_at turn geo run (run.chunk / 64)) (turn_at turn geo run (run.chunk / 64 + 1)) (stores_two turn geo run two.inside two.long) may

pub may_second : (a b : MemSeen) (turn : Turn) (geo : Geo) (run : Run) → InTwo geo run → MayStoreEach a (stores_for turn geo run) → WritesEach a b (turn_at turn geo run (run.chunk / 64)) → MayStoreEach b (turn_at turn geo run (run.chunk / 64 + 1))
may_second a b turn geo run two may writes = may_store_then a b (stores_for turn geo run) (turn_at turn geo run (run.chunk / 64)) (turn_at turn geo run (run.chunk / 64 + 1)) (stores_two turn geo run two.inside two.long) may writes

pub turns_one : (a b : MemSeen) (turn : Turn) (geo : Geo) (run : Run) → InOne geo run → WritesEach a b (turn_at turn geo run (run.chunk / 64)) → WritesEach a b (stores_for turn geo run)
turns_one a b turn geo run one writes = writes_same a b (turn_at turn geo run (run.chunk / 64)) (stores_for turn geo run) (stores_one turn geo run one.in_one_word) writes

pub turns_two : (a b c : MemSeen) (turn : Turn) (geo : Geo) (run : Run) → InTwo geo run → WritesEach a b (turn_at turn geo run (run.chunk / 64)) → WritesEach b c (turn_at turn geo run (run.chunk / 64 + 1)) → WritesEach a c (stores_for turn geo run)
turns_two a b c turn geo run two p q = writes_then a b c (stores_for turn geo run) (turn_at turn geo run (run.chunk / 64)) (turn_at turn geo run (run.chunk / 64 + 1)) (stores_two turn geo run two.inside two.long) p q

-- the second store was not made
pub dies_second : (a b c : MemSeen) (turn : Turn) (geo : Geo) (run : Run) → InTwo geo run → WritesEach a b (turn_at turn geo run (run.chunk / 64)) → Reads b c → WritesPrefixEach a c (stores_for turn geo run)
dies_second a b c turn geo run two writes reads =
    prefix_each_some a b c (stores_for turn geo run) (turn_at turn geo run (run.chunk / 64)) (turn_at turn geo run (run.chunk / 64 + 1)) (stores_two turn geo run two.inside two.long) writes reads
