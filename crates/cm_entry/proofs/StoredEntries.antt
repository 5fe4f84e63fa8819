-- What is read where an entry was stored.
use Rattle.std.proofs.Common.{◌≡◌, ◌≢◌, ℕ, zero, suc, ◌+◌, ◌-◌, ◌*◌, ◌/◌, ◌%◌, ◌^◌, ◌<◌, ◌≤◌, ◌==◌, ◌&&◌, nat_le, true, List, [], ◌∷◌, length, take, drop, replicate, get_or, slice_set, refl, ap, sym, ◌∙◌, arith, inl, inr, get_or-set_other, get_or-set_same, length-set}
use Rattle.std.specs.List.{list_all}
use Rattle.std.proofs.lemmas.Bool.Decides.{eqb_tells, nat_tests}
use Rattle.std.proofs.lemmas.Grind.{common_steps}
use Rattle.std.proofs.lemmas.List.{drop_at, take_at, length-drop, length-take-le}
use Rattle.cm_geo.specs.declared.geo.Geo.{Geo}
use Rattle.cm_geo.specs.Addresses.{chunk_at, words_in_segment}
use Rattle.cm_geo.specs.Need.{Fits, need, parts_for}
use Rattle.cm_geo.proofs.AddressOrder.{run_in_range}
use Rattle.cm_geo.proofs.Ranges.{chunk_words_range}
use Rattle.cm_plain.proofs.EntryWords.{words_within}
use Rattle.cm_plain.specs.Readings.{HasEntry, bytes_at, bytes_of, checksum, entry, entry_checksum, head_of, is_padded, key_bytes, key_len, lengths_fit, padded, reading_at, reading_of, value_bytes, value_len}
use Rattle.cm_plain.proofs.Padding.{IsRead, bytes_len, padded_is, is_read, whole_words}
use Rattle.cm_words.specs.Stores.{after_stores, store_at}
use Rattle.cm_words.proofs.StoreLists.{after_stores_append}
use Rattle.cm_entry.specs.Packing.{words_of}
use Rattle.cm_entry.specs.EntryStores.{HasKey, HasRoom, entry_stores, head_stores, replacing_stores, stores_from, value_stores}
use Rattle.cm_entry.proofs.Packing.{AreBytes, bytes_of_words, words_len}
use Rattle.cm_entry.proofs.WordStores.{after_here, after_len, after_other, part_is, part_same}

-- the words of an entry with these lengths are words of the segment
pub inside_run : (geo : Geo) (place chunk key_len value_len : ℕ) → place < geo.tiers → chunk + need geo key_len value_len ≤ geo.chunks
    → chunk_at geo place chunk + 2 + parts_for 8 key_len + parts_for 8 value_len ≤ words_in_segment geo
inside_run geo place chunk key_len value_len low run =
    let nonzero : 1 ≤ geo.chunk_words = omega (arith, (chunk_words_range geo).0) in
    let range = run_in_range geo place chunk (need geo key_len value_len) low run in
    let enough = words_within (2 + parts_for 8 key_len + parts_for 8 value_len) geo.chunk_words nonzero in
    by_size (chunk_at geo place chunk) (parts_for 8 key_len) (parts_for 8 value_len) (need geo key_len value_len) geo.chunk_words (words_in_segment geo) enough range
  where
    by_size : (at pk pv parts size range : ℕ) → 2 + pk + pv ≤ parts * size → at + parts * size ≤ range → at + 2 + pk + pv ≤ range
    by_size at pk pv parts size range h k = omega arith

zeros_all : (n : ℕ) → list_all (λ byte. byte == 0) (replicate n 0) ≡ true
zeros_all zero = refl
zeros_all (suc n) = zeros_all n

padded_all : (bytes : List ℕ) → is_padded (length bytes) (padded bytes) ≡ true
padded_all bytes = ap (λ (rest : List ℕ). list_all (λ byte. byte == 0) rest) (drop_at bytes (replicate (8 * parts_for 8 (length bytes) - length bytes) 0) (length bytes) refl) ∙ zeros_all (8 * parts_for 8 (length bytes) - length bytes)

padded_prefix : (bytes : List ℕ) → take (length bytes) (padded bytes) ≡ bytes
padded_prefix bytes = take_at bytes (replicate (8 * parts_for 8 (length bytes) - length bytes) 0) (length bytes) refl

key_len_is : (k v : ℕ) → k ≤ 256 → (k + 2 ^ 32 * v) % 2 ^ 32 ≡ k
key_len_is k v within_limit = omega arith

value_len_is : (k v : ℕ) → k ≤ 256 → (k + 2 ^ 32 * v) / 2 ^ 32 ≡ v
value_len_is k v within_limit = omega arith

same_eqb : (n : ℕ) → (n == n) ≡ true
same_eqb n = grind (arith, nat_tests)

-- the lengths of an entry that has room
lengths_are : (geo : Geo) (chunk k v : ℕ) → Fits geo k v → chunk + need geo k v ≤ geo.chunks → (head : ℕ) → key_len head ≡ k → value_len head ≡ v → lengths_fit geo chunk head ≡ true
lengths_are geo chunk k v fits run head e e' = rw (e, e') (by_tests k v (need geo k v) chunk geo.chunks fits.key_nonempty fits.key_short fits.value_short fits.run_short run)
  where
    by_tests : (k v n chunk chunks : ℕ) → 1 ≤ k → k ≤ 256 → v ≤ 4096 → n ≤ 64 → chunk + n ≤ chunks → (nat_le 1 k && (nat_le k 256 && (nat_le v 4096 && (nat_le n 64 && nat_le (chunk + n) chunks)))) ≡ true
    by_tests k v n chunk chunks a b c d e = grind (arith, nat_tests, common_steps)

-- an entry is read from its words
pub reading_entry : (geo : Geo) (chunk : ℕ) (key value : List ℕ) (head stored_checksum : ℕ) (key_words value_words : List ℕ) → Fits geo (length key) (length value) → chunk + need geo (length key) (length value) ≤ geo.chunks
    → head ≡ head_of key value → stored_checksum ≡ entry_checksum key value → key_words ≡ padded key → value_words ≡ padded value
    → reading_of geo chunk head stored_checksum key_words value_words ≡ entry (record { key = key; value = value })
unfolding entry_checksum
reading_entry geo chunk key value head stored_checksum key_words value_words fits run head_is checksum_is key_is value_is =
    let k : key_len head ≡ length key = ap key_len head_is ∙ key_len_is (length key) (length value) fits.key_short in
    let v : value_len head ≡ length value = ap value_len head_is ∙ value_len_is (length key) (length value) fits.key_short in
    let lengths : lengths_fit geo chunk head ≡ true = lengths_are geo chunk (length key) (length value) fits run head k v in
    let checksum_same : (checksum head key_words value_words == stored_checksum) ≡ true = rw (head_is, checksum_is, key_is, value_is) (same_eqb (checksum (head_of key value) (padded key) (padded value))) in
    let key_padded : is_padded (key_len head) key_words ≡ true = rw (k, key_is) (padded_all key) in
    let value_padded : is_padded (value_len head) value_words ≡ true = rw (v, value_is) (padded_all value) in
    let key_prefix : take (key_len head) key_words ≡ key = rw (k, key_is) (padded_prefix key) in
    let value_prefix : take (value_len head) value_words ≡ value = rw (v, value_is) (padded_prefix value) in
    rw (lengths, checksum_same, key_padded, value_padded, key_prefix, value_prefix) refl

-- the words of an entry stand from an address on
pub record EntryWords (words : List ℕ) (at : ℕ) (key value : List ℕ) : Type 0 where
  pub head : get_or words at 0 ≡ head_of key value
  pub stored_checksum : get_or words (at + 1) 0 ≡ entry_checksum key value
  pub key_words : bytes_of (take (parts_for 8 (length key)) (drop (at + 2) words)) ≡ padded key
  pub value_words : bytes_of (take (parts_for 8 (length value)) (drop (at + 2 + parts_for 8 (length key)) words)) ≡ padded value

-- so the entry does
pub words_stand : (geo : Geo) (words : List ℕ) (place chunk : ℕ) (key value : List ℕ) → HasRoom geo place chunk key value → EntryWords words (chunk_at geo place chunk) key value → HasEntry geo words place chunk key value
unfolding reading_at
words_stand geo words place chunk key value room stored =
    let at = chunk_at geo place chunk in
    let k : key_len (get_or words at 0) ≡ length key = ap key_len stored.head ∙ key_len_is (length key) (length value) room.fits.key_short in
    let v : value_len (get_or words at 0) ≡ length value = ap value_len stored.head ∙ value_len_is (length key) (length value) room.fits.key_short in
    reading_entry geo chunk key value (get_or words at 0) (get_or words (at + 1) 0) (key_bytes geo words place chunk (get_or words at 0)) (value_bytes geo words place chunk (get_or words at 0)) room.fits room.run
    stored.head stored.stored_checksum
    (ap (λ (n : ℕ). bytes_at geo words place chunk 0 (parts_for 8 n)) k ∙ (ap (λ (a : ℕ). bytes_of (take (parts_for 8 (length key)) (drop a words))) (nothing (at + 2)) ∙ stored.key_words))
    (ap (λ (n : ℕ). bytes_at geo words place chunk (parts_for 8 n) (parts_for 8 (value_len (get_or words at 0)))) k ∙ (ap (λ (n : ℕ). bytes_at geo words place chunk (parts_for 8 (length key)) (parts_for 8 n)) v ∙ stored.value_words))
  where
    nothing : (n : ℕ) → n + 0 ≡ n
    nothing n = omega arith

-- the stores of a value, where the first word and the key's words stand
pub value_stored : (words : List ℕ) (at : ℕ) (key value : List ℕ) → AreBytes value → at + 2 + parts_for 8 (length key) + parts_for 8 (length value) ≤ length words
    → get_or words at 0 ≡ head_of key value → bytes_of (take (parts_for 8 (length key)) (drop (at + 2) words)) ≡ padded key → EntryWords (after_stores words (value_stores at key value)) at key value
unfolding value_stores
value_stored words at key value small room head_is key_is =
    let pk : ℕ = parts_for 8 (length key) in
    let pv : ℕ = parts_for 8 (length value) in
    let from : ℕ = at + 2 + pk in
    let mid : List ℕ = after_stores words (stores_from from (words_of value)) in
    let long : length mid ≡ length words = after_len words (stores_from from (words_of value)) in
    let count : length (words_of value) ≡ pv = words_len value in
    let end : after_stores words (value_stores at key value) ≡ slice_set mid (at + 1) (entry_checksum key value) = after_stores_append words (stores_from from (words_of value)) (store_at (at + 1) (entry_checksum key value) ∷ []) in
    let all : List ℕ = slice_set mid (at + 1) (entry_checksum key value) in
    let all_long : length all ≡ length words = length-set mid (at + 1) (entry_checksum key value) ∙ long in
    let there : at + 1 < length mid = room_for at pk pv (length words) (length mid) long room in
    let head_kept : get_or all at 0 ≡ get_or words at 0 = get_or-set_other mid (at + 1) at (entry_checksum key value) 0 (one_off at) ∙ after_other words from (words_of value) at (inl (below at pk)) in
    let key_kept : (j : ℕ) → j < pk → get_or all (at + 2 + j) 0 ≡ get_or words (at + 2 + j) 0
    = λ j inside. get_or-set_other mid (at + 1) (at + 2 + j) (entry_checksum key value) 0 (behind at j) ∙ after_other words from (words_of value) (at + 2 + j) (inl (before at pk j inside)) in
    let value_here : (j : ℕ) → j < pv → get_or all (from + j) 0 ≡ get_or (words_of value) j 0
    = λ j inside. get_or-set_other mid (at + 1) (from + j) (entry_checksum key value) 0 (behind_key at pk j)
    ∙ after_here words from (words_of value) j (rw count room) (rw count inside) in
    let stand : EntryWords all at key value = record {
      head = head_kept ∙ head_is;
      stored_checksum = get_or-set_same mid (at + 1) (entry_checksum key value) 0 there;
      key_words = ap bytes_of (part_same all words (at + 2) pk (within at pk pv (length words) (length all) all_long room) (within at pk pv (length words) (length words) refl room) key_kept) ∙ key_is;
      value_words = ap bytes_of (part_is all (words_of value) from pv count (rw all_long room) value_here) ∙ bytes_of_words value small;
    } in
    rw end stand
  where
    room_for : (at pk pv n m : ℕ) → m ≡ n → at + 2 + pk + pv ≤ n → at + 1 < m
    room_for at pk pv n m e h = omega arith

    within : (at pk pv n m : ℕ) → m ≡ n → at + 2 + pk + pv ≤ n → at + 2 + pk ≤ m
    within at pk pv n m e h = omega arith

    one_off : (at : ℕ) → at ≢ at + 1
    one_off at = omega arith

    below : (at pk : ℕ) → at < at + 2 + pk
    below at pk = omega arith

    behind : (at j : ℕ) → at + 2 + j ≢ at + 1
    behind at j = omega arith

    before : (at pk j : ℕ) → j < pk → at + 2 + j < at + 2 + pk
    before at pk j h = omega arith

    behind_key : (at pk j : ℕ) → at + 2 + pk + j ≢ at + 1
    behind_key at pk j = omega arith

-- the stores of an entry
pub entry_stored : (words : List ℕ) (at : ℕ) (key value : List ℕ) → AreBytes key → AreBytes value → at + 2 + parts_for 8 (length key) + parts_for 8 (length value) ≤ length words
    → EntryWords (after_stores words (entry_stores at key value)) at key value
unfolding entry_stores
entry_stored words at key value key_small value_small room =
    let pk : ℕ = parts_for 8 (length key) in
    let pv : ℕ = parts_for 8 (length value) in
    let first : List ℕ = slice_set words at (head_of key value) in
    let mid : List ℕ = after_stores first (stores_from (at + 2) (words_of key)) in
    let first_long : length first ≡ length words = length-set words at (head_of key value) in
    let long : length mid ≡ length words = after_len first (stores_from (at + 2) (words_of key)) ∙ first_long in
    let count : length (words_of key) ≡ pk = words_len key in
    let there : at < length words = room_for at pk pv (length words) room in
    let head_is : get_or mid at 0 ≡ head_of key value = after_other first (at + 2) (words_of key) at (inl (below at)) ∙ get_or-set_same words at (head_of key value) 0 there in
    let inside : at + 2 + length (words_of key) ≤ length first = rw (count, first_long) (within at pk pv (length words) room) in
    let key_is : take pk (drop (at + 2) mid) ≡ words_of key
    = part_is mid (words_of key) (at + 2) pk count (rw long (within at pk pv (length words) room)) (λ j h. after_here first (at + 2) (words_of key) j inside (rw count h)) in
    rw (after_stores_append first (stores_from (at + 2) (words_of key)) (value_stores at key value))
    (value_stored mid at key value value_small (rw long room) head_is (ap bytes_of key_is ∙ bytes_of_words key key_small))
  where
    room_for : (at pk pv n : ℕ) → at + 2 + pk + pv ≤ n → at < n
    room_for at pk pv n h = omega arith

    within : (at pk pv n : ℕ) → at + 2 + pk + pv ≤ n → at + 2 + pk ≤ n
    within at pk pv n h = omega arith

    below : (at : ℕ) → at < at + 2
    below at = omega arith

-- an entry that stands at a chunk has its words there
pub stood : (geo : Geo) (words : List ℕ) (place chunk : ℕ) (key value : List ℕ) → length words ≡ words_in_segment geo → place < geo.tiers → HasEntry geo words place chunk key value → EntryWords words (chunk_at geo place chunk) key value
unfolding reading_at entry_checksum
stood geo words place chunk key value length_is low has =
    let at : ℕ = chunk_at geo place chunk in
    let head : ℕ = get_or words at 0 in
    let key_is : List ℕ = key_bytes geo words place chunk head in
    let value_is : List ℕ = value_bytes geo words place chunk head in
    let read : IsRead geo chunk head (get_or words (at + 1) 0) key_is value_is (record { key = key; value = value })
    = is_read geo chunk head (get_or words (at + 1) 0) key_is value_is (record { key = key; value = value }) has in
    let pk : ℕ = parts_for 8 (key_len head) in
    let pv : ℕ = parts_for 8 (value_len head) in
    let run : chunk + need geo (key_len head) (value_len head) ≤ geo.chunks = run_of (key_len head) (value_len head) (need geo (key_len head) (value_len head)) chunk geo.chunks read.fit in
    let room = inside_run geo place chunk (key_len head) (value_len head) low run in
    let key_room : pk ≤ length (drop (at + 2 + 0) words) = key_by at pk pv (words_in_segment geo) (length words) (length (drop (at + 2 + 0) words)) length_is (length-drop (at + 2 + 0) words) room in
    let value_room : pv ≤ length (drop (at + 2 + pk) words) = value_by at pk pv (words_in_segment geo) (length words) (length (drop (at + 2 + pk) words)) length_is (length-drop (at + 2 + pk) words) room in
    let key_size : length key_is ≡ 8 * pk = bytes_len (take pk (drop (at + 2 + 0) words)) ∙ ap (λ (n : ℕ). 8 * n) (length-take-le pk (drop (at + 2 + 0) words) key_room) in
    let value_size : length value_is ≡ 8 * pv = bytes_len (take pv (drop (at + 2 + pk) words)) ∙ ap (λ (n : ℕ). 8 * n) (length-take-le pv (drop (at + 2 + pk) words) value_room) in
    let key_padded : key_is ≡ padded key = padded_is (key_len head) key_is key_size read.key_padded ∙ ap padded (sym read.key_is) in
    let value_padded : value_is ≡ padded value = padded_is (value_len head) value_is value_size read.value_padded ∙ ap padded (sym read.value_is) in
    let key_length : length key ≡ key_len head = ap (λ (l : List ℕ). length l) read.key_is ∙ length-take-le (key_len head) key_is (whole_words (key_len head) (length key_is) key_size) in
    let value_length : length value ≡ value_len head = ap (λ (l : List ℕ). length l) read.value_is ∙ length-take-le (value_len head) value_is (whole_words (value_len head) (length value_is) value_size) in
    let head_is : head ≡ head_of key value = halves head (length key) (length value) key_length value_length in
    record {
      head = head_is;
      stored_checksum = sym read.sum_is ∙ same_sum head (head_of key value) key_is (padded key) value_is (padded value) head_is key_padded value_padded;
      key_words = ap (λ (n : ℕ). bytes_of (take (parts_for 8 n) (drop (at + 2) words))) key_length ∙ (ap (λ (a : ℕ). bytes_of (take pk (drop a words))) (nothing (at + 2)) ∙ key_padded);
      value_words = ap (λ (n : ℕ). bytes_of (take (parts_for 8 (length value)) (drop (at + 2 + parts_for 8 n) words))) key_length
          ∙ (ap (λ (n : ℕ). bytes_of (take (parts_for 8 n) (drop (at + 2 + pk) words))) value_length ∙ value_padded);
    }
  where
    nothing : (n : ℕ) → n ≡ n + 0
    nothing n = omega arith

    run_of : (k v n chunk chunks : ℕ) → (nat_le 1 k && (nat_le k 256 && (nat_le v 4096 && (nat_le n 64 && nat_le (chunk + n) chunks)))) ≡ true → chunk + n ≤ chunks
    run_of k v n chunk chunks fit = grind (arith, nat_tests)

    key_by : (at pk pv range len rest : ℕ) → len ≡ range → rest ≡ len - (at + 2 + 0) → at + 2 + pk + pv ≤ range → pk ≤ rest
    key_by at pk pv range len rest e e' h = omega arith

    value_by : (at pk pv range len rest : ℕ) → len ≡ range → rest ≡ len - (at + 2 + pk) → at + 2 + pk + pv ≤ range → pv ≤ rest
    value_by at pk pv range len rest e e' h = omega arith

    halves : (head key value : ℕ) → key ≡ head % 2 ^ 32 → value ≡ head / 2 ^ 32 → head ≡ key + 2 ^ 32 * value
    halves head key value e e' = omega arith

    same_sum : (head head' : ℕ) (key key' value value' : List ℕ) → head ≡ head' → key ≡ key' → value ≡ value' → checksum head key value ≡ checksum head' key' value'
    same_sum head head' key key' value value' e f g = rw (e, f, g) refl

-- the stores of another value, where an entry of the key stands
pub value_replaced : (geo : Geo) (words : List ℕ) (place chunk : ℕ) (key value : List ℕ) → AreBytes value → HasRoom geo place chunk key value → length words ≡ words_in_segment geo → HasKey geo words place chunk key
    → EntryWords (after_stores words (replacing_stores (chunk_at geo place chunk) key value words)) (chunk_at geo place chunk) key value
unfolding replacing_stores
value_replaced geo words place chunk key value small room length_is has =
    let at : ℕ = chunk_at geo place chunk in
    let head : ℕ = head_of key value in
    let inside = inside_run geo place chunk (length key) (length value) room.place_low room.run in
    let key_is = (stood geo words place chunk key has.0 length_is room.place_low has.1).key_words in
    let pk : ℕ = parts_for 8 (length key) in
    let pv : ℕ = parts_for 8 (length value) in
    rw (after_stores_append words (head_stores at head words) (value_stores at key value))
    (elim (eqb_tells (get_or words at 0) head) [
      | inl same ↦ rw same.0 (value_stored words at key value small (rw length_is inside) same.1 key_is)
      | inr other ↦ rw other.0 (value_stored (slice_set words at head) at key value small
          (rw (length-set words at head, length_is) inside)
          (get_or-set_same words at head 0 (room_for at pk pv (words_in_segment geo) (length words) length_is inside))
          (ap bytes_of (part_same (slice_set words at head) words (at + 2) pk (within at pk pv (words_in_segment geo) (length (slice_set words at head)) (length-set words at head ∙ length_is) inside)
          (within at pk pv (words_in_segment geo) (length words) length_is inside) (λ j h. get_or-set_other words at (at + 2 + j) head 0 (behind at j))) ∙ key_is))
    ])
  where
    room_for : (at pk pv n m : ℕ) → m ≡ n → at + 2 + pk + pv ≤ n → at < m
    room_for at pk pv n m e h = omega arith

    within : (at pk pv n m : ℕ) → m ≡ n → at + 2 + pk + pv ≤ n → at + 2 + pk ≤ m
    within at pk pv n m e h = omega arith

    behind : (at j : ℕ) → at + 2 + j ≢ at
    behind at j = omega arith
