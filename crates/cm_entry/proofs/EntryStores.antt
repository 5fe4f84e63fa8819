-- Stores of entries over a memory.
use Rattle.std.proofs.Common.{◌≡◌, ◌≢◌, ℕ, ◌+◌, ◌<◌, ◌≤◌, ◌++◌, List, [], ◌∷◌, length, take, drop, get_or, refl, ap, sym, ◌∙◌, subst, arith, inl, inr, append_assoc}
use Rattle.std.specs.Int.{to_le_bytes, w64}
use Rattle.std.proofs.lemmas.List.{take_all}
use Rattle.std.proofs.lemmas.Bool.Decides.{eqb_tells}
use Rattle.cm_geo.specs.declared.geo.Geo.{Geo}
use Rattle.cm_geo.specs.Addresses.{chunk_at, words_in_segment}
use Rattle.cm_geo.specs.Hash.{hash}
use Rattle.cm_geo.proofs.AddressOrder.{chunks_behind_head}
use Rattle.cm_geo.specs.Need.{parts_for}
use Rattle.cm_plain.specs.Readings.{HasEntry, entry_checksum, head_of, padded}
use Rattle.cm_words.specs.declared.access.Access.TheVariants.{Writable}
use Rattle.cm_words.specs.Calls.{IsWritable}
use Rattle.cm_words.specs.Memory.{FitsNotes, MayStore, MemSeen, Setting, origin}
use Rattle.cm_words.specs.Effects.{Keeps, Knows, Reads}
use Rattle.cm_words.specs.Stores.{AllowsAll, Leads, MayStoreAll, MayStoreEach, WordStore, Writes, WritesEach, WritesPrefix, WritesPrefixEach, after_stores, store_at}
use Rattle.cm_words.proofs.FittingLists.{known_word}
use Rattle.cm_words.proofs.ListChanges.{changes_as, changes_then}
use Rattle.cm_words.proofs.StoreLists.{allows_at, leads_append, leads_none, leads_same, may_one, may_prefix, may_prefix_each, may_store_after, may_suffix, may_suffix_each, prefix_each_then, prefix_first, prefix_some, prefix_then, reads_writes, writes_append}
use Rattle.cm_entry.specs.Packing.{hash_on, part_of, word_of, words_of}
use Rattle.cm_entry.specs.EntryStores.{AreStorable, HasRoom, IsStorable, LeadsReplacement, Replaces, entry_stores, head_stores, replacing_stores, stores_from, value_stores}
use Rattle.cm_entry.proofs.Packing.{AreBytes, hash_append, word_in_words, words_len}
use Rattle.cm_entry.proofs.WordStores.{stores_more, stores_split}
use Rattle.cm_entry.proofs.StoredEntries.{entry_stored, inside_run, value_replaced, words_stand}

-- ---- the words of bytes

-- the store of the next word may be made
pub may_store_next : (old now : MemSeen) (at number word : ℕ) (bytes : List ℕ) → number < parts_for 8 (length bytes) → word ≡ word_of (part_of bytes number)
    → MayStoreAll old (stores_from at (words_of bytes)) → Writes old now (stores_from at (take number (words_of bytes))) → MayStore now (at + number) word
may_store_next old now at number word bytes inside word_is may writes =
    let there : number < length (words_of bytes) = rw (words_len bytes) inside in
    let is : get_or (words_of bytes) number 0 ≡ word = word_in_words bytes number inside ∙ sym word_is in
    let may' : MayStoreAll old (stores_from at (take number (words_of bytes)) ++ store_at (at + number) (get_or (words_of bytes) number 0) ∷ stores_from (at + number + 1) (drop (number + 1) (words_of bytes)))
    = subst (λ (stores : List WordStore). MayStoreAll old stores) (stores_split at number (words_of bytes) there) may in
    subst (λ (w : ℕ). MayStore now (at + number) w) is
    (may_store_after old now (stores_from at (take number (words_of bytes))) (stores_from (at + number + 1) (drop (number + 1) (words_of bytes))) (at + number) (get_or (words_of bytes) number 0) may' writes)

-- it was made
pub writes_next : (old mid now : MemSeen) (at number word : ℕ) (bytes : List ℕ) → number < parts_for 8 (length bytes) → word ≡ word_of (part_of bytes number)
    → Writes old mid (stores_from at (take number (words_of bytes))) → Writes mid now (store_at (at + number) word ∷ []) → Writes old now (stores_from at (take (number + 1) (words_of bytes)))
writes_next old mid now at number word bytes inside word_is so_far next =
    let there : number < length (words_of bytes) = rw (words_len bytes) inside in
    let is : word ≡ get_or (words_of bytes) number 0 = word_is ∙ sym (word_in_words bytes number inside) in
    let next' : Writes mid now (store_at (at + number) (get_or (words_of bytes) number 0) ∷ []) = subst (λ (w : ℕ). Writes mid now (store_at (at + number) w ∷ [])) is next in
    subst (λ (stores : List WordStore). Writes old now stores) (sym (stores_more at number (words_of bytes) there))
    (writes_append old mid now (stores_from at (take number (words_of bytes))) (store_at (at + number) (get_or (words_of bytes) number 0) ∷ []) so_far next')

-- all were made
pub writes_all : (old now : MemSeen) (at number : ℕ) (bytes : List ℕ) → parts_for 8 (length bytes) ≤ number → Writes old now (stores_from at (take number (words_of bytes))) → Writes old now (stores_from at (words_of bytes))
writes_all old now at number bytes all so_far =
    let long : length (words_of bytes) ≤ number = rw (words_len bytes) all in
    subst (λ (words : List ℕ). Writes old now (stores_from at words)) (take_all number (words_of bytes) long) so_far

-- the next one was not made
pub prefix_next : (old mid now : MemSeen) (at number : ℕ) (bytes : List ℕ) → number < parts_for 8 (length bytes)
    → Writes old mid (stores_from at (take number (words_of bytes))) → Reads mid now → WritesPrefix old now (stores_from at (words_of bytes))
prefix_next old mid now at number bytes inside so_far reads =
    let there : number < length (words_of bytes) = rw (words_len bytes) inside in
    subst (λ (stores : List WordStore). WritesPrefix old now stores) (sym (stores_split at number (words_of bytes) there))
    (prefix_some old mid now (stores_from at (take number (words_of bytes))) (store_at (at + number) (get_or (words_of bytes) number 0) ∷ stores_from (at + number + 1) (drop (number + 1) (words_of bytes))) so_far reads)

-- ---- the first word

-- the first word differs, and may be stored
pub may_store_head : (old now : MemSeen) (at head stood : ℕ) → 1 < at → Reads old now → Knows now at stood → stood ≢ head → MayStoreEach old (head_stores at head) → MayStore now at head
may_store_head old now at head stood behind reads knows differ may words fits =
    let here = known_word now at at stood behind refl knows words fits in
    elim (eqb_tells (get_or words at 0) head) [
      | inl same ↦ absurd (differ (sym here ∙ same.1))
      | inr other ↦ (
          let allows : AllowsAll old.setting old.plan (origin old words) words (store_at at head ∷ []) = rw other.0 at (may words (reads.fits words fits)) in
          (allows_at old now (origin old words) (origin now words) words words (store_at at head ∷ []) reads.keeps (reads.origin words fits) refl allows).0)
    ]

-- it stands there, and was not stored
pub head_stays : (old now : MemSeen) (at head stood : ℕ) → 1 < at → Reads old now → Knows now at stood → stood ≡ head → WritesEach old now (head_stores at head)
head_stays old now at head stood inner reads knows same = record {
  keeps = reads.keeps;
  came = λ words fits. (
    words,
    record {
      fits = reads.fits words fits;
      origin = reads.origin words fits;
      relates = leads_same old now [] (head_stores at head words) words words (no_store words (known_word now at at stood inner refl knows words fits ∙ same)) (leads_none old now words reads.no_store);
    },
  );
  noted = reads.noted;
}
  where
    no_store : (words : List ℕ) → get_or words at 0 ≡ head → head_stores at head words ≡ []
    no_store words here = elim (eqb_tells (get_or words at 0) head) [
      | inl yes' ↦ rw yes'.0 refl
      | inr other ↦ absurd (other.1 here)
    ]

-- it differed, and was stored
pub head_stored : (old mid now : MemSeen) (at head stood : ℕ) → 1 < at → Reads old mid → Knows mid at stood → stood ≢ head → Writes mid now (store_at at head ∷ []) → WritesEach old now (head_stores at head)
head_stored old mid now at head stood inner reads knows differ writes =
    reads_writes old mid now (head_stores at head) reads
    (changes_as mid now (Leads mid now (store_at at head ∷ [])) (λ before words. Leads mid now (head_stores at head before) before words) writes
    (λ before words fits leads.
    leads_same mid now (store_at at head ∷ []) (head_stores at head before) before words (one_store before (λ same. differ (sym (known_word mid at at stood inner refl knows before fits) ∙ same))) leads))
  where
    one_store : (before : List ℕ) → get_or before at 0 ≢ head → head_stores at head before ≡ store_at at head ∷ []
    one_store before ne = elim (eqb_tells (get_or before at 0) head) [
      | inl yes' ↦ absurd (ne yes'.1)
      | inr other ↦ rw other.0 refl
    ]

-- ---- the checksum

-- a hash over the value, behind one over the first word and the key, is the checksum
pub checksum_is : (key value : List ℕ) (so_far stored_checksum : ℕ) → so_far ≡ hash (to_le_bytes w64 (head_of key value) ++ padded key) → stored_checksum ≡ hash_on so_far (padded value) → stored_checksum ≡ entry_checksum key value
unfolding entry_checksum
checksum_is key value so_far stored_checksum e f =
    f ∙ (ap (λ (h : ℕ). hash_on h (padded value)) e ∙ (hash_append (to_le_bytes w64 (head_of key value) ++ padded key) (padded value)
    ∙ ap hash (append_assoc (to_le_bytes w64 (head_of key value)) (padded key) (padded value))))

-- and one over the key behind one over the first word
pub so_far_is : (key value : List ℕ) (head over_head over_key : ℕ) → head ≡ head_of key value → over_head ≡ hash (to_le_bytes w64 head) → over_key ≡ hash_on over_head (padded key) → over_key ≡ hash (to_le_bytes w64 (head_of key value) ++ padded key)
so_far_is key value head over_head over_key e f h =
    h ∙ (ap (λ (s : ℕ). hash_on s (padded key)) (f ∙ ap (λ (n : ℕ). hash (to_le_bytes w64 n)) e) ∙ hash_append (to_le_bytes w64 (head_of key value)) (padded key))

-- ---- what stands then

-- the entry was stored
pub entry_stands : (old now : MemSeen) (geo : Geo) (place chunk : ℕ) (key value : List ℕ) → old.setting.geo ≡ geo → AreBytes key → AreBytes value → HasRoom geo place chunk key value
    → Writes old now (entry_stores (chunk_at geo place chunk) key value) → (words : List ℕ) → FitsNotes now words → HasEntry geo words place chunk key value
entry_stands old now geo place chunk key value geo_is key_small value_small room writes words fits =
    let came = writes.came words fits in
    let length_is : length came.0 ≡ words_in_segment geo = came.1.fits.are.length_is ∙ ap words_in_segment geo_is in
    let inside : chunk_at geo place chunk + 2 + parts_for 8 (length key) + parts_for 8 (length value) ≤ length came.0 = rw length_is (inside_run geo place chunk (length key) (length value) room.place_low room.run) in
    subst (λ (w : List ℕ). HasEntry geo w place chunk key value) came.1.relates.leads
    (words_stand geo (after_stores came.0 (entry_stores (chunk_at geo place chunk) key value)) place chunk key value room (entry_stored came.0 (chunk_at geo place chunk) key value key_small value_small inside))

-- the value was stored behind the first word
pub value_stands : (old mid now : MemSeen) (geo : Geo) (place chunk : ℕ) (key value : List ℕ) → old.setting.geo ≡ geo → AreBytes value → HasRoom geo place chunk key value
    → WritesEach old mid (head_stores (chunk_at geo place chunk) (head_of key value)) → Writes mid now (value_stores (chunk_at geo place chunk) key value) → Replaces old now geo place chunk key value
unfolding replacing_stores
value_stands old mid now geo place chunk key value geo_is small room heads writes =
    let at : ℕ = chunk_at geo place chunk in
    changes_then old mid now (λ before words. Leads old mid (head_stores at (head_of key value) before) before words) (Leads mid now (value_stores at key value)) (LeadsReplacement old now geo place chunk key value) heads writes
    (λ before between words fits first then.
    let by = leads_append old mid now (head_stores at (head_of key value) before) (value_stores at key value) before between words first then in
    let length_is : length before ≡ words_in_segment geo = fits.are.length_is ∙ ap words_in_segment geo_is in
    record {
      by = by;
      stands = λ has. subst (λ (w : List ℕ). HasEntry geo w place chunk key value) by.leads
          (words_stand geo _ place chunk key value room (value_replaced geo before place chunk key value small room length_is has));
    })

-- ---- the addresses

-- the words of an entry stand behind the head of the segment
pub behind_heads : (geo : Geo) (place chunk at : ℕ) → at ≡ chunk_at geo place chunk → 1 < at
behind_heads geo place chunk at e = omega (arith, chunks_behind_head geo place chunk)

-- and are words of the segment
pub room_in : (m : MemSeen) (geo : Geo) (place chunk at : ℕ) (key value : List ℕ) → m.setting.geo ≡ geo → at ≡ chunk_at geo place chunk → HasRoom geo place chunk key value
    → at + 2 + parts_for 8 (length key) + parts_for 8 (length value) ≤ words_in_segment m.setting.geo
room_in m geo place chunk at key value e f room = rw (e, f) (inside_run geo place chunk (length key) (length value) room.place_low room.run)

-- so the first word may be stored
pub storable_head : (m : MemSeen) (geo : Geo) (place chunk at : ℕ) (key value : List ℕ) → IsWritable m geo → HasRoom geo place chunk key value → at ≡ chunk_at geo place chunk → AreStorable m at 8
storable_head m geo place chunk at key value writable room e = record {
  writable = writable.writable;
  inner = behind_heads geo place chunk at e;
  within_limit = omega arith;
  in_range = omega (arith, room_in m geo place chunk at key value writable.geo_is e room);
}

-- and, after other stores, the words of the value
pub storable_value : (a b : MemSeen) (geo : Geo) (place chunk at : ℕ) (key value : List ℕ) → IsWritable a geo → HasRoom geo place chunk key value → Keeps a b → at ≡ chunk_at geo place chunk → IsStorable b at key value
storable_value a b geo place chunk at key value writable room kept e = record {
  writable = subst (λ (setting : Setting). setting.access ≡ Writable) (sym kept.setting) writable.writable;
  inner = behind_heads geo place chunk at e;
  lengths = record { key_short = room.fits.key_short; value_short = room.fits.value_short };
  in_range = room_in b geo place chunk at key value (ap (λ (setting : Setting). setting.geo) kept.setting ∙ writable.geo_is) e room;
}

-- and those of the key
pub storable_key : (a b : MemSeen) (geo : Geo) (place chunk at : ℕ) (key value : List ℕ) → IsWritable a geo → HasRoom geo place chunk key value → Keeps a b → at ≡ chunk_at geo place chunk → AreStorable b (at + 2) (length key)
storable_key a b geo place chunk at key value writable room kept e =
    let storable = storable_value a b geo place chunk at key value writable room kept e in
    record { writable = storable.writable; inner = omega arith; within_limit = omega (arith, room.fits.key_short); in_range = omega (arith, storable.in_range) }

-- ---- the parts of the stores of a value

-- its words, where they begin
pub may_value_words : (m : MemSeen) (at from : ℕ) (key value : List ℕ) → from ≡ at + 2 + parts_for 8 (length key) → MayStoreAll m (value_stores at key value) → MayStoreAll m (stores_from from (words_of value))
unfolding value_stores
may_value_words m at from key value e may =
    subst (λ (n : ℕ). MayStoreAll m (stores_from n (words_of value))) (sym e) (may_prefix m (stores_from (at + 2 + parts_for 8 (length key)) (words_of value)) (store_at (at + 1) (entry_checksum key value) ∷ []) may)

pub prefix_value_words : (a b : MemSeen) (at from : ℕ) (key value : List ℕ) → from ≡ at + 2 + parts_for 8 (length key) → WritesPrefix a b (stores_from from (words_of value)) → WritesPrefix a b (value_stores at key value)
unfolding value_stores
prefix_value_words a b at from key value e prefix =
    prefix_first a b (stores_from (at + 2 + parts_for 8 (length key)) (words_of value)) (store_at (at + 1) (entry_checksum key value) ∷ []) (subst (λ (n : ℕ). WritesPrefix a b (stores_from n (words_of value))) e prefix)

-- and the checksum behind them
pub may_checksum : (a b : MemSeen) (at from stored_checksum : ℕ) (key value : List ℕ) → from ≡ at + 2 + parts_for 8 (length key) → stored_checksum ≡ entry_checksum key value
    → MayStoreAll a (value_stores at key value) → Writes a b (stores_from from (words_of value)) → MayStore b (at + 1) stored_checksum
unfolding value_stores
may_checksum a b at from stored_checksum key value e checksum_is' may writes =
    let writes' : Writes a b (stores_from (at + 2 + parts_for 8 (length key)) (words_of value)) = subst (λ (n : ℕ). Writes a b (stores_from n (words_of value))) e writes in
    subst (λ (s : ℕ). MayStore b (at + 1) s) (sym checksum_is')
    (may_one b (at + 1) (entry_checksum key value) (may_suffix a b (stores_from (at + 2 + parts_for 8 (length key)) (words_of value)) (store_at (at + 1) (entry_checksum key value) ∷ []) may writes'))

pub prefix_checksum : (a b c : MemSeen) (at from : ℕ) (key value : List ℕ) → from ≡ at + 2 + parts_for 8 (length key) → Writes a b (stores_from from (words_of value)) → Reads b c → WritesPrefix a c (value_stores at key value)
unfolding value_stores
prefix_checksum a b c at from key value e writes reads =
    prefix_some a b c (stores_from (at + 2 + parts_for 8 (length key)) (words_of value)) (store_at (at + 1) (entry_checksum key value) ∷ []) (subst (λ (n : ℕ). Writes a b (stores_from n (words_of value))) e writes) reads

pub writes_value : (a b c : MemSeen) (at from stored_checksum : ℕ) (key value : List ℕ) → from ≡ at + 2 + parts_for 8 (length key) → stored_checksum ≡ entry_checksum key value
    → Writes a b (stores_from from (words_of value)) → Writes b c (store_at (at + 1) stored_checksum ∷ []) → Writes a c (value_stores at key value)
unfolding value_stores
writes_value a b c at from stored_checksum key value e checksum_is' writes last =
    writes_append a b c (stores_from (at + 2 + parts_for 8 (length key)) (words_of value)) (store_at (at + 1) (entry_checksum key value) ∷ [])
    (subst (λ (n : ℕ). Writes a b (stores_from n (words_of value))) e writes) (subst (λ (s : ℕ). Writes b c (store_at (at + 1) s ∷ [])) checksum_is' last)

-- ---- the parts of the stores of an entry

-- all but the first word's
abbrev behind_head : ℕ → List ℕ → List ℕ → List WordStore
behind_head at key value = stores_from (at + 2) (words_of key) ++ value_stores at key value

pub may_first : (m : MemSeen) (at head : ℕ) (key value : List ℕ) → head ≡ head_of key value → MayStoreAll m (entry_stores at key value) → MayStore m at head
unfolding entry_stores
may_first m at head key value e may = subst (λ (n : ℕ). MayStore m at n) (sym e) (may_one m at (head_of key value) (may_prefix m (store_at at (head_of key value) ∷ []) (behind_head at key value) may))

behind_first : (a b : MemSeen) (at head : ℕ) (key value : List ℕ) → head ≡ head_of key value → MayStoreAll a (entry_stores at key value) → Writes a b (store_at at head ∷ []) → MayStoreAll b (behind_head at key value)
unfolding entry_stores
behind_first a b at head key value e may first =
    may_suffix a b (store_at at (head_of key value) ∷ []) (behind_head at key value) may (subst (λ (n : ℕ). Writes a b (store_at at n ∷ [])) e first)

pub may_key_words : (a b : MemSeen) (at head : ℕ) (key value : List ℕ) → head ≡ head_of key value → MayStoreAll a (entry_stores at key value) → Writes a b (store_at at head ∷ []) → MayStoreAll b (stores_from (at + 2) (words_of key))
may_key_words a b at head key value e may first = may_prefix b (stores_from (at + 2) (words_of key)) (value_stores at key value) (behind_first a b at head key value e may first)

pub may_value : (a b c : MemSeen) (at head : ℕ) (key value : List ℕ) → head ≡ head_of key value → MayStoreAll a (entry_stores at key value) → Writes a b (store_at at head ∷ []) → Writes b c (stores_from (at + 2) (words_of key)) → MayStoreAll c (value_stores at key value)
may_value a b c at head key value e may first writes = may_suffix b c (stores_from (at + 2) (words_of key)) (value_stores at key value) (behind_first a b at head key value e may first) writes

-- the first word was stored, and some of the others
prefix_entry : (a b c : MemSeen) (at head : ℕ) (key value : List ℕ) → head ≡ head_of key value → Writes a b (store_at at head ∷ []) → WritesPrefix b c (behind_head at key value) → WritesPrefix a c (entry_stores at key value)
unfolding entry_stores
prefix_entry a b c at head key value e first prefix = prefix_then a b c (store_at at (head_of key value) ∷ []) (behind_head at key value) (subst (λ (n : ℕ). Writes a b (store_at at n ∷ [])) e first) prefix

pub prefix_key_words : (a b c : MemSeen) (at head : ℕ) (key value : List ℕ) → head ≡ head_of key value → Writes a b (store_at at head ∷ []) → WritesPrefix b c (stores_from (at + 2) (words_of key)) → WritesPrefix a c (entry_stores at key value)
prefix_key_words a b c at head key value e first prefix = prefix_entry a b c at head key value e first (prefix_first b c (stores_from (at + 2) (words_of key)) (value_stores at key value) prefix)

-- the first word and the key's words are stored
entry_stores_join : (at head : ℕ) (key value : List ℕ) → head ≡ head_of key value → entry_stores at key value ≡ (store_at at head ∷ stores_from (at + 2) (words_of key)) ++ value_stores at key value
unfolding entry_stores
entry_stores_join at head key value e = rw e refl

-- and some of a value's words behind them
pub prefix_after_key : (a b c : MemSeen) (at head : ℕ) (key value : List ℕ) → head ≡ head_of key value → Writes a b (store_at at head ∷ stores_from (at + 2) (words_of key)) → WritesPrefix b c (value_stores at key value) → WritesPrefix a c (entry_stores at key value)
prefix_after_key a b c at head key value e first prefix =
    subst (λ (stores : List WordStore). WritesPrefix a c stores) (sym (entry_stores_join at head key value e)) (prefix_then a b c (store_at at head ∷ stores_from (at + 2) (words_of key)) (value_stores at key value) first prefix)

-- and all of them
pub writes_joined : (a b c : MemSeen) (at head : ℕ) (key value : List ℕ) → head ≡ head_of key value → Writes a b (store_at at head ∷ stores_from (at + 2) (words_of key)) → Writes b c (value_stores at key value) → Writes a c (entry_stores at key value)
writes_joined a b c at head key value e first last =
    subst (λ (stores : List WordStore). Writes a c stores) (sym (entry_stores_join at head key value e)) (writes_append a b c (store_at at head ∷ stores_from (at + 2) (words_of key)) (value_stores at key value) first last)

-- ---- the parts of the stores of another value

pub may_head : (m : MemSeen) (at head : ℕ) (key value : List ℕ) → head ≡ head_of key value → MayStoreEach m (replacing_stores at key value) → MayStoreEach m (head_stores at head)
unfolding replacing_stores
may_head m at head key value e may = subst (λ (n : ℕ). MayStoreEach m (head_stores at n)) (sym e) (may_prefix_each m (head_stores at (head_of key value)) (value_stores at key value) may)

pub may_value_each : (a b : MemSeen) (at head : ℕ) (key value : List ℕ) → head ≡ head_of key value → MayStoreEach a (replacing_stores at key value) → WritesEach a b (head_stores at head) → MayStoreAll b (value_stores at key value)
unfolding replacing_stores
may_value_each a b at head key value e may heads =
    may_suffix_each a b (head_stores at (head_of key value)) (value_stores at key value) may (subst (λ (n : ℕ). WritesEach a b (head_stores at n)) e heads)

pub prefix_replaced : (a b c : MemSeen) (at head : ℕ) (key value : List ℕ) → head ≡ head_of key value → WritesEach a b (head_stores at head) → WritesPrefix b c (value_stores at key value) → WritesPrefixEach a c (replacing_stores at key value)
unfolding replacing_stores
prefix_replaced a b c at head key value e heads prefix =
    prefix_each_then a b c (head_stores at (head_of key value)) (value_stores at key value) (subst (λ (n : ℕ). WritesEach a b (head_stores at n)) e heads) prefix
