-- Stores, also those that depend on the words in which they are made: what they lead to, which are allowed, and which were made.
use Rattle.std.proofs.Common.{◌≡◌, ℕ, ◌<◌, List, [], ◌∷◌, ◌++◌, slice_set, Option, true, false, refl, sym, subst, ap, ◌∙◌, append_assoc, length-append, arith}
use Rattle.cm_plain.specs.Changes.{Change}
use Rattle.cm_plain.specs.Slots.{word_at}
use Rattle.cm_words.specs.Memory.{IsAllowed, MayStore, MemSeen, Setting, origin}
use Rattle.cm_words.specs.Effects.{Keeps, Knows, Reads}
use Rattle.cm_words.specs.Stores.{AllowsAll, Leads, LeadsPrefix, MayStoreAll, MayStoreEach, WordStore, Writes, WritesEach, WritesPrefix, WritesPrefixEach, after_stores, store_at}
use Rattle.cm_words.proofs.FittingLists.{reads_reflexive}
use Rattle.cm_words.proofs.ListChanges.{changes_as, changes_none, changes_reads, changes_then, reads_changes}

-- ---- what stores lead to

pub after_stores_append : (words : List ℕ) (ss ts : List WordStore) → after_stores words (ss ++ ts) ≡ after_stores (after_stores words ss) ts
after_stores_append words [] ts = refl
after_stores_append words (s ∷ ss) ts = after_stores_append (slice_set words s.at s.word) ss ts

pub leads_none : (a b : MemSeen) (words : List ℕ) → b.meter.stores ≡ a.meter.stores → Leads a b [] words words
leads_none a b words same = record { leads = refl; counted = omega arith }

pub leads_append : (a b c : MemSeen) (ss ts : List WordStore) (x y z : List ℕ) → Leads a b ss x y → Leads b c ts y z → Leads a c (ss ++ ts) x z
leads_append a b c ss ts x y z p q = record {
  leads = after_stores_append x ss ts ∙ (ap (λ w. after_stores w ts) p.leads ∙ q.leads);
  counted = omega (arith, p.counted, q.counted, length-append ss ts);
}

-- loads after stores, and before them
pub leads_reads : (a b c : MemSeen) (ss : List WordStore) (x y : List ℕ) → Leads a b ss x y → Reads b c → Leads a c ss x y
leads_reads a b c ss x y p q = record { leads = p.leads; counted = q.no_store ∙ p.counted }

pub reads_leads : (a b c : MemSeen) (ss : List WordStore) (x y : List ℕ) → Reads a b → Leads b c ss x y → Leads a c ss x y
reads_leads a b c ss x y p q = record { leads = q.leads; counted = omega (arith, p.no_store, q.counted) }

-- the same stores by another name
pub leads_same : (a b : MemSeen) (ss ts : List WordStore) (x y : List ℕ) → ts ≡ ss → Leads a b ss x y → Leads a b ts x y
leads_same a b ss ts x y same p = subst (λ (stores : List WordStore). Leads a b stores x y) (sym same) p

-- ---- which stores are allowed

allows_prefix : (setting : Setting) (plan : Option Change) (o words : List ℕ) (ss ts : List WordStore) → AllowsAll setting plan o words (ss ++ ts) → AllowsAll setting plan o words ss
allows_prefix setting plan o words [] ts h = tt
allows_prefix setting plan o words (s ∷ ss) ts h = (h.0, allows_prefix setting plan o (slice_set words s.at s.word) ss ts h.1)

allows_suffix : (setting : Setting) (plan : Option Change) (o words : List ℕ) (ss ts : List WordStore) → AllowsAll setting plan o words (ss ++ ts) → AllowsAll setting plan o (after_stores words ss) ts
allows_suffix setting plan o words [] ts h = h
allows_suffix setting plan o words (s ∷ ss) ts h = allows_suffix setting plan o (slice_set words s.at s.word) ss ts h.1

allows_next : (setting : Setting) (plan : Option Change) (o words : List ℕ) (ss ts : List WordStore) (at word : ℕ) → AllowsAll setting plan o words (ss ++ store_at at word ∷ ts) → IsAllowed setting plan o (after_stores words ss) (slice_set (after_stores words ss) at word)
allows_next setting plan o words [] ts at word h = h.0
allows_next setting plan o words (s ∷ ss) ts at word h = allows_next setting plan o (slice_set words s.at s.word) ss ts at word h.1

allowed_at : (setting : Setting) (plan : Option Change) (o p xs ys : List ℕ) (at word : ℕ) → o ≡ p → xs ≡ ys → IsAllowed setting plan p xs (slice_set xs at word) → IsAllowed setting plan o ys (slice_set ys at word)
allowed_at setting plan o p xs ys at word e f h = rw (e, ← f) h

-- over a memory that has come from another one
pub allows_at : (old now : MemSeen) (o p xs ys : List ℕ) (ts : List WordStore) → Keeps old now → p ≡ o → xs ≡ ys → AllowsAll old.setting old.plan o xs ts → AllowsAll now.setting now.plan p ys ts
allows_at old now o p xs ys ts kept e f h = rw (kept.setting, kept.plan, e, ← f) h

-- stores are allowed where each one is, after those before it
pub allows_each : (setting : Setting) (plan : Option Change) (o words : List ℕ) (stores : List WordStore)
    → ((made left : List WordStore) (at word : ℕ) → made ++ store_at at word ∷ left ≡ stores → IsAllowed setting plan o (after_stores words made) (slice_set (after_stores words made) at word)) → AllowsAll setting plan o words stores
allows_each setting plan o words [] each = tt
allows_each setting plan o words (s ∷ stores) each = (
  each [] stores s.at s.word refl,
  allows_each setting plan o (slice_set words s.at s.word) stores (λ made left at word e. each (s ∷ made) left at word (ap (λ (ss : List WordStore). s ∷ ss) e)),
)

-- the first of stores that may be made may be made
pub may_prefix : (m : MemSeen) (ss ts : List WordStore) → MayStoreAll m (ss ++ ts) → MayStoreAll m ss
may_prefix m ss ts may words fits = allows_prefix m.setting m.plan (origin m words) words ss ts (may words fits)

-- and after them the others
pub may_suffix : (old now : MemSeen) (ss ts : List WordStore) → MayStoreAll old (ss ++ ts) → Writes old now ss → MayStoreAll now ts
may_suffix old now ss ts may writes words fits =
    let came = writes.came words fits in
    allows_at old now (origin old came.0) (origin now words) (after_stores came.0 ss) words ts writes.keeps came.1.origin came.1.relates.leads
    (allows_suffix old.setting old.plan (origin old came.0) came.0 ss ts (may came.0 came.1.fits))

-- the next one of stores that may be made may be made
pub may_store_after : (old now : MemSeen) (ss ts : List WordStore) (at word : ℕ) → MayStoreAll old (ss ++ store_at at word ∷ ts) → Writes old now ss → MayStore now at word
unfolding origin
may_store_after old now ss ts at word may writes words fits =
    let came = writes.came words fits in
    rw (writes.keeps.setting, writes.keeps.plan)
    (allowed_at old.setting old.plan (origin now words) (origin old came.0) (after_stores came.0 ss) words at word came.1.origin came.1.relates.leads
    (allows_next old.setting old.plan (origin old came.0) came.0 ss ts at word (may came.0 came.1.fits)))

-- one store of a list of one
pub may_one : (m : MemSeen) (at word : ℕ) → MayStoreAll m (store_at at word ∷ []) → MayStore m at word
may_one m at word may words fits = (may words fits).0

-- ---- which stores were made

pub writes_none : (m : MemSeen) → Writes m m []
writes_none m = changes_none m m (λ before words. Leads m m [] before words) (reads_reflexive m) (λ words. leads_none m m words refl)

-- stores, and stores after them
pub writes_append : (a b c : MemSeen) (ss ts : List WordStore) → Writes a b ss → Writes b c ts → Writes a c (ss ++ ts)
writes_append a b c ss ts p q = changes_then a b c (Leads a b ss) (Leads b c ts) (Leads a c (ss ++ ts)) p q (λ before mid words _ one two. leads_append a b c ss ts before mid words one two)

-- loads after stores
pub writes_reads : (a b c : MemSeen) (stores : List ℕ → List WordStore) → WritesEach a b stores → Reads b c → WritesEach a c stores
writes_reads a b c stores p q =
    changes_reads a b c (λ before words. Leads a b (stores before) before words) (λ before words. Leads a c (stores before) before words) p q
    (λ before words leads. leads_reads a b c (stores before) before words leads q)

-- stores after loads
pub reads_writes : (a b c : MemSeen) (stores : List ℕ → List WordStore) → Reads a b → WritesEach b c stores → WritesEach a c stores
reads_writes a b c stores p q =
    reads_changes a b c (λ before words. Leads b c (stores before) before words) (λ before words. Leads a c (stores before) before words) p q
    (λ before words leads. reads_leads a b c (stores before) before words p leads)

-- the same stores by another name
pub writes_same : (a b : MemSeen) (ss ts : List ℕ → List WordStore) → ((words : List ℕ) → ts words ≡ ss words) → WritesEach a b ss → WritesEach a b ts
writes_same a b ss ts same p =
    changes_as a b (λ before words. Leads a b (ss before) before words) (λ before words. Leads a b (ts before) before words) p
    (λ before words _ leads. leads_same a b (ss before) (ts before) before words (same before) leads)

pub may_store_same : (m : MemSeen) (ss ts : List ℕ → List WordStore) → ((words : List ℕ) → ts words ≡ ss words) → MayStoreEach m ts → MayStoreEach m ss
may_store_same m ss ts same may words fits = subst (λ (stores : List WordStore). AllowsAll m.setting m.plan (origin m words) words stores) (same words) (may words fits)

-- ---- one word, changed after it was loaded

-- the store of what is made of the word at an address
abbrev pub remade : ℕ → (ℕ → ℕ) → List ℕ → List WordStore
remade at make words = store_at at (make (word_at words at)) ∷ []

pub may_store_remade : (a b : MemSeen) (at found word : ℕ) (make : ℕ → ℕ) → MayStoreEach a (remade at make) → Reads a b → 0 < at → Knows b at found → word ≡ make found → MayStore b at word
may_store_remade a b at found word make may reads inner knows is words fits =
    let made : word ≡ make (word_at words at) = is ∙ ap make (sym (knows.here (λ _. inner) words fits)) in
    let all = allows_at a b (origin a words) (origin b words) words words (remade at make words) reads.keeps (reads.origin words fits) refl (may words (reads.fits words fits)) in
    subst (λ (w : ℕ). IsAllowed b.setting b.plan (origin b words) words (slice_set words at w)) (sym made) all.0

pub writes_remade : (a b c : MemSeen) (at found word : ℕ) (make : ℕ → ℕ) → Reads a b → 0 < at → Knows b at found → word ≡ make found → Writes b c (store_at at word ∷ []) → WritesEach a c (remade at make)
writes_remade a b c at found word make reads inner knows is writes =
    reads_writes a b c (remade at make) reads
    (changes_as b c (λ before words. Leads b c (store_at at word ∷ []) before words) (λ before words. Leads b c (remade at make before) before words) writes
    (λ before words fits leads.
    let made : word ≡ make (word_at before at) = is ∙ ap make (sym (knows.here (λ _. inner) before fits)) in
    subst (λ (w : ℕ). Leads b c (store_at at w ∷ []) before words) made leads))

-- ---- some stores, and then others

-- these stores are those, and then, in the list after them, the others
abbrev pub AreJoined : (List ℕ → List WordStore) → (List ℕ → List WordStore) → (List ℕ → List WordStore) → Type 0
AreJoined all first then = (words : List ℕ) → all words ≡ first words ++ then (after_stores words (first words))

pub may_store_first : (m : MemSeen) (all first then : List ℕ → List WordStore) → AreJoined all first then → MayStoreEach m all → MayStoreEach m first
may_store_first m all first then joined may words fits =
    allows_prefix m.setting m.plan (origin m words) words (first words) (then (after_stores words (first words)))
    (subst (λ (stores : List WordStore). AllowsAll m.setting m.plan (origin m words) words stores) (joined words) (may words fits))

pub may_store_then : (a b : MemSeen) (all first then : List ℕ → List WordStore) → AreJoined all first then → MayStoreEach a all → WritesEach a b first → MayStoreEach b then
may_store_then a b all first then joined may writes words fits =
    let came = writes.came words fits in
    let rest : AllowsAll a.setting a.plan (origin a came.0) (after_stores came.0 (first came.0)) (then (after_stores came.0 (first came.0))) =
    allows_suffix a.setting a.plan (origin a came.0) came.0 (first came.0) (then (after_stores came.0 (first came.0)))
    (subst (λ (stores : List WordStore). AllowsAll a.setting a.plan (origin a came.0) came.0 stores) (joined came.0) (may came.0 came.1.fits)) in
    allows_at a b (origin a came.0) (origin b words) words words (then words) writes.keeps came.1.origin refl
    (subst (λ (w : List ℕ). AllowsAll a.setting a.plan (origin a came.0) w (then w)) came.1.relates.leads rest)

pub writes_then : (a b c : MemSeen) (all first then : List ℕ → List WordStore) → AreJoined all first then → WritesEach a b first → WritesEach b c then → WritesEach a c all
writes_then a b c all first then joined p q =
    changes_then a b c (λ before words. Leads a b (first before) before words) (λ before words. Leads b c (then before) before words) (λ before words. Leads a c (all before) before words) p q
    (λ before mid words _ one two.
    let after : then mid ≡ then (after_stores before (first before)) = ap then (sym one.leads) in
    leads_same a c (first before ++ then mid) (all before) before words (joined before ∙ ap (λ (ss : List WordStore). first before ++ ss) (sym after))
    (leads_append a b c (first before) (then mid) before mid words one two))

-- the first stores for each list, where the others are the same for each one
pub may_prefix_each : (m : MemSeen) (first : List ℕ → List WordStore) (ts : List WordStore) → MayStoreEach m (λ words. first words ++ ts) → MayStoreEach m first
may_prefix_each m first ts may = may_store_first m (λ words. first words ++ ts) first (λ _. ts) (λ words. refl) may

-- and after them the others
pub may_suffix_each : (old now : MemSeen) (first : List ℕ → List WordStore) (ts : List WordStore) → MayStoreEach old (λ words. first words ++ ts) → WritesEach old now first → MayStoreAll now ts
may_suffix_each old now first ts may writes = may_store_then old now (λ words. first words ++ ts) first (λ _. ts) (λ words. refl) may writes

-- ---- a prefix of stores

-- none was made
pub prefix_none : (a b : MemSeen) (ss : List WordStore) → Reads a b → WritesPrefix a b ss
prefix_none a b ss reads = record { made = []; left = ss; parts = refl; writes = writes_reads a a b (λ _. []) (writes_none a) reads }

-- stores were made, and the next one was not
pub prefix_some : (a b c : MemSeen) (ss ts : List WordStore) → Writes a b ss → Reads b c → WritesPrefix a c (ss ++ ts)
prefix_some a b c ss ts writes reads = record { made = ss; left = ts; parts = refl; writes = writes_reads a b c (λ _. ss) writes reads }

-- all of the first stores were made, and some of the others
pub prefix_then : (a b c : MemSeen) (ss ts : List WordStore) → Writes a b ss → WritesPrefix b c ts → WritesPrefix a c (ss ++ ts)
prefix_then a b c ss ts p q = record {
  made = ss ++ q.made;
  left = q.left;
  parts = append_assoc ss q.made q.left ∙ ap (λ (stores : List WordStore). ss ++ stores) q.parts;
  writes = writes_append a b c ss q.made p q.writes;
}

-- some of the first stores were made
pub prefix_first : (a b : MemSeen) (ss ts : List WordStore) → WritesPrefix a b ss → WritesPrefix a b (ss ++ ts)
prefix_first a b ss ts p = record {
  made = p.made;
  left = p.left ++ ts;
  parts = sym (append_assoc p.made p.left ts) ∙ ap (λ (stores : List WordStore). stores ++ ts) p.parts;
  writes = p.writes;
}

-- none was made
pub prefix_each_none : (a b : MemSeen) (stores : List ℕ → List WordStore) → Reads a b → WritesPrefixEach a b stores
prefix_each_none a b stores reads =
    changes_none a b (λ before words. LeadsPrefix a b (stores before) before words) reads
    (λ words. record { made = []; left = stores words; parts = refl; by = leads_none a b words reads.no_store })

-- the first stores for each list were made, and some of the others
pub prefix_each_then : (a b c : MemSeen) (first : List ℕ → List WordStore) (ts : List WordStore) → WritesEach a b first → WritesPrefix b c ts → WritesPrefixEach a c (λ words. first words ++ ts)
prefix_each_then a b c first ts p q =
    changes_then a b c (λ before words. Leads a b (first before) before words) (Leads b c q.made) (λ before words. LeadsPrefix a c (first before ++ ts) before words) p q.writes
    (λ before mid words _ one two. record {
      made = first before ++ q.made;
      left = q.left;
      parts = append_assoc (first before) q.made q.left ∙ ap (λ (stores : List WordStore). first before ++ stores) q.parts;
      by = leads_append a b c (first before) q.made before mid words one two;
    })

-- all of the first stores for each list were made, and then none
pub prefix_each_some : (a b c : MemSeen) (all first then : List ℕ → List WordStore) → AreJoined all first then → WritesEach a b first → Reads b c → WritesPrefixEach a c all
prefix_each_some a b c all first then joined p q =
    changes_reads a b c (λ before words. Leads a b (first before) before words) (λ before words. LeadsPrefix a c (all before) before words) p q
    (λ before words leads. record {
      made = first before;
      left = then (after_stores before (first before));
      parts = sym (joined before);
      by = leads_reads a b c (first before) before words leads q;
    })

-- ---- in a memory that isn't guarded

allowed_free : (setting : Setting) (plan : Option Change) (o words later : List ℕ) → setting.guarded ≡ false → IsAllowed setting plan o words later
allowed_free setting plan o words later free guarded = let no : true ≡ false = sym guarded ∙ free in cc no

allows_free : (setting : Setting) (plan : Option Change) (o words : List ℕ) (stores : List WordStore) → setting.guarded ≡ false → AllowsAll setting plan o words stores
allows_free setting plan o words [] free = tt
allows_free setting plan o words (s ∷ stores) free = (allowed_free setting plan o words (slice_set words s.at s.word) free, allows_free setting plan o (slice_set words s.at s.word) stores free)

-- each store is allowed
pub may_store_free : (m : MemSeen) (at word : ℕ) → m.setting.guarded ≡ false → MayStore m at word
may_store_free m at word free words fits = allowed_free m.setting m.plan (origin m words) words (slice_set words at word) free

-- and any stores
pub may_store_all_free : (m : MemSeen) (stores : List WordStore) → m.setting.guarded ≡ false → MayStoreAll m stores
may_store_all_free m stores free words fits = allows_free m.setting m.plan (origin m words) words stores free

pub may_store_each_free : (m : MemSeen) (stores : List ℕ → List WordStore) → m.setting.guarded ≡ false → MayStoreEach m stores
may_store_each_free m stores free words fits = allows_free m.setting m.plan (origin m words) words (stores words) free
