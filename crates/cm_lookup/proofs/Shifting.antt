-- What a shift keeps in a ring of slots.
use Rattle.std.proofs.Common.{◌≡◌, ◌≢◌, ℕ, ◌+◌, ◌<◌, ◌≤◌, List, [], ◌∷◌, ◌++◌, length, get_or, set, refl, sym, subst, ap, ◌∙◌, arith, inl, inr, IsPermutation, set-set, length-set, get_or-set_same, get_or-set_other}
use Rattle.std.proofs.lemmas.Bool.{cases_lt}
use Rattle.std.proofs.lemmas.List.Sorted.{IsPermutation-refl, IsPermutation-trans, IsPermutation-cons}
use Rattle.cm_lookup.specs.Rings.{Ring, IsRing, KeepsLaw, ring_slot, word_behind, occupied_words}
use Rattle.cm_lookup.specs.Shifts.{IsShift, Shift, Stays}
use Rattle.cm_words.specs.Stores.{WordStore, after_stores, store_at}
use Rattle.cm_lookup.specs.Shifts.Shift.{begins, stays, moves}
use Rattle.cm_lookup.proofs.RingArithmetic.{ring_slot_below, ring_slot_none, ring_slot_apart}
use Rattle.cm_lookup.proofs.HoleLaw.{KeepsLawBut, law_ends, law_moves}
use Rattle.cm_lookup.proofs.OccupiedWords.{taken_off, taken_moved}

-- one more store
pub after_one_more : (words : List ℕ) (made : List WordStore) (at word : ℕ) → after_stores words (made ++ store_at at word ∷ []) ≡ set (after_stores words made) at word
after_one_more words [] at word = refl
after_one_more words (store ∷ made) at word = after_one_more (set words store.at store.word) made at word

-- how the words now stand to those before the shift
pub record Shifting (ring : Ring) (slots : List ℕ) (slot hole steps : ℕ) (now : List ℕ) : Type 0 where
  pub hole_before : hole < steps
  pub within : steps ≤ ring.size
  pub long : length now ≡ ring.size
  -- what isn't looked at yet is as before
  pub ahead : (other : ℕ) → steps ≤ other → other < ring.size → word_behind ring now slot other ≡ word_behind ring slots slot other
  -- no slot that was looked at was empty
  pub seen : (other : ℕ) → 0 < other → other < steps → word_behind ring slots slot other ≢ 0
  -- each word that was looked at behind the hole stays
  pub near : (other : ℕ) → hole < other → other < steps → Stays ring slot hole other (word_behind ring now slot other)
  -- in the hole stands the word that stood there before
  pub held : word_behind ring now slot hole ≡ word_behind ring slots slot hole
  -- where the slot law held, it holds but for the hole
  pub law : KeepsLaw ring slots → KeepsLawBut ring now (ring_slot ring slot hole)
  -- the other words are those of the other slots before
  pub words : IsPermutation (occupied_words (set slots slot 0)) (occupied_words (set now (ring_slot ring slot hole) 0))

-- a slot of a ring of slots
pub record IsTable (ring : Ring) (slots : List ℕ) (slot : ℕ) : Type 0 where
  pub ring_is : IsRing ring
  pub long : length slots ≡ ring.size
  pub inside : slot < ring.size

-- before the first step
shifting_begins : (ring : Ring) (slots : List ℕ) (slot : ℕ) → IsTable ring slots slot → Shifting ring slots slot 0 1 slots
shifting_begins ring slots slot table =
    let here : ring_slot ring slot 0 ≡ slot = ring_slot_none ring slot table.inside in
    record {
      hole_before = omega arith;
      within = table.ring_is.nonzero;
      long = table.long;
      ahead = λ other from below. refl;
      seen = λ other nonzero below. absurd (omega arith);
      near = λ other nonzero below. absurd (omega arith);
      held = refl;
      law = λ law. record { keeps = λ number word below differs is nonzero steps on_way passed. law number word below is nonzero steps on_way };
      words = subst (λ (k : ℕ). IsPermutation (occupied_words (set slots slot 0)) (occupied_words (set slots k 0))) (sym here) (IsPermutation-refl (occupied_words (set slots slot 0)));
    }

-- one more index
one_more : (P : ℕ → Type 0) (low high : ℕ) → ((k : ℕ) → low < k → k < high → P k) → P high → (k : ℕ) → low < k → k < high + 1 → P k
one_more P low high below here k above within = elim (cases_lt k high) [
  | inl less ↦ below k above less
  | inr more ↦ (let e : high ≡ k = omega arith in subst P e here)
]

-- a word that stays
shifting_stays : (ring : Ring) (slots : List ℕ) (slot hole steps : ℕ) (now : List ℕ) → Shifting ring slots slot hole steps now → steps < ring.size
    → word_behind ring slots slot steps ≢ 0 → Stays ring slot hole steps (word_behind ring slots slot steps) → Shifting ring slots slot hole (steps + 1) now
shifting_stays ring slots slot hole steps now so_far below nonzero stay =
    let same : word_behind ring now slot steps ≡ word_behind ring slots slot steps = so_far.ahead steps (omega arith) below in
    record {
      hole_before = omega (arith, so_far.hole_before);
      within = omega arith;
      long = so_far.long;
      ahead = λ other from other_below. so_far.ahead other (omega arith) other_below;
      seen = one_more (λ other. word_behind ring slots slot other ≢ 0) 0 steps so_far.seen nonzero;
      near = one_more (λ other. Stays ring slot hole other (word_behind ring now slot other)) hole steps so_far.near (subst (λ (word : ℕ). Stays ring slot hole steps word) (sym same) stay);
      held = so_far.held;
      law = so_far.law;
      words = so_far.words;
    }

-- the words without the hole's are the same after a word moved to it
words_moved : (now : List ℕ) (hole left word : ℕ) → hole < length now → left < length now → left ≢ hole → get_or now left 0 ≡ word → word ≢ 0
    → IsPermutation (occupied_words (set now hole 0)) (occupied_words (set (set now hole word) left 0))
words_moved now hole left word hole_below left_below apart is nonzero =
    subst (λ (ws : List ℕ). IsPermutation (occupied_words (set now hole 0)) (occupied_words (set ws left 0))) (set-set now hole 0 word)
    (taken_moved (set now hole 0) hole left word (omega (arith, length-set {A = ℕ})) (omega (arith, length-set {A = ℕ})) (λ e. apart (sym e))
    (get_or-set_same now hole 0 0 hole_below) (get_or-set_other now hole left 0 0 apart ∙ is) nonzero)

-- a word that moves to the hole
shifting_moves : (ring : Ring) (slots : List ℕ) (slot hole steps : ℕ) (now : List ℕ) → IsTable ring slots slot → Shifting ring slots slot hole steps now → steps < ring.size
    → word_behind ring slots slot steps ≢ 0 → (Stays ring slot hole steps (word_behind ring slots slot steps) → ⊥)
    → Shifting ring slots slot steps (steps + 1) (set now (ring_slot ring slot hole) (word_behind ring slots slot steps))
shifting_moves ring slots slot hole steps now table so_far below nonzero fuse =
    let same : word_behind ring now slot steps ≡ word_behind ring slots slot steps = so_far.ahead steps (omega arith) below in
    let hole_below : ring_slot ring slot hole < ring.size = ring_slot_below ring slot hole table.ring_is.nonzero in
    let left_below : ring_slot ring slot steps < ring.size = ring_slot_below ring slot steps table.ring_is.nonzero in
    let hole_apart : (other : ℕ) → hole < other → other < ring.size → ring_slot ring slot other ≢ ring_slot ring slot hole =
    λ other from other_below. ring_slot_apart ring slot other hole table.inside other_below (omega arith) (omega arith) in
    record {
      hole_before = omega arith;
      within = omega arith;
      long = length-set now (ring_slot ring slot hole) (word_behind ring slots slot steps) ∙ so_far.long;
      ahead = λ other from other_below. get_or-set_other now (ring_slot ring slot hole) (ring_slot ring slot other) _ 0 (hole_apart other (omega (arith, so_far.hole_before)) other_below) ∙ so_far.ahead other (omega arith) other_below;
      seen = one_more (λ other. word_behind ring slots slot other ≢ 0) 0 steps so_far.seen nonzero;
      near = λ other from other_below. absurd (omega arith);
      held = get_or-set_other now (ring_slot ring slot hole) (ring_slot ring slot steps) _ 0 (hole_apart steps so_far.hole_before below) ∙ same;
      law = λ law. law_moves ring now slot hole steps (word_behind ring slots slot steps) table.ring_is table.inside so_far.long so_far.hole_before below same nonzero fuse (so_far.law law);
      words = IsPermutation-trans _ _ _ so_far.words
          (words_moved now (ring_slot ring slot hole) (ring_slot ring slot steps) (word_behind ring slots slot steps) (omega (arith, so_far.long)) (omega (arith, so_far.long)) (hole_apart steps so_far.hole_before below) same nonzero);
    }

-- the shift keeps it all
pub shifting : (ring : Ring) (slots : List ℕ) (slot hole steps : ℕ) (made : List WordStore) → IsTable ring slots slot → Shift ring slots slot hole steps made
    → Shifting ring slots slot hole steps (after_stores slots made)
shifting ring slots slot hole steps made table begins = shifting_begins ring slots slot table
shifting ring slots slot hole steps made table (stays h s m shift below nonzero stay) =
    shifting_stays ring slots slot h s (after_stores slots m) (shifting ring slots slot h s m table shift) below nonzero stay
shifting ring slots slot hole steps made table (moves h s m shift below nonzero fuse) =
    subst (λ (now : List ℕ). Shifting ring slots slot s (s + 1) now) (sym (after_one_more slots m (ring_slot ring slot h) (word_behind ring slots slot s)))
    (shifting_moves ring slots slot h s (after_stores slots m) table (shifting ring slots slot h s m table shift) below nonzero fuse)

-- after a whole shift the words are those of the other slots before
pub rearranged : (ring : Ring) (slots : List ℕ) (slot : ℕ) (stores : List WordStore) → IsTable ring slots slot → IsShift ring slots slot stores → IsPermutation (occupied_words (set slots slot 0)) (occupied_words (after_stores slots stores))
rearranged ring slots slot stores table whole =
    subst (λ (now : List ℕ). IsPermutation (occupied_words (set slots slot 0)) (occupied_words now)) (sym (ap (after_stores slots) whole.stores_are ∙ after_one_more slots whole.made (ring_slot ring slot whole.hole) 0))
    (shifting ring slots slot whole.hole whole.steps whole.made table whole.shift).words

-- what a whole shift leaves
pub record Removed (ring : Ring) (slots : List ℕ) (slot : ℕ) (now : List ℕ) : Type 0 where
  pub long : length now ≡ ring.size
  pub law : KeepsLaw ring now
  pub words : IsPermutation (occupied_words slots) (get_or slots slot 0 ∷ occupied_words now)

pub removed : (ring : Ring) (slots : List ℕ) (slot : ℕ) (stores : List WordStore) → IsTable ring slots slot → get_or slots slot 0 ≢ 0 → KeepsLaw ring slots → IsShift ring slots slot stores
    → Removed ring slots slot (after_stores slots stores)
removed ring slots slot stores table nonzero law whole =
    let so_far = shifting ring slots slot whole.hole whole.steps whole.made table whole.shift in
    let empty : word_behind ring (after_stores slots whole.made) slot whole.steps ≡ 0 = so_far.ahead whole.steps (omega arith) whole.within ∙ whole.empty in
    subst (λ (now : List ℕ). Removed ring slots slot now) (sym (ap (after_stores slots) whole.stores_are ∙ after_one_more slots whole.made (ring_slot ring slot whole.hole) 0))
    (record {
      long = length-set (after_stores slots whole.made) (ring_slot ring slot whole.hole) 0 ∙ so_far.long;
      law = law_ends ring (after_stores slots whole.made) slot whole.hole whole.steps table.ring_is table.inside so_far.long so_far.hole_before whole.within so_far.near empty (so_far.law law);
      words = IsPermutation-trans _ _ _ (taken_off slots slot (get_or slots slot 0) (omega (arith, table.inside, table.long)) refl nonzero) (IsPermutation-cons (get_or slots slot 0) _ _ so_far.words);
    })
