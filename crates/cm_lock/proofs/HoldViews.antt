-- What a memory over a seat tells after each event.
use Rattle.std.proofs.Common.{◌≡◌, ℕ, ◌+◌, ◌*◌, ◌/◌, ◌%◌, ◌^◌, ◌<◌, ◌≤◌, List, [], ◌∷◌, length, map, slice_set, Option, Some, None, refl, sym, ap, ◌∙◌, subst, arith, inl, inr}
use Rattle.std.proofs.lemmas.Bool.{cases_eq}
use Rattle.std.specs.List.{range_with_len}
use Rattle.cm_geo.specs.Addresses.{words_in_segment}
use Rattle.cm_plain.specs.Changes.{Change}
use Rattle.cm_plain.specs.States.{State}
use Rattle.cm_plain.specs.Slots.{word_at}
use Rattle.cm_words.specs.Fuses.{FuseSeen}
use Rattle.cm_words.specs.Memory.{FitsNotes, HasEvenNumber, IsDone, IsPlanHere, IsUnderPlan, MayStore, MemSeen, Note, StaysTorn, first_or, origin}
use Rattle.cm_words.specs.Effects.{Begins, Finishes, IsAsBefore, Knows, KnowsNumber, Reads}
use Rattle.cm_words.specs.Parity.{IsOdd}
use Rattle.cm_words.specs.Stores.{Writes, store_at}
use Rattle.cm_words.proofs.FittingLists.{as_before, begins_by, finishes_by, knows_load, knows_number, knows_store, reads_load, reads_same, writes_store}
use Rattle.cm_lock.specs.declared.view.ChangeCopy.{ChangeCopy}
use Rattle.cm_lock.specs.declared.view.Key.{Key}
use Rattle.cm_lock.specs.declared.view.View.{View}
use Rattle.cm_lock.specs.Holds.{view_seen, with_change, with_rest}
use Rattle.cm_lock.specs.Rule.{known_of, setting_of}
use Rattle.cm_lock.specs.Steps.{IsHeldWord}
use Rattle.cm_lock.specs.Views.{after_begin, after_finish, after_load, after_store, change_in, note_at, plan_in, seen_after, with_note}
use Rattle.cm_lock.proofs.Notes.{note_beside_lock, notes_begin, notes_finish, notes_load, notes_store}

-- nothing but the fuse
pub as_before_seen : (key : Key) (fuse fuse' : FuseSeen) (v : View) → IsAsBefore (view_seen key fuse v) (view_seen key fuse' v)
as_before_seen key fuse fuse' v = as_before _ _ (record { setting = refl; plan = refl }) (λ k. refl) refl refl

module _ (key : Key) (fuse fuse' : FuseSeen) (v : View) where
  abbrev old : MemSeen
  old = view_seen key fuse v

  module _ (at n : ℕ) (inside : at < words_in_segment key.geo) where
    reads_after : IsHeldWord v at n → Reads old (view_seen key fuse' (after_load v at n))
    reads_after word = elim (cases_eq at 0) [
      | inl lock ↦ reads_same _ _ (record { setting = refl; plan = refl }) (λ k. ap (λ (a : ℕ). note_at (with_note v.own.notes a n n) k) lock ∙ note_beside_lock v.own.notes k n n) refl
      | inr inner ↦ reads_load _ _ at n inside (record { setting = refl; plan = refl }) (notes_load _ _ v.own.notes (λ k. refl) at n (omega arith) (λ k. refl) word.noted) refl
    ]

    knows_after : IsHeldWord v at n → Knows (view_seen key fuse' (after_load v at n)) at n
    knows_after word = elim (cases_eq at 0) [
      | inl lock ↦ (record { noted = λ steady. absurd (let low = steady refl in omega arith); here = λ steady. absurd (let low = steady refl in omega arith) })
      | inr inner ↦ knows_load old _ at n inside (notes_load old _ v.own.notes (λ k. refl) at n (omega arith) (λ k. refl) word.noted)
    ]

    -- a load
    pub reads_seen : (w : View) → w ≡ after_load v at n → IsHeldWord v at n → Reads old (view_seen key fuse' w)
    reads_seen w e word = subst (λ (z : View). Reads old (view_seen key fuse' z)) (sym e) (reads_after word)

    pub knows_seen : (w : View) → w ≡ after_load v at n → IsHeldWord v at n → Knows (view_seen key fuse' w) at n
    knows_seen w e word = subst (λ (z : View). Knows (view_seen key fuse' z) at n) (sym e) (knows_after word)

  -- a load of the change number
  pub number_seen : (n : ℕ) (w : View) → 1 < words_in_segment key.geo → v.own.plan ≡ None → w ≡ after_load v 1 n → IsHeldWord v 1 n → KnowsNumber (view_seen key fuse' w) (n / 2)
  number_seen n w inside idle e word = subst (λ (z : View). KnowsNumber (view_seen key fuse' z) (n / 2)) (sym e)
      (knows_number old _ n inside (notes_load old _ v.own.notes (λ k. refl) 1 n (omega arith) (λ k. refl) word.noted) (λ _. word.even refl idle) (λ _. word.within_limit refl))

  -- a store
  module _ (at found word : ℕ) (inside : at < words_in_segment key.geo) (inner : 1 < at) (fits : found < 2 ^ 64) (noted : (note : Note) → note_at v.own.notes at ≡ Some note → note.present ≡ found) where
    pub writes_seen : (w : View) → w ≡ after_store v at found word → Writes old (view_seen key fuse' w) (store_at at word ∷ [])
    writes_seen w e = subst (λ (z : View). Writes old (view_seen key fuse' z) (store_at at word ∷ [])) (sym e)
        (writes_store old _ at word found inside (record { setting = refl; plan = refl }) (notes_store old _ v.own.notes (λ k. refl) at found word (omega arith) (λ k. refl) noted fits) refl)

    pub stored_seen : (w : View) → w ≡ after_store v at found word → Knows (view_seen key fuse' w) at word
    stored_seen w e = subst (λ (z : View). Knows (view_seen key fuse' z) at word) (sym e)
        (knows_store old _ at word found inside (notes_store old _ v.own.notes (λ k. refl) at found word (omega arith) (λ k. refl) noted fits))

  -- the begin and the end of a change
  module _ (copy : ℕ) (note : Note) (noted : note_at v.own.notes 1 ≡ Some note) (is : note.present ≡ copy) (small : copy < 2 ^ 64) (inside : 1 < words_in_segment key.geo) where
    small_note : note.present < 2 ^ 64
    small_note = subst (λ (n : ℕ). n < 2 ^ 64) (sym is) small

    pub begins_seen : (change : Change) (w : View) → w ≡ after_begin v change (copy + 1) → Begins old (view_seen key fuse' w) change
    begins_seen change w e =
        let e' : w ≡ after_begin v change (note.present + 1) = e ∙ ap (λ (n : ℕ). after_begin v change (n + 1)) (sym is) in
        subst (λ (z : View). Begins old (view_seen key fuse' z) change) (sym e') (begins_by old _ change inside refl refl (notes_begin old _ v.own.notes (λ k. refl) note noted small_note (λ k. refl)))

    pub finishes_seen : (c : ChangeCopy) (w : View) → IsOdd copy → w ≡ after_finish v c (copy + 1) → Finishes old (view_seen key fuse' w) ((copy + 1) / 2)
    finishes_seen c w odd e =
        let e' : w ≡ after_finish v c (note.present + 1) = e ∙ ap (λ (n : ℕ). after_finish v c (n + 1)) (sym is) in
        let o = odd.0 in
        let twice : note.present + 1 ≡ 2 * ((copy + 1) / 2) = ap (λ (n : ℕ). n + 1) is ∙ half copy o in
        subst (λ (z : View). Finishes old (view_seen key fuse' z) ((copy + 1) / 2)) (sym e') (finishes_by old _ _ inside refl refl (notes_finish old _ v.own.notes (λ k. refl) note _ noted small_note twice (λ k. refl)))
      where
        half : (n : ℕ) → n % 2 ≡ 1 → n + 1 ≡ 2 * ((n + 1) / 2)
        half n odd = omega arith

-- no plan that a memory tells is none that a seat has
pub idle_own : (p : Option ChangeCopy) → plan_in p ≡ None → p ≡ None
idle_own None e = refl
idle_own (Some c) e = absurd (cc)

-- the origin depends on the notes alone
origin_noted : (a b : MemSeen) (words : List ℕ) → a.noted ≡ b.noted → origin a words ≡ origin b words
unfolding origin
origin_noted a b words e = ap (λ (n : ℕ → Option Note). map (λ at. first_or (n at) (word_at words at)) (range_with_len 0 (length words))) e

-- what is asked of a memory is asked of the level that the seat holds, whatever the fuse and the counts
module _ (key : Key) (fuse : FuseSeen) (v : View) where
  under_known : (words : List ℕ) (state : State) (change : Change) → IsUnderPlan (setting_of key v.own.level) (origin (known_of key v.own) words) words state change
      → IsUnderPlan (setting_of key v.own.level) (origin (view_seen key fuse v) words) words state change
  under_known words state change u = subst (λ (o : List ℕ). IsUnderPlan (setting_of key v.own.level) o words state change) (origin_noted (known_of key v.own) (view_seen key fuse v) words refl) u

  fits_seen : (words : List ℕ) → FitsNotes (known_of key v.own) words → FitsNotes (view_seen key fuse v) words
  fits_seen words f = record { are = f.are; present = f.present }

  pub may_store_known : (at word : ℕ) → MayStore (view_seen key fuse v) at word → MayStore (known_of key v.own) at word
  may_store_known at word may words fits guarded = stays (plan_in v.own.plan) (may words (fits_seen words fits) guarded)
    where
      stays : (plan : Option Change) → StaysTorn (setting_of key v.own.level) plan (origin (view_seen key fuse v) words) words (slice_set words at word)
          → StaysTorn (setting_of key v.own.level) plan (origin (known_of key v.own) words) words (slice_set words at word)
      stays None h = h
      stays (Some change) h = λ state u. h state (under_known words state change u)

  pub plan_here_known : (change : Change) → IsPlanHere (view_seen key fuse v) change → IsPlanHere (known_of key v.own) change
  plan_here_known change here words state fits rests = here words state (fits_seen words fits) rests

  pub even_known : HasEvenNumber (view_seen key fuse v) → HasEvenNumber (known_of key v.own)
  even_known h = record { noted = h.noted; even = λ words fits. h.even words (fits_seen words fits); not_last = λ words fits. h.not_last words (fits_seen words fits) }

  pub done_known : (change : Change) → IsDone (view_seen key fuse v) change → IsDone (known_of key v.own) change
  done_known change done words state fits u = done words state (fits_seen words fits) (under_known words state change u)

-- a change that ended is the one that was under way
pub view_finished : (v : View) (c : ChangeCopy) (w : View) (change : Change) (word : ℕ) → v.own.plan ≡ Some c → plan_in v.own.plan ≡ Some change → w ≡ after_finish v c word → w ≡ with_rest (with_change v change (word / 2)) w
view_finished v c w change word plan planned e =
    let s : Some (change_in c) ≡ Some change = ap plan_in (sym plan) ∙ planned in
    let is : change_in c ≡ change = cc in
    subst (λ (z : View). z ≡ with_rest (with_change v change (word / 2)) z) (sym e)
    (subst (λ (d : Change). after_finish v c word ≡ with_rest (with_change v d (word / 2)) (after_finish v c word)) is refl)

-- ---- what stays of a view

-- a view is another one but for plan, notes, counts and the greatest number seen, which didn't fall
abbrev pub RestsIn : View → View → Type 0
RestsIn v w = (w ≡ with_rest v w) × (v.seen ≤ w.seen)

pub rests_load : (v w : View) (at n : ℕ) → w ≡ after_load v at n → RestsIn v w
rests_load v w at n e = subst (RestsIn v) (sym e) (refl, more at n v.seen)
  where
    more : (at n seen : ℕ) → seen ≤ seen_after at n seen
    more at n seen = grind arith

pub rests_store : (v w : View) (at found n : ℕ) → w ≡ after_store v at found n → RestsIn v w
rests_store v w at found n e = subst (RestsIn v) (sym e) (refl, omega arith)

pub rests_begin : (v w : View) (change : Change) (n : ℕ) → w ≡ after_begin v change n → RestsIn v w
rests_begin v w change n e = subst (RestsIn v) (sym e) (refl, omega arith)
