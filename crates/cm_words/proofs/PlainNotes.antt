-- Notes of each word of a segment, after what was done to one of them.
use Rattle.std.proofs.Common.{◌≡◌, ◌≢◌, ℕ, ◌+◌, ◌*◌, ◌<◌, ◌^◌, Some, None, Option, Bool, true, false, List, length, get_or, slice_set, arith, refl, sym, ◌∙◌, cond, nat_lt, get_or-set_other, get_or-set_same, IsSome}
use Rattle.std.proofs.lemmas.Grind.{common_steps}
use Rattle.cm_geo.specs.declared.geo.Geo.{Geo}
use Rattle.cm_geo.specs.Addresses.{words_in_segment}
use Rattle.cm_plain.specs.Changes.{Change}
use Rattle.cm_words.specs.declared.plan_copy.PlanCopy.{PlanCopy}
use Rattle.cm_words.specs.PlanCopies.{copied_change, plan_under_way}
use Rattle.cm_words.specs.Memory.{MemSeen, Note}
use Rattle.cm_words.specs.Notes.{notes_in}
use Rattle.cm_words.proofs.Notes.{NotesBegin, NotesFinish, NotesLoad, NotesStore, rebased}

pub noted_inside : (geo : Geo) (start at : ℕ) (present first : List ℕ) → at < words_in_segment geo → notes_in geo start present first at ≡ Some (record { present = get_or present (start + at) 0; first = get_or first (start + at) 0 })
noted_inside geo start at present first inside = grind (arith, common_steps)

-- the note of a place inside is one of these
noted_is : (geo : Geo) (start at : ℕ) (present first : List ℕ) (noted : Option Note) (note : Note) → at < words_in_segment geo → noted ≡ notes_in geo start present first at → noted ≡ Some note → note.present ≡ get_or present (start + at) 0
noted_is geo start at present first noted note inside is e =
    let same : Some note ≡ Some (record { present = get_or present (start + at) 0; first = get_or first (start + at) 0 }) = sym e ∙ (is ∙ noted_inside geo start at present first inside) in cc

-- a load
pub notes_loaded : (old now : MemSeen) (geo : Geo) (start at : ℕ) (present first : List ℕ) → at < words_in_segment geo
    → ((k : ℕ) → old.noted k ≡ notes_in geo start present first k) → ((k : ℕ) → now.noted k ≡ notes_in geo start present first k)
    → NotesLoad old now at (get_or present (start + at) 0)
notes_loaded old now geo start at present first inside was is =
    let before = was at ∙ noted_inside geo start at present first inside in
    let after = is at ∙ noted_inside geo start at present first inside in
    record {
      others = λ other ne. is other ∙ sym (was other);
      here = rw (before, after) refl;
      stood = λ note e. noted_is geo start at present first (old.noted at) note inside (was at) e;
    }

-- a store
pub notes_stored : (old now : MemSeen) (geo : Geo) (start at word : ℕ) (present first : List ℕ) → at < words_in_segment geo → start + at < length present → get_or present (start + at) 0 < 2 ^ 64
    → ((k : ℕ) → old.noted k ≡ notes_in geo start present first k) → ((k : ℕ) → now.noted k ≡ notes_in geo start (slice_set present (start + at) word) first k)
    → NotesStore old now at word (get_or present (start + at) 0)
notes_stored old now geo start at word present first inside long small was is =
    let before = was at ∙ noted_inside geo start at present first inside in
    let after = is at ∙ noted_inside geo start at (slice_set present (start + at) word) first inside in
    record {
      others = λ other ne. (let apart : start + other ≢ start + at = omega arith in rw (was, is, get_or-set_other) refl);
      here = rw (before, after, get_or-set_same) refl;
      stood = λ note e. noted_is geo start at present first (old.noted at) note inside (was at) e;
      small = small;
    }

rebased_notes : (b : Bool) (p f : ℕ) → cond b (Some (record { present = p; first = p })) None ≡ rebased (cond b (Some (record { present = p; first = f })) None)
rebased_notes true p f = refl
rebased_notes false p f = refl

-- the beginning of a plan
pub notes_begun : (old now : MemSeen) (geo : Geo) (start : ℕ) (present later first : List ℕ) → 1 < words_in_segment geo → start + 1 < length present → get_or present (start + 1) 0 < 2 ^ 64
    → later ≡ slice_set present (start + 1) (get_or present (start + 1) 0 + 1)
    → ((k : ℕ) → old.noted k ≡ notes_in geo start present first k) → ((k : ℕ) → now.noted k ≡ notes_in geo start later later k)
    → NotesBegin old now
notes_begun old now geo start present later first inside long small e was is =
    let after = is 1 ∙ noted_inside geo start 1 later later inside in
    record {
      others = λ other ne. (let apart : start + other ≢ start + 1 = omega arith in rw (was, is, e, get_or-set_other) (rebased_notes (nat_lt other (words_in_segment geo)) (get_or present (start + other) 0) (get_or first (start + other) 0)));
      was = record { present = get_or present (start + 1) 0; first = get_or first (start + 1) 0 };
      stood = was 1 ∙ noted_inside geo start 1 present first inside;
      small = small;
      here = rw (after, e, get_or-set_same) refl;
    }

-- the end of a plan
pub notes_finished : (old now : MemSeen) (geo : Geo) (start number : ℕ) (present first : List ℕ) → 1 < words_in_segment geo → start + 1 < length present → get_or present (start + 1) 0 < 2 ^ 64
    → get_or present (start + 1) 0 + 1 ≡ 2 * number
    → ((k : ℕ) → old.noted k ≡ notes_in geo start present first k) → ((k : ℕ) → now.noted k ≡ notes_in geo start (slice_set present (start + 1) (get_or present (start + 1) 0 + 1)) first k)
    → NotesFinish old now number
notes_finished old now geo start number present first inside long small twice was is =
    let after = is 1 ∙ noted_inside geo start 1 (slice_set present (start + 1) (get_or present (start + 1) 0 + 1)) first inside in
    record {
      others = λ other ne. (let apart : start + other ≢ start + 1 = omega arith in rw (was, is, get_or-set_other) refl);
      was = record { present = get_or present (start + 1) 0; first = get_or first (start + 1) 0 };
      stood = was 1 ∙ noted_inside geo start 1 present first inside;
      small = small;
      twice = twice;
      here = rw (after, get_or-set_same) refl;
    }

-- where no plan is seen none is under way, and where one is seen one is
pub no_plan : (is_under_way : Bool) (plan : PlanCopy) → plan_under_way is_under_way plan ≡ None → is_under_way ≡ false
no_plan false plan e = refl
no_plan true plan e = absurd (clash (copied_change plan) e)
  where
    clash : (change : Change) → Some change ≡ None → ⊥
    clash change e = cc e

pub some_plan : (is_under_way : Bool) (plan : PlanCopy) → IsSome (plan_under_way is_under_way plan) → is_under_way ≡ true
some_plan false plan h = h
some_plan true plan h = refl
