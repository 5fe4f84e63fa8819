-- A seat's own copy of the change number, through loads, stores, and the begin and the end of a change.
use Rattle.std.proofs.Common.{◌≡◌, ◌≢◌, ℕ, ◌+◌, ◌^◌, ◌<◌, ◌≤◌, Option, Some, None, IsSome, false, true, refl, sym, ap, ◌∙◌, subst, arith}
use Rattle.cm_plain.specs.Changes.{Change}
use Rattle.cm_words.specs.Memory.{Note, first_or}
use Rattle.cm_words.specs.Parity.{IsOdd}
use Rattle.cm_words.proofs.Notes.{rebased}
use Rattle.cm_lock.specs.declared.view.ChangeCopy.{ChangeCopy}
use Rattle.cm_lock.specs.declared.view.HeldLevel.{HeldLevel}
use Rattle.cm_lock.specs.declared.view.Level.{Level}
use Rattle.cm_lock.specs.declared.view.View.{View}
use Rattle.cm_lock.specs.Numbers.{CopiesNumber}
use Rattle.cm_lock.specs.Steps.{IsHeldWord}
use Rattle.cm_lock.specs.Views.{after_begin, after_finish, after_load, free_level, note_at, with_note, with_present_first}
use Rattle.cm_lock.proofs.Notes.{note_else, note_here, note_rebased}

-- after a load of the change number
pub copies_load : (v w : View) (n copy : ℕ) → w ≡ after_load v 1 n → IsHeldWord v 1 n → CopiesNumber v.own copy → CopiesNumber w.own n
copies_load v w n copy e word k = subst (λ (z : View). CopiesNumber z.own n) (sym e) (record {
  is = λ note h. (let here = note_here v.own.notes 1 n n (omega arith) in let s : Some (record { present = n; first = first_or (note_at v.own.notes 1) n }) ≡ Some note = sym here ∙ h in let p : n ≡ note.present = cc in sym p);
  within_limit = word.within_limit refl;
  noted = λ _. subst (λ (o : Option Note). IsSome o) (sym (note_here v.own.notes 1 n n (omega arith))) refl;
  odd = λ planned. same_odd (k.noted planned) planned;
})
  where
    same_odd : IsSome (note_at v.own.notes 1) → IsSome v.own.plan → IsOdd n
    same_odd noted planned = by_note (note_at v.own.notes 1) refl noted
      where
        by_note : (o : Option Note) → note_at v.own.notes 1 ≡ o → IsSome o → IsOdd n
        by_note None e h = absurd (let no : false ≡ true = h in cc)
        by_note (Some note) e h = subst IsOdd (sym (k.is note e) ∙ word.noted note e) (k.odd planned)

-- after a load or a store of another word
pub copies_else : (v w : View) (at found n copy : ℕ) → at ≢ 1 → w.own.plan ≡ v.own.plan → w.own.notes ≡ with_note v.own.notes at found n → CopiesNumber v.own copy → CopiesNumber w.own copy
copies_else v w at found n copy ne plan notes k =
    let same : note_at w.own.notes 1 ≡ note_at v.own.notes 1 = ap (λ z. note_at z 1) notes ∙ note_else v.own.notes at 1 found n (λ e. ne (sym e)) in record {
      is = λ note h. k.is note (sym same ∙ h);
      within_limit = k.within_limit;
      noted = λ planned. subst (λ (o : Option Note). IsSome o) (sym same) (k.noted (subst (λ (p : Option ChangeCopy). IsSome p) plan planned));
      odd = λ planned. k.odd (subst (λ (p : Option ChangeCopy). IsSome p) plan planned);
    }

-- after a change began
pub copies_begin : (v w : View) (change : Change) (n : ℕ) → IsOdd n → w ≡ after_begin v change n → CopiesNumber w.own n
copies_begin v w change n odd e = subst (λ (z : View). CopiesNumber z.own n) (sym e) (record {
  is = λ note h. (let s : Some (record { present = n; first = n }) ≡ Some note = sym here ∙ h in let p : n ≡ note.present = cc in sym p);
  within_limit = omega (arith, odd.1);
  noted = λ _. subst (λ (o : Option Note). IsSome o) (sym here) refl;
  odd = λ _. odd;
})
  where
    here : note_at (with_present_first (with_note v.own.notes 1 n n)) 1 ≡ Some (record { present = n; first = n })
    here = note_rebased (with_note v.own.notes 1 n n) 1 ∙ ap rebased (note_here v.own.notes 1 n n (omega arith))

-- after it ended
pub copies_finish : (v w : View) (c : ChangeCopy) (copy : ℕ) → copy < 2 ^ 63 → w ≡ after_finish v c (copy + 1) → CopiesNumber w.own (copy + 1)
copies_finish v w c copy few e =
    let n : ℕ = copy + 1 in subst (λ (z : View). CopiesNumber z.own (copy + 1)) (sym e) (record {
      is = λ note h. (let s = sym (note_here v.own.notes 1 n n (omega arith)) ∙ h in let p : n ≡ note.present = cc in sym p);
      within_limit = omega arith;
      noted = λ planned. absurd (let no : false ≡ true = planned in cc);
      odd = λ planned. absurd (let no : false ≡ true = planned in cc);
    })

-- a seat that is Free copies nothing
pub copies_free : (number copy : ℕ) → copy ≤ 2 ^ 63 → CopiesNumber (free_level number) copy
copies_free number copy few = record {
  is = λ note h. absurd (none_noted note h);
  within_limit = few;
  noted = λ planned. absurd (let no : false ≡ true = planned in cc);
  odd = λ planned. absurd (let no : false ≡ true = planned in cc);
}
  where
    none_noted : (note : Note) → None ≡ Some note → ⊥
    none_noted note e = cc

-- the note of the change number, where it is noted
pub note_of : (h : HeldLevel) (copy : ℕ) → CopiesNumber h copy → IsSome (note_at h.notes 1) → (was : Note) × (note_at h.notes 1 ≡ Some was) × (copy + 1 ≡ was.present + 1)
note_of h copy k noted = by_note (note_at h.notes 1) refl noted
  where
    by_note : (o : Option Note) → note_at h.notes 1 ≡ o → IsSome o → (was : Note) × (note_at h.notes 1 ≡ Some was) × (copy + 1 ≡ was.present + 1)
    by_note None e s = absurd (let no : false ≡ true = s in cc)
    by_note (Some note) e s = (note, e, ap (λ n. n + 1) (sym (k.is note e)))

-- the level doesn't matter
pub copies_level : (h : HeldLevel) (level : Level) (copy : ℕ) → CopiesNumber h copy → CopiesNumber (record h { level = level }) copy
copies_level h level copy k = record { is = k.is; within_limit = k.within_limit; noted = k.noted; odd = k.odd }
