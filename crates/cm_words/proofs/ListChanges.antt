-- How lists came from lists over more than one call, whatever relates them.
use Rattle.std.proofs.Common.{ℕ, List, ◌∙◌}
use Rattle.cm_words.specs.Memory.{FitsNotes, MemSeen}
use Rattle.cm_words.specs.Effects.{Changes, Reads}
use Rattle.cm_words.proofs.FittingLists.{keeps_transitive}

-- loads alone leave each list as it was
pub changes_none : (a b : MemSeen) (R : List ℕ → List ℕ → Type 0) → Reads a b → ((words : List ℕ) → R words words) → Changes a b R
changes_none a b R reads same = record {
  keeps = reads.keeps;
  came = λ words fits. (words, record { fits = reads.fits words fits; origin = reads.origin words fits; relates = same words });
  noted = reads.noted;
}

-- what relates two lists relates them so too
pub changes_as : (a b : MemSeen) (R Q : List ℕ → List ℕ → Type 0) → Changes a b R → ((before words : List ℕ) → FitsNotes a before → R before words → Q before words) → Changes a b Q
changes_as a b R Q p so = record {
  keeps = p.keeps;
  came = λ words fits. (let far = p.came words fits in (far.0, record { fits = far.1.fits; origin = far.1.origin; relates = so far.0 words far.1.fits far.1.relates }));
  noted = p.noted;
}

-- one change after another
pub changes_then : (a b c : MemSeen) (R Q S : List ℕ → List ℕ → Type 0) → Changes a b R → Changes b c Q
    → ((before mid words : List ℕ) → FitsNotes a before → R before mid → Q mid words → S before words) → Changes a c S
changes_then a b c R Q S p q both = record {
  keeps = keeps_transitive a b c p.keeps q.keeps;
  came = λ words fits.
      let mid = q.came words fits in
      let far = p.came mid.0 mid.1.fits in
      (far.0, record { fits = far.1.fits; origin = mid.1.origin ∙ far.1.origin; relates = both far.0 mid.0 words far.1.fits far.1.relates mid.1.relates });
  noted = λ k h. q.noted k (p.noted k h);
}

-- loads after a change
pub changes_reads : (a b c : MemSeen) (R S : List ℕ → List ℕ → Type 0) → Changes a b R → Reads b c → ((before words : List ℕ) → R before words → S before words) → Changes a c S
changes_reads a b c R S p q so = record {
  keeps = keeps_transitive a b c p.keeps q.keeps;
  came = λ words fits.
      let far = p.came words (q.fits words fits) in
      (far.0, record { fits = far.1.fits; origin = q.origin words fits ∙ far.1.origin; relates = so far.0 words far.1.relates });
  noted = λ k h. q.noted k (p.noted k h);
}

-- a change after loads
pub reads_changes : (a b c : MemSeen) (R S : List ℕ → List ℕ → Type 0) → Reads a b → Changes b c R → ((before words : List ℕ) → R before words → S before words) → Changes a c S
reads_changes a b c R S p q so = record {
  keeps = keeps_transitive a b c p.keeps q.keeps;
  came = λ words fits.
      let far = q.came words fits in
      (far.0, record { fits = p.fits far.0 far.1.fits; origin = far.1.origin ∙ p.origin far.0 far.1.fits; relates = so far.0 words far.1.relates });
  noted = λ k h. q.noted k (p.noted k h);
}
