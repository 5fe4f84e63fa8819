-- Claims of a call, beside the changes that it adds.
use Rattle.std.proofs.Common.{◌≡◌, ℕ, ◌+◌, ◌==◌, Bool, true, false, List, [], ◌∷◌, ◌++◌, if◌then◌else◌, refl, sym, ap, arith}
use Rattle.std.specs.List.{count_by}
use Rattle.std.proofs.lemmas.List.{append-nil}
use Rattle.std.proofs.lemmas.List.Sums.{sum_by-append}
use Rattle.cm_lock.specs.declared.view.View.{View}
use Rattle.cm_yard.specs.declared.view.OwnedWord.{OwnedWord}
use Rattle.cm_yard.specs.declared.view.View.{View as YardView}
use Rattle.cm_yard.specs.Claims.{FindsOwned, OnlyClaims, claims_for}
use Rattle.cm_turn.specs.Turns.{ClaimsAlone, ClaimsNone, IsGranted, KeepsFound, Pays, links_in}

-- how many of a list with one more
pub count_pushed : {X : Type 0} (p : X → Bool) (xs : List X) (x : X) → count_by p (xs ++ x ∷ []) ≡ count_by p xs + (if p x then 1 else 0)
count_pushed {X = X} p xs x = let h = sum_by-append (λ (y : X). if p y then 1 else 0) xs (x ∷ []) in omega arith

claims_same : (segment : ℕ) (old now : YardView) → now.claims ≡ old.claims → claims_for segment now ≡ claims_for segment old
claims_same segment old now same = ap (count_by (λ (o : OwnedWord). o.segment == segment)) same

-- no claim
pub alone_none : (segment : ℕ) (old now : YardView) → ClaimsNone old now → ClaimsAlone segment old now
alone_none segment old now none = record { only = none.only; found = none.found; others = λ other ne. claims_same other old now none.claims }

-- a seat of the yard that made no claim
pub alone_same : (segment : ℕ) (y : YardView) → ClaimsAlone segment y y
alone_same segment y = record { only = refl; found = ([], sym (append-nil y.misses)); others = λ other ne. refl }

no_truth : false ≡ true → ⊥
no_truth e = cc e

no_lie : true ≡ false → ⊥
no_lie e = cc e

-- what was found owned is noted
pub keeps_owned : (old now : YardView) (count : ℕ) → FindsOwned old now count → KeepsFound old now
keeps_owned old now count found = (found.words, ap (λ (v : YardView). v.misses) found.view)

-- all claim words were found owned
pub spent_granted : (segment extra : ℕ) (old now : YardView) → OnlyClaims old now → FindsOwned old now extra → IsGranted segment extra true false old now
spent_granted segment extra old now only found = record {
  alone = alone_none segment old now (record { only = only; found = keeps_owned old now extra found; claims = ap (λ (v : YardView). v.claims) found.view });
  given = λ e. absurd (no_truth e);
  unwanted = λ e. absurd (no_lie e);
  refused = λ _. found;
}

-- nothing was added and nothing claimed
pub pays_nothing : (segment : ℕ) (old now : View) (before later : YardView) → links_in now ≡ links_in old → ClaimsAlone segment before later
    → claims_for segment later ≡ claims_for segment before → Pays segment old now before later
pays_nothing segment old now before later links alone claims = record { alone = alone; paid = (omega arith) }

-- claims for a tier that is wanted
pub granted_claims : (segment extra : ℕ) (link : Bool) (before later : YardView) → IsGranted segment extra link true before later
    → claims_for segment later ≡ claims_for segment before + (if link then 1 else 0)
granted_claims segment extra true before later granted = granted.given refl refl
granted_claims segment extra false before later granted = let same = ap (claims_for segment) (granted.unwanted refl).1 in omega arith

-- where no change that links a tier was added, none was wanted
pub untried_made : (segment extra : ℕ) (link : Bool) (old now : View) (before later : YardView) → links_in now ≡ links_in old + (if link then 1 else 0)
    → IsGranted segment extra link true before later → links_in now ≡ links_in old → later ≡ before
untried_made segment extra true old now before later links granted same = absurd (omega arith)
untried_made segment extra false old now before later links granted same = (granted.unwanted refl).1
