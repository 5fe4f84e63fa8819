-- Nothing is broken exactly where the map is lawful.
use Rattle.std.proofs.Common.{◌≡◌, List, [], ◌∷◌, None, Result, Ok, Err, ap, sym, ◌∙◌, refl}
use Rattle.cm_check.specs.declared.law.Broken.{Broken}
use Rattle.cm_check.specs.LawOrder.{breaks}
use Rattle.cm_check.specs.Findings.{NamesFirst, first_of}
use Rattle.std.specs.Result.{result_err}
use Rattle.cm_check.proofs.LawfulMaps.{lawful_map}
use Rattle.cm_check.proofs.laws.check.Goals as goal

-- a list has no first where it is empty
none_first : (xs : List Broken) → first_of xs ≡ None → xs ≡ []
none_first [] e = refl
none_first (x ∷ xs) e = cc e

-- an answer that names the first
names_is : (xs : List Broken) (result : Result (Unit {0}) Broken) → NamesFirst xs result → result_err result ≡ first_of xs
names_is xs (Ok done) none = rw none refl
names_is xs (Err x) begins = rw begins.1 refl

pub returns-clause-lawful : goal.returns-clause-lawful
returns-clause-lawful c =
    let words = c.args.words.now in
    let first : c.err.result ≡ first_of (breaks words) = c.err.ensures.value ∙ names_is (breaks words) c.laws.result c.laws.ensures in
    let lawful = lawful_map words c.are_whole.ensures.whole in
    (λ none. lawful.0 (none_first (breaks words) (sym first ∙ none)), λ is. first ∙ ap first_of (lawful.1 is))
