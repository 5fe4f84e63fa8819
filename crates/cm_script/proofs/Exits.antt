-- What a function returns at the exit of a `?`, and where no pattern fits.
use Rattle.std.specs.Prelude.{◌≡◌, ◌≤◌, ℕ, List, [], ◌∷◌, length, Result, Err, IfErr}
use Rattle.std.specs.Result.{IsErrAnd}
use Rattle.std.proofs.Common.{arith, refl}
use Rattle.std.proofs.lemmas.Result.{err_from_is_err_and}
use Rattle.cm_geo.specs.declared.geo.Geo.{Geo}
use Rattle.cm_script.specs.declared.stop.LineCause.TheVariants as cause
use Rattle.cm_script.specs.declared.verb.Verb.{Verb}
use Rattle.cm_script.specs.declared.verb.Verb.TheVariants as verb
use Rattle.cm_script.specs.Scripts.{op_of}

-- what is so of the error that a `?` passes on is so of the result
pub at-exit : {T E : Type 0} (result : Result T E) {why : E} (P : E → Type 0) → IsErrAnd result (λ passed. passed ≡ why) → P why → IfErr result P
at-exit result P passed here =
    let out = err_from_is_err_and result passed in
    rw (out.1, out.2) here

-- no operation has more than three fields behind it
pub no_op : (geo : Geo) (lists : ℕ) (word : Verb) (first : List ℕ) (later : List (List ℕ)) → 3 ≤ length later → op_of geo lists word (first ∷ later) ≡ Err cause.Argument
no_op geo lists word first [] length_is = absurd (omega arith)
no_op geo lists word first (second ∷ []) length_is = absurd (omega arith)
no_op geo lists word first (second ∷ third ∷ []) length_is = absurd (omega arith)
no_op geo lists word first (second ∷ third ∷ fourth ∷ later) length_is = elim word as (λ any. op_of geo lists any (first ∷ second ∷ third ∷ fourth ∷ later) ≡ Err cause.Argument) [
  | verb.Put ↦ refl
  | verb.Get ↦ refl
  | verb.PutIfAbsent ↦ refl
  | verb.Replace ↦ refl
  | verb.ReplaceIf ↦ refl
  | verb.Remove ↦ refl
  | verb.RemoveIf ↦ refl
  | verb.Count ↦ refl
  | verb.List ↦ refl
  | verb.Sweep ↦ refl
]
