-- What is known of a result whose error was changed.
use Rattle.std.proofs.Common.{◌≡◌, Result, Ok, Err}
use Rattle.std.specs.Result.{IfOk, MatchResult, is_ok}

-- the value of an `Ok` stays when the error is changed
pub IfOk-map_err : {T D E : Type 0} (before : Result T D) (after : Result T E) (P : T → Type 0) (Q : D → Type 0) → MatchResult before (λ x. after ≡ Ok x) Q
    → is_ok after ≡ is_ok before → IfOk before P → IfOk after P
IfOk-map_err (Ok x) after P Q same kind known = rw same known
IfOk-map_err (Err d) (Ok x) P Q same kind known = cc
IfOk-map_err (Err d) (Err e) P Q same kind known = tt
