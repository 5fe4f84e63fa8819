-- What is known of a result whose kind is known, or of both kinds.
use Rattle.std.specs.Prelude.{◌≡◌, true, Result, Ok, Err, is_ok, IfErr, IfOk, MatchResult, OnOk}

pub ok-matched : {T E : Type 0} (result : Result T E) (P R : T → Type 0) (Q : E → Type 0) → MatchResult result P Q → ((value : T) → P value → R value) → IfOk result R
ok-matched (Ok value) P R Q match step = step value match
ok-matched (Err error) P R Q match step = tt

pub err-matched : {T E : Type 0} (result : Result T E) (P : T → Type 0) (Q R : E → Type 0) → MatchResult result P Q → ((error : E) → Q error → R error) → IfErr result R
err-matched (Ok value) P Q R match step = tt
err-matched (Err error) P Q R match step = step error match

pub on-ok : {T E : Type 0} (result : Result T E) (P : Type 0) → is_ok result ≡ true → OnOk result P → P
on-ok (Ok value) P ok known = known
on-ok (Err error) P ok known = cc ok

pub ok-mapped : {T E : Type 0} (result : Result T E) (P R : T → Type 0) → IfOk result P → ((value : T) → P value → R value) → IfOk result R
ok-mapped (Ok value) P R known step = step value known
ok-mapped (Err error) P R known step = tt
