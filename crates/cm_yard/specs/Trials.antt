-- What callers in the tests tell (own).
use Rattle.std.specs.Prelude.{ℕ}
use Rattle.cm_yard.specs.declared.claim.Claim.{Claim}
use Rattle.cm_yard.specs.declared.claim.Claim.TheVariants.{Given, Spent}
use Rattle.cm_yard.specs.declared.view.Key.{Key}
use Rattle.cm_yard.specs.Words.{owned_in}

-- how many claims were given
abbrev pub given_by : Claim → ℕ
given_by (Given index) = 1
given_by Spent = 0

-- how many claim words were owned at the start
abbrev pub owned_first : Key → ℕ
owned_first key = owned_in key.geo key.first
