-- The balance of claims and link changes: a tier is linked only for a claim (own).
use Rattle.std.specs.Prelude.{ℕ, ◌≡◌, ◌+◌, ◌≤◌, Bool, false, List, ◌∷◌, length, Option, Some, None, count_by, slice_get, sum_by}
use Rattle.cm_lock.specs.declared.view.ChangeCopy.{ChangeCopy}
use Rattle.cm_lock.specs.declared.view.HeldLevel.{HeldLevel}
use Rattle.cm_lock.specs.declared.view.View.{View}
use Rattle.cm_yard.specs.declared.view.View.{View as YardView}
use Rattle.cm_yard.specs.Claims.{claims_for}
use Rattle.cm_turn.specs.Turns.{links_in}

-- whether a plan under way links a tier
abbrev pub plan_links : Option ChangeCopy → Bool
plan_links None = false
plan_links (Some c) = c.link

-- how many plans under way link a tier, of the seat's own level and of those that it took over
abbrev pub linking_in : View → ℕ
linking_in v = count_by (λ (h : HeldLevel). plan_links h.plan) (v.own ∷ v.inherited)

-- in each segment there are no fewer claims than changes and plans under way that link a tier
abbrev pub Balances : List View → YardView → Type 0
Balances seats claims = (segment : ℕ) (v : View) → slice_get seats segment ≡ Some v → links_in v + linking_in v ≤ claims_for segment claims

-- over all segments there are at most as many claims more than changes that link a tier as passes died
abbrev pub OwesAtMost : ℕ → List View → YardView → Type 0
OwesAtMost dead seats claims = length claims.claims ≤ sum_by links_in seats + dead
