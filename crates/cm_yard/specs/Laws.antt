-- Laws of the rule (own).
use Rattle.std.specs.Prelude.{ℕ, ◌≤◌, sum_by}
use Rattle.atomic_table.specs.Table as table
use Rattle.cm_yard.specs.declared.view.Key.{Key}
use Rattle.cm_yard.specs.declared.view.View.{View}
use Rattle.cm_yard.specs.Rule.{IsYard, claims_of}

-- over all seats, a claim word was given at most once
abbrev pub AreGivenOnce : Type 0
AreGivenOnce = (key : Key) (s : table.State (Unit {0}) View) → IsYard key s → (index : ℕ) → sum_by (claims_of index) s.views ≤ 1
