-- The numbers of seats (own).
use Rattle.std.specs.Prelude.{ℕ, ◌≡◌, ◌≢◌, ◌+◌, ◌<◌, ◌≤◌, ◌==◌, All, Any, List, [], count_by, sum_by, if◌then◌else◌}
use Rattle.cm_lock.specs.declared.view.HeldLevel.{HeldLevel}
use Rattle.cm_lock.specs.declared.view.View.{View}
use Rattle.cm_lock.specs.Views.{spent_view}

-- how often a number is in a list
abbrev pub count_of : ℕ → List ℕ → ℕ
count_of n ns = count_by (λ m. m == n) ns

-- 1 for a level that the seat of this number holds or held
abbrev pub owner_count : ℕ → HeldLevel → ℕ
owner_count n h = if h.number == n then 1 else 0

-- how often a seat has a number: as its own, as that of a seat that it joined, and as that of the one that it is about to make
abbrev pub held_count : ℕ → View → ℕ
held_count n v = owner_count n v.own + (sum_by (owner_count n) v.inherited + count_of n v.due)

-- how often a seat noted that it made a seat of this number
abbrev pub made_count : ℕ → View → ℕ
made_count n v = count_of n v.made

-- the root alone makes and joins seats; a spent seat has noted nothing
pub record IsSeat (v : View) : Type 0 where
  pub within : v.own.number ≤ 65
  pub only_root : v.own.number ≢ 64 → (v.made ≡ []) × (v.due ≡ []) × (v.inherited ≡ [])
  pub nothing : v.own.number ≡ 65 → v ≡ spent_view

-- One seat alone is the root. A number below 64 is that of a seat, was joined, or is due, once, exactly where the root noted that it made it
pub record AreSeats (views : List View) : Type 0 where
  pub one_root : sum_by (λ (v : View). owner_count 64 v.own) views ≡ 1
  pub once : (n : ℕ) → sum_by (made_count n) views ≤ 1
  pub living : (n : ℕ) → n < 64 → sum_by (held_count n) views ≡ sum_by (made_count n) views
  pub each : All IsSeat views

-- every seat that the root made was joined
abbrev pub AllJoined : View → Type 0
AllJoined v = All (λ number. Any (λ (h : HeldLevel). h.number ≡ number) v.inherited) v.made
