-- What a fuse tells, and how it answers for an event (own).
use Rattle.std.specs.Prelude.{ℕ, ◌≡◌, ◌+◌, Bool, IsTrue, Option, Some, None}
use Rattle.cm_words.specs.declared.fuse.EventKind.{EventKind}
use Rattle.cm_words.specs.declared.fuse.EventKind.TheVariants.{Load, Store, Exchange}
use Rattle.cm_words.specs.declared.fuse.Admit.{Admit}
use Rattle.cm_words.specs.declared.fuse.Admit.TheVariants.{Go, Die}

-- how many stores, or how many events of all kinds, a fuse still admits
pub data Budget : Type 0 where
  stores : ℕ → Budget
  events : ℕ → Budget

-- whether a fuse can die, how often it died, and its budget, if it tells one
pub record FuseSeen : Type 0 where
  pub can_die : Bool
  pub deaths : ℕ
  pub budget : Option Budget

-- an event of this kind counts for the budget
abbrev pub CountsFor : EventKind → Budget → Type 0
CountsFor kind (events left) = Unit {0}
CountsFor Store (stores left) = Unit {0}
CountsFor Load (stores left) = ⊥
CountsFor Exchange (stores left) = ⊥

-- how many of one event of this kind are stores
abbrev pub stores_in : EventKind → ℕ
stores_in Store = 1
stores_in Load = 0
stores_in Exchange = 0

-- the budget before and after events were admitted that raised the counts of events and of stores from these to those
abbrev pub CountsDown : ℕ → ℕ → ℕ → ℕ → Option Budget → Option Budget → Type 0
CountsDown e s later_e later_s None now = now ≡ None
CountsDown e s later_e later_s (Some (stores before)) now = (left : ℕ) × (left + later_s ≡ before + s) × (now ≡ Some (stores left))
CountsDown e s later_e later_s (Some (events before)) now = (left : ℕ) × (left + later_e ≡ before + e) × (now ≡ Some (events left))

-- the budget before these counts rose so, where the next event died: it was used up. No budget is told after a death
abbrev pub IsUsedUp : ℕ → ℕ → ℕ → ℕ → Option Budget → Option Budget → Type 0
IsUsedUp e s later_e later_s None now = now ≡ None
IsUsedUp e s later_e later_s (Some (stores before)) now = (later_s ≡ before + s) × (now ≡ None)
IsUsedUp e s later_e later_s (Some (events before)) now = (later_e ≡ before + e) × (now ≡ None)

-- the budget before an event of this kind that was admitted, or that died, and after it
abbrev pub SpendsBudget : EventKind → Admit → Option Budget → Option Budget → Type 0
SpendsBudget kind Go before now = CountsDown 0 0 1 (stores_in kind) before now
SpendsBudget kind Die None now = now ≡ None
SpendsBudget kind Die (Some budget) now = CountsFor kind budget × IsUsedUp 0 0 0 0 (Some budget) now

-- a fuse was asked for an event of this kind: it dies exactly where the count of deaths rises, and only where it can die
pub record Admits (kind : EventKind) (before now : FuseSeen) (answer : Admit) : Type 0 where
  pub never_begins : IsTrue now.can_die → IsTrue before.can_die
  pub go : answer ≡ Go → now.deaths ≡ before.deaths
  pub die : answer ≡ Die → (now.deaths ≡ before.deaths + 1) × IsTrue before.can_die
  pub budget : SpendsBudget kind answer before.budget now.budget
