-- A fuse with counts of what it admitted (own).
use Rattle.std.specs.Prelude.{ℕ, ◌≡◌, ◌+◌, ◌≤◌, IsTrue, Option, Some, None, Result, OnOk, OnErr}
use Rattle.cm_words.specs.declared.fuse.EventKind.{EventKind}
use Rattle.cm_words.specs.Fuses.{CountsFor, CountsDown, FuseSeen, Budget, IsUsedUp, stores_in}

-- a fuse, and how many events, and how many stores among them, were counted
pub record MeterSeen : Type 0 where
  pub fuse : FuseSeen
  pub events : ℕ
  pub stores : ℕ

-- a fuse of which no event was counted yet
abbrev pub unused : FuseSeen → MeterSeen
unused fuse = record { fuse = fuse; events = 0; stores = 0 }

-- no event died: the number that the fuse tells fell by as many as were counted
pub record Survives (old now : MeterSeen) : Type 0 where
  pub events : old.events ≤ now.events
  pub stores : old.stores ≤ now.stores
  pub stores_within : now.stores + old.events ≤ now.events + old.stores
  pub never_begins : IsTrue now.fuse.can_die → IsTrue old.fuse.can_die
  pub deaths : now.fuse.deaths ≡ old.fuse.deaths
  pub budget : CountsDown old.events old.stores now.events now.stores old.fuse.budget now.fuse.budget

-- an event died after those that were counted: the budget that the fuse told was used up by these, and the fuse died once
pub record IsKilled (old now : MeterSeen) : Type 0 where
  pub events : old.events ≤ now.events
  pub stores : old.stores ≤ now.stores
  pub stores_within : now.stores + old.events ≤ now.events + old.stores
  pub never_begins : IsTrue now.fuse.can_die → IsTrue old.fuse.can_die
  pub could : IsTrue old.fuse.can_die
  pub deaths : now.fuse.deaths ≡ old.fuse.deaths + 1
  pub budget : IsUsedUp old.events old.stores now.events now.stores old.fuse.budget now.fuse.budget

-- a call answers Dead exactly where one of its events died
pub record ReportsDeath {T E : Type 0} (old now : MeterSeen) (result : Result T E) : Type 0 where
  pub survives : OnOk result (Survives old now)
  pub killed : OnErr result (IsKilled old now)

-- an event of this kind counts for the budget, if the fuse tells one
abbrev pub CountsForBudget : EventKind → Option Budget → Type 0
CountsForBudget kind None = Unit {0}
CountsForBudget kind (Some budget) = CountsFor kind budget

-- a call makes one event of this kind, or dies in its place
pub record MakesEvent {T E : Type 0} (kind : EventKind) (old now : MeterSeen) (result : Result T E) : Type 0 where
  pub events : OnOk result (now.events ≡ old.events + 1)
  pub stores : OnOk result (now.stores ≡ old.stores + stores_in kind)
  pub counts : OnErr result (CountsForBudget kind old.fuse.budget)
