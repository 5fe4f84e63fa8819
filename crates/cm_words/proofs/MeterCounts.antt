-- How counts and budgets go on from one call to the next.
use Rattle.std.proofs.Common.{◌≡◌, ℕ, ◌+◌, ◌≤◌, ◌∙◌, Some, None, Option, arith, refl, subst, Ok, Err}
use Rattle.std.specs.declared.result.Result.{Result}
use Rattle.cm_words.specs.declared.fuse.Admit.TheVariants.{Go, Die}
use Rattle.cm_words.specs.declared.fuse.EventKind.{EventKind}
use Rattle.cm_words.specs.declared.fuse.EventKind.TheVariants.{Load, Store, Exchange}
use Rattle.cm_words.specs.Fuses.{Admits, CountsDown, FuseSeen, SpendsBudget, Budget, IsUsedUp, events, stores, stores_in}
use Rattle.cm_words.specs.Meters.{CountsForBudget, IsKilled, ReportsDeath, Survives, MeterSeen}

-- a number that falls and falls on has fallen by both
counts_down_transitive : (e s e1 s1 e2 s2 : ℕ) (before between after : Option Budget) → CountsDown e s e1 s1 before between → CountsDown e1 s1 e2 s2 between after → CountsDown e s e2 s2 before after
counts_down_transitive e s e1 s1 e2 s2 None between after h k = subst (λ (t : Option Budget). CountsDown e1 s1 e2 s2 t after) h k
counts_down_transitive e s e1 s1 e2 s2 (Some (stores n)) between after h k =
    let next : CountsDown e1 s1 e2 s2 (Some (stores h.0)) after = subst (λ (t : Option Budget). CountsDown e1 s1 e2 s2 t after) h.2 k in
    (next.0, omega (arith, h.1, next.1), next.2)
counts_down_transitive e s e1 s1 e2 s2 (Some (events n)) between after h k =
    let next : CountsDown e1 s1 e2 s2 (Some (events h.0)) after = subst (λ (t : Option Budget). CountsDown e1 s1 e2 s2 t after) h.2 k in
    (next.0, omega (arith, h.1, next.1), next.2)

used_up_after : (e s e1 s1 e2 s2 : ℕ) (before between after : Option Budget) → CountsDown e s e1 s1 before between → IsUsedUp e1 s1 e2 s2 between after → IsUsedUp e s e2 s2 before after
used_up_after e s e1 s1 e2 s2 None between after h k = subst (λ (t : Option Budget). IsUsedUp e1 s1 e2 s2 t after) h k
used_up_after e s e1 s1 e2 s2 (Some (stores n)) between after h k =
    let next : IsUsedUp e1 s1 e2 s2 (Some (stores h.0)) after = subst (λ (t : Option Budget). IsUsedUp e1 s1 e2 s2 t after) h.2 k in
    (omega (arith, h.1, next.0), next.1)
used_up_after e s e1 s1 e2 s2 (Some (events n)) between after h k =
    let next : IsUsedUp e1 s1 e2 s2 (Some (events h.0)) after = subst (λ (t : Option Budget). IsUsedUp e1 s1 e2 s2 t after) h.2 k in
    (omega (arith, h.1, next.0), next.1)

counts_down_reflexive : (e s : ℕ) (budget : Option Budget) → CountsDown e s e s budget budget
counts_down_reflexive e s None = refl
counts_down_reflexive e s (Some (stores n)) = (n, refl, refl)
counts_down_reflexive e s (Some (events n)) = (n, refl, refl)

-- no event at all
pub survives_reflexive : (m : MeterSeen) → Survives m m
survives_reflexive m = record {
  events = omega arith;
  stores = omega arith;
  stores_within = omega arith;
  never_begins = λ h. h;
  deaths = refl;
  budget = counts_down_reflexive m.events m.stores m.fuse.budget;
}

-- two calls one after the other, of which none died
pub survives_transitive : (a b c : MeterSeen) → Survives a b → Survives b c → Survives a c
survives_transitive a b c p q = record {
  events = omega (arith, p.events, q.events);
  stores = omega (arith, p.stores, q.stores);
  stores_within = omega (arith, p.stores_within, q.stores_within);
  never_begins = λ h. p.never_begins (q.never_begins h);
  deaths = q.deaths ∙ p.deaths;
  budget = counts_down_transitive a.events a.stores b.events b.stores c.events c.stores a.fuse.budget b.fuse.budget c.fuse.budget p.budget q.budget;
}

-- the second one died
pub survives_killed : (a b c : MeterSeen) → Survives a b → IsKilled b c → IsKilled a c
survives_killed a b c p q = record {
  events = omega (arith, p.events, q.events);
  stores = omega (arith, p.stores, q.stores);
  stores_within = omega (arith, p.stores_within, q.stores_within);
  never_begins = λ h. p.never_begins (q.never_begins h);
  could = p.never_begins q.could;
  deaths = omega (arith, p.deaths, q.deaths);
  budget = used_up_after a.events a.stores b.events b.stores c.events c.stores a.fuse.budget b.fuse.budget c.fuse.budget p.budget q.budget;
}

-- a call after others
pub reports_after : {T E : Type 0} (a b c : MeterSeen) (result : Result T E) → Survives a b → ReportsDeath b c result → ReportsDeath a c result
reports_after a b c (Ok x) p q = record { survives = survives_transitive a b c p q.survives; killed = q.killed }
reports_after a b c (Err x) p q = record { survives = q.survives; killed = survives_killed a b c p q.killed }

-- the number after an event that was admitted, as counts rose by it
counts_down_by : (e s later_e later_s stores_more : ℕ) (before now : Option Budget) → later_e ≡ e + 1 → later_s ≡ s + stores_more → CountsDown 0 0 1 stores_more before now → CountsDown e s later_e later_s before now
counts_down_by e s later_e later_s more None now p q h = h
counts_down_by e s later_e later_s more (Some (stores n)) now p q h = (h.0, omega (arith, h.1), h.2)
counts_down_by e s later_e later_s more (Some (events n)) now p q h = (h.0, omega (arith, h.1), h.2)

few_stores : (kind : EventKind) → stores_in kind ≤ 1
few_stores Load = omega arith
few_stores Store = omega arith
few_stores Exchange = omega arith

-- an event that was admitted
pub survives_event : (kind : EventKind) (old now : MeterSeen) → Admits kind old.fuse now.fuse Go → now.events ≡ old.events + 1 → now.stores ≡ old.stores + stores_in kind → Survives old now
survives_event kind old now admits e s =
    let stores_within = few_stores kind in
    record {
      events = omega (arith, e);
      stores = omega (arith, s);
      stores_within = omega (arith, e, s, stores_within);
      never_begins = admits.never_begins;
      deaths = admits.go refl;
      budget = counts_down_by old.events old.stores now.events now.stores (stores_in kind) old.fuse.budget now.fuse.budget e s admits.budget;
    }

used_up_by : (kind : EventKind) (e s later_e later_s : ℕ) (before now : Option Budget) → later_e ≡ e → later_s ≡ s → SpendsBudget kind Die before now → IsUsedUp e s later_e later_s before now
used_up_by kind e s later_e later_s None now p q h = h
used_up_by kind e s later_e later_s (Some (stores n)) now p q h = (omega (arith, h.1.0), h.1.1)
used_up_by kind e s later_e later_s (Some (events n)) now p q h = (omega (arith, h.1.0), h.1.1)

-- an event that died
pub killed_event : (kind : EventKind) (old now : MeterSeen) → Admits kind old.fuse now.fuse Die → now.events ≡ old.events → now.stores ≡ old.stores → IsKilled old now
killed_event kind old now admits e s =
    let died = admits.die refl in
    record {
      events = omega (arith, e);
      stores = omega (arith, s);
      stores_within = omega (arith, e, s);
      never_begins = admits.never_begins;
      could = died.1;
      deaths = died.0;
      budget = used_up_by kind old.events old.stores now.events now.stores old.fuse.budget now.fuse.budget e s admits.budget;
    }

counts_by : (kind : EventKind) (before now : Option Budget) → SpendsBudget kind Die before now → CountsForBudget kind before
counts_by kind None now h = tt
counts_by kind (Some budget) now h = h.0

pub counts_event : (kind : EventKind) (old now : FuseSeen) → Admits kind old now Die → CountsForBudget kind old.budget
counts_event kind old now admits = counts_by kind old.budget now.budget admits.budget
