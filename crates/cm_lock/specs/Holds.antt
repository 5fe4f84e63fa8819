-- What a memory over a seat that holds a level tells (own).
use Rattle.std.specs.Prelude.{ℕ, ◌≡◌, ◌<◌, ◌≤◌, ◌∷◌, ◌++◌, [], IsTrue, None}
use Rattle.std.proofs.Common.{◌∙◌, refl, ap}
use Rattle.std.proofs.Math.Nat.{le_refl, le_trans, lt_of_le_of_lt}
use Rattle.cm_plain.specs.Changes.{Change}
use Rattle.cm_words.specs.Fuses.{FuseSeen}
use Rattle.cm_words.specs.Memory.{MemSeen}
use Rattle.cm_lock.specs.declared.view.Key.{Key}
use Rattle.cm_lock.specs.declared.view.View.{View}
use Rattle.cm_lock.specs.declared.hold.Hold.{Hold}
use Rattle.cm_lock.specs.Rule.{level_seen, seat_meter}
use Rattle.cm_lock.specs.Tables.{key_of, view_of}
use Rattle.cm_lock.specs.Views.{copy_of}

-- what a memory over a view tells, with this fuse
abbrev pub view_seen : Key → FuseSeen → View → MemSeen
view_seen key fuse v = level_seen key v.own (seat_meter fuse v)

-- what a hold tells
abbrev pub hold_seen : {F : Type 0} {g : _} → (F → FuseSeen) → Hold F g → MemSeen
hold_seen fused h = view_seen (key_of h.table.now) (fused h.fuse.now) (view_of h.seat.now)

-- a law: the lock word has no note
pub lock_unnoted : {F : Type 0} {g : _} (fused : F → FuseSeen) (h : Hold F g) → IsTrue (hold_seen fused h).setting.shared → (hold_seen fused h).noted 0 ≡ None
lock_unnoted fused h shared = refl

-- a view with the plan, the notes, the counts and the number seen of another one
abbrev pub with_rest : View → View → View
with_rest v w = record v { events = w.events; stores = w.stores; seen = w.seen; own = record v.own { plan = w.own.plan; notes = w.own.notes } }

-- two holds are over one table, by the same loan of one seat and of one fuse
pub record IsSameLoan {F : Type 0} {g : _} (a b : Hold F g) : Type 0 where
  pub table : b.table.now ≡ a.table.now
  pub seat_name : b.seat.ghost_name ≡ a.seat.ghost_name
  pub fuse_name : b.fuse.ghost_name ≡ a.fuse.ghost_name
  pub table_id : b.seat.now.seat.table_id ≡ a.seat.now.seat.table_id
  pub id : b.seat.now.seat.id ≡ a.seat.now.seat.id

-- nothing but plan, notes and counts changed, and the greatest number seen didn't fall
pub record SameRest {F : Type 0} {g : _} (a b : Hold F g) : Type 0 where
  pub loan : IsSameLoan a b
  pub view : view_of b.seat.now ≡ with_rest (view_of a.seat.now) (view_of b.seat.now)
  pub seen : (view_of a.seat.now).seen ≤ (view_of b.seat.now).seen

-- a view with one change more
abbrev pub with_change : View → Change → ℕ → View
with_change v change number = record v { changes = v.changes ++ record { number = number; change = copy_of change } ∷ [] }

-- besides, a change entered, at a number above all that were seen before
pub record RestWith {F : Type 0} {g : _} (a b : Hold F g) (change : Change) (number : ℕ) : Type 0 where
  pub loan : IsSameLoan a b
  pub view : view_of b.seat.now ≡ with_rest (with_change (view_of a.seat.now) change number) (view_of b.seat.now)
  pub above : (view_of a.seat.now).seen < number
  pub seen : number ≤ (view_of b.seat.now).seen

-- four laws of the rest

loan_transitive : {F : Type 0} {g : _} (a b c : Hold F g) → IsSameLoan a b → IsSameLoan b c → IsSameLoan a c
loan_transitive a b c p q = record {
  table = q.table ∙ p.table;
  seat_name = q.seat_name ∙ p.seat_name;
  fuse_name = q.fuse_name ∙ p.fuse_name;
  table_id = q.table_id ∙ p.table_id;
  id = q.id ∙ p.id;
}

pub same_rest_reflexive : {F : Type 0} {g : _} (h : Hold F g) → SameRest h h
same_rest_reflexive h = record { loan = record { table = refl; seat_name = refl; fuse_name = refl; table_id = refl; id = refl }; view = refl; seen = le_refl (view_of h.seat.now).seen }

pub same_rest_transitive : {F : Type 0} {g : _} (a b c : Hold F g) → SameRest a b → SameRest b c → SameRest a c
same_rest_transitive a b c p q = record {
  loan = loan_transitive a b c p.loan q.loan;
  view = q.view ∙ ap (λ (v : View). with_rest v (view_of c.seat.now)) p.view;
  seen = le_trans p.seen q.seen;
}

pub rest_before : {F : Type 0} {g : _} (a b c : Hold F g) (change : Change) (number : ℕ) → SameRest a b → RestWith b c change number → RestWith a c change number
rest_before a b c change number p q = record {
  loan = loan_transitive a b c p.loan q.loan;
  view = q.view ∙ ap (λ (v : View). with_rest (with_change v change number) (view_of c.seat.now)) p.view;
  above = lt_of_le_of_lt p.seen q.above;
  seen = q.seen;
}

pub rest_behind : {F : Type 0} {g : _} (a b c : Hold F g) (change : Change) (number : ℕ) → RestWith a b change number → SameRest b c → RestWith a c change number
rest_behind a b c change number p q = record {
  loan = loan_transitive a b c p.loan q.loan;
  view = q.view ∙ ap (λ (v : View). with_rest v (view_of c.seat.now)) p.view;
  above = p.above;
  seen = le_trans p.seen q.seen;
}
