-- What a peek over the open round of a seat tells (own).
use Rattle.std.specs.Prelude.{◌≡◌, Option, Some, None}
use Rattle.std.proofs.Common.{◌∙◌, refl, ap}
use Rattle.cm_words.specs.Fuses.{FuseSeen}
use Rattle.cm_words.specs.Peeks.{PeekSeen}
use Rattle.cm_lock.specs.declared.view.Key.{Key}
use Rattle.cm_lock.specs.declared.view.Round.{Round}
use Rattle.cm_lock.specs.declared.view.View.{View}
use Rattle.cm_lock.specs.declared.peeking.Peeking.{Peeking}
use Rattle.cm_lock.specs.Rounds.{found_in}
use Rattle.cm_lock.specs.Rule.{seat_meter}
use Rattle.cm_lock.specs.Tables.{key_of, view_of}

-- what a peek over a view tells, with this fuse
abbrev pub round_seen : Key → FuseSeen → View → PeekSeen
round_seen key fuse v = record { geo = key.geo; segment = key.segment; found = found_in v.round; meter = seat_meter fuse v }

-- what a peek tells
abbrev pub peeking_seen : {F : Type 0} {g : _} → (F → FuseSeen) → Peeking F g → PeekSeen
peeking_seen fused p = round_seen (key_of p.table.now) (fused p.fuse.now) (view_of p.seat.now)

-- a round with the words that another one found
abbrev pub with_found_of : Option Round → Option Round → Option Round
with_found_of None other = None
with_found_of (Some round) other = Some (record round { found = found_in other })

-- a view with the events and the found words of another one
abbrev pub with_found_rest : View → View → View
with_found_rest v w = record v { events = w.events; round = with_found_of v.round w.round }

-- two peeks are over one table, by the same loan of one seat and of one fuse, and nothing but what was found and the events changed
pub record SameRest {F : Type 0} {g : _} (a b : Peeking F g) : Type 0 where
  pub table : b.table.now ≡ a.table.now
  pub seat_name : b.seat.ghost_name ≡ a.seat.ghost_name
  pub fuse_name : b.fuse.ghost_name ≡ a.fuse.ghost_name
  pub table_id : b.seat.now.seat.table_id ≡ a.seat.now.seat.table_id
  pub id : b.seat.now.seat.id ≡ a.seat.now.seat.id
  pub view : view_of b.seat.now ≡ with_found_rest (view_of a.seat.now) (view_of b.seat.now)

-- two laws of the rest

own_found : (round : Option Round) → round ≡ with_found_of round round
own_found None = refl
own_found (Some round) = refl

found_twice : (a b c : Option Round) → b ≡ with_found_of a b → with_found_of b c ≡ with_found_of a c
found_twice None b c e = ap (λ (r : Option Round). with_found_of r c) e
found_twice (Some round) b c e = ap (λ (r : Option Round). with_found_of r c) e

pub same_rest_reflexive : {F : Type 0} {g : _} (p : Peeking F g) → SameRest p p
same_rest_reflexive p = record {
  table = refl;
  seat_name = refl;
  fuse_name = refl;
  table_id = refl;
  id = refl;
  view = λ i. record (view_of p.seat.now) { round = own_found (view_of p.seat.now).round i };
}

pub same_rest_transitive : {F : Type 0} {g : _} (a b c : Peeking F g) → SameRest a b → SameRest b c → SameRest a c
same_rest_transitive a b c p q = record {
  table = q.table ∙ p.table;
  seat_name = q.seat_name ∙ p.seat_name;
  fuse_name = q.fuse_name ∙ p.fuse_name;
  table_id = q.table_id ∙ p.table_id;
  id = q.id ∙ p.id;
  view = q.view ∙ ((λ i. record (p.view i) { events = (view_of c.seat.now).events; round = with_found_of (view_of b.seat.now).round (view_of c.seat.now).round })
      ∙ (λ i. record (view_of a.seat.now) { events = (view_of c.seat.now).events; round = found_twice (view_of a.seat.now).round (view_of b.seat.now).round (view_of c.seat.now).round (λ j. (p.view j).round) i }));
}
