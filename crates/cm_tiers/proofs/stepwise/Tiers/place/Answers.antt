-- A tier that was found is the chain's, and one link more is followed or ends the chain.
use Rattle.std.proofs.Common.{◌-◌, true, refl, sym, ◌∙◌, arith}
use Rattle.cm_tiers.specs.Chains.{places_of}
use Rattle.cm_tiers.proofs.TiersFound.{all_ended, all_found, ended_by, found_after, leads_to_known, leads_to_none, none_behind, one_found, one_place, place_below, place_found}
use Rattle.cm_tiers.proofs.stepwise.Tiers.place.Goals as goal

pub returns-then-number-len-clause-place : goal.returns-then-number-len-clause-place
returns-then-number-len-clause-place g c =
    place_found (g.M.Mem.seen c.args.mem.now) c.args.geo.now c.args.self.now c.args.number _ c.requires.found c.if-number-len.true refl

pub returns-then-self-clause-place : goal.returns-then-self-clause-place
returns-then-self-clause-place g c =
    none_behind (g.M.Mem.seen c.args.mem.now) c.args.geo.now c.args.self.now c.args.number c.requires.found (all_ended (g.M.Mem.seen c.args.mem.now) c.args.geo.now c.args.self.now c.requires.found c.if-self.true) c.if-number-len.false

pub returns-then-len-tiers-clause-all : goal.returns-then-len-tiers-clause-all
returns-then-len-tiers-clause-all g c _ =
    all_found (g.M.Mem.seen c.args.mem.now) c.args.geo.now c.args.self.now c.requires.found (c.if-len-tiers.true ∙ c.tiers.ensures)

pub returns-then-len-tiers-clause-place : goal.returns-then-len-tiers-clause-place
returns-then-len-tiers-clause-place g c =
    none_behind (g.M.Mem.seen c.args.mem.now) c.args.geo.now c.args.self.now c.args.number c.requires.found (all_found (g.M.Mem.seen c.args.mem.now) c.args.geo.now c.args.self.now c.requires.found (c.if-len-tiers.true ∙ c.tiers.ensures)) c.if-number-len.false

pub next-requires-clause-place : goal.next-requires-clause-place
next-requires-clause-place g c =
    place_below (g.M.Mem.seen c.args.mem.now) c.args.geo.now c.args.self.now (c.args.self.now.found.len - 1) _ c.requires.found (omega (arith, c.requires.found.read.nonzero)) refl

pub returns-in_err-place-clause-found : goal.returns-in_err-place-clause-found
returns-in_err-place-clause-found g c = found_after (g.M.Mem.seen c.args.mem.now) (g.M.Mem.seen c.next.new.mem) c.args.geo.now c.args.self.now c.requires.found c.in_err-place.ensures.loads.call.cut.reads

pub returns-in_default-clause-found : goal.returns-in_default-clause-found
returns-in_default-clause-found g c =
    ended_by (g.M.Mem.seen c.args.mem.now) (g.M.Mem.seen c.next.new.mem) c.args.geo.now c.args.self.now c.requires.found c.if-self.false c.in_ok-place.ensures.loads.call.done
    (λ words fits. leads_to_none c.args.geo.now _ (places_of c.args.self.now.found) (rw c.in_default.is at c.in_ok-place.ensures.linked words fits))

pub returns-in_default-clause-all : goal.returns-in_default-clause-all
returns-in_default-clause-all g c _ = all_ended (g.M.Mem.seen c.next.new.mem) c.args.geo.now (record { found = c.args.self.now.found; ended = true }) (returns-in_default-clause-found g c) refl

pub returns-in_default-clause-place : goal.returns-in_default-clause-place
returns-in_default-clause-place g c =
    none_behind (g.M.Mem.seen c.next.new.mem) c.args.geo.now (record { found = c.args.self.now.found; ended = true }) c.args.number (returns-in_default-clause-found g c) (returns-in_default-clause-all g c refl) c.if-number-len.false

pub returns-then-contains-clause-found : goal.returns-then-contains-clause-found
returns-then-contains-clause-found g c =
    ended_by (g.M.Mem.seen c.args.mem.now) (g.M.Mem.seen c.next.new.mem) c.args.geo.now c.args.self.now c.requires.found c.if-self.false c.in_ok-place.ensures.loads.call.done
    (λ words fits. leads_to_known c.args.geo.now _ c.in-Some.place (places_of c.args.self.now.found) (rw c.in-Some.is at c.in_ok-place.ensures.linked words fits) (sym c.contains.ensures.value ∙ c.if-contains.true))

pub returns-then-contains-clause-all : goal.returns-then-contains-clause-all
returns-then-contains-clause-all g c _ = all_ended (g.M.Mem.seen c.next.new.mem) c.args.geo.now (record { found = c.args.self.now.found; ended = true }) (returns-then-contains-clause-found g c) refl

pub returns-then-contains-clause-place : goal.returns-then-contains-clause-place
returns-then-contains-clause-place g c =
    none_behind (g.M.Mem.seen c.next.new.mem) c.args.geo.now (record { found = c.args.self.now.found; ended = true }) c.args.number (returns-then-contains-clause-found g c) (returns-then-contains-clause-all g c refl) c.if-number-len.false

pub returns-clause-found : goal.returns-clause-found
returns-clause-found g c =
    one_found (g.M.Mem.seen c.args.mem.now) (g.M.Mem.seen c.next.new.mem) c.args.geo.now c.args.self.now c.in-Some.place c.requires.found c.if-self.false c.in_ok-place.ensures.loads.call.done
    (λ words fits. rw c.in-Some.is at c.in_ok-place.ensures.linked words fits) (rw c.in-Some.is at c.in_ok-place.ensures.below) (sym c.contains.ensures.value ∙ c.if-contains.false)

pub returns-clause-inside : goal.returns-clause-inside
returns-clause-inside g c = record {
  found = omega (arith, c.requires.number);
  below = rw c.in-Some.is at c.in_ok-place.ensures.below;
}

pub returns-clause-place : goal.returns-clause-place
returns-clause-place g c =
    one_place (g.M.Mem.seen c.next.new.mem) c.args.geo.now c.args.self.now c.args.number c.in-Some.place (returns-clause-found g c) (omega (arith, c.requires.number, c.if-number-len.false))
