use Rattle.std.proofs.Common.{◌∙◌, ◌+◌, All, List, reverse, sym, ap, subst, arith}
use Rattle.std.proofs.lemmas.List.{nil_from_length, reverse-reverse}
use Rattle.cm_caller.specs.declared.caller.Caller.{Caller}
use Rattle.cm_run.specs.Callers.{HasPerformed, numbers}
use Rattle.cm_run.proofs.Gatherings.{front_all, gates_countable, gates_go_on, gates_same, gathers_none, last_all, last_gathers, next_asks, next_behind, next_below, next_gathers, reverse_all}
use Rattle.cm_run.proofs.run.gather.Goals as goal

pub loop-caller-init : goal.loop-caller-init
loop-caller-init g c = record {
  number = 0;
  behind = record {
    within = omega arith;
    numbers_are = ap (λ (l : List (Caller _)). numbers (reverse l)) c.reverse.ensures.items ∙ (ap (λ (l : List (Caller _)). numbers l) (reverse-reverse c.args.callers.items) ∙ c.requires.numbers);
  };
  performed = subst (λ (l : List (Caller _)). All (HasPerformed g.G.Gate.Fuse.fused c.args.store.now c.args.script.now) l) (sym c.reverse.ensures.items)
      (reverse_all (HasPerformed g.G.Gate.Fuse.fused c.args.store.now c.args.script.now) c.args.callers.items c.requires.performed);
  root_is = c.requires.root;
  gates = gates_same (g.G.GateMaker.seen c.args.gates.now);
  gathers = gathers_none c.args.store.now c.args.script.now (record { receipts = c.new.result; ends = c.new-2.result; starved = _ }) c.args.root.now c.new.ensures.items c.new-2.ensures.items c.requires.keeps c.requires.made;
}

pub take_back-requires-clause-performed : goal.take_back-requires-clause-performed
take_back-requires-clause-performed g c κs within =
    last_all (HasPerformed g.G.Gate.Fuse.fused c.args.store.now c.args.script.now) c.pop.new.self.items c.in-Some.caller
    (subst (λ (l : List (Caller _)). All (HasPerformed g.G.Gate.Fuse.fused c.args.store.now c.args.script.now) l) c.in-Some.ensures.items c.loop-caller.invariant.performed)

pub take_back-requires-clause-small : goal.take_back-requires-clause-small
take_back-requires-clause-small g c κs within =
    next_below c.args.script.now c.pop.new.self.items c.in-Some.caller c.loop-caller.callers.items c.loop-caller.invariant.number c.in-Some.ensures.items c.loop-caller.invariant.behind

pub take_back-requires-clause-asks : goal.take_back-requires-clause-asks
take_back-requires-clause-asks g c κs within =
    next_asks c.args.script.now c.pop.new.self.items c.in-Some.caller c.loop-caller.callers.items c.loop-caller.invariant.number c.in-Some.ensures.items c.loop-caller.invariant.behind

pub take_back-requires-clause-countable : goal.take_back-requires-clause-countable
take_back-requires-clause-countable g c κs within =
    gates_countable (g.G.GateMaker.seen c.args.gates.now) (g.G.GateMaker.seen c.loop-caller.gates) c.loop-caller.invariant.gates c.requires.countable

pub take_back-requires-clause-gathers : goal.take_back-requires-clause-gathers
take_back-requires-clause-gathers g c κs within =
    next_gathers c.args.script.now c.pop.new.self.items c.in-Some.caller c.loop-caller.callers.items c.loop-caller.invariant.number c.in-Some.ensures.items c.loop-caller.invariant.behind
    c.args.store.now c.loop-caller.all c.loop-caller.root c.loop-caller.invariant.gathers

pub loop-caller-preserved : goal.loop-caller-preserved
loop-caller-preserved g c = record {
  number = c.in-Some.caller.number + 1;
  behind = next_behind c.args.script.now c.pop.new.self.items c.in-Some.caller c.loop-caller.callers.items c.loop-caller.invariant.number c.in-Some.ensures.items c.loop-caller.invariant.behind;
  performed = front_all (HasPerformed g.G.Gate.Fuse.fused c.args.store.now c.args.script.now) c.pop.new.self.items c.in-Some.caller
      (subst (λ (l : List (Caller _)). All (HasPerformed g.G.Gate.Fuse.fused c.args.store.now c.args.script.now) l) c.in-Some.ensures.items c.loop-caller.invariant.performed);
  root_is = c.in_ok-take_back.ensures.root;
  gates = gates_go_on (g.G.GateMaker.seen c.args.gates.now) (g.G.GateMaker.seen c.loop-caller.gates) (g.G.GateMaker.seen c.take_back.new.gates) c.loop-caller.invariant.gates c.in_ok-take_back.ensures.gates;
  gathers = c.in_ok-take_back.ensures.gathers;
}

pub returns-clause-gathers : goal.returns-clause-gathers
returns-clause-gathers g c =
    last_gathers c.args.store.now c.args.script.now c.loop-caller.callers.items c.loop-caller.invariant.number c.loop-caller.all c.loop-caller.root
    (nil_from_length c.loop-caller.callers.items (let o = c.loop-caller.callers.ok.0 in let e = c.in_default.ensures.cases.0 in omega arith))
    c.loop-caller.invariant.behind c.loop-caller.invariant.gathers
