use Rattle.std.proofs.Common.{◌≡◌, ℕ, ◌++◌, ◌∷◌, [], All, List, None, false, length, refl, sym, ap, ◌∙◌, subst, arith}
use Rattle.std.proofs.lemmas.List.Elements.{All-push}
use Rattle.cm_lock.specs.declared.view.View.{View}
use Rattle.cm_yard.specs.declared.view.View.{View as YardView}
use Rattle.cm_store.specs.Passes.{claims_view, views_of}
use Rattle.cm_store.specs.Splits.{with_seats}
use Rattle.cm_history.specs.Endings.{KeepsRoot}
use Rattle.cm_history.proofs.Gathering.{root_splits}
use Rattle.cm_caller.specs.declared.caller.Caller.{Caller}
use Rattle.cm_caller.specs.Records.{IsReady}
use Rattle.cm_caller.specs.Tries.{IsSafe}
use Rattle.cm_run.specs.Callers.{HasJoined, MadeBelow, asks, askers_below, numbers}
use Rattle.cm_run.specs.Gates.{CallerGates}
use Rattle.cm_run.proofs.Askers.{asker_more, asker_same, askers_are_below}
use Rattle.cm_run.proofs.Ready.{caller_is_ready, gate_is_safe, made_first, made_fresh, made_one, made_skip, numbers_push}
use Rattle.cm_run.proofs.Roots.{root_has_not_made, root_splits_off}
use Rattle.cm_run.proofs.run.callers_of.Goals as goal

pub loop-number-init : goal.loop-number-init
loop-number-init g c = record {
  numbers_are = ap (λ (l : List (Caller _)). numbers l) c.new-callers.ensures.items;
  ready = λ k d below. absurd (let e = ap length c.new-callers.ensures.items in omega arith);
  root_is = c.requires.root;
  joined = c.requires.made;
  keeps = c.requires.keeps;
  made = made_first c.args.script.now (g.G.GateMaker.seen c.args.gates.now);
}

pub loop-number-preserved-then-not-asks-number : goal.loop-number-preserved-then-not-asks-number
loop-number-preserved-then-not-asks-number g c =
    let i = c.loop-number.invariant in
    let n = c.loop-number.number in
    let silent : asks c.args.script.now n ≡ false = sym (c.askers-asks.ensures n c.loop-number-test.true) ∙ c.if-not-asks-number.true in
    let same = asker_same c.args.script.now n silent in
    record {
      numbers_are = i.numbers_are ∙ sym same;
      ready = i.ready;
      root_is = i.root_is;
      joined = subst (λ (made : List ℕ). HasJoined made [] c.loop-number.root) (sym same) i.joined;
      keeps = i.keeps;
      made = made_skip c.args.script.now n (g.G.GateMaker.seen c.args.gates.now) (g.G.GateMaker.seen c.loop-number.gates) silent i.made;
    }

pub make-gate-requires-clause-countable : goal.make-gate-requires-clause-countable
make-gate-requires-clause-countable g c =
    let n = c.loop-number.number in
    let fresh = made_fresh c.args.script.now n (g.G.GateMaker.seen c.args.gates.now) (g.G.GateMaker.seen c.loop-number.gates) c.loop-number.invariant.made in
    let few = (c.requires.countable n c.loop-number-test.true).0 in
    let same = ap (λ (counts : CallerGates). counts.made) fresh in omega arith

pub split-requires-clause-its : goal.split-requires-clause-its
split-requires-clause-its g c = c.loop-number.invariant.root_is.its

pub split-requires-clause-root : goal.split-requires-clause-root
split-requires-clause-root g c = c.loop-number.invariant.root_is.root_is

pub split-requires-clause-live : goal.split-requires-clause-live
split-requires-clause-live g c = c.loop-number.invariant.root_is.live

pub split-requires-clause-never : goal.split-requires-clause-never
split-requires-clause-never g c =
    root_has_not_made (askers_below c.args.script.now c.loop-number.number) [] c.loop-number.number c.loop-number.root (askers_are_below c.args.script.now c.loop-number.number) c.loop-number.invariant.joined

pub loop-number-preserved : goal.loop-number-preserved
loop-number-preserved g c =
    let i = c.loop-number.invariant in
    let n = c.loop-number.number in
    let script = c.args.script.now in
    let p = c.in_ok-pass.ensures in
    let before = g.G.GateMaker.seen c.args.gates.now in
    let now = g.G.GateMaker.seen c.loop-number.gates in
    let later = g.G.GateMaker.seen c.make-gate.new.self in
    let gate = g.G.Gate.Fuse.fused c.make-gate.result in
    let asking : asks script n ≡ _ = sym (c.askers-asks.ensures n c.loop-number-test.true) ∙ c.if-not-asks-number.false in
    let more = asker_more script n asking in
    let safe : IsSafe (g.G.Gate.Fuse.fused c.in_ok-pass.pass.fuse) = subst (λ f. IsSafe (g.G.Gate.Fuse.fused f)) (sym p.made_fuse) (gate_is_safe script n before now later gate c.requires.never i.made c.make-gate.ensures) in
    let caller : Caller _ = record { pass = c.in_ok-pass.pass; number = n; receipts = c.new.result; halt = None } in
    let items = c.in_ok-push.ensures.items in
    record {
      numbers_are = ap (λ (l : List (Caller _)). numbers l) items ∙ (numbers_push c.loop-number.callers.items caller ∙ (ap (λ (l : List ℕ). l ++ n ∷ []) i.numbers_are ∙ sym more));
      ready = subst (λ (l : List (Caller _)). All (IsReady g.G.Gate.Fuse.fused c.args.store.now script) l) (sym items)
          (All-push (IsReady g.G.Gate.Fuse.fused c.args.store.now script) c.loop-number.callers.items caller i.ready
          (caller_is_ready g.G.Gate.Fuse.fused c.args.store.now script (views_of c.loop-number.root) caller p.made_its p.made_views p.made_claims p.made_number safe p.made_live p.made_no_sweep c.new.ensures.items refl));
      root_is = record { its = p.its; root_is = p.root; live = p.root_live; no_sweep = p.root_sweep ∙ i.root_is.no_sweep };
      joined = subst (λ (made : List ℕ). HasJoined made [] c.split.new.root) (sym more)
          (root_splits_off (askers_below script n) [] n c.loop-number.root c.split.new.root i.joined p.root_views p.root_claims);
      keeps = subst (λ (vs : List View). KeepsRoot c.args.store.now.geo.extra (λ segment. []) vs (claims_view c.split.new.root)) (sym p.root_views)
          (subst (λ (y : YardView). KeepsRoot c.args.store.now.geo.extra (λ segment. []) (with_seats n (views_of c.loop-number.root)) y) (sym p.root_claims)
          (root_splits c.args.store.now.geo.extra n (λ segment. []) (views_of c.loop-number.root) (claims_view c.loop-number.root) i.keeps));
      made = made_one script n before now later gate asking i.made c.make-gate.ensures;
    }

pub returns-clause-ready : goal.returns-clause-ready
returns-clause-ready g c =
    let i = c.loop-number.invariant in
    let all : c.loop-number.number ≡ 64 = (let m = c.loop-number.auto.number-end in omega (arith, c.loop-number-test.false)) in
    record {
      numbers_are = i.numbers_are ∙ ap (askers_below c.args.script.now) all;
      ready = i.ready;
      root_is = i.root_is;
      made = subst (λ (k : ℕ). HasJoined (askers_below c.args.script.now k) [] c.loop-number.root) all i.joined;
      keeps = i.keeps;
    }

pub returns-clause-made : goal.returns-clause-made
returns-clause-made g c =
    let all : c.loop-number.number ≡ 64 = (let m = c.loop-number.auto.number-end in omega (arith, c.loop-number-test.false)) in
    subst (λ (k : ℕ). MadeBelow c.args.script.now k (g.G.GateMaker.seen c.args.gates.now) (g.G.GateMaker.seen c.loop-number.gates)) all c.loop-number.invariant.made
