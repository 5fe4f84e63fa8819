-- Callers that are ready, and the gates that were made for them.
use Rattle.std.proofs.Common.{◌≡◌, ℕ, suc, ◌+◌, ◌<◌, true, false, List, [], ◌∷◌, ◌++◌, All, None, get_or, length, slice_get, Some, true≢false, refl, sym, ap, ◌∙◌, subst, arith, inl, inr}
use Rattle.std.proofs.lemmas.Bool.{cases_Bool, cases_eq}
use Rattle.std.proofs.lemmas.List.{get_or_default, map-append}
use Rattle.std.proofs.lemmas.Option.{get_or_from_slice_get}
use Rattle.cm_words.specs.Fuses.{FuseSeen}
use Rattle.cm_lock.specs.declared.view.View.{View}
use Rattle.cm_lock.specs.Views.{new_view}
use Rattle.cm_yard.specs.Views.{new_view as yard_new_view}
use Rattle.cm_turn.specs.Records.{IsIdle}
use Rattle.cm_store.specs.declared.store.Store.{Store}
use Rattle.cm_store.specs.Passes.{IsPassOf, claims_view, is_dead, number_of, sweep_of, views_of}
use Rattle.cm_store.specs.Splits.{new_views}
use Rattle.cm_store.proofs.Elements.{element_at, mapped_at}
use Rattle.cm_history.proofs.Keeping.{keeps_new}
use Rattle.cm_script.specs.declared.line.Line.{Line}
use Rattle.cm_caller.specs.declared.caller.Caller.{Caller}
use Rattle.cm_caller.specs.Records.{IsReady, Performs}
use Rattle.cm_caller.specs.Tries.{IsSafe}
use Rattle.cm_run.specs.Callers.{HavePerformed, MadeBelow, NeverDies, asks, made_for, numbers}
use Rattle.cm_run.specs.Gates.{MakerSeen, MakesGate}

-- ---- gates

pub made_first : (script : List Line) (m : MakerSeen) → MadeBelow script 0 m m
made_first script m = record {
  each = λ caller below asks_so. absurd (omega arith);
  others = λ caller none. refl;
  can_die = refl;
  tells = refl;
}

pub made_skip : (script : List Line) (number : ℕ) (old now : MakerSeen) → asks script number ≡ false → MadeBelow script number old now → MadeBelow script (number + 1) old now
made_skip script number old now fails m = record {
  each = λ caller below asks_so. elim (cases_eq caller number) [
    | inl is ↦ absurd (true≢false (sym asks_so ∙ (ap (asks script) is ∙ fails)))
    | inr ne ↦ m.each caller (omega arith) asks_so
  ];
  others = λ caller none. m.others caller (λ below. none (omega arith));
  can_die = m.can_die;
  tells = m.tells;
}

-- nothing was counted yet of the next caller
pub made_fresh : (script : List Line) (number : ℕ) (old now : MakerSeen) → MadeBelow script number old now → now.of number ≡ old.of number
made_fresh script number old now m = m.others number (λ below. absurd (omega arith))

pub made_one : (script : List Line) (number : ℕ) (old now later : MakerSeen) (gate : FuseSeen) → asks script number ≡ true → MadeBelow script number old now
    → MakesGate number None now later gate → MadeBelow script (number + 1) old later
made_one script number old now later gate asks_so m g = record {
  each = λ caller below asks_is. elim (cases_eq caller number) [
    | inl is ↦ subst (λ (c : ℕ). later.of c ≡ made_for (old.of c)) (sym is) (g.counts.here ∙ ap made_for (made_fresh script number old now m))
    | inr ne ↦ g.counts.others caller ne ∙ m.each caller (omega arith) asks_is
  ];
  others = λ caller none. elim (cases_eq caller number) [
    | inl is ↦ absurd (true≢false (sym asks_so ∙ (ap (asks script) (sym is) ∙ none (omega arith))))
    | inr ne ↦ g.counts.others caller ne ∙ m.others caller (λ below. none (omega arith))
  ];
  can_die = g.counts.can_die ∙ m.can_die;
  tells = g.counts.tells ∙ m.tells;
}

-- a gate that was made without a kill can't die
pub gate_is_safe : (script : List Line) (number : ℕ) (old now later : MakerSeen) (gate : FuseSeen) → NeverDies old → MadeBelow script number old now → MakesGate number None now later gate → IsSafe gate
gate_is_safe script number old now later gate never m g = record {
  cannot = elim (cases_Bool gate.can_die) [
    | inl asks_so ↦ absurd (true≢false (sym (g.its.could asks_so) ∙ (ap (λ (f : _). f number None) m.can_die ∙ never number)))
    | inr fails ↦ fails
  ];
  alive = g.its.alive;
}

-- ---- callers

all_by : (P : View → Type 0) (vs : List View) → ((i : ℕ) (v : View) → slice_get vs i ≡ Some v → P v) → All P vs
all_by P vs each i d below = let (v, there) = element_at vs i below in
    subst P (sym (get_or_default vs i d v below ∙ get_or_from_slice_get vs i v v there)) (each i v there)

new_idle : (number : ℕ) (vs : List View) → All IsIdle (new_views number vs)
new_idle number vs = all_by IsIdle (new_views number vs)
    (λ i w there. let m = mapped_at (λ (v : View). new_view number v.seen) vs i w there in subst IsIdle (sym m.is) (record { free = refl; closed = refl }))

pub caller_is_ready : {F : Type 0} (fused : F → FuseSeen) (store : Store) (script : List Line) (roots : List View) (caller : Caller F) → IsPassOf caller.pass store
    → views_of caller.pass ≡ new_views caller.number roots → claims_view caller.pass ≡ yard_new_view caller.number → number_of caller.pass ≡ caller.number
    → IsSafe (fused caller.pass.fuse) → is_dead caller.pass ≡ false → sweep_of caller.pass ≡ None → caller.receipts.items ≡ [] → caller.halt ≡ None
    → IsReady fused store script caller
caller_is_ready fused store script roots caller its seats claims number safe live no_sweep none going = record {
  stands = record {
    its = its;
    safe = safe;
    number_is = number;
    rests = record { live = live; idle = subst (λ (vs : List View). All IsIdle vs) (sym seats) (new_idle caller.number roots); no_sweep = no_sweep };
  };
  none = none;
  going = going;
  keeps = keeps_new store.geo.extra caller.number roots caller.pass seats claims number;
}

pub numbers_push : {F : Type 0} (callers : List (Caller F)) (caller : Caller F) → numbers (callers ++ caller ∷ []) ≡ numbers callers ++ caller.number ∷ []
numbers_push callers caller = map-append (λ (c : Caller _). c.number) callers (caller ∷ [])

-- ---- callers that performed

module _ {F : Type 0} (fused : F → FuseSeen) (store : Store) (script : List Line) where
  abbrev PerformEach : List (Caller F) → List (Caller F) → Type 0
  PerformEach olds nows = (i : ℕ) (d : Caller F) → i < length olds → Performs fused store script (get_or olds i d) (get_or nows i d)

  numbers_same : (olds nows : List (Caller F)) → length nows ≡ length olds → PerformEach olds nows → numbers nows ≡ numbers olds
  numbers_same [] [] long each = refl
  numbers_same [] (n ∷ ns) long each = absurd (omega arith)
  numbers_same (o ∷ os) [] long each = absurd (omega arith)
  numbers_same (o ∷ os) (n ∷ ns) long each =
      ap (λ (k : ℕ). k ∷ numbers ns) (each 0 o (omega arith)).number_is
      ∙ ap (λ (l : List ℕ). o.number ∷ l) (numbers_same os ns (omega arith) (λ i d below. each (suc i) d (omega arith)))

  pub have_performed : (olds nows : List (Caller F)) → length nows ≡ length olds → PerformEach olds nows → HavePerformed fused store script olds nows
  have_performed olds nows long each = record {
    numbers_are = numbers_same olds nows long each;
    performed = λ i d below. let p = each i d (omega arith) in record { stands = p.stands; answers = p.answers };
  }
