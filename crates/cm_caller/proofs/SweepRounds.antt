-- A caller in a sweep, and the keys that it took so far.
use Rattle.std.proofs.Common.{◌≡◌, ◌∙◌, ℕ, ◌+◌, ◌<◌, ◌≤◌, true, false, List, [], ◌∷◌, ◌++◌, Some, length, slice_get, append-nil, inl, inr, refl, sym, subst, arith}
use Rattle.std.proofs.lemmas.Bool.{cases_lt}
use Rattle.std.proofs.lemmas.List.{get_or_append_left, get_or_push, length_push}
use Rattle.std.proofs.lemmas.Option.{get_or_from_slice_get, none-some, same_Some, slice_get_read, slice_get_within}
use Rattle.cm_geo.specs.declared.geo.Geo.{Geo}
use Rattle.cm_plain.specs.declared.op.Op.{Op}
use Rattle.cm_plain.specs.declared.op.Op.TheVariants as operation
use Rattle.cm_plain.specs.declared.receipt.Receipt.{Receipt}
use Rattle.cm_words.specs.Fuses.{FuseSeen}
use Rattle.cm_store.specs.declared.pass.Pass.{Pass}
use Rattle.cm_store.specs.declared.store.Store.{Store}
use Rattle.cm_store.specs.Sweeps.{IsInSweep}
use Rattle.cm_store.proofs.Elements.{element_at}
use Rattle.cm_script.specs.declared.line.Line.{Line}
use Rattle.cm_script.specs.Answers.{AnswersPart, AnswersSweep, IsOf, Numbered, TakesKeys, is_sweep, is_swept}
use Rattle.cm_caller.specs.declared.caller.Caller.{Caller}
use Rattle.cm_caller.specs.declared.caller.Halt.{Halt}
use Rattle.cm_caller.specs.declared.tried.Tried.{Tried}
use Rattle.cm_caller.specs.Callers.{KeepsReceipts}
use Rattle.cm_caller.specs.Records.{AreNone, Gets, GetsSo, GoesOn, Halts, RecordIs, RestsAt, RestsIn}
use Rattle.cm_caller.specs.Sweeping.{IsPart}
use Rattle.cm_caller.specs.Tries.{Stands, Tries}
use Rattle.cm_caller.proofs.Goings.{gets_behind, halts_behind}

-- ---- how a pass rests at a sweep's record

module _ {F : Type 0} (geo : Geo) (script : List Line) (at : ℕ) (line : Line) (segment : ℕ) (prefix : List ℕ) (there : slice_get script at ≡ Some line) (is : line.op ≡ operation.Sweep segment prefix) where
  pub rests_from : (pass : Pass F) → IsInSweep geo segment prefix pass → RestsAt geo script at pass
  rests_from pass within other here =
      subst (λ (l : Line). RestsIn geo l.op pass) (same_Some line other (sym there ∙ here)) (subst (λ (o : Op). RestsIn geo o pass) (sym is) within)

  pub rests_to : (pass : Pass F) → RestsAt geo script at pass → IsInSweep geo segment prefix pass
  rests_to pass rests = subst (λ (o : Op). RestsIn geo o pass) is (rests line there)

pub stands_other : {F : Type 0} (fused : F → FuseSeen) (store : Store) (Rests Other : Pass F → Type 0) (number : ℕ) (pass : Pass F) → (Rests pass → Other pass)
    → Stands fused store Rests number pass → Stands fused store Other number pass
stands_other fused store Rests Other number pass other s = record { its = s.its; safe = s.safe; number_is = s.number_is; rests = other s.rests }

pub tries_other : {F : Type 0} (fused : F → FuseSeen) (store : Store) (Rests Other : Pass F → Type 0) (op : Op) (old now : Pass F) (tried : Tried) → (Rests now → Other now)
    → Tries fused store Rests op old now tried → Tries fused store Other op old now tried
tries_other fused store Rests Other op old now tried other t = record { stands = stands_other fused store Rests Other old.number now other t.stands; leaves = t.leaves }

pub goes_other : {F : Type 0} (fused : F → FuseSeen) (store : Store) (Rests Other : Pass F → Type 0) (old now : Caller F) → (Rests now.pass → Other now.pass)
    → GoesOn fused store Rests old now → GoesOn fused store Other old now
goes_other fused store Rests Other old now other g =
    record { stands = stands_other fused store Rests Other now.number now.pass other g.stands; number_is = g.number_is; halt_is = g.halt_is }

-- a caller that went on, and on again
pub goes_then : {F : Type 0} (fused : F → FuseSeen) (store : Store) (Rests Other : Pass F → Type 0) (old mid now : Caller F) → GoesOn fused store Rests old mid → GoesOn fused store Other mid now
    → GoesOn fused store Other old now
goes_then fused store Rests Other old mid now g h = record { stands = h.stands; number_is = h.number_is ∙ g.number_is; halt_is = h.halt_is ∙ g.halt_is }

-- ---- the keys that were taken

in_front : {X : Type 0} (xs : List X) (x y : X) (i : ℕ) → i < length xs → slice_get (xs ++ x ∷ []) i ≡ Some y → slice_get xs i ≡ Some y
in_front xs x y i low there = slice_get_read xs (length xs) i y refl low (sym (sym (get_or_append_left xs (x ∷ []) y i low) ∙ get_or_from_slice_get (xs ++ x ∷ []) i y y there))

is_last : {X : Type 0} (xs : List X) (x y : X) (i : ℕ) → length xs ≤ i → slice_get (xs ++ x ∷ []) i ≡ Some y → (i ≡ length xs) × (y ≡ x)
is_last xs x y i high there =
    let here : i ≡ length xs = let w = slice_get_within (xs ++ x ∷ []) i y there in let l = length_push xs x in omega arith in
    (here, sym (get_or_from_slice_get (xs ++ x ∷ []) i y y there) ∙ get_or_push xs x y i (sym here))

-- what holds of each receipt of a list by its place, and of one more, holds of each
each_more : (P : ℕ → Receipt → Type 0) (rs : List Receipt) (r : Receipt) → ((i : ℕ) (x : Receipt) → slice_get rs i ≡ Some x → P i x) → P (length rs) r
    → (i : ℕ) (x : Receipt) → slice_get (rs ++ r ∷ []) i ≡ Some x → P i x
each_more P rs r each last i x there = elim (cases_lt i (length rs)) [
  | inl low ↦ each i x (in_front rs r x i low there)
  | inr high ↦ (let l = is_last rs r x i high there in subst (λ (j : ℕ). P j x) (sym l.0) (subst (P (length rs)) (sym l.1) last))
]

module _ (geo : Geo) (asked : Numbered) where
  takes_none : is_sweep asked.1.op ≡ true → TakesKeys geo asked []
  takes_none sweep = record {
    sweep = sweep;
    each = λ i receipt there. absurd (none-some receipt there);
    swept = λ i receipt there. absurd (none-some receipt there);
  }

  takes_more : (taken : List Receipt) (r : Receipt) → TakesKeys geo asked taken → IsOf geo asked (length taken + 1) r → is_swept r.reply ≡ true → TakesKeys geo asked (taken ++ r ∷ [])
  takes_more taken r keys is_of swept = record {
    sweep = keys.sweep;
    each = each_more (λ (i : ℕ) (x : Receipt). IsOf geo asked (i + 1) x) taken r keys.each is_of;
    swept = each_more (λ (i : ℕ) (x : Receipt). is_swept x.reply ≡ true) taken r keys.swept swept;
  }

-- the keys of all parts before this one
pub record TakesBefore (geo : Geo) (asked : Numbered) (part : ℕ) (more : List Receipt) : Type 0 where
  pub keys : TakesKeys geo asked more
  pub many : length more + 1 ≡ part

-- a caller in a sweep that took the keys of all parts before this one
pub record SweepsRound {F : Type 0} (fused : F → FuseSeen) (store : Store) (script : List Line) (at part : ℕ) (old now : Caller F) : Type 0 where
  pub goes : GoesOn fused store (RestsAt store.geo script at) old now
  pub keeps : KeepsReceipts store script now.receipts.items now.pass
  pub taken : RecordIs script at (λ line. GetsSo store script (TakesBefore store.geo (at + 1, line) part) old.receipts.items now)

module _ {F : Type 0} (fused : F → FuseSeen) (store : Store) (script : List Line) (at : ℕ) (old : Caller F) where
  pub sweep_begins : Stands fused store (RestsAt store.geo script at) old.number old.pass → KeepsReceipts store script old.receipts.items old.pass → RecordIs script at (λ line. is_sweep line.op ≡ true)
      → SweepsRound fused store script at 1 old old
  sweep_begins stands keeps sweep = record {
    goes = record { stands = stands; number_is = refl; halt_is = refl };
    keeps = keeps;
    taken = λ line there. (
      [],
      record { receipts_are = sym (append-nil old.receipts.items); keeps = keeps },
      record { keys = takes_none store.geo (at + 1, line) (sweep line there); many = refl },
    );
  }

  module _ (mid now : Caller F) (part : ℕ) (round : SweepsRound fused store script at part old mid) (goes : GoesOn fused store (RestsAt store.geo script at) mid now) where
    -- with one key more
    pub sweep_goes : at < length script → RecordIs script at (λ line. GetsSo store script (IsPart store.geo (at + 1, line) part true) mid.receipts.items now)
        → SweepsRound fused store script at (part + 1) old now
    sweep_goes inside stepped = record {
      goes = goes_then fused store (RestsAt store.geo script at) (RestsAt store.geo script at) old mid now round.goes goes;
      keeps = (let (line, there) = element_at script at inside in (stepped line there).1.keeps);
      taken = λ line there.
          let asked : Numbered = (at + 1, line) in
          let t = round.taken line there in
          let s = stepped line there in
          let many = t.2.many in
          let is_of : IsOf store.geo asked (length t.0 + 1) s.2.receipt = subst (λ (n : ℕ). IsOf store.geo asked n s.2.receipt) (sym many) s.2.is_of in
          let long = length_push t.0 s.2.receipt in (
            t.0 ++ s.2.receipt ∷ [],
            subst (λ (rs : List Receipt). Gets store script old.receipts.items (t.0 ++ rs) now) s.2.alone (gets_behind store script old.receipts.items t.0 mid.receipts.items s.0 now t.1.receipts_are s.1),
            record { keys = takes_more store.geo asked t.0 s.2.receipt t.2.keys is_of s.2.swept_is; many = omega arith },
          );
    }

    -- with the answer that took none
    pub sweep_ends : (line : Line) → slice_get script at ≡ Some line → RecordIs script at (λ line. GetsSo store script (IsPart store.geo (at + 1, line) part false) mid.receipts.items now)
        → GetsSo store script (AnswersSweep store.geo (at + 1, line)) old.receipts.items now
    sweep_ends line there stepped =
        let asked : Numbered = (at + 1, line) in
        let t = round.taken line there in
        let s = stepped line there in
        let is_of : IsOf store.geo asked (length t.0 + 1) s.2.receipt = subst (λ (n : ℕ). IsOf store.geo asked n s.2.receipt) (sym t.2.many) s.2.is_of in (
          t.0 ++ s.2.receipt ∷ [],
          subst (λ (rs : List Receipt). Gets store script old.receipts.items (t.0 ++ rs) now) s.2.alone (gets_behind store script old.receipts.items t.0 mid.receipts.items s.0 now t.1.receipts_are s.1),
          record { taken = t.0; last = s.2.receipt; receipts_are = refl; keys = t.2.keys; is_of = is_of; ended = s.2.swept_is },
        )

    -- halted before the next answer
    pub sweep_halts : (line : Line) → slice_get script at ≡ Some line → (why : Halt) → Halts store script AreNone mid.receipts.items now why
        → Halts store script (AnswersPart store.geo ((at + 1, line) ∷ [])) old.receipts.items now why
    sweep_halts line there why halts =
        let asked : Numbered = (at + 1, line) in
        let t = round.taken line there in
        halts_behind store script old.receipts.items AreNone (AnswersPart store.geo (asked ∷ [])) t.0 mid.receipts.items now why t.1.receipts_are
        (λ later none. inr (subst (λ (rs : List Receipt). TakesKeys store.geo asked (t.0 ++ rs)) (sym none) (subst (TakesKeys store.geo asked) (sym (append-nil t.0)) t.2.keys))) halts
