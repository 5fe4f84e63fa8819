-- A caller between two tries of a call, and behind the answer of one.
use Rattle.std.proofs.Common.{◌≡◌, ◌≢◌, ◌∙◌, ℕ, ◌+◌, Bool, List, [], ◌∷◌, ◌++◌, All, Option, Some, Result, Err, IsSomeAnd, length, slice_get, append-nil, inl, inr, refl, sym, ap, subst, arith}
use Rattle.std.proofs.lemmas.List.{get_or_push, length_push}
use Rattle.std.proofs.lemmas.Option.{same_Some}
use Rattle.cm_geo.specs.declared.geo.Geo.{Geo}
use Rattle.cm_plain.specs.declared.op.Op.{Op}
use Rattle.cm_plain.specs.declared.op.Op.TheVariants as operation
use Rattle.cm_plain.specs.declared.receipt.Receipt.{Receipt}
use Rattle.cm_plain.specs.declared.reply.Reply.{Reply}
use Rattle.cm_plain.specs.Limits.{segment_of}
use Rattle.cm_words.specs.Fuses.{FuseSeen}
use Rattle.cm_lock.specs.declared.view.Level.{Level}
use Rattle.cm_lock.specs.declared.view.View.{View}
use Rattle.cm_turn.specs.declared.answer.Spot.{Spot}
use Rattle.cm_turn.specs.Records.{IsIdle}
use Rattle.cm_yard.specs.declared.view.StopNumber.{StopNumber}
use Rattle.cm_yard.specs.declared.view.View.{View as YardView}
use Rattle.cm_yard.specs.Views.{with_stop}
use Rattle.cm_store.specs.declared.pass.Pass.{Pass}
use Rattle.cm_store.specs.declared.pass.Sweep.{Sweep}
use Rattle.cm_store.specs.declared.store.Store.{Store}
use Rattle.cm_store.specs.Passes.{IsResting, claims_view, views, views_of}
use Rattle.cm_store.specs.Stops.{SameButClaims, Stops}
use Rattle.cm_store.specs.Sweeps.{IsInSweep, IsSweepOf}
use Rattle.cm_script.specs.declared.line.Line.{Line}
use Rattle.cm_script.specs.Answers.{AnswersOnce, IsOf, calls_in, is_swept}
use Rattle.cm_history.specs.Endings.{HasFoundStop}
use Rattle.cm_history.proofs.Keeping.{keeps_looked}
use Rattle.cm_caller.specs.declared.caller.Caller.{Caller}
use Rattle.cm_caller.specs.declared.caller.Halt.{Halt}
use Rattle.cm_caller.specs.declared.tried.Tried.{Tried}
use Rattle.cm_caller.specs.declared.tried.Tried.TheVariants as try
use Rattle.cm_caller.specs.Callers.{KeepsReceipts, WaitsOn, receipt_of}
use Rattle.cm_caller.specs.Records.{Gets, GetsSo, GoesOn, Halts, RestsAt, RestsIn}
use Rattle.cm_caller.specs.Sweeping.{IsPart}
use Rattle.cm_caller.specs.Tries.{IsSafe, Stands, Tries}
use Rattle.cm_caller.proofs.Receipts.{adds_receipt}

-- a caller goes on, and got no receipt so far
pub record GoesRound {F : Type 0} (fused : F → FuseSeen) (store : Store) (script : List Line) (Rests : Pass F → Type 0) (old now : Caller F) : Type 0 where
  pub goes : GoesOn fused store Rests old now
  pub receipts_are : now.receipts.items ≡ old.receipts.items
  pub keeps : KeepsReceipts store script now.receipts.items now.pass

pub round_begins : {F : Type 0} (fused : F → FuseSeen) (store : Store) (script : List Line) (Rests : Pass F → Type 0) (old : Caller F)
    → Stands fused store Rests old.number old.pass → KeepsReceipts store script old.receipts.items old.pass → GoesRound fused store script Rests old old
round_begins fused store script Rests old stands keeps = record {
  goes = record { stands = stands; number_is = refl; halt_is = refl };
  receipts_are = refl;
  keeps = keeps;
}

-- ---- a look at a stop word leaves how a pass rests

seats_same : {F : Type 0} (old now : Pass F) → SameButClaims old now → views_of now ≡ views_of old
seats_same old now same = ap (λ s. views s.items) same.seats

pub same_resting : {F : Type 0} (old now : Pass F) → SameButClaims old now → IsResting old → IsResting now
same_resting old now same rests = record {
  live = same.dead ∙ rests.live;
  idle = subst (λ (vs : List View). All IsIdle vs) (sym (seats_same old now same)) rests.idle;
  no_sweep = same.sweep ∙ rests.no_sweep;
}

same_in_sweep : {F : Type 0} (geo : Geo) (segment : ℕ) (prefix : List ℕ) (old now : Pass F) → SameButClaims old now → IsInSweep geo segment prefix old → IsInSweep geo segment prefix now
same_in_sweep geo segment prefix old now same within = record {
  live = same.dead ∙ within.live;
  sweep = subst (λ (s : Option Sweep). IsSomeAnd s (IsSweepOf segment prefix)) (sym same.sweep) within.sweep;
  limits = within.limits;
  holds = λ v there. within.holds v (subst (λ (vs : List View). slice_get vs segment ≡ Some v) (seats_same old now same) there);
  others = λ other v ne there. within.others other v ne (subst (λ (vs : List View). slice_get vs other ≡ Some v) (seats_same old now same) there);
}

same_in : {F : Type 0} (geo : Geo) (op : Op) (old now : Pass F) → SameButClaims old now → RestsIn geo op old → RestsIn geo op now
same_in geo (operation.Sweep segment prefix) old now same rests = same_in_sweep geo segment prefix old now same rests
same_in geo op old now same rests = same_resting old now same rests

pub same_at : {F : Type 0} (geo : Geo) (script : List Line) (at : ℕ) (old now : Pass F) → SameButClaims old now → RestsAt geo script at old → RestsAt geo script at now
same_at geo script at old now same rests line there = same_in geo line.op old now same (rests line there)

-- ---- a number that was found

pub stops_above : (found : ℕ) (level : Level) → Stops found level → found ≢ 0
stops_above found level (inl two) none = omega arith
stops_above found level (inr one) none = let is = one.0 in omega arith

found_last : (claims : YardView) (segment found : ℕ) → found ≢ 0 → HasFoundStop (with_stop claims segment found)
found_last claims segment found some =
    let s : StopNumber = record { segment = segment; number = found } in
    (length claims.stops, s, (let l = length_push claims.stops s in omega arith), get_or_push claims.stops s s (length claims.stops) refl, some)

-- ---- one round

module _ {F : Type 0} (fused : F → FuseSeen) (store : Store) (script : List Line) (Rests : Pass F → Type 0) (old mid : Caller F) (op : Op) (pass : Pass F) where
  pub tried_stands : (tried : Tried) → GoesOn fused store Rests old mid → Tries fused store Rests op mid.pass pass tried → Stands fused store Rests mid.number pass
  tried_stands tried goes tries = subst (λ (n : ℕ). Stands fused store Rests n pass) goes.stands.number_is tries.stands

  -- a caller whose pass made a try, and which then noted an answer, or none
  pub tried_goes : (tried : Tried) (now : Caller F) → GoesOn fused store Rests old mid → Tries fused store Rests op mid.pass pass tried → now.pass ≡ pass → now.number ≡ mid.number → now.halt ≡ mid.halt
      → GoesOn fused store Rests old now
  tried_goes tried now goes tries pass_is number_is halt_is = record {
    stands = subst (λ (n : ℕ). Stands fused store Rests n now.pass) (sym number_is) (subst (Stands fused store Rests mid.number) (sym pass_is) (tried_stands tried goes tries));
    number_is = number_is ∙ goes.number_is;
    halt_is = halt_is ∙ goes.halt_is;
  }

  -- an answer that it noted is one receipt more, of the record and the part
  pub noted_gets : (at : ℕ) (line : Line) (part : ℕ) (spot : Spot) (answer : Reply) (now : Caller F) → slice_get script at ≡ Some line → line.caller ≡ old.number → line.op ≡ op
      → GoesRound fused store script Rests old mid → Tries fused store Rests op mid.pass pass (try.Answered spot answer) → now.pass ≡ pass
      → now.receipts.items ≡ mid.receipts.items ++ receipt_of mid.number (at + 1) part spot answer ∷ []
      → Gets store script old.receipts.items (receipt_of mid.number (at + 1) part spot answer ∷ []) now × IsOf store.geo (at + 1, line) part (receipt_of mid.number (at + 1) part spot answer)
  noted_gets at line part spot answer now there mine op_is round tries pass_is items =
      let r : Receipt = receipt_of mid.number (at + 1) part spot answer in
      let left = tries.leaves (calls_in script mid.receipts.items) round.keeps in (
        record {
          receipts_are = items ∙ ap (λ (rs : List Receipt). rs ++ r ∷ []) round.receipts_are;
          keeps = subst (KeepsReceipts store script now.receipts.items) (sym pass_is)
              (left.1 (record { op = line.op; receipt = r }) (calls_in script now.receipts.items) op_is refl refl
              (adds_receipt script mid.receipts.items at line r (segment_of store.geo op) now.receipts.items items there refl left.0));
        },
        record { caller_is = round.goes.number_is ∙ sym mine; line_is = refl; part_is = refl; segment_is = left.0 ∙ ap (segment_of store.geo) (sym op_is) },
      )

  -- behind a refused try, a caller looks whether it is stopped, and goes round
  pub waited_goes : (later : Pass F) (result : Result (Unit {0}) Halt) → ((a b : Pass F) → SameButClaims a b → Rests a → Rests b) → GoesRound fused store script Rests old mid
      → Tries fused store Rests op mid.pass pass try.Busy → WaitsOn store pass later result → GoesRound fused store script Rests old (record mid { pass = later })
  waited_goes later result stays round tries waits =
      let st = tried_stands try.Busy round.goes tries in
      record {
        goes = record {
          stands = record {
            its = waits.its;
            safe = subst (λ (f : F). IsSafe (fused f)) (sym waits.same.fuse) st.safe;
            number_is = waits.same.number ∙ st.number_is;
            rests = stays pass later waits.same st.rests;
          };
          number_is = round.goes.number_is;
          halt_is = round.goes.halt_is;
        };
        receipts_are = round.receipts_are;
        keeps = keeps_looked pass later store.geo.extra waits.segment waits.found (calls_in script mid.receipts.items) waits.same waits.looked
            (tries.leaves (calls_in script mid.receipts.items) round.keeps);
      }

  -- or it halts, with no receipt more
  pub waited_halts : (later : Pass F) (why : Halt) (AreSo : List Receipt → Type 0) → AreSo [] → GoesRound fused store script Rests old (record mid { pass = later })
      → WaitsOn store pass later (Err why) → Halts store script AreSo old.receipts.items (record mid { pass = later }) why
  waited_halts later why AreSo none round waits =
      subst (λ (w : Halt). Halts store script AreSo old.receipts.items (record mid { pass = later }) w) (sym waits.stopped.0) (
        subst HasFoundStop (sym waits.looked) (found_last (claims_view pass) waits.segment waits.found waits.stopped.1),
        ([], record { receipts_are = round.receipts_are ∙ sym (append-nil old.receipts.items); keeps = round.keeps }, none),
      )

  -- so a record that isn't a sweep is answered
  pub noted_once : (at : ℕ) (line : Line) (spot : Spot) (answer : Reply) (now : Caller F) → slice_get script at ≡ Some line → line.caller ≡ old.number → line.op ≡ op
      → GoesRound fused store script Rests old mid → Tries fused store Rests op mid.pass pass (try.Answered spot answer) → now.pass ≡ pass
      → now.receipts.items ≡ mid.receipts.items ++ receipt_of mid.number (at + 1) 0 spot answer ∷ [] → GetsSo store script (AnswersOnce store.geo (at + 1, line)) old.receipts.items now
  noted_once at line spot answer now there mine op_is round tries pass_is items =
      let got = noted_gets at line 0 spot answer now there mine op_is round tries pass_is items in
      (receipt_of mid.number (at + 1) 0 spot answer ∷ [], got.0, record { receipt = receipt_of mid.number (at + 1) 0 spot answer; alone = refl; is_of = got.1 })

  -- and so is a part of a sweep
  pub noted_part : (at : ℕ) (line : Line) (part : ℕ) (spot : Spot) (answer : Reply) (swept : Bool) (now : Caller F) → is_swept answer ≡ swept → slice_get script at ≡ Some line → line.caller ≡ old.number
      → line.op ≡ op → GoesRound fused store script Rests old mid → Tries fused store Rests op mid.pass pass (try.Answered spot answer) → now.pass ≡ pass
      → now.receipts.items ≡ mid.receipts.items ++ receipt_of mid.number (at + 1) part spot answer ∷ []
      → GetsSo store script (IsPart store.geo (at + 1, line) part swept) old.receipts.items now
  noted_part at line part spot answer swept now swept_is there mine op_is round tries pass_is items =
      let got = noted_gets at line part spot answer now there mine op_is round tries pass_is items in (
        receipt_of mid.number (at + 1) part spot answer ∷ [],
        got.0,
        record { receipt = receipt_of mid.number (at + 1) part spot answer; alone = refl; is_of = got.1; swept_is = swept_is },
      )

  -- nobody died
  pub tried_alive : GoesRound fused store script Rests old mid → Tries fused store Rests op mid.pass pass try.Died → ⊥
  tried_alive round tries = tries.leaves (calls_in script mid.receipts.items) round.keeps

-- the record of an index is one
pub op_same : (script : List Line) (at : ℕ) (line other : Line) → slice_get script at ≡ Some line → slice_get script at ≡ Some other → line.op ≡ other.op
op_same script at line other there here = ap (λ (l : Line). l.op) (same_Some line other (sym there ∙ here))
