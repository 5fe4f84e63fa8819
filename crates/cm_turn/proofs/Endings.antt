-- How a call ends, of which parts were made before.
use Rattle.std.proofs.Common.{◌≡◌, ℕ, ◌≤◌, ◌⊎◌, inl, inr, Bool, true, false, List, [], ◌∷◌, ◌++◌, Some, None, Ok, Err, OnErr, refl, sym, ap, ◌∙◌, subst, arith}
use Rattle.cm_plain.specs.declared.op.Op.{Op}
use Rattle.cm_plain.specs.declared.reply.Reply.{Reply}
use Rattle.cm_plain.specs.Steps.{is_change}
use Rattle.cm_lock.specs.Takes.{HasTaken}
use Rattle.cm_lock.specs.declared.view.Level.{Level}
use Rattle.cm_lock.specs.declared.view.Level.TheVariants.{Free, Read, Write}
use Rattle.cm_lock.specs.declared.view.View.{View}
use Rattle.cm_yard.specs.declared.view.View.{View as YardView}
use Rattle.cm_turn.specs.declared.turn.Settled.{Settled}
use Rattle.cm_turn.specs.Answers.{reply_in}
use Rattle.cm_turn.specs.Records.{Adds, AddsAs, AddsNothing, Dies, HasLooked, IsIdle, with_record, before, within, behind}
use Rattle.std.specs.declared.result.Result.{Result}
use Rattle.cm_lock.specs.declared.take.Stop.{Stop}
use Rattle.cm_lock.specs.declared.take.Stop.TheVariants.{Busy, Died}
use Rattle.cm_lock.specs.Answers.{EntersAnswer}
use Rattle.cm_turn.specs.Calls.{DiesReading, IsRefused, Leaves, LeavesReading}
use Rattle.std.specs.List.{count_by}
use Rattle.cm_lock.specs.declared.view.NumberedChange.{NumberedChange}
use Rattle.cm_turn.proofs.Claiming.{alone_same}
use Rattle.cm_turn.proofs.Settling.{adds_told}
use Rattle.cm_turn.specs.Turns.{DiesOwing, Settles, links_in}

-- ---- parts that add nothing

pub nothing_by_look : (v u : View) → HasLooked v u → AddsNothing v u
nothing_by_look v u l = record {
  view = subst (λ (z : View). z ≡ with_record v.changes v.answers v z) (sym l.view) refl;
  seen = l.seen;
  stores = l.stores;
}

pub nothing_by_take : (from to : Level) (most : ℕ) (v u : View) → HasTaken from to most v u → AddsNothing v u
nothing_by_take from to most v u t = record {
  view = subst (λ (z : View). z ≡ with_record v.changes v.answers v z) (sym t.gets.view) refl;
  seen = subst (λ (z : View). v.seen ≤ z.seen) (sym t.gets.view) (omega arith);
  stores = ap (λ (z : View). z.stores) t.gets.view;
}

module _ (v u : View) (p : AddsNothing v u) where
  links_before : links_in u ≡ links_in v
  links_before = ap links_in p.view

  record_behind : (w : View) → w ≡ with_record u.changes u.answers u w → w ≡ with_record v.changes v.answers v w
  record_behind w q = q ∙ ap (λ (z : View). with_record z.changes z.answers z w) p.view

  pub nothing_then : (w : View) → AddsNothing u w → AddsNothing v w
  nothing_then w q = let a = p.seen in let b = q.seen in record { view = record_behind w q.view; seen = (omega arith); stores = q.stores ∙ p.stores }

  adds_as_then : (changes : Bool) (op : Op) (number : ℕ) (reply : Reply) (w : View) → AddsAs changes op number reply u w → AddsAs changes op number reply v w
  adds_as_then true op number reply w (c, is, op_is, reply_is, above) =
      let a = p.seen in
      (c, is ∙ ap (λ (z : View). with_record (z.changes ++ record { number = number; change = c } ∷ []) z.answers z w) p.view, op_is, reply_is, (omega arith))
  adds_as_then false op number reply w (is, seen) =
      let a = p.seen in
      (is ∙ ap (λ (z : View). with_record z.changes (z.answers ++ record { number = number; op = op; reply = reply } ∷ []) z w) p.view, (omega arith))

  pub adds_then : (op : Op) (number : ℕ) (reply : Reply) (w : View) → Adds op number reply u w → Adds op number reply v w
  adds_then op number reply w a = record { added = adds_as_then (is_change reply) op number reply w a.added; seen = a.seen }

  -- what a call added behind such a part
  pub settles_then : (segment extra : ℕ) (op : Op) (out : List ℕ) (w : View) (y z : YardView) (settled : Settled) → u.own.level ≡ Write → u.round ≡ v.round
      → Settles segment extra op out u w y z settled → Settles segment extra op out v w y z settled
  settles_then segment extra op out w y z settled level round s = let l = links_before in let h = s.pays.paid in record {
    adds = adds_then op settled.number (reply_in settled.answer out) w s.adds;
    idle = s.idle;
    level = inr (level_by s.level);
    round = s.round ∙ round;
    noted = s.noted;
    pays = record { alone = s.pays.alone; paid = (omega arith) };
    spent = s.spent;
    untried = λ other same. s.untried other (same ∙ sym l);
  }
    where
      level_by : (w.own.level ≡ u.own.level) ⊎ (w.own.level ≡ Write) → w.own.level ≡ Write
      level_by (inl same) = same ∙ level
      level_by (inr is) = is

  dies_then : (op : Op) (w : View) → Dies op u w → Dies op v w
  dies_then op w (before a idle) = before (nothing_then w a) idle
  dies_then op w (within c is seen plan op_is level) = let a = p.seen in within c (record_behind w is) (omega arith) plan op_is level
  dies_then op w (behind number reply a idle h) = behind number reply (adds_then op number reply w a) idle h

  -- a call that died behind such a part
  pub owing_then : (segment : ℕ) (op : Op) (w : View) (y z : YardView) → DiesOwing segment op u w y z → DiesOwing segment op v w y z
  owing_then segment op w y z d = let l = links_before in let o = d.owes in record {
    dies = dies_then op w d.dies;
    owes = record {
      alone = o.alone;
      paid = (let h = o.paid in omega arith);
      one_more = (let h = o.one_more in omega arith);
      plan = λ c is link. (let h = o.plan c is link in omega arith);
    };
  }

  -- a question that died behind such a part
  pub reading_then : (op : Op) (w : View) → DiesReading op u w → DiesReading op v w
  reading_then op w d = record { dies = dies_then op w d.dies; idle = d.idle; changes = d.changes ∙ ap (λ (z : View). z.changes) p.view; stores = d.stores ∙ p.stores }

  -- how a call ends behind such a part, whatever it answers
  pub leaves_then : (End : View → Type 0) (Refused Else : ℕ → ℕ → View → Type 0) (segment extra : ℕ) (op : Op) (out : List ℕ) (w : View) (y z : YardView) (result : Result Settled Stop)
      → ((looks last : ℕ) → Refused looks last w → Else looks last w)
      → Leaves End Refused segment extra op out u w y z result → Leaves End Else segment extra op out v w y z result
  leaves_then End Refused Else segment extra op out w y z (Ok settled) or a = let l = links_before in let h = a.pays.paid in record {
    adds = adds_then op settled.number (reply_in settled.answer out) w a.adds;
    ends = a.ends;
    pays = record { alone = a.pays.alone; paid = (omega arith) };
    spent = a.spent;
    untried = λ other same. a.untried other (same ∙ sym l);
  }
  leaves_then End Refused Else segment extra op out w y z (Err (Busy looks last)) or (f, refused) = (record { adds = nothing_then w f.adds; ends = f.ends; claims = f.claims }, or looks last refused)
  leaves_then End Refused Else segment extra op out w y z (Err Died) or d = owing_then segment op w y z d

-- the answer was added, and the call died before it left its level
pub owing_settled : (segment extra : ℕ) (op : Op) (out : List ℕ) (v w : View) (y z : YardView) (settled : Settled)
    → Settles segment extra op out v w y z settled → DiesOwing segment op v w y z
owing_settled segment extra op out v w y z settled s = let h = s.pays.paid in record {
  dies = behind settled.number (reply_in settled.answer out) s.adds s.idle s.noted;
  owes = record {
    alone = s.pays.alone;
    paid = (omega arith);
    one_more = (omega arith);
    plan = λ c is link. absurd (let none : None ≡ Some c = sym s.idle ∙ is in cc none);
  };
}

-- besides, a part that adds nothing was made before, and the operation is the one that was asked
pub owing_released : (segment extra : ℕ) (op asked : Op) (out : List ℕ) (v u x w : View) (y z : YardView) (settled : Settled) → AddsNothing v u → asked ≡ op
    → Settles segment extra asked out u x y z settled → w ≡ x → DiesOwing segment op v w y z
owing_released segment extra op asked out v u x w y z settled p asks s same =
    subst (λ (o : Op). DiesOwing segment o v w y z) asks
    (subst (λ (k : View). DiesOwing segment asked v k y z) (sym same) (owing_then v u p segment asked x y z (owing_settled segment extra asked out u x y z settled s)))

pub owing_asked : (segment : ℕ) (op asked : Op) (v u w : View) (y z : YardView) → AddsNothing v u → asked ≡ op → DiesOwing segment asked u w y z → DiesOwing segment op v w y z
owing_asked segment op asked v u w y z p asks d = subst (λ (o : Op). DiesOwing segment o v w y z) asks (owing_then v u p segment asked w y z d)

-- an answer to a question was entered, and the call died before its release
pub reading_told : (op : Op) (number : ℕ) (reply : Reply) (u x : View) → is_change reply ≡ false → u.own.plan ≡ None → EntersAnswer op reply number u x → DiesReading op u x
reading_told op number reply u x stays idle enters =
    let none : x.own.plan ≡ None = ap (λ (z : View). z.own.plan) enters.view ∙ idle in
    record {
      dies = behind number reply (adds_told op number reply u x stays enters) none (λ changes. absurd (let h : false ≡ true = sym stays ∙ changes in cc h));
      idle = none;
      changes = ap (λ (z : View). z.changes) enters.view;
      stores = ap (λ (z : View). z.stores) enters.view;
    }

-- besides, a part that adds nothing was made before, and the operation is the one that was asked
pub reading_released : (op asked : Op) (number : ℕ) (reply : Reply) (v u x w : View) → AddsNothing v u → asked ≡ op → is_change reply ≡ false → u.own.plan ≡ None
    → EntersAnswer asked reply number u x → w ≡ x → DiesReading op v w
reading_released op asked number reply v u x w p asks stays idle enters same =
    subst (λ (o : Op). DiesReading o v w) asks (subst (λ (k : View). DiesReading asked v k) (sym same) (reading_then v u p asked x (reading_told asked number reply u x stays idle enters)))

-- what holds holds of an error
pub on_error : {T E P : Type 0} (result : Result T E) → P → OnErr result P
on_error (Ok value) h = tt
on_error (Err error) h = h

-- ---- a question claims nothing

pub leaves_reading : (tries segment extra : ℕ) (op : Op) (out : List ℕ) (v w : View) (y : YardView) (result : Result Settled Stop)
    → LeavesReading tries op out v w result → Leaves IsIdle (IsRefused Free Read tries) segment extra op out v w y y result
leaves_reading tries segment extra op out v w y (Ok settled) a = record {
  adds = a.adds;
  ends = a.ends;
  pays = record { alone = alone_same segment y; paid = (let h : links_in w ≡ links_in v = ap (count_by (λ (c : NumberedChange). c.change.link)) a.changes in omega arith) };
  spent = λ e. absurd (a.unspent e);
  untried = λ _ _. refl;
}
leaves_reading tries segment extra op out v w y (Err (Busy looks last)) (adds, ends, refused) = (record { adds = adds; ends = ends; claims = refl }, refused)
leaves_reading tries segment extra op out v w y (Err Died) d = record {
  dies = d.dies;
  owes = (let h : links_in w ≡ links_in v = ap (count_by (λ (c : NumberedChange). c.change.link)) d.changes in record {
    alone = alone_same segment y;
    paid = (omega arith);
    one_more = (omega arith);
    plan = λ c is link. absurd (let none : None ≡ Some c = sym d.idle ∙ is in cc none);
  });
}
