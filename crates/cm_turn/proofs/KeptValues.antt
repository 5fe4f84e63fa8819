-- A key that was found under Update is found there under Read, and its value is the one that is kept.
use Rattle.std.proofs.Common.{◌≡◌, ◌∙◌, ℕ, ◌≤◌, List, length, take, Option, Some, None, Result, Ok, Err, IfOk, OnErr, refl, sym, ap, subst, arith}
use Rattle.cm_geo.specs.declared.geo.Geo.{Geo}
use Rattle.cm_plain.specs.declared.op.Op.{Op}
use Rattle.cm_plain.specs.declared.op.Op.TheVariants as op
use Rattle.cm_plain.specs.declared.reply.Reply.TheVariants as reply
use Rattle.cm_plain.specs.States.{State, value_of}
use Rattle.cm_plain.specs.Lawful.{Represents, Resting}
use Rattle.cm_plain.proofs.OutsideHead.{resting_represents}
use Rattle.cm_words.specs.Fuses.{FuseSeen}
use Rattle.cm_words.specs.KillFuses.{never_seen}
use Rattle.cm_words.specs.Memory.{FitsNotes, MemSeen}
use Rattle.cm_words.specs.Meters.{MeterSeen, unused}
use Rattle.cm_words.specs.declared.fuse.Dead.{Dead}
use Rattle.cm_segment.specs.declared.seek.Sight.{Sight}
use Rattle.cm_segment.specs.Sights.{FindsKey}
use Rattle.cm_segment.proofs.OldEntries.{old_none}
use Rattle.cm_lock.specs.declared.hold.Hold.{Hold}
use Rattle.cm_lock.specs.declared.table.SegSeat.{SegSeat}
use Rattle.cm_lock.specs.declared.table.SegTable.{SegTable}
use Rattle.cm_lock.specs.declared.view.HeldLevel.{HeldLevel}
use Rattle.cm_lock.specs.declared.view.Key.{Key}
use Rattle.cm_lock.specs.declared.view.Level.{Level}
use Rattle.cm_lock.specs.declared.view.Level.TheVariants.{Read}
use Rattle.cm_lock.specs.declared.view.View.{View}
use Rattle.cm_lock.specs.Holds.{hold_seen}
use Rattle.cm_lock.specs.Rule.{known_of, level_seen, seat_meter}
use Rattle.cm_lock.specs.Tables.{key_of, view_of}
use Rattle.cm_lock.specs.Views.{with_level}
use Rattle.cm_turn.specs.declared.answer.Answer.TheVariants as answer
use Rattle.cm_turn.specs.declared.turn.Settled.{Settled}
use Rattle.cm_turn.specs.Answers.{reply_in}
use Rattle.cm_turn.specs.Calls.{AnswersAlone, DiesReading}
use Rattle.cm_turn.specs.Conditions.{EachHere, FindsHere, FindsValue, IsAbsentHere}
use Rattle.cm_turn.specs.Records.{AddsNothing, with_record}
use Rattle.cm_turn.specs.Verdicts.{StaysBy}
use Rattle.cm_turn.proofs.Endings.{adds_then, reading_then}
use Rattle.cm_turn.proofs.FoundValues.{unmet_right}
use Rattle.cm_turn.proofs.Knowledge.{KnowsNoLess, known_at, known_same}

-- ---- where a key's entry stands

finds_known : (a b : MemSeen) → KnowsNoLess a b → (geo : Geo) (key : List ℕ) (found : Option Sight) → FindsHere a geo key found → FindsHere b geo key found
finds_known a b k geo key found here words state fits rests =
    here words state (k.fits words fits) (subst (λ (n : ℕ). Resting geo n words state) k.segment rests)

module _ {F : Type 0} {g : _} (fused : F → FuseSeen) (h : Hold F g) where
  -- what a look found over a hold is so of its seat
  pub sighted_held : (table : SegTable) (geo : Geo) (key : List ℕ) (result : Result (Option Sight) Dead) → h.table.now ≡ table
      → IfOk result (λ found. (words : List ℕ) (state : State) → FitsNotes (hold_seen fused h) words → Represents geo (hold_seen fused h).setting.segment words state → FindsKey geo words state key found)
      → IfOk result (FindsHere (known_of (key_of table) (view_of h.seat.now).own) geo key)
  sighted_held table geo key (Ok found) same is =
      subst (λ (t : SegTable). FindsHere (known_of (key_of t) (view_of h.seat.now).own) geo key found) same
      (finds_known (hold_seen fused h) (known_of (key_of h.table.now) (view_of h.seat.now).own)
      (known_same (key_of h.table.now) (view_of h.seat.now).own (seat_meter (fused h.fuse.now) (view_of h.seat.now)) (unused never_seen)) geo key found
      (λ words state fits rests. is words state fits (resting_represents geo (hold_seen fused h).setting.segment words state rests)))
  sighted_held table geo key (Err error) same is = tt

  -- what a seat knows is so over its hold
  pub found_held : (table : SegTable) (seat : SegSeat) (geo : Geo) (key : List ℕ) (found : Option Sight) → h.table.now ≡ table → h.seat.now ≡ seat
      → FindsHere (known_of (key_of table) (view_of seat).own) geo key found → FindsHere (hold_seen fused h) geo key found
  found_held table seat geo key found same its here =
      finds_known (known_of (key_of h.table.now) (view_of h.seat.now).own) (hold_seen fused h)
      (known_same (key_of h.table.now) (view_of h.seat.now).own (unused never_seen) (seat_meter (fused h.fuse.now) (view_of h.seat.now))) geo key found
      (subst (λ (s : SegSeat). FindsHere (known_of (key_of h.table.now) (view_of s).own) geo key found) (sym its)
      (subst (λ (t : SegTable). FindsHere (known_of (key_of t) (view_of seat).own) geo key found) (sym same) here))

-- at another level the notes tell the same
pub found_lowered : (key : Key) (v u : View) (geo : Geo) (k : List ℕ) (found : Option Sight) → u ≡ with_level Read v
    → FindsHere (known_of key v.own) geo k found → FindsHere (known_of key u.own) geo k found
found_lowered key v u geo k found same here =
    subst (λ (w : View). FindsHere (known_of key w.own) geo k found) (sym same)
    (finds_known (known_of key v.own) (known_of key (with_level Read v).own) (known_at key v.own Read (unused never_seen) (unused never_seen)) geo k found here)

-- where nothing was found, no state here has the key
pub absent_here : (key : Key) (h : HeldLevel) (geo : Geo) (k : List ℕ) → FindsHere (known_of key h) geo k None → (meter : MeterSeen) → IsAbsentHere (level_seen key h meter) geo k
absent_here key h geo k found meter words state fits rests = old_none k state (found words state (record { are = fits.are; present = fits.present }) rests)

-- ---- what is answered

pub kept_stays : (m : MemSeen) (geo : Geo) (key value out : List ℕ) (len : ℕ) → m.setting.geo ≡ geo → len ≤ length out
    → EachHere m geo (λ state. FindsValue (value_of key state) out (Some len)) → StaysBy m (op.PutIfAbsent key value) out (answer.Kept len)
kept_stays m geo key value out len geo_is bytes finds = record {
  stays = refl;
  bytes = bytes;
  unspent = λ e. cc e;
  right = unmet_right m geo (op.PutIfAbsent key value) (reply.Kept (take len out)) geo_is (λ words state fits rests. rw (finds words state fits rests) (refl, refl));
}

-- ---- behind the lowering

pub nothing_by_level : (level : Level) (v u : View) → u ≡ with_level level v → AddsNothing v u
nothing_by_level level v u same = record {
  view = subst (λ (z : View). z ≡ with_record v.changes v.answers v z) (sym same) refl;
  seen = subst (λ (z : View). v.seen ≤ z.seen) (sym same) (omega arith);
  stores = ap (λ (z : View). z.stores) same;
}

module _ (v u : View) (p : AddsNothing v u) where
  alone_then : (op : Op) (out : List ℕ) (w : View) (settled : Settled) → AnswersAlone op out u w settled → AnswersAlone op out v w settled
  alone_then op out w settled a = record {
    adds = adds_then v u p op settled.number (reply_in settled.answer out) w a.adds;
    stays = a.stays;
    unspent = a.unspent;
    changes = a.changes ∙ ap (λ (z : View). z.changes) p.view;
    ends = a.ends;
    stores = a.stores ∙ p.stores;
  }

  pub answers_then : (op : Op) (out : List ℕ) (w : View) (result : Result Settled Dead) → IfOk result (AnswersAlone op out u w) → IfOk result (AnswersAlone op out v w)
  answers_then op out w (Ok settled) a = alone_then op out w settled a
  answers_then op out w (Err error) a = tt

  pub dead_then : (op : Op) (w : View) (result : Result Settled Dead) → OnErr result (DiesReading op u w) → OnErr result (DiesReading op v w)
  dead_then op w (Ok settled) d = tt
  dead_then op w (Err error) d = reading_then v u p op w d
