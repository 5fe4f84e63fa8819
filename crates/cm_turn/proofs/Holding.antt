-- What is known in a hold is known of its seat.
use Rattle.std.proofs.Common.{◌≡◌, ℕ, List, IfOk, Ok, Err, subst}
use Rattle.std.specs.declared.result.Result.{Result}
use Rattle.cm_geo.specs.declared.geo.Geo.{Geo}
use Rattle.cm_plain.specs.declared.op.Op.{Op}
use Rattle.cm_plain.specs.declared.plan.Plan.{Plan}
use Rattle.cm_plain.specs.declared.reply.Reply.{Reply}
use Rattle.cm_words.specs.Fuses.{FuseSeen}
use Rattle.cm_words.specs.KillFuses.{never_seen}
use Rattle.cm_words.specs.Memory.{HasEvenNumber}
use Rattle.cm_words.specs.Meters.{unused}
use Rattle.cm_words.specs.declared.fuse.Dead.{Dead}
use Rattle.cm_segment.specs.Planning.{MayBegin}
use Rattle.cm_lock.specs.Answers.{IsReplyHere}
use Rattle.cm_lock.specs.declared.hold.Hold.{Hold}
use Rattle.cm_lock.specs.declared.table.SegSeat.{SegSeat}
use Rattle.cm_lock.specs.declared.table.SegTable.{SegTable}
use Rattle.cm_lock.specs.Holds.{hold_seen}
use Rattle.cm_lock.specs.Rule.{known_of, seat_meter}
use Rattle.cm_lock.specs.Tables.{key_of, view_of}
use Rattle.cm_turn.specs.declared.answer.Answer.{Answer}
use Rattle.cm_turn.specs.declared.operation.Verdict.{Verdict}
use Rattle.cm_turn.specs.Verdicts.{Decides, StaysBy}
use Rattle.cm_turn.proofs.Knowledge.{KnowsNoLess, decides_known, known_same, may_known, number_known, reply_known, stays_known}

module _ {F : Type 0} {g : _} (fused : F → FuseSeen) (h : Hold F g) where
  -- the hold and its seat know the same
  pub to_seat : KnowsNoLess (hold_seen fused h) (known_of (key_of h.table.now) (view_of h.seat.now).own)
  to_seat = known_same (key_of h.table.now) (view_of h.seat.now).own (seat_meter (fused h.fuse.now) (view_of h.seat.now)) (unused never_seen)

  to_hold : KnowsNoLess (known_of (key_of h.table.now) (view_of h.seat.now).own) (hold_seen fused h)
  to_hold = known_same (key_of h.table.now) (view_of h.seat.now).own (unused never_seen) (seat_meter (fused h.fuse.now) (view_of h.seat.now))

  from_seat : (table : SegTable) (seat : SegSeat) → h.table.now ≡ table → h.seat.now ≡ seat → KnowsNoLess (known_of (key_of table) (view_of seat).own) (hold_seen fused h)
  from_seat table seat same its =
      subst (λ (t : SegTable). KnowsNoLess (known_of (key_of t) (view_of seat).own) (hold_seen fused h)) same
      (subst (λ (s : SegSeat). KnowsNoLess (known_of (key_of h.table.now) (view_of s).own) (hold_seen fused h)) its to_hold)

  pub number_held : (table : SegTable) (seat : SegSeat) → h.table.now ≡ table → h.seat.now ≡ seat → HasEvenNumber (known_of (key_of table) (view_of seat).own) → HasEvenNumber (hold_seen fused h)
  number_held table seat same its even = number_known _ _ (from_seat table seat same its) even

  pub may_held : (table : SegTable) (seat : SegSeat) (geo : Geo) (op : Op) (plan : Plan) → h.table.now ≡ table → h.seat.now ≡ seat
      → MayBegin (known_of (key_of table) (view_of seat).own) geo op plan → MayBegin (hold_seen fused h) geo op plan
  may_held table seat geo op plan same its may = may_known _ _ (from_seat table seat same its) geo op plan may

  -- what was decided over a hold is decided of its seat
  pub decided_held : (table : SegTable) (geo : Geo) (op : Op) (out : List ℕ) (result : Result Verdict Dead) → h.table.now ≡ table
      → IfOk result (Decides (hold_seen fused h) geo op out) → IfOk result (Decides (known_of (key_of table) (view_of h.seat.now).own) geo op out)
  decided_held table geo op out (Ok verdict) same d =
      subst (λ (t : SegTable). Decides (known_of (key_of t) (view_of h.seat.now).own) geo op out verdict) same (decides_known _ _ to_seat geo op out verdict d)
  decided_held table geo op out (Err error) same d = tt

  -- what was answered over a hold is right of its seat
  pub answered_held : (table : SegTable) (op : Op) (out : List ℕ) (result : Result Answer Dead) → h.table.now ≡ table
      → IfOk result (StaysBy (hold_seen fused h) op out) → IfOk result (StaysBy (known_of (key_of table) (view_of h.seat.now).own) op out)
  answered_held table op out (Ok answer) same s =
      subst (λ (t : SegTable). StaysBy (known_of (key_of t) (view_of h.seat.now).own) op out answer) same (stays_known _ _ to_seat op out answer s)
  answered_held table op out (Err error) same s = tt

  -- a reply that is right over a hold is right of its seat
  pub reply_held : (table : SegTable) (op : Op) (reply : Reply) → h.table.now ≡ table → IsReplyHere (hold_seen fused h) op reply → IsReplyHere (known_of (key_of table) (view_of h.seat.now).own) op reply
  reply_held table op reply same right =
      subst (λ (t : SegTable). IsReplyHere (known_of (key_of t) (view_of h.seat.now).own) op reply) same (reply_known _ _ to_seat op reply right)
