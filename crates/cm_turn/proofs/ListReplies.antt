-- The pairs that were found in a hold are the reply to a listing.
use Rattle.std.proofs.Common.{◌≡◌, ℕ, List, IfOk, Ok, Err, refl, subst, ap, ◌∙◌}
use Rattle.std.specs.declared.result.Result.{Result}
use Rattle.cm_geo.specs.declared.geo.Geo.{Geo}
use Rattle.cm_plain.specs.Lawful.{Resting}
use Rattle.cm_plain.specs.declared.op.Op.TheVariants as op
use Rattle.cm_plain.specs.declared.reply.Pair.{Pair}
use Rattle.cm_plain.specs.declared.reply.Reply.TheVariants as reply
use Rattle.cm_plain.specs.declared.stop.NoMemory.{NoMemory}
use Rattle.cm_plain.specs.States.{Lists}
use Rattle.cm_words.specs.Fuses.{FuseSeen}
use Rattle.cm_words.specs.Memory.{MemSeen}
use Rattle.cm_words.specs.declared.fuse.Dead.{Dead}
use Rattle.cm_lock.specs.Answers.{IsReplyHere}
use Rattle.cm_lock.specs.declared.hold.Hold.{Hold}
use Rattle.cm_lock.specs.declared.table.SegTable.{SegTable}
use Rattle.cm_lock.specs.Holds.{hold_seen}
use Rattle.cm_lock.specs.Rule.{known_of}
use Rattle.cm_lock.specs.Tables.{key_of, view_of}
use Rattle.cm_turn.specs.Conditions.{EachHere}
use Rattle.cm_turn.specs.SeatLists.{ListsHere}
use Rattle.cm_turn.proofs.Holding.{reply_held}

-- pairs that each state here lists are the reply to a listing, which changes nothing
reply_listed : (m : MemSeen) (geo : Geo) (segment : ℕ) (pairs : List Pair) → m.setting.geo ≡ geo → EachHere m geo (λ state. Lists state pairs) → IsReplyHere m (op.List segment) (reply.Pairs pairs)
reply_listed m geo segment pairs same lists words state fits rests =
    (refl, (pairs, lists words state fits (subst (λ (g : Geo). Resting g m.setting.segment words state) same rests), refl))

-- what was found over a hold is right of its seat
pub listed_held : {F : Type 0} {g : _} (fused : F → FuseSeen) (h : Hold F g) (table : SegTable) (geo : Geo) (result : Result (Result (List Pair) NoMemory) Dead)
    → h.table.now ≡ table → (key_of table).geo ≡ geo → IfOk result (λ found. IfOk found (λ pairs. EachHere (hold_seen fused h) geo (λ state. Lists state pairs)))
    → IfOk result (ListsHere (known_of (key_of table) (view_of h.seat.now).own))
listed_held fused h table geo (Ok (Ok pairs)) same of lists = λ segment.
    reply_held fused h table (op.List segment) (reply.Pairs pairs) same
    (reply_listed (hold_seen fused h) geo segment pairs (ap (λ (t : SegTable). (key_of t).geo) same ∙ of) lists)
listed_held fused h table geo (Ok (Err missing)) same of lists = tt
listed_held fused h table geo (Err dead) same of lists = tt
