-- What is decided of an operation on the words that a memory knows (own).
use Rattle.std.specs.Prelude.{ℕ, ◌≡◌, ◌≢◌, true, false, IsTrue, List, None}
use Rattle.cm_geo.specs.declared.geo.Geo.{Geo}
use Rattle.cm_plain.specs.declared.op.Op.{Op}
use Rattle.cm_plain.specs.declared.plan.Plan.{Plan}
use Rattle.cm_plain.specs.declared.reply.Reply.TheVariants as reply
use Rattle.cm_plain.specs.Steps.{is_change, reply_of}
use Rattle.cm_words.specs.Memory.{HasEvenNumber, MemSeen}
use Rattle.cm_segment.specs.Planning.{MayBegin}
use Rattle.cm_lock.specs.Answers.{IsReplyHere}
use Rattle.cm_lock.specs.declared.view.Level.{Level}
use Rattle.cm_lock.specs.declared.view.Level.TheVariants.{Free, Write}
use Rattle.cm_turn.specs.declared.answer.Answer.{Answer}
use Rattle.cm_turn.specs.declared.operation.Verdict.{Verdict}
use Rattle.cm_turn.specs.declared.operation.Verdict.TheVariants.{Stays, Changes}
use Rattle.cm_turn.specs.Answers.{HasBytes, reply_in}

-- a memory of a shared segment under a level, between two changes
pub record IsQuiet (m : MemSeen) : Type 0 where
  pub idle : m.plan ≡ None
  pub guarded : IsTrue m.setting.guarded
  pub shared : IsTrue m.setting.shared

-- nothing changes: the reply is right for each state here
pub record StaysBy (m : MemSeen) (op : Op) (out : List ℕ) (answer : Answer) : Type 0 where
  pub stays : is_change (reply_in answer out) ≡ false
  pub bytes : HasBytes answer out
  pub unspent : reply_in answer out ≢ reply.FullSpent
  pub right : IsReplyHere m op (reply_in answer out)

-- the plan is that of each state here, and this is the reply to its change
pub record ChangesBy (m : MemSeen) (geo : Geo) (op : Op) (out : List ℕ) (plan : Plan) (answer : Answer) : Type 0 where
  pub may : MayBegin m geo op plan
  pub changes : is_change (reply_in answer out) ≡ true
  pub reply : reply_in answer out ≡ reply_of plan.kind op plan.key.now

-- the plan may begin now; where it links a tier, the answer without one is right for each state here
pub record IsReady (m : MemSeen) (geo : Geo) (op : Op) (out : List ℕ) (plan : Plan) (answer : Answer) : Type 0 where
  pub changes : ChangesBy m geo op out plan answer
  pub number : HasEvenNumber m
  pub spent : plan.link ≡ true → IsReplyHere m op reply.FullSpent

-- this level is enough for what is to be done: Write for a change
abbrev pub IsEnough : Verdict → Level → Type 0
IsEnough (Stays answer) level = level ≢ Free
IsEnough (Changes plan answer) level = level ≡ Write

-- what is to be done, but for the number of changes
abbrev pub Judges : MemSeen → Geo → Op → List ℕ → Verdict → Type 0
Judges m geo op out (Stays answer) = StaysBy m op out answer
Judges m geo op out (Changes plan answer) = ChangesBy m geo op out plan answer

-- what is to be done
abbrev pub Decides : MemSeen → Geo → Op → List ℕ → Verdict → Type 0
Decides m geo op out (Stays answer) = StaysBy m op out answer
Decides m geo op out (Changes plan answer) = IsReady m geo op out plan answer
