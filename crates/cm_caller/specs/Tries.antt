-- One try of a call, and what it leaves of a pass (own).
use Rattle.std.specs.Prelude.{ℕ, ◌≡◌, false, List, Result, Ok, Err}
use Rattle.cm_geo.specs.declared.geo.Geo.{Geo}
use Rattle.cm_plain.specs.declared.op.Op.{Op}
use Rattle.cm_plain.specs.declared.reply.Reply.{Reply}
use Rattle.cm_plain.specs.declared.reply.Reply.TheVariants as reply
use Rattle.cm_plain.specs.History.{Call}
use Rattle.cm_plain.specs.Limits.{segment_of}
use Rattle.cm_words.specs.Fuses.{FuseSeen}
use Rattle.cm_lock.specs.declared.take.Stop.{Stop}
use Rattle.cm_lock.specs.declared.take.Stop.TheVariants.{Busy, Died}
use Rattle.cm_turn.specs.declared.answer.Done.{Done}
use Rattle.cm_turn.specs.declared.answer.Spot.{Spot}
use Rattle.cm_turn.specs.Answers.{reply_in}
use Rattle.cm_store.specs.declared.list.ListStop.{ListStop}
use Rattle.cm_store.specs.declared.list.ListStop.TheVariants as list
use Rattle.cm_store.specs.declared.list.Listed.{Listed}
use Rattle.cm_store.specs.declared.pass.Pass.{Pass}
use Rattle.cm_store.specs.declared.store.Store.{Store}
use Rattle.cm_store.specs.Passes.{IsPassOf, number_of}
use Rattle.cm_history.specs.Kept.{AddsCall, KeepsPass}
use Rattle.cm_caller.specs.declared.tried.Tried.{Tried}
use Rattle.cm_caller.specs.declared.tried.Tried.TheVariants as tried

-- what a call of a store answered is told so, with the reply of its bytes; or there was no memory for the reply
abbrev pub TellsTry : Result Done Stop → List ℕ → Tried → Type 0
TellsTry (Ok done) out (tried.Answered spot answer) = (spot ≡ done.spot) × (answer ≡ reply_in done.answer out)
TellsTry (Ok done) out tried.NoMemory = Unit {0}
TellsTry (Err (Busy looks last)) out tried.Busy = Unit {0}
TellsTry (Err Died) out tried.Died = Unit {0}
TellsTry _ out _ = ⊥

-- and so is what a listing answered
abbrev pub TellsList : Result Listed ListStop → Tried → Type 0
TellsList (Ok listed) (tried.Answered spot answer) = (spot ≡ listed.spot) × (answer ≡ reply.Pairs listed.pairs)
TellsList (Err (list.Busy looks last)) tried.Busy = Unit {0}
TellsList (Err list.Died) tried.Died = Unit {0}
TellsList (Err list.NoMemory) tried.NoMemory = Unit {0}
TellsList _ _ = ⊥

-- a fuse that can't die, and hasn't
pub record IsSafe (fuse : FuseSeen) : Type 0 where
  pub cannot : fuse.can_die ≡ false
  pub alive : fuse.deaths ≡ 0

-- an answer of an operation, at a number, is one call more of its segment, whatever else its receipt tells
abbrev pub KeepsAnswer : {F : Type 0} → Geo → Op → (ℕ → List Call) → Spot → Reply → Pass F → Type 0
KeepsAnswer geo op calls spot answer now =
    (call : Call) (later : ℕ → List Call) → call.op ≡ op → call.receipt.number ≡ spot.number → call.receipt.reply ≡ answer
    → AddsCall (segment_of geo op) call calls later → KeepsPass geo.extra later now

-- what is left of a pass that made these calls before: an answer is one call more, and a try that was refused none. Want of memory loses an
-- answer, and nobody dies
abbrev pub LeavesTry : {F : Type 0} → Geo → Op → (ℕ → List Call) → Pass F → Tried → Type 0
LeavesTry geo op calls now (tried.Answered spot answer) = (spot.segment ≡ segment_of geo op) × KeepsAnswer geo op calls spot answer now
LeavesTry geo op calls now tried.Busy = KeepsPass geo.extra calls now
LeavesTry geo op calls now tried.NoMemory = Unit {0}
LeavesTry geo op calls now tried.Died = ⊥

-- a pass of a store, of this number, which can't die and rests so
pub record Stands {F : Type 0} (fused : F → FuseSeen) (store : Store) (Rests : Pass F → Type 0) (number : ℕ) (pass : Pass F) : Type 0 where
  pub its : IsPassOf pass store
  pub safe : IsSafe (fused pass.fuse)
  pub number_is : number_of pass ≡ number
  pub rests : Rests pass

-- what one try of an operation did, by a pass that can't die: it rests so, and kept its calls
pub record Tries {F : Type 0} (fused : F → FuseSeen) (store : Store) (Rests : Pass F → Type 0) (op : Op) (old now : Pass F) (tried : Tried) : Type 0 where
  pub stands : Stands fused store Rests (number_of old) now
  pub leaves : (calls : ℕ → List Call) → KeepsPass store.geo.extra calls old → LeavesTry store.geo op calls now tried
