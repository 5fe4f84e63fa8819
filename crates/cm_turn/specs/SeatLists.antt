-- What a listing leaves of its seat (own).
use Rattle.std.specs.Prelude.{ℕ, List, Result, Ok, Err}
use Rattle.cm_plain.specs.declared.op.Op.TheVariants as op
use Rattle.cm_plain.specs.declared.reply.Pair.{Pair}
use Rattle.cm_plain.specs.declared.reply.Reply.TheVariants as reply
use Rattle.cm_plain.specs.declared.stop.NoMemory.{NoMemory}
use Rattle.cm_words.specs.Memory.{MemSeen}
use Rattle.cm_lock.specs.Answers.{IsReplyHere}
use Rattle.cm_lock.specs.declared.take.Stop.{Stop}
use Rattle.cm_lock.specs.declared.take.Stop.TheVariants.{Busy, Died}
use Rattle.cm_lock.specs.declared.view.Level.TheVariants.{Free, Read}
use Rattle.cm_lock.specs.declared.view.View.{View}
use Rattle.cm_turn.specs.declared.list_call.Listing.{Listing}
use Rattle.cm_turn.specs.Calls.{AnswersPlainly, DiesReading, IsRefused}
use Rattle.cm_turn.specs.Records.{AddsNoAnswer, IsIdle}

-- pairs that were found are the reply to a listing, right for each state here
abbrev pub ListsHere : MemSeen → Result (List Pair) NoMemory → Type 0
ListsHere m (Ok pairs) = (segment : ℕ) → IsReplyHere m (op.List segment) (reply.Pairs pairs)
ListsHere m (Err missing) = Unit {0}

-- what is left where a listing ended so: all pairs were added as its answer; or memory was missing, and no answer was added
abbrev pub EndsListing : ℕ → View → View → Result Listing NoMemory → Type 0
EndsListing segment was now (Ok listing) = AnswersPlainly (op.List segment) listing.number (reply.Pairs listing.pairs) was now
EndsListing segment was now (Err missing) = AddsNoAnswer IsIdle was now

-- what is left where a listing ended so, was refused Read, or died
abbrev pub LeavesListing : ℕ → ℕ → View → View → Result (Result Listing NoMemory) Stop → Type 0
LeavesListing tries segment was now (Ok ended) = EndsListing segment was now ended
LeavesListing tries segment was now (Err (Busy looks last)) = AddsNoAnswer IsIdle was now × IsRefused Free Read tries looks last now
LeavesListing tries segment was now (Err Died) = DiesReading (op.List segment) was now
