-- The reply of an answer, whose bytes stand at the beginning of a list (own).
use Rattle.std.specs.Prelude.{ℕ, ◌≤◌, List, length, take}
use Rattle.cm_plain.specs.declared.reply.Reply.{Reply}
use Rattle.cm_plain.specs.declared.reply.Reply.TheVariants as reply
use Rattle.cm_turn.specs.declared.answer.Answer.{Answer}
use Rattle.cm_turn.specs.declared.answer.Answer.TheVariants.{New, Replaced, Kept, Missing, Differs, Removed, Value, FullChain, FullSpent, Worn, Count, Swept, SweptAll}

-- the reply, with these bytes
abbrev pub reply_in : Answer → List ℕ → Reply
reply_in New out = reply.New
reply_in Replaced out = reply.Replaced
reply_in (Kept len) out = reply.Kept (take len out)
reply_in Missing out = reply.Missing
reply_in Differs out = reply.Differs
reply_in Removed out = reply.Removed
reply_in (Value len) out = reply.Value (take len out)
reply_in FullChain out = reply.FullChain
reply_in FullSpent out = reply.FullSpent
reply_in Worn out = reply.Worn
reply_in (Count entries) out = reply.Count entries
reply_in (Swept len) out = reply.Swept (take len out)
reply_in SweptAll out = reply.SweptAll

-- the list has as many bytes as the answer says
abbrev pub HasBytes : Answer → List ℕ → Type 0
HasBytes (Kept len) out = len ≤ length out
HasBytes (Value len) out = len ≤ length out
HasBytes (Swept len) out = len ≤ length out
HasBytes _ out = Unit {0}
