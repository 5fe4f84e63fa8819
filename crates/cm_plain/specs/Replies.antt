-- The reply of an answer that borrows its bytes (own). Such an answer leaves the segment as it is.
use Rattle.cm_plain.specs.declared.heard.Heard.{Heard}
use Rattle.cm_plain.specs.declared.heard.Heard.TheVariants.{Kept, Missing, Differs, Value, FullChain, FullSpent, Worn, Count, Pairs, SweptAll}
use Rattle.cm_plain.specs.declared.reply.Reply.{Reply}
use Rattle.cm_plain.specs.declared.reply.Reply.TheVariants as reply

-- the reply of such an answer
abbrev pub reply_of_heard : Heard → Reply
reply_of_heard (Kept value) = reply.Kept value.now
reply_of_heard Missing = reply.Missing
reply_of_heard Differs = reply.Differs
reply_of_heard (Value value) = reply.Value value.now
reply_of_heard FullChain = reply.FullChain
reply_of_heard FullSpent = reply.FullSpent
reply_of_heard Worn = reply.Worn
reply_of_heard (Count entries) = reply.Count entries
reply_of_heard (Pairs pairs) = reply.Pairs pairs.now
reply_of_heard SweptAll = reply.SweptAll
