-- The replies to a get that was found without a lock.
use Rattle.std.proofs.Common.{ℕ, List, take, refl, ap, sym, false}
use Rattle.cm_plain.specs.declared.op.Op.{Op}
use Rattle.cm_plain.specs.declared.op.Op.TheVariants.{Get}
use Rattle.cm_plain.specs.declared.reply.Reply.{Reply}
use Rattle.cm_plain.specs.declared.reply.Reply.TheVariants as reply
use Rattle.cm_plain.specs.States.{State}
use Rattle.cm_plain.specs.Steps.{Step, value_reply}
use Rattle.cm_plain.specs.Lawful.{IsSegmentWords, Represents}
use Rattle.cm_words.specs.Peeks.{HasFound, PeekSeen}
use Rattle.cm_segment.specs.declared.getting.Peeked.TheVariants.{Found, Missing, Garbled}
use Rattle.cm_segment.specs.Peeked.{IsPeeked}

-- the reply is that of the step, without a grant, after so many changes, from each state that a list of the segment's words with all that was
-- found represents
abbrev pub IsReplyToPeek : PeekSeen → ℕ → Op → Reply → Type 0
IsReplyToPeek p number op reply =
    (words : List ℕ) (state : State) → IsSegmentWords p.geo words → HasFound words p.found → Represents p.geo p.segment words state
    → Step p.geo p.segment state number false op state reply

-- the value that was found
pub replies_found : (p : PeekSeen) (number : ℕ) (key out : List ℕ) (len : ℕ) → IsPeeked p key out (Found len)
    → IsReplyToPeek p number (Get key) (reply.Value (take len out))
replies_found p number key out len is words state are found has = (refl, ap value_reply (sym (is words state are found has).1))

-- no value
pub replies_missing : (p : PeekSeen) (number : ℕ) (key out : List ℕ) → IsPeeked p key out Missing → IsReplyToPeek p number (Get key) reply.Missing
replies_missing p number key out is words state are found has = (refl, ap value_reply (sym (is words state are found has)))

-- where no words have all that was found, any reply
pub replies_garbled : (p : PeekSeen) (number : ℕ) (key out : List ℕ) (op : Op) (reply : Reply) → IsPeeked p key out Garbled
    → IsReplyToPeek p number op reply
replies_garbled p number key out op reply is words state are found has = absurd (is words state are found has)
