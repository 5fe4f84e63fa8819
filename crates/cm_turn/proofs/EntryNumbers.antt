-- The number of entries that the words tell.
use Rattle.std.proofs.Common.{◌≡◌, ◌∙◌, ℕ, ◌<◌, ◌^◌, List, length, Ok, Err, refl, sym, ap, subst, arith}
use Rattle.std.specs.declared.result.Result.{Result}
use Rattle.core.specs.Result.{OkIff, result_unwrap_or}
use Rattle.cm_plain.specs.declared.op.Op.TheVariants.{Count}
use Rattle.cm_plain.specs.declared.reply.Reply.TheVariants as reply
use Rattle.cm_plain.proofs.EntryCount.{few_entries}
use Rattle.cm_plain.proofs.OutsideHead.{resting_represents}
use Rattle.cm_words.specs.Memory.{MemSeen}
use Rattle.cm_words.specs.Effects.{Knows}
use Rattle.cm_turn.specs.declared.answer.Answer.TheVariants as answer
use Rattle.cm_turn.specs.Verdicts.{StaysBy}

-- a number that fits is told as it is
pub told_as : {E : Type 0} (result : Result ℕ E) (word most : ℕ) → OkIff result (word < 2 ^ 32) word → word < 2 ^ 32 → result_unwrap_or result most ≡ word
told_as (Ok number) word most iff fits = iff.1
told_as (Err error) word most iff fits = absurd (iff fits)

-- the number that is known is that of the entries of each state here
pub count_stays : (m : MemSeen) (segment count word : ℕ) (out : List ℕ) → Knows m 2 word → (word < 2 ^ 32 → count ≡ word)
    → StaysBy m (Count segment) out (answer.Count count)
count_stays m segment count word out knows told = record {
  stays = refl;
  bytes = tt;
  unspent = λ e. cc e;
  right = λ words state fits rests.
      (let here : word ≡ length state.entries = sym (knows.here (λ _. omega arith) words fits)
      ∙ (resting_represents m.setting.geo m.setting.segment words state rests).count in
      let few = few_entries m.setting.geo m.setting.segment state (resting_represents m.setting.geo m.setting.segment words state rests).is_state in
      let same : count ≡ length state.entries = told (subst (λ (n : ℕ). n < 2 ^ 32) (sym here) few) ∙ here in
      (refl, ap reply.Count same));
}
