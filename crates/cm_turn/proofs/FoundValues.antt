-- What is found of a key's value in the words, of each state here.
use Rattle.std.proofs.Common.{◌≡◌, ◌∙◌, ℕ, IsTrue, Bool, true, false, List, Option, Some, None, is_some, inl, inr, refl, sym, ap, subst, rules}
use Rattle.cm_geo.specs.declared.geo.Geo.{Geo}
use Rattle.cm_plain.specs.States.{State, pair_of, value_in, value_of}
use Rattle.cm_plain.specs.Readings.{entry, reading_at}
use Rattle.cm_plain.specs.Lawful.{Resting}
use Rattle.cm_plain.proofs.EntrySets.{found_is}
use Rattle.cm_plain.proofs.OutsideHead.{resting_represents}
use Rattle.cm_words.specs.Memory.{FitsNotes, MemSeen}
use Rattle.cm_words.specs.Effects.{Reads}
use Rattle.cm_entry.specs.Parts.{IsPartCopy, IsPartEqual}
use Rattle.cm_segment.specs.declared.seek.Sight.{Sight}
use Rattle.cm_segment.specs.Sights.{FindsKey, IsAbsent, IsSight}
use Rattle.cm_segment.proofs.ChainedTiers.{rests_before}
use Rattle.cm_segment.proofs.KeySearch.{reads_at}
use Rattle.cm_segment.proofs.OldEntries.{old_none}
use Rattle.std.proofs.lemmas.Slice.Eq.{bytes_eq-Decides}
use Rattle.cm_plain.specs.declared.op.Op.{Op}
use Rattle.cm_plain.specs.declared.op.Op.TheVariants as op
use Rattle.cm_plain.specs.declared.reply.Reply.{Reply}
use Rattle.cm_plain.specs.declared.reply.Reply.TheVariants as reply
use Rattle.cm_plain.specs.Steps.{AnswersUnchanged, is_value, unmet_reply, would_change}
use Rattle.cm_plain.proofs.Keys.{key_tells}
use Rattle.cm_lock.specs.Answers.{IsReplyHere}
use Rattle.cm_turn.specs.declared.answer.Answer.TheVariants as answer
use Rattle.cm_turn.specs.Verdicts.{StaysBy}
use Rattle.cm_turn.specs.declared.conditions.Comparison.TheVariants.{Differs, Same}
use Rattle.cm_turn.specs.Conditions.{Compares, EachHere, FindsValue}

-- ---- of one state

-- a key without an entry has no value
pub absent_value : (key : List ℕ) (state : State) → IsAbsent state key → value_of key state ≡ None
absent_value key state absent = ap value_in (old_none key state absent)

-- the value of a key that was found
pub sight_value : (geo : Geo) (segment : ℕ) (words : List ℕ) (state : State) (key : List ℕ) (sight : Sight) → Resting geo segment words state
    → (is : IsSight geo words state key sight) → value_of key state ≡ Some is.placed.value
sight_value geo segment words state key sight rests is =
    ap value_in (found_is geo segment state key is.placed (resting_represents geo segment words state rests).is_state is.there is.key_is)

-- and it is read where the entry stands
sight_reads : (geo : Geo) (segment : ℕ) (words : List ℕ) (state : State) (key : List ℕ) (sight : Sight) → Resting geo segment words state
    → (is : IsSight geo words state key sight) → reading_at geo words sight.place sight.chunk ≡ entry (pair_of is.placed)
sight_reads geo segment words state key sight rests is =
    reads_at geo segment words state sight.place sight.chunk is.placed (resting_represents geo segment words state rests) (record { there = is.there; place_is = is.place_is }) is.chunk_is

-- whether a key is there
pub sight_there : (geo : Geo) (segment : ℕ) (words : List ℕ) (state : State) (key : List ℕ) (sight : Option Sight) → Resting geo segment words state
    → FindsKey geo words state key sight → is_some (value_of key state) ≡ is_some sight
sight_there geo segment words state key None rests absent = ap is_some (absent_value key state absent)
sight_there geo segment words state key (Some sight) rests is = ap is_some (sight_value geo segment words state key sight rests is)

-- ---- after loads

module _ (a b : MemSeen) (geo : Geo) (key : List ℕ) (sight : Sight) (reads : Reads a b)
    (found : (words : List ℕ) (state : State) → FitsNotes a words → Resting geo a.setting.segment words state → IsSight geo words state key sight) where
  -- what was found is still so
  still : (words : List ℕ) (state : State) → FitsNotes b words → Resting geo b.setting.segment words state → IsSight geo words state key sight
  still words state fits rests = found words state (reads.fits words fits) (rests_before a b geo words state reads rests)

  -- the value was copied
  pub copied_value : (out : List ℕ) (len : ℕ) → IsPartCopy b geo sight.place sight.chunk 4096 (λ pair. pair.value) out len
      → EachHere b geo (λ state. FindsValue (value_of key state) out (Some len))
  copied_value out len copy words state fits rests =
      let is = still words state fits rests in
      let value = copy.copied words fits (pair_of is.placed) (sight_reads geo b.setting.segment words state key sight rests is) in
      sight_value geo b.setting.segment words state key sight rests is ∙ ap (λ (v : List ℕ). Some v) (sym value.1)

  -- the value is the expected one
  pub same_value : (expected : List ℕ) (equals : Bool) → equals ≡ true → IsPartEqual b geo sight.place sight.chunk (λ pair. pair.value) expected equals
      → EachHere b geo (λ state. Compares (value_of key state) expected Same)
  same_value expected equals same equal words state fits rests =
      let is = still words state fits rests in
      let value = (equal words fits (pair_of is.placed) (sight_reads geo b.setting.segment words state key sight rests is)).0 (is_true same) in
      sight_value geo b.setting.segment words state key sight rests is ∙ ap (λ (v : List ℕ). Some v) value
    where
      is_true : {test : Bool} → test ≡ true → IsTrue test
      is_true e = search (rules, e)

  -- or another one
  pub other_value : (expected : List ℕ) (equals : Bool) → equals ≡ false → IsPartEqual b geo sight.place sight.chunk (λ pair. pair.value) expected equals
      → EachHere b geo (λ state. Compares (value_of key state) expected Differs)
  other_value expected equals other equal words state fits rests =
      let is = still words state fits rests in
      let value = equal words fits (pair_of is.placed) (sight_reads geo b.setting.segment words state key sight rests is) in
      rw (sight_value geo b.setting.segment words state key sight rests is) (λ same. not_both (value.1 same) other)
    where
      not_both : {test : Bool} → IsTrue test → test ≡ false → ⊥
      not_both h e = search (rules, h, e)

-- ---- what is answered

-- a value that isn't the expected one
differs_unmet : (value : Option (List ℕ)) (expected : List ℕ) → Compares value expected Differs
    → (is_value value expected ≡ false) × (reply.Differs ≡ unmet_reply value)
differs_unmet None expected differs = absurd differs
differs_unmet (Some value) expected differs = elim (key_tells value expected) [
  | inl same ↦ absurd (differs same.1)
  | inr other ↦ (other.0, refl)
]

-- a value that is the expected one
pub same_met : (value : Option (List ℕ)) (expected : List ℕ) → Compares value expected Same → is_value value expected ≡ true
same_met value expected same = rw same ((bytes_eq-Decides expected expected).1 refl)

-- an answer that changes nothing, where the condition isn't met
pub unmet_right : (m : MemSeen) (geo : Geo) (op : Op) (reply : Reply) → m.setting.geo ≡ geo
    → EachHere m geo (λ state. (would_change op state ≡ false) × AnswersUnchanged op state reply) → IsReplyHere m op reply
unmet_right m geo op reply geo_is unmet words state fits rests_m =
    let is = unmet words state fits (subst (λ (g : Geo). Resting g m.setting.segment words state) geo_is rests_m) in
    rw is.0 (refl, is.1)

-- another value, beside the expected one
differs_stays : (m : MemSeen) (geo : Geo) (op : Op) (out : List ℕ) → m.setting.geo ≡ geo
    → EachHere m geo (λ state. (would_change op state ≡ false) × AnswersUnchanged op state reply.Differs) → StaysBy m op out answer.Differs
differs_stays m geo op out geo_is unmet =
    record { stays = refl; bytes = tt; unspent = λ e. cc e; right = unmet_right m geo op reply.Differs geo_is unmet }

pub replace_differs : (m : MemSeen) (geo : Geo) (key expected value out : List ℕ) → m.setting.geo ≡ geo
    → EachHere m geo (λ state. Compares (value_of key state) expected Differs) → StaysBy m (op.ReplaceIf key expected value) out answer.Differs
replace_differs m geo key expected value out geo_is differs =
    differs_stays m geo (op.ReplaceIf key expected value) out geo_is
    (λ words state fits rests. differs_unmet (value_of key state) expected (differs words state fits rests))

pub remove_differs : (m : MemSeen) (geo : Geo) (key expected out : List ℕ) → m.setting.geo ≡ geo
    → EachHere m geo (λ state. Compares (value_of key state) expected Differs) → StaysBy m (op.RemoveIf key expected) out answer.Differs
remove_differs m geo key expected out geo_is differs =
    differs_stays m geo (op.RemoveIf key expected) out geo_is
    (λ words state fits rests. differs_unmet (value_of key state) expected (differs words state fits rests))
