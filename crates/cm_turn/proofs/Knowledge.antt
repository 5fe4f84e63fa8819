-- What is known of the words in one memory is known of them in another one that knows no less.
use Rattle.std.proofs.Common.{◌≡◌, ℕ, ◌/◌, List, false, refl, sym, ap, subst}
use Rattle.cm_geo.specs.declared.geo.Geo.{Geo}
use Rattle.cm_plain.specs.declared.op.Op.{Op}
use Rattle.cm_plain.specs.declared.reply.Reply.{Reply}
use Rattle.cm_plain.specs.States.{State}
use Rattle.cm_plain.specs.Changes.{Change}
use Rattle.cm_plain.specs.Steps.{Plans, Step}
use Rattle.cm_plain.specs.Slots.{word_at}
use Rattle.cm_plain.specs.Lawful.{Resting}
use Rattle.cm_plain.specs.declared.plan.Plan.{Plan}
use Rattle.cm_plain.specs.Plans.{plan_change}
use Rattle.cm_words.specs.Memory.{FitsNotes, HasEvenNumber, IsPlanHere, MemSeen, Setting}
use Rattle.cm_words.specs.Effects.{Reads, StaysNoted}
use Rattle.cm_words.specs.Meters.{MeterSeen}
use Rattle.cm_segment.specs.Planning.{MayBegin}
use Rattle.cm_lock.specs.Answers.{IsReplyHere}
use Rattle.cm_lock.specs.Rule.{level_seen}
use Rattle.cm_lock.specs.declared.view.HeldLevel.{HeldLevel}
use Rattle.cm_lock.specs.declared.view.Key.{Key}
use Rattle.cm_lock.specs.declared.view.Level.{Level}
use Rattle.cm_turn.specs.declared.answer.Answer.{Answer}
use Rattle.cm_turn.specs.declared.operation.Verdict.{Verdict}
use Rattle.cm_turn.specs.declared.operation.Verdict.TheVariants.{Stays, Changes}
use Rattle.cm_turn.specs.Answers.{reply_in}
use Rattle.cm_turn.specs.Verdicts.{ChangesBy, Decides, IsReady, StaysBy}

-- the second memory is of the same segment, and each list that fits it fits the first one
pub record KnowsNoLess (a b : MemSeen) : Type 0 where
  pub geo : b.setting.geo ≡ a.setting.geo
  pub segment : b.setting.segment ≡ a.setting.segment
  pub fits : (words : List ℕ) → FitsNotes b words → FitsNotes a words
  pub noted : StaysNoted a b

pub known_by_reads : (a b : MemSeen) → Reads a b → KnowsNoLess a b
known_by_reads a b reads = record {
  geo = ap (λ (s : Setting). s.geo) reads.keeps.setting;
  segment = ap (λ (s : Setting). s.segment) reads.keeps.setting;
  fits = reads.fits;
  noted = reads.noted;
}

-- whatever the level and the counts, a seat's notes tell the same
pub known_at : (key : Key) (h : HeldLevel) (level : Level) (m n : MeterSeen) → KnowsNoLess (level_seen key h m) (level_seen key (record h { level = level }) n)
known_at key h level m n = record {
  geo = refl;
  segment = refl;
  fits = λ words f. record { are = f.are; present = f.present };
  noted = λ at is. is;
}

pub known_same : (key : Key) (h : HeldLevel) (m n : MeterSeen) → KnowsNoLess (level_seen key h m) (level_seen key h n)
known_same key h m n = record {
  geo = refl;
  segment = refl;
  fits = λ words f. record { are = f.are; present = f.present };
  noted = λ at is. is;
}

module _ (a b : MemSeen) (k : KnowsNoLess a b) where
  rests_there : (words : List ℕ) (state : State) → Resting b.setting.geo b.setting.segment words state → Resting a.setting.geo a.setting.segment words state
  rests_there words state rests =
      subst (λ (n : ℕ). Resting a.setting.geo n words state) k.segment (subst (λ (g : Geo). Resting g b.setting.segment words state) k.geo rests)

  pub reply_known : (op : Op) (reply : Reply) → IsReplyHere a op reply → IsReplyHere b op reply
  reply_known op reply right words state fits rests =
      let step = right words state (k.fits words fits) (rests_there words state rests) in
      subst (λ (n : ℕ). Step b.setting.geo n state (word_at words 1 / 2) false op state reply) (sym k.segment)
      (subst (λ (g : Geo). Step g a.setting.segment state (word_at words 1 / 2) false op state reply) (sym k.geo) step)

  plan_known : (change : Change) → IsPlanHere a change → IsPlanHere b change
  plan_known change here words state fits rests =
      let plans = here words state (k.fits words fits) (rests_there words state rests) in
      subst (λ (n : ℕ). Plans b.setting.geo n state change.op change) (sym k.segment)
      (subst (λ (g : Geo). Plans g a.setting.segment state change.op change) (sym k.geo) plans)

  pub may_known : (geo : Geo) (op : Op) (plan : Plan) → MayBegin a geo op plan → MayBegin b geo op plan
  may_known geo op plan may = record {
    plan_in = may.plan_in;
    op_is = may.op_is;
    within_limits = may.within_limits;
    here = plan_known (plan_change plan) may.here;
    points = λ words state fits rests. may.points words state (k.fits words fits)
        (subst (λ (n : ℕ). Resting geo n words state) k.segment rests);
  }

  pub number_known : HasEvenNumber a → HasEvenNumber b
  number_known even = record {
    noted = k.noted 1 even.noted;
    even = λ words fits. even.even words (k.fits words fits);
    not_last = λ words fits. even.not_last words (k.fits words fits);
  }

  pub stays_known : (op : Op) (out : List ℕ) (answer : Answer) → StaysBy a op out answer → StaysBy b op out answer
  stays_known op out answer s = record { stays = s.stays; bytes = s.bytes; unspent = s.unspent; right = reply_known op (reply_in answer out) s.right }

  pub changes_known : (geo : Geo) (op : Op) (out : List ℕ) (plan : Plan) (answer : Answer) → ChangesBy a geo op out plan answer → ChangesBy b geo op out plan answer
  changes_known geo op out plan answer c = record { may = may_known geo op plan c.may; changes = c.changes; reply = c.reply }

  pub ready_known : (geo : Geo) (op : Op) (out : List ℕ) (plan : Plan) (answer : Answer) → IsReady a geo op out plan answer → IsReady b geo op out plan answer
  ready_known geo op out plan answer r = record {
    changes = changes_known geo op out plan answer r.changes;
    number = number_known r.number;
    spent = λ links. reply_known op _ (r.spent links);
  }

  pub decides_known : (geo : Geo) (op : Op) (out : List ℕ) (verdict : Verdict) → Decides a geo op out verdict → Decides b geo op out verdict
  decides_known geo op out (Stays answer) d = stays_known op out answer d
  decides_known geo op out (Changes plan answer) d = ready_known geo op out plan answer d
