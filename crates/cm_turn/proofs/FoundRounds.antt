-- What a peek over the open round of a seat found is found of its seat.
use Rattle.std.proofs.Common.{◌≡◌, ℕ, ◌≤◌, ◌/◌, ◌∙◌, Bool, true, false, List, length, Some, refl, sym, ap, subst, arith, if◌then◌else◌}
use Rattle.cm_plain.specs.declared.op.Op.{Op}
use Rattle.cm_plain.specs.declared.op.Op.TheVariants.{Get}
use Rattle.cm_plain.specs.declared.reply.Reply.{Reply}
use Rattle.cm_words.specs.declared.peek.FoundWord.{FoundWord}
use Rattle.cm_words.specs.Fuses.{FuseSeen}
use Rattle.cm_words.specs.Peeks.{HasFound}
use Rattle.cm_segment.specs.declared.getting.Peeked.{Peeked}
use Rattle.cm_segment.specs.Peeked.{IsPeeked, IsWithin}
use Rattle.cm_lock.specs.declared.peeking.Peeking.{Peeking}
use Rattle.cm_lock.specs.declared.table.SegTable.{SegTable}
use Rattle.cm_lock.specs.declared.view.Key.{Key}
use Rattle.cm_lock.specs.declared.view.View.{View}
use Rattle.cm_lock.specs.Peekings.{peeking_seen, with_found_rest}
use Rattle.cm_lock.specs.Rounds.{ClosesRound, OpensRound, found_in}
use Rattle.cm_lock.specs.Rule.{seat_meter}
use Rattle.cm_lock.specs.Tables.{key_of, view_of}
use Rattle.cm_lock.specs.Views.{after_close, after_failed_round, after_open}
use Rattle.cm_turn.specs.declared.answer.Answer.{Answer}
use Rattle.cm_turn.specs.Answers.{reply_in}
use Rattle.cm_turn.specs.Records.{AddsAs, IsIdle}
use Rattle.cm_turn.specs.Rounds.{AnswersRound, IsAnswerTo, IsFoundAnswer, Peeks}

pub found_of_seat : {F : Type 0} {g : _} (fused : F → FuseSeen) (p : Peeking F g) (table : SegTable) (key out : List ℕ) (peeked : Peeked) (answer : Answer) → p.table.now ≡ table
    → 4096 ≤ length out → IsWithin 4096 peeked → IsPeeked (peeking_seen fused p) key out peeked → IsAnswerTo peeked answer
    → IsFoundAnswer (key_of table) (view_of p.seat.now) (Get key) out answer
found_of_seat fused p table key out peeked answer same room within is a =
    subst (λ (t : SegTable). IsFoundAnswer (key_of t) (view_of p.seat.now) (Get key) out answer) same (record {
      stays = a.stays out;
      unspent = a.unspent out;
      bytes = a.bytes out room within;
      right = λ round begun. a.right (key_of p.table.now) round (seat_meter (fused p.fuse.now) (view_of p.seat.now)) key out
          (λ words state are found represents. is words state are (subst (λ (fs : List FoundWord). HasFound words fs) (sym (ap found_in begun)) found) represents);
    })

-- ---- a round that was closed with its first change number

opened_view : (v u : View) (opened : Bool) (word : ℕ) → opened ≡ true → u ≡ (if opened then after_open v word else after_failed_round v word) → u ≡ after_open v word
opened_view v u true word e is = is
opened_view v u false word e is = absurd (cc e)

pub answers_round : (key : Key) (op : Op) (out : List ℕ) (v u w x : View) (opened : Bool) (answer : Answer) (number : ℕ) (reply : Reply)
    → IsIdle v → opened ≡ true → OpensRound opened v u → Peeks u w → IsFoundAnswer key w op out answer → reply ≡ reply_in answer out
    → ClosesRound key op reply (Some number) w x → AnswersRound op out v x (record { number = number; answer = answer })
answers_round key op out v u w x opened answer number reply idle is_open opens peeks found told closes =
    let begun : u ≡ after_open v opens.word = opened_view v u opened opens.word is_open opens.view in
    let held : w ≡ with_found_rest (after_open v opens.word) w = peeks.view ∙ ap (λ (z : View). with_found_rest z w) begun in
    let last : ℕ = closes.word in
    let ended : View = after_close (with_found_rest (after_open v opens.word) w) op (reply_in answer out) last in
    let same : x ≡ ended = closes.closes.2 ∙ (ap (λ (z : View). after_close z op reply last) held ∙ ap (λ (r : Reply). after_close (with_found_rest (after_open v opens.word) w) op r last) told) in
    let seen : w.seen ≡ opens.word / 2 = ap (λ (z : View). z.seen) held in
    let above : v.seen ≤ last / 2 = omega (arith, opens.seen, closes.seen, seen) in
    let there : AnswersRound op out v ended (record { number = last / 2; answer = answer }) = record {
      answers = record {
        adds = record { added = subst (λ (b : Bool). AddsAs b op (last / 2) (reply_in answer out) v ended) (sym found.stays) (refl, above); seen = (omega arith) };
        stays = found.stays;
        unspent = found.unspent;
        changes = refl;
        ends = record { free = idle.free; closed = refl };
        stores = refl;
      };
      failed = refl;
      looks = refl;
    } in
    subst (λ (z : View). AnswersRound op out v z (record { number = number; answer = answer })) (sym same)
    (subst (λ (n : ℕ). AnswersRound op out v ended (record { number = n; answer = answer })) (sym closes.closes.1) there)
