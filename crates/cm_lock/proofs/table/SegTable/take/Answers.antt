use Rattle.std.proofs.Common.{◌==◌, subst}
use Rattle.cm_words.proofs.MeterCounts.{survives_transitive}
use Rattle.cm_lock.specs.Rule.{seat_meter}
use Rattle.cm_lock.specs.Takes.{AnswersTry}
use Rattle.cm_lock.proofs.Tries.{trying_more}
use Rattle.cm_lock.proofs.table.SegTable.take.Goals as goal

pub loop-i-preserved : goal.loop-i-preserved
loop-i-preserved g c =
    let fused = g.F.Fuse.fused in
    let e = c.in-Ok-Missed.ensures in
    let old = c.args.seat.now.seat.me.0 in
    let mid = c.loop-i.seat.seat.me.0 in
    let now = c.one_try.new.seat.seat.me.0 in
    record {
      its = e.its;
      trying = trying_more g.L.Take.from g.L.Take.to c.loop-i.i c.loop-i.last c.in-Ok-Missed.word old mid now c.loop-i.invariant.trying
          (subst (AnswersTry g.L.Take.from g.L.Take.to (c.loop-i.i == 0) mid now) c.in-Ok-Missed.field-0-is e.tries);
      survives = survives_transitive (seat_meter (fused c.args.fuse.now) old) (seat_meter (fused c.loop-i.fuse) mid) (seat_meter (fused c.one_try.new.fuse) now) c.loop-i.invariant.survives e.fuse.survives;
    }
