use Rattle.std.proofs.Common.{◌-◌, arith, ap, refl}
use Rattle.cm_words.specs.declared.fuse.EventKind.TheVariants.{Exchange}
use Rattle.cm_words.proofs.MeterCounts.{survives_event, survives_transitive}
use Rattle.cm_yard.specs.declared.view.View.{View}
use Rattle.cm_yard.specs.Claims.{seat_meter}
use Rattle.cm_yard.specs.Yards.{view_of}
use Rattle.cm_yard.proofs.Finding.{finds_more}
use Rattle.cm_yard.proofs.yard.Yard.claim.Goals as goal

pub loop-index-preserved : goal.loop-index-preserved
loop-index-preserved g c =
    let fused = g.F.Fuse.fused in
    let old = view_of c.loop-index.seat in
    let now = view_of c.exchange.new.seat in
    let view = c.exchange.ensures.owned (omega arith) in
    let event = survives_event Exchange (seat_meter (fused c.loop-index.fuse) old) (seat_meter (fused c.ask.new.fuse) now) c.in_ok-ask.ensures (ap (λ (v : View). v.events) view) refl in
    record {
      its = c.exchange.ensures.its;
      finds = finds_more (view_of c.args.seat.now) old now c.loop-index.index (c.exchange.result - 1) c.loop-index.invariant.finds view;
      survives = survives_transitive _ _ _ c.loop-index.invariant.survives event;
    }
