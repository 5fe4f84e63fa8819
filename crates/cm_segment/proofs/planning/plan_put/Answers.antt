-- What is planned in the room that was found is the plan of each state here.
use Rattle.std.proofs.Common.{◌≡◌, ◌∙◌, ap, sym}
use Rattle.cm_plain.proofs.Apart.{chunks_some}
use Rattle.cm_words.specs.Memory.{Setting}
use Rattle.cm_words.specs.Effects.{Reads}
use Rattle.cm_words.proofs.CallSequences.{done_by, loads_then_err, loads_then_ok}
use Rattle.cm_segment.proofs.ChainedTiers.{rests_before}
use Rattle.cm_segment.proofs.RoomPlans.{beside_in, plans_are}
use Rattle.cm_segment.proofs.PlansMade.{puts_begin}
use Rattle.cm_segment.proofs.planning.plan_put.Goals as goal

pub old_of-requires-clause-tiers : goal.old_of-requires-clause-tiers
old_of-requires-clause-tiers g c = c.first-tiers.ensures (g.M.Mem.seen c.args.mem.now) c.args.geo.now

pub plan_beside-requires : goal.plan_beside-requires
plan_beside-requires g c = record { room = beside_in c.args.geo.now _ _ c.in_ok-room.room c.in_ok-room.ensures.inside }

pub returns-in_err-room-clause-loads : goal.returns-in_err-room-clause-loads
returns-in_err-room-clause-loads g c =
    loads_then_err g.M.Mem.seen g.M.Mem.same_rest _ c.old_of.new.mem c.room_beside.new.mem _ c.from_residual-in_err-room.result
    c.from_residual-in_err-room.ensures.0 (g.met.M.Mem.rest_transitive _ _ _)
    (done_by g.M.Mem.seen g.M.Mem.same_rest Reads Reads _ _ _ c.in_ok-old.ensures.loads) c.in_err-room.ensures.loads

pub returns-clause-loads : goal.returns-clause-loads
returns-clause-loads g c =
    loads_then_ok g.M.Mem.seen g.M.Mem.same_rest _ c.old_of.new.mem c.room_beside.new.mem _ _ (g.met.M.Mem.rest_transitive _ _ _)
    (done_by g.M.Mem.seen g.M.Mem.same_rest Reads Reads _ _ _ c.in_ok-old.ensures.loads) c.in_ok-room.ensures.loads

pub returns-clause-planned : goal.returns-clause-planned
returns-clause-planned g c = λ words state fits rests.
    plans_are c.args.geo.now words state c.args.key.now c.args.value.now c.in_ok-old.old c.in_ok-room.room c.plan_beside.result
    (c.in_ok-old.ensures.found words state (c.in_ok-room.ensures.loads.done.fits words fits)
    (rests_before (g.M.Mem.seen c.old_of.new.mem) (g.M.Mem.seen c.room_beside.new.mem) c.args.geo.now words state c.in_ok-room.ensures.loads.done rests))
    (rw c.need-chunks.ensures.value at c.in_ok-room.ensures.room words state fits rests) (rw c.need-chunks.ensures.value at c.plan_beside.ensures)

pub returns-clause-begins : goal.returns-clause-begins
returns-clause-begins g c =
    let setting : (g.M.Mem.seen c.room_beside.new.mem).setting ≡ (g.M.Mem.seen c.args.mem.now).setting = c.in_ok-room.ensures.loads.done.keeps.setting
    ∙ c.in_ok-old.ensures.loads.done.keeps.setting in
    puts_begin (g.M.Mem.seen c.room_beside.new.mem) c.args.geo.now c.args.key.now c.args.value.now c.in_ok-old.old c.in_ok-room.room c.plan_beside.result
    (ap (λ (s : Setting). s.geo) setting ∙ c.requires.readable.geo_is) c.requires.fits
    (chunks_some c.args.geo.now (record { place = 0; chunk = 0; key = c.args.key.now; value = c.args.value.now }))
    (c.requires.segment ∙ ap (λ (s : Setting). s.segment) (sym setting)) c.in_ok-old.ensures.inside
    (rw c.need-chunks.ensures.value at c.in_ok-room.ensures.inside) (rw c.need-chunks.ensures.value at c.plan_beside.ensures)
    (returns-clause-planned g c)
