use Rattle.std.proofs.Common.{◌∙◌, sym, subst, ℕ, List, Option, IfOk}
use Rattle.cm_plain.specs.Lawful.{Resting}
use Rattle.cm_plain.specs.States.{State}
use Rattle.cm_words.specs.Memory.{FitsNotes}
use Rattle.cm_words.specs.Effects.{Reads}
use Rattle.cm_words.proofs.CallSequences.{done_by, then_call}
use Rattle.cm_words.proofs.FittingLists.{reads_transitive}
use Rattle.cm_plain.specs.declared.room.Room.TheVariants.{InPlace}
use Rattle.cm_segment.specs.declared.planning.Old.{Old}
use Rattle.cm_segment.specs.RoomPlans.{IsRoomFor}
use Rattle.cm_segment.proofs.FitSearch.{beside_stays, room_answer}
use Rattle.cm_segment.proofs.planning.room_beside.Goals as goal

pub returns-then-branch-clause-room : goal.returns-then-branch-clause-room
returns-then-branch-clause-room g c = λ words state fits rests.
    subst (λ (old : Option Old). IsRoomFor c.args.geo.now state old c.args.chunks InPlace) (sym c.in-Some.is)
    (beside_stays c.args.geo.now (g.M.Mem.seen c.can_stay.new.mem).setting.segment words state c.in-Some.stood c.args.chunks rests
    (λ bits. sym c.if-branch.true ∙ c.in_ok-can_stay.ensures.stays words state fits bits))

pub returns-clause-room : goal.returns-clause-room
returns-clause-room g c =
    subst (λ (old : Option Old). IfOk c.room_apart-2.result
    (λ room. (words : List ℕ) (state : State) → FitsNotes (g.M.Mem.seen c.room_apart-2.new.mem) words
    → Resting c.args.geo.now (g.M.Mem.seen c.room_apart-2.new.mem).setting.segment words state
    → IsRoomFor c.args.geo.now state old c.args.chunks room)) (sym c.in-Some.is)
    (room_answer (g.M.Mem.seen c.can_stay.new.mem) (g.M.Mem.seen c.room_apart-2.new.mem) c.args.geo.now c.in-Some.stood c.args.chunks c.room_apart-2.result
    c.room_apart-2.ensures.loads.done
    (λ words state fits bits. sym c.if-branch.false ∙ c.in_ok-can_stay.ensures.stays words state fits bits) c.room_apart-2.ensures.room)

pub returns-clause-loads : goal.returns-clause-loads
returns-clause-loads g c =
    then_call g.M.Mem.seen g.M.Mem.same_rest Reads Reads Reads Reads Reads _ c.can_stay.new.mem c.room_apart-2.new.mem c.room_apart-2.result
    (g.met.M.Mem.rest_transitive _ _ _)
    (done_by g.M.Mem.seen g.M.Mem.same_rest Reads Reads _ _ _ c.in_ok-can_stay.ensures.loads) c.room_apart-2.ensures.loads
    (reads_transitive _ (g.M.Mem.seen c.can_stay.new.mem) _) (reads_transitive _ (g.M.Mem.seen c.can_stay.new.mem) _)
