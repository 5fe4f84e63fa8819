use Rattle.std.proofs.Common.{◌∙◌, sym, ap}
use Rattle.cm_plain.specs.Plans.{op_of_ask}
use Rattle.cm_words.specs.Memory.{Setting}
use Rattle.cm_turn.proofs.OtherAsks.{no_sweep, places_later, planned_changes}
use Rattle.cm_turn.proofs.placing.place.Goals as goal

pub returns-clause-judges : goal.returns-clause-judges
returns-clause-judges g c = λ out.
    let b = g.M.Mem.seen c.plan_put.new.mem in
    let reads = c.in_ok-plan_put.ensures.loads.done in
    planned_changes b c.args.geo.now c.args.ask c.args.key.now c.args.value.now c.in_ok-plan_put.field-0 c.in-Some.plan c.answer_to-answer.result out
    (ap (λ (s : Setting). s.geo) reads.keeps.setting ∙ c.requires.readable.geo_is) c.requires.fits
    (c.requires.segment ∙ sym (ap (λ (s : Setting). s.segment) reads.keeps.setting)) c.requires.bytes_fit
    (places_later (g.M.Mem.seen c.args.mem.now) b c.args.geo.now c.args.key.now c.args.value.now (op_of_ask c.args.ask) reads c.requires.places)
    c.in_ok-plan_put.ensures.begins c.in_ok-plan_put.ensures.planned (rw c.in-Some.is at c.plan_of.ensures)
    (c.answer_to-answer.ensures (op_of_ask c.args.ask) _ out (no_sweep (op_of_ask c.args.ask) _ c.args.value.now c.requires.value))
