use Rattle.std.proofs.Common.{rules, ◌∙◌, arith}
use Rattle.cm_turn.proofs.FoundRounds.{found_of_seat}
use Rattle.cm_turn.proofs.rounds.find_in_round.Goals as goal

pub returns-clause-right : goal.returns-clause-right
returns-clause-right g c =
    let h = found_of_seat g.F.Fuse.fused c.peek_get.new.peek c.args.table.now c.args.key.now c.peek_get.new.out c.in_ok-peeked.peeked c.answer_of.result
    (c.in_ok-peeked.ensures.loads.rest.table ∙ c.peek-peek.ensures.table) (omega (arith, c.in_ok-peeked.ensures.out, c.requires.room))
    c.in_ok-peeked.ensures.within_limit c.in_ok-peeked.ensures.found c.answer_of.ensures in
    search (rules, h)
