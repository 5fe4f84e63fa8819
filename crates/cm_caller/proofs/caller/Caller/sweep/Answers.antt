use Rattle.std.proofs.Common.{ap}
use Rattle.cm_caller.proofs.Answering.{swept_answers}
use Rattle.cm_caller.proofs.caller.Caller.sweep.Goals as goal

pub returns-clause-answered : goal.returns-clause-answered
returns-clause-answered g c =
    swept_answers c.args.store.now c.args.script.now c.args.at c.args.self.now c.close_sweep.new.self c.open_sweep.new.self c.steps-ended.new.self c.steps-ended.result c.requires.sweep
    c.in_ok-open_sweep.ensures.opened c.steps-ended.ensures.swept (ap (λ v. v.items) c.close_sweep.ensures.receipts) c.close_sweep.ensures.keeps c.close_sweep.ensures.claims
