use Rattle.chronmap.proofs.WordCauses.{is-offline, offline-answered, offline-stopped, run-stopped}
use Rattle.chronmap.proofs.serve.answer.Goals as goal

pub returns-in-Run-clause-err : goal.returns-in-Run-clause-err
returns-in-Run-clause-err g c = run-stopped c.run_input.result _ _ _ _ _ _ _ c.in-Run.is c.in_ok-command.ensures.ok c.run_input.ensures.stops c.run_input.ensures.leaves

pub returns : goal.returns
returns g c =
    let offline = is-offline c.in_ok-command.command c.in_default.not-Run c.in_default.not-Make in
    record {
      ok = offline-answered c.offline.result (λ text. text.items) _ _ _ _ _ _ offline c.in_ok-command.ensures.ok c.offline.ensures.gives;
      err = offline-stopped c.offline.result _ _ _ _ _ _ offline c.in_ok-command.ensures.ok c.offline.ensures.stops;
    }
