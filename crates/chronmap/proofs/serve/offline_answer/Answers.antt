use Rattle.chronmap.proofs.WordCauses.{offline-answers, offline-stops}
use Rattle.chronmap.proofs.serve.offline_answer.Goals as goal

pub returns-clause-ok : goal.returns-clause-ok
returns-clause-ok g c = offline-answers c.offline.result (λ text. text.items) _ _ _ _ c.in_ok-command.ensures.ok c.offline.ensures.gives

pub returns-clause-err : goal.returns-clause-err
returns-clause-err g c = offline-stops c.offline.result _ _ _ _ c.in_ok-command.ensures.ok c.offline.ensures.stops
