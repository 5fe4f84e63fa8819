use Rattle.std.proofs.Common.{◌∙◌, sym}
use Rattle.chronmap.proofs.images.read_lawful.Goals as goal

pub returns-in-Some-clause-cause : goal.returns-in-Some-clause-cause
returns-in-Some-clause-cause g c = record { map = c.in_ok-map.map; holds = c.in_ok-map.ensures.map; first = sym c.check.ensures.first ∙ c.in-Some.is }
