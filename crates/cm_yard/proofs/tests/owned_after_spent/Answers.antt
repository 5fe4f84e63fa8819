use Rattle.cm_yard.specs.Yards.{key_of, view_of}
use Rattle.cm_yard.proofs.Finding.{finds_all}
use Rattle.cm_yard.proofs.tests.owned_after_spent.Goals as goal

pub returns-in_ok-close-in-Ok-Spent : goal.returns-in_ok-close-in-Ok-Spent
returns-in_ok-close-in-Ok-Spent c = c.in_ok-close-in-Ok-Spent.ensures.all (finds_all (view_of c.args.root) (view_of c.claim.new.seat) (key_of c.args.yard).geo.extra (rw c.in-Ok-Spent.field-0-is at c.in-Ok-Spent.ensures.claims))
