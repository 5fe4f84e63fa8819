use Rattle.std.proofs.Common.{arith, ◌+◌, ◌-◌, ◌≤◌, IsTrue}
use Rattle.std.proofs.lemmas.Result.{IfOk-weaker}
use Rattle.cm_segment.proofs.FitSearch.{stays_by}
use Rattle.cm_segment.proofs.planning.can_stay.Goals as goal

pub returns-clause-inside : goal.returns-clause-inside
returns-clause-inside g c =
    IfOk-weaker c.free_after.result (λ free. IsTrue free → c.args.old.chunk + c.args.old.chunks + (c.args.chunks - c.args.old.chunks) ≤ c.args.geo.now.chunks)
    (λ free. IsTrue free → c.args.old.chunk + c.args.chunks ≤ c.args.geo.now.chunks)
    (λ free h is. (let inside = h is in omega (arith, inside, c.if-chunks-old.false))) c.free_after.ensures.inside

pub returns-clause-stays : goal.returns-clause-stays
returns-clause-stays g c = IfOk-weaker c.free_after.result _ _
    (λ free h words state fits bits. stays_by c.args.geo.now words state c.args.old c.args.chunks free (omega (arith, c.if-chunks-old.false)) (h words fits)
    bits) c.free_after.ensures.free
