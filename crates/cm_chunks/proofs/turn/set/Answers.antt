use Rattle.cm_words.specs.Stores.{WritesPrefixEach}
use Rattle.cm_words.proofs.CallSequences.{ends_err, ends_ok}
use Rattle.cm_chunks.specs.RunBits.{Sets}
use Rattle.cm_chunks.specs.Turns.{stores_to_set}
use Rattle.cm_chunks.proofs.TurnedRuns.{sets_run}
use Rattle.cm_chunks.proofs.turn.set.Goals as goal

pub returns-in_err-turn_run-clause-stores : goal.returns-in_err-turn_run-clause-stores
returns-in_err-turn_run-clause-stores g c = ends_err g.M.Mem.seen g.M.Mem.same_rest _ _ (λ old now. Sets old now c.args.geo.now c.args.run) (λ old now. WritesPrefixEach old now (stores_to_set c.args.geo.now c.args.run)) _ _ _ c.from_residual.result c.from_residual.ensures.0 c.in_err-turn_run.ensures.stores (λ part. part)

pub returns-clause-stores : goal.returns-clause-stores
returns-clause-stores g c =
    ends_ok g.M.Mem.seen g.M.Mem.same_rest (λ old now. Sets old now c.args.geo.now c.args.run) (λ old now. WritesPrefixEach old now (stores_to_set c.args.geo.now c.args.run)) _ c.turn_run.new.mem _ (record {
      rest = c.in_ok-turn_run.ensures.stores.rest;
      survives = c.in_ok-turn_run.ensures.stores.fuse.survives;
      done = sets_run (g.M.Mem.seen c.args.mem.now) _ c.args.geo.now c.args.run c.requires.writable.geo_is c.requires.run c.in_ok-turn_run.ensures.stores.done;
    })
