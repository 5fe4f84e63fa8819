use Rattle.std.proofs.lemmas.Result.{err_from_is_err_and}
use Rattle.chronmap.specs.Lent.{lent}
use Rattle.chronmap.specs.Vaults.{vault_seen}
use Rattle.chronmap.proofs.RunCauses.{keeps-first, leaves-run, no-first, no-input-script, no-memory, no-save-last, same-itself, saved-behind}
use Rattle.chronmap.proofs.runs.run_input.Goals as goal

pub returns-in_err-first-clause-stops : goal.returns-in_err-first-clause-stops
returns-in_err-first-clause-stops g c =
    let p = err_from_is_err_and c.from_residual.result c.from_residual.ensures.1 in
    rw (p.1, p.2) (no-first c.args.origin.now c.args.name.now
    (lent (g.R.Source.seen c.args.source.now) (vault_seen g.V.Vault.tells g.V.Vault.files g.V.Vault.faults c.args.vault.now) (g.G.GateMaker.seen c.args.gates.now))
    (lent (g.R.Source.seen c.args.source.now) (vault_seen g.V.Vault.tells g.V.Vault.files g.V.Vault.faults c.first_map.new.vault) (g.G.GateMaker.seen c.args.gates.now))
    c.in_err-first.field-0.0 c.in_err-first.ensures.keeps c.in_err-first.ensures.cause)

pub returns-in_err-script-clause-stops : goal.returns-in_err-script-clause-stops
returns-in_err-script-clause-stops g c =
    let p = err_from_is_err_and c.from_residual-in_err-script.result c.from_residual-in_err-script.ensures.1 in
    rw (p.1, p.2) (no-input-script c.args.origin.now c.args.name.now _ _ c.in_ok-first.first c.in_err-script.field-0.0 c.in_ok-first.ensures.begins c.in_ok-first.ensures.keeps
    (rw c.geo.ensures at c.in_err-script.ensures.cause))

pub run_script-requires-clause-for_geo : goal.run_script-requires-clause-for_geo
run_script-requires-clause-for_geo g c κs within = rw c.geo.ensures at c.in_ok-script.ensures.for_geo

pub returns-in_err-outcome-clause-stops : goal.returns-in_err-outcome-clause-stops
returns-in_err-outcome-clause-stops g c =
    let p = err_from_is_err_and c.from_residual-in_err-outcome.result c.from_residual-in_err-outcome.ensures.1 in
    rw (p.1, p.2) (no-memory c.args.origin.now c.args.name.now _ _ c.in_ok-first.ensures.keeps)

pub returns-in_err-text-clause-stops : goal.returns-in_err-text-clause-stops
returns-in_err-text-clause-stops g c =
    let p = err_from_is_err_and c.from_residual-in_err-text.result c.from_residual-in_err-text.ensures.1 in
    rw (p.1, p.2) (no-memory c.args.origin.now c.args.name.now _ _ c.in_ok-first.ensures.keeps)

pub returns-in_err-text-clause-leaves : goal.returns-in_err-text-clause-leaves
returns-in_err-text-clause-leaves g c = leaves-run c.args.origin.now c.args.name.now _ _ _ c.in_ok-first.ensures.keeps (λ _. same-itself _)

pub returns-in_err-save_last-clause-stops : goal.returns-in_err-save_last-clause-stops
returns-in_err-save_last-clause-stops g c =
    let p = err_from_is_err_and c.from_residual-in_err-save_last.result c.from_residual-in_err-save_last.ensures.1 in
    rw (p.1, p.2) (no-save-last c.args.origin.now c.args.name.now _ _ _ c.in_ok-first.first c.in_err-save_last.field-0.0 c.in_ok-first.ensures.begins c.in_ok-first.ensures.keeps
    c.in_err-save_last.ensures.cause)

pub returns-clause-gives : goal.returns-clause-gives
returns-clause-gives g c = record {
  first = c.in_ok-first.first;
  begins = c.in_ok-first.ensures.begins;
  script = c.in_ok-script.script;
  reads = rw c.geo.ensures at c.in_ok-script.ensures.script;
  report = c.in_ok-outcome.outcome.report;
  last = c.in_ok-outcome.outcome.words;
  runs = record { geo_same = c.in_ok-outcome.ensures.geo; explained = c.in_ok-outcome.ensures.explained };
  text_is = c.in_ok-text.ensures;
  saved = saved-behind c.args.name.now c.in_ok-outcome.outcome.words _ _ _ (keeps-first c.args.origin.now _ _ c.in_ok-first.ensures.keeps)
      c.in_ok-save_last.ensures.saved;
}

pub returns-clause-leaves : goal.returns-clause-leaves
returns-clause-leaves g c = leaves-run c.args.origin.now c.args.name.now _ _ _ c.in_ok-first.ensures.keeps c.save_last.ensures.none
