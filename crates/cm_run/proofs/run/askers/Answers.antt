use Rattle.std.proofs.Common.{◌≡◌, ℕ, ◌<◌, Bool, All, Some, false, refl, subst}
use Rattle.std.specs.List.{slice_get}
use Rattle.std.proofs.lemmas.List.{length-set}
use Rattle.std.proofs.lemmas.Option.{get_or_from_slice_get, slice_get_within}
use Rattle.std.proofs.Common.{List, true, ◌∙◌}
use Rattle.cm_script.specs.declared.line.Line.{Line}
use Rattle.cm_run.proofs.Askers.{asked_next}
use Rattle.cm_run.proofs.GateArrays.{each_same}
use Rattle.cm_run.proofs.run.askers.Goals as goal

small_at : (script : List Line) → All (λ (line : Line). line.caller < 64) script → (at : ℕ) (line : Line) → slice_get script at ≡ Some line → line.caller < 64
small_at script all at line there = subst (λ (it : Line). it.caller < 64) (get_or_from_slice_get script at line line there) (all at line (slice_get_within script at line there))

pub loop-at-init : goal.loop-at-init
loop-at-init c = record { long = refl; so_far = λ caller below. each_same Bool 64 caller false }

pub bounds-asks-line : goal.bounds-asks-line
bounds-asks-line c = small_at c.args.script.now c.requires c.loop-at.at c.line.result.now c.line.ensures

pub loop-at-preserved : goal.loop-at-preserved
loop-at-preserved c =
    let small = small_at c.args.script.now c.requires c.loop-at.at c.line.result.now c.line.ensures in
    record {
      long = length-set c.loop-at.asks c.line.result.now.caller true ∙ c.loop-at.invariant.long;
      so_far = asked_next c.loop-at.asks c.args.script.now c.loop-at.at c.line.result.now c.loop-at.invariant.long c.line.ensures small c.loop-at.invariant.so_far;
    }
