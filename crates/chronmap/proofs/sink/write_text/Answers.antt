use Rattle.std.specs.Prelude.{Result, Ok, Err, OnErr}
use Rattle.std.proofs.Common.{◌≡◌, ◌≤◌, ◌++◌, ℕ, List, take, drop, length, length-drop, sym, subst, arith}
use Rattle.std.proofs.KnownBytes.{Appends-kept, Appends-trans}
use Rattle.std.proofs.lemmas.Grind.{common_steps}
use Rattle.std.proofs.lemmas.List.{take_rest}
use Rattle.std.proofs.Math.Seq.{take-add}
use Rattle.std.specs.Io.KnownBytes.{Appends}
use Rattle.chronmap.proofs.sink.write_text.Goals as goal

on_err-any : {T E : Type 0} (P : Type 0) (r : Result T E) → P → OnErr r P
on_err-any P (Ok x) p = tt
on_err-any P (Err e) p = p

pub returns-in_err-at-clause-prefix : goal.returns-in_err-at-clause-prefix
returns-in_err-at-clause-prefix g c =
    let split : c.args.text.now ≡ take c.loop-at.at c.args.text.now ++ drop c.loop-at.at c.args.text.now = grind (arith, common_steps) in
    on_err-any _ c.from_residual.result (
      take c.loop-at.at c.args.text.now,
      drop c.loop-at.at c.args.text.now,
      split,
      Appends-kept _ _ _ _ c.loop-at.invariant.given c.in_err-at.ensures.bytes,
    )

pub loop-at-preserved : goal.loop-at-preserved
loop-at-preserved g c =
    let n = c.in_ok-at.field-0 in
    let text = c.args.text.now in
    let more = rw take_rest at (Appends-trans _ _ _ _ _ c.loop-at.invariant.given c.in_ok-at.ensures.bytes) in
    let room : n ≤ length (drop c.loop-at.at text) = rw take_rest at c.in_ok-at.ensures.bound in
    record {
      within = omega (arith, room, length-drop c.loop-at.at text);
      faults = omega (arith, c.in_ok-at.ensures.faults.no_fewer);
      given = subst (λ (t : List ℕ). Appends (g.K.Sink.seen c.args.sink.now).bytes (g.K.Sink.seen c.give.new.self).bytes t) (sym (take-add c.loop-at.at n text)) more;
    }
