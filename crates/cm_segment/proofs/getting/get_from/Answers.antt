use Rattle.std.proofs.Common.{◌≡◌, ◌∙◌, sym, false, true, arith}
use Rattle.cm_words.proofs.CallSequences.{loaded_none, loads_then_err, loads_then_ok}
use Rattle.cm_segment.proofs.ChainedTiers.{represents_before}
use Rattle.cm_segment.proofs.LoadSequences.{loaded_call}
use Rattle.cm_segment.proofs.PeekedValues.{no_value, sight_fits, value_copied}
use Rattle.cm_segment.proofs.getting.get_from.Goals as goal

no_truth : false ≡ true → ⊥
no_truth e = cc e

pub returns-in_default-clause-found : goal.returns-in_default-clause-found
returns-in_default-clause-found g c = λ words state fits has.
    no_value c.args.key.now state (rw c.in_default.is at c.in_ok-sight.ensures.found words state fits has)

pub returns-then-not-fits-clause-found : goal.returns-then-not-fits-clause-found
returns-then-not-fits-clause-found g c = λ words state fits has.
    let is = rw c.in-Some.is at c.in_ok-sight.ensures.found words state fits has in
    no_truth (sym c.if-not-fits.true ∙ c.fits.ensures.1 (sight_fits c.args.geo.now _ words state c.args.key.now c.in-Some.sight has is))

pub returns-in_err-len-clause-loads : goal.returns-in_err-len-clause-loads
returns-in_err-len-clause-loads g c =
    loads_then_err g.M.Mem.seen g.M.Mem.same_rest _ c.look.new.mem c.read_value_into.new.mem _ c.from_residual-in_err-len.result
    c.from_residual-in_err-len.ensures.0 (g.met.M.Mem.rest_transitive _ _ _)
    (loaded_call g.M.Mem.seen g.M.Mem.same_rest _ c.args.mem.now c.look.new.mem _ (g.met.M.Mem.rest_transitive _ _ _)
    (loaded_none g.M.Mem.seen g.M.Mem.same_rest c.args.mem.now (g.met.M.Mem.rest_reflexive _)) c.in_ok-sight.ensures.loads) c.in_err-len.ensures.loads.loads

pub returns-then-len-sight-clause-loads : goal.returns-then-len-sight-clause-loads
returns-then-len-sight-clause-loads g c =
    loads_then_ok g.M.Mem.seen g.M.Mem.same_rest _ c.look.new.mem c.read_value_into.new.mem _ _ (g.met.M.Mem.rest_transitive _ _ _)
    (loaded_call g.M.Mem.seen g.M.Mem.same_rest _ c.args.mem.now c.look.new.mem _ (g.met.M.Mem.rest_transitive _ _ _)
    (loaded_none g.M.Mem.seen g.M.Mem.same_rest c.args.mem.now (g.met.M.Mem.rest_reflexive _)) c.in_ok-sight.ensures.loads) c.in_ok-len.ensures.loads.loads

pub returns-then-len-sight-clause-found : goal.returns-then-len-sight-clause-found
returns-then-len-sight-clause-found g c = λ words state fits has.
    let reads = c.in_ok-len.ensures.loads.loads.done in
    let is = (rw c.in-Some.is at c.in_ok-sight.ensures.found) words state (reads.fits words fits)
    (represents_before (g.M.Mem.seen c.look.new.mem) (g.M.Mem.seen c.read_value_into.new.mem) c.args.geo.now words state reads has) in
    let value = value_copied c.args.geo.now _ words state c.args.key.now c.in-Some.sight c.read_value_into.new.out c.in_ok-len.len has is
    (record { copied = λ pair. c.in_ok-len.ensures.value.copied words fits pair }) in
    (omega (arith, c.in_ok-len.ensures.value.within_limit, c.requires.out, c.read_value_into.auto.out), value.1)

pub returns-else-len-sight-clause-loads : goal.returns-else-len-sight-clause-loads
returns-else-len-sight-clause-loads g c =
    loads_then_ok g.M.Mem.seen g.M.Mem.same_rest _ c.look.new.mem c.read_value_into.new.mem _ _ (g.met.M.Mem.rest_transitive _ _ _)
    (loaded_call g.M.Mem.seen g.M.Mem.same_rest _ c.args.mem.now c.look.new.mem _ (g.met.M.Mem.rest_transitive _ _ _)
    (loaded_none g.M.Mem.seen g.M.Mem.same_rest c.args.mem.now (g.met.M.Mem.rest_reflexive _)) c.in_ok-sight.ensures.loads) c.in_ok-len.ensures.loads.loads

pub returns-else-len-sight-clause-found : goal.returns-else-len-sight-clause-found
returns-else-len-sight-clause-found g c = λ words state fits has.
    let reads = c.in_ok-len.ensures.loads.loads.done in
    let is = (rw c.in-Some.is at c.in_ok-sight.ensures.found) words state (reads.fits words fits)
    (represents_before (g.M.Mem.seen c.look.new.mem) (g.M.Mem.seen c.read_value_into.new.mem) c.args.geo.now words state reads has) in
    let value = value_copied c.args.geo.now _ words state c.args.key.now c.in-Some.sight c.read_value_into.new.out c.in_ok-len.len has is
    (record { copied = λ pair. c.in_ok-len.ensures.value.copied words fits pair }) in
    c.if-len-sight.false value.0
