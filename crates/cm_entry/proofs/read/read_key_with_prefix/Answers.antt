use Rattle.std.proofs.Common.{ℕ, length, min, arith}
use Rattle.cm_words.specs.Effects.{IsAsBefore, Reads}
use Rattle.cm_words.proofs.CallSequences.{done_by, loads_then_ok}
use Rattle.cm_entry.proofs.EntryParts.{copy_if_by, copy_unless_by, keeps_if_err, rest_behind}
use Rattle.cm_entry.proofs.read.read_key_with_prefix.Goals as goal

pub returns-then-branch-clause-key : goal.returns-then-branch-clause-key
returns-then-branch-clause-key g c =
    copy_if_by (g.M.Mem.seen c.key_span.new.mem) (g.M.Mem.seen c.copy_prefixed.new.mem) c.args.geo.now c.args.place c.args.chunk c.in_ok-span.span c.args.prefix.now c.copy_prefixed.new.out
    c.in_ok-span.ensures.span.stands c.in_ok-copy_prefixed.ensures.loads.done (c.in_ok-copy_prefixed.ensures.length c.if-branch.true) c.in_ok-span.ensures.span.within_limit
    (λ words fits. rw c.if-branch.true at c.in_ok-copy_prefixed.ensures.copied words fits)

pub returns-clause-key : goal.returns-clause-key
returns-clause-key g c =
    copy_unless_by (g.M.Mem.seen c.key_span.new.mem) (g.M.Mem.seen c.copy_prefixed.new.mem) c.args.geo.now c.args.place c.args.chunk c.in_ok-span.span c.args.prefix.now c.copy_prefixed.new.out
    c.in_ok-span.ensures.span.stands c.in_ok-copy_prefixed.ensures.loads.done
    (λ words fits. rw c.if-branch.false at c.in_ok-copy_prefixed.ensures.copied words fits)

pub returns-in_err-copy_prefixed-clause-rest : goal.returns-in_err-copy_prefixed-clause-rest
returns-in_err-copy_prefixed-clause-rest g c =
    keeps_if_err 256 (min 256 (length c.args.prefix.now)) (λ (len : ℕ). len) c.args.out.now c.copy_prefixed.new.out c.from_residual-in_err-copy_prefixed.result c.from_residual-in_err-copy_prefixed.ensures.0
    (rest_behind c.args.out.now c.copy_prefixed.new.out c.in_ok-span.span.len 256 c.in_ok-span.ensures.span.within_limit c.in_err-copy_prefixed.ensures.rest)

pub returns-then-branch-clause-loads : goal.returns-then-branch-clause-loads
returns-then-branch-clause-loads g c =
    loads_then_ok g.M.Mem.seen g.M.Mem.same_rest _ c.key_span.new.mem c.copy_prefixed.new.mem _ _ (g.met.M.Mem.rest_transitive _ _ _)
    (done_by g.M.Mem.seen g.M.Mem.same_rest Reads IsAsBefore _ _ _ c.in_ok-span.ensures.loads.call) c.in_ok-copy_prefixed.ensures.loads

pub returns-clause-loads : goal.returns-clause-loads
returns-clause-loads g c =
    loads_then_ok g.M.Mem.seen g.M.Mem.same_rest _ c.key_span.new.mem c.copy_prefixed.new.mem _ _ (g.met.M.Mem.rest_transitive _ _ _)
    (done_by g.M.Mem.seen g.M.Mem.same_rest Reads IsAsBefore _ _ _ c.in_ok-span.ensures.loads.call) c.in_ok-copy_prefixed.ensures.loads

pub returns-clause-rest : goal.returns-clause-rest
returns-clause-rest g c =
    rest_behind c.args.out.now c.copy_prefixed.new.out (min c.in_ok-span.span.len (length c.args.prefix.now)) (min 256 (length c.args.prefix.now)) (omega (arith, c.in_ok-span.ensures.span.within_limit))
    (rw c.if-branch.false at c.in_ok-copy_prefixed.ensures.rest)
