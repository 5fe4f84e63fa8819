use Rattle.cm_entry.proofs.EntryParts.{key_part}
use Rattle.cm_entry.proofs.LoadCounts.{no_answer, once_as, once_err_as}
use Rattle.cm_entry.proofs.span.key_span.Goals as goal

pub returns-in_err-key_len : goal.returns-in_err-key_len
returns-in_err-key_len g c = record {
  loads = once_err_as g.M.Mem.seen g.M.Mem.same_rest _ c.lengths.new.mem _ c.from_residual.result c.from_residual.ensures.0 c.in_err-key_len.ensures.loads;
  span = no_answer c.from_residual.result _ c.from_residual.ensures.0;
}

pub returns : goal.returns
returns g c = record {
  loads = once_as g.M.Mem.seen g.M.Mem.same_rest _ c.lengths.new.mem _ _ c.in_ok-key_len.ensures.loads;
  span = key_part (g.M.Mem.seen c.args.mem.now) (g.M.Mem.seen c.lengths.new.mem) c.args.geo.now c.args.place c.args.chunk c.in_ok-key_len.key_len _ c.key_span_of.result c.requires c.in_ok-key_len.ensures.loads.call.done c.in_ok-key_len.ensures.lengths c.key_span_of.ensures;
}
