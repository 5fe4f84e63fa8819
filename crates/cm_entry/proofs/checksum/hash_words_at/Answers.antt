use Rattle.std.proofs.Common.{◌≤◌, ◌+◌, length, arith}
use Rattle.cm_geo.specs.Need.{parts_for}
use Rattle.cm_entry.proofs.SpanWords.{parts_are}
use Rattle.cm_entry.proofs.LoadCounts.{answer_as, answer_err_as}
use Rattle.cm_entry.proofs.SpanHashes.{span_within, words_hash}
use Rattle.cm_entry.proofs.checksum.hash_words_at.Goals as goal

pub hash_span-requires : goal.hash_span-requires
hash_span-requires g c = record {
  not_closed = c.requires.not_closed;
  inside = record { inner = c.requires.inside.inner; within_limit = omega (arith, c.requires.inside.within_limit, c.div_ceil.ensures); inside = omega (arith, c.requires.inside.inside, c.div_ceil.ensures) };
}

pub returns-in_err-hash : goal.returns-in_err-hash
returns-in_err-hash g c = answer_err_as g.M.Mem.seen g.M.Mem.same_rest _ c.hash_span.new.mem _ c.from_residual.result c.from_residual.ensures.0 c.in_err-hash.ensures.counted.loads _ _

pub returns : goal.returns
returns g c =
    answer_as g.M.Mem.seen g.M.Mem.same_rest _ c.hash_span.new.mem _ _ _ _ _ _ c.in_ok-hash.ensures (omega (arith, c.div_ceil.ensures))
    (λ words fits given.
    let within : c.args.span.at + parts_for 8 c.args.span.len ≤ length words = span_within (g.M.Mem.seen c.args.mem.now) (g.M.Mem.seen c.hash_span.new.mem) c.args.span c.in_ok-hash.ensures.counted.loads.done c.requires.inside words fits in
    words_hash words c.args.span.at c.args.span.len c.div_ceil.result c.args.start c.in_ok-hash.hash c.is_padded.result (parts_are c.args.span.len _ c.div_ceil.ensures) within given c.is_padded.ensures)
