use Rattle.std.proofs.Common.{arith, refl}
use Rattle.cm_geo.proofs.AddressOrder.{segment_limit}
use Rattle.cm_words.specs.Effects.{Reads}
use Rattle.cm_words.proofs.CallSequences.{done_by, loads_then_err}
use Rattle.cm_entry.proofs.SpanWords.{parts_are}
use Rattle.cm_entry.proofs.LoadCounts.{answer_after, answer_err, answer_err_as}
use Rattle.cm_entry.proofs.SpanHashes.{readable_value}
use Rattle.cm_entry.proofs.VerdictCases.{entry_hash}
use Rattle.cm_entry.proofs.checksum.hash_entry.Goals as goal

pub hash_words_at-requires : goal.hash_words_at-requires
hash_words_at-requires g c = record {
  not_closed = c.requires.not_closed;
  inside = record { inner = c.requires.inner; within_limit = omega (arith, c.requires.key_short); inside = omega (arith, c.requires.inside) };
}

pub returns-in_err-key : goal.returns-in_err-key
returns-in_err-key g c = answer_err_as g.M.Mem.seen g.M.Mem.same_rest _ c.hash_words_at.new.mem _ c.from_residual.result c.from_residual.ensures.0 c.in_err-key.ensures.counted.loads _ _

pub overflow_add-value_span : goal.overflow_add-value_span
overflow_add-value_span g c = omega (arith, segment_limit (g.M.Mem.seen c.args.mem.now).setting.geo, c.requires.inside)

pub hash_words_at-requires-2 : goal.hash_words_at-requires-2
hash_words_at-requires-2 g c =
    readable_value (g.M.Mem.seen c.args.mem.now) (g.M.Mem.seen c.hash_words_at.new.mem) c.args.at c.args.key_len c.args.value_len c.div_ceil.result (parts_are c.args.key_len _ c.div_ceil.ensures) c.requires c.in_ok-key.ensures.counted.loads.done

pub returns-in_err-value : goal.returns-in_err-value
returns-in_err-value g c =
    answer_err g.M.Mem.seen g.M.Mem.same_rest _ c.hash_words_at-2.new.mem c.from_residual-in_err-value.result c.from_residual-in_err-value.ensures.0
    (loads_then_err g.M.Mem.seen g.M.Mem.same_rest _ c.hash_words_at.new.mem c.hash_words_at-2.new.mem _ c.from_residual-in_err-value.result c.from_residual-in_err-value.ensures.0 (g.met.M.Mem.rest_transitive _ _ _)
    (done_by g.M.Mem.seen g.M.Mem.same_rest Reads Reads _ _ _ c.in_ok-key.ensures.counted.loads) c.in_err-value.ensures.counted.loads) _ _

pub returns-then-key : goal.returns-then-key
returns-then-key g c =
    answer_after g.M.Mem.seen g.M.Mem.same_rest _ c.hash_words_at.new.mem c.hash_words_at-2.new.mem _ _ _ _ _ _ _ _ _ (g.met.M.Mem.rest_transitive _ _ _) c.in_ok-key.ensures c.in_ok-value.ensures refl
    (λ words first second. entry_hash words c.args.at c.args.key_len c.args.value_len c.div_ceil.result c.args.start c.in_ok-key.key c.in_ok-value.value c.in_ok-value.value.padded
    (parts_are c.args.key_len _ c.div_ceil.ensures) (rw c.if-key.true refl) first second)

pub returns-else-key : goal.returns-else-key
returns-else-key g c =
    answer_after g.M.Mem.seen g.M.Mem.same_rest _ c.hash_words_at.new.mem c.hash_words_at-2.new.mem _ _ _ _ _ _ _ _ _ (g.met.M.Mem.rest_transitive _ _ _) c.in_ok-key.ensures c.in_ok-value.ensures refl
    (λ words first second. entry_hash words c.args.at c.args.key_len c.args.value_len c.div_ceil.result c.args.start c.in_ok-key.key c.in_ok-value.value c.in_ok-key.key.padded
    (parts_are c.args.key_len _ c.div_ceil.ensures) (rw c.if-key.false refl) first second)
