-- One word more is copied where it agrees with the prefix.
use Rattle.std.proofs.Common.{◌≡◌, ◌+◌, ◌*◌, ◌<◌, ◌≤◌, length, min, arith, refl}
use Rattle.cm_geo.proofs.AddressOrder.{segment_limit}
use Rattle.cm_geo.specs.Need.{parts_for}
use Rattle.cm_words.proofs.CallSequences.{loaded_more, loaded_none, loads_more_err, loads_more_ok}
use Rattle.cm_entry.proofs.EntryParts.{keeps_unless_err, rest_behind}
use Rattle.cm_entry.proofs.SpanHashes.{inside_kept}
use Rattle.cm_entry.proofs.SpanWords.{part_begins, parts_are}
use Rattle.cm_entry.proofs.SpanEquality.{never}
use Rattle.cm_words.proofs.FittingLists.{reads_reflexive}
use Rattle.cm_entry.proofs.SpanCopies.{copied_more, copied_none, word_loaded}
use Rattle.cm_entry.proofs.PrefixCopies.{agree_all, agree_more, agree_no_more, agree_start, before_end, next_part, rest_next, too_short}
use Rattle.cm_entry.proofs.prefix.copy_prefixed.Goals as goal

pub returns-then-len-prefix-clause-copied : goal.returns-then-len-prefix-clause-copied
returns-then-len-prefix-clause-copied g c = too_short (g.M.Mem.seen c.args.mem.now) c.args.span c.args.prefix.now c.args.out.now c.requires.span.inside.inside c.if-len-prefix.true

pub loop-i-init : goal.loop-i-init
loop-i-init g c = record {
  loaded = loaded_none g.M.Mem.seen g.M.Mem.same_rest c.args.mem.now (g.met.M.Mem.rest_reflexive _);
  events = omega arith;
  copied = copied_none (g.M.Mem.seen c.args.mem.now) c.args.span c.args.out.now;
  agree = agree_start (g.M.Mem.seen c.args.mem.now) c.args.span c.args.prefix.now;
  behind = refl;
}

pub overflow_add-span : goal.overflow_add-span
overflow_add-span g c = omega (arith, segment_limit (g.M.Mem.seen c.args.mem.now).setting.geo, c.requires.span.inside.inside, parts_are c.args.span.len _ c.div_ceil-i-end.ensures, c.loop-i-test.true)

pub returns-in_err-load-clause-loads : goal.returns-in_err-load-clause-loads
returns-in_err-load-clause-loads g c =
    loads_more_err g.M.Mem.seen g.M.Mem.same_rest _ c.loop-i.mem _ _ c.from_residual.result c.from_residual.ensures.0 (g.met.M.Mem.rest_transitive _ _ _) c.loop-i.invariant.loaded c.in_err-load.ensures.loads

pub returns-in_err-load-clause-rest : goal.returns-in_err-load-clause-rest
returns-in_err-load-clause-rest g c =
    keeps_unless_err c.args.span.len (min c.args.span.len (length c.args.prefix.now)) c.args.out.now c.loop-i.out c.from_residual.result c.from_residual.ensures.0
    (rest_behind c.args.out.now c.loop-i.out (min (8 * c.loop-i.i) c.args.span.len) c.args.span.len (omega arith) c.loop-i.invariant.behind)

pub returns-then-not-agree-clause-loads : goal.returns-then-not-agree-clause-loads
returns-then-not-agree-clause-loads g c = loads_more_ok g.M.Mem.seen g.M.Mem.same_rest _ c.loop-i.mem c.load.new.self _ _ (g.met.M.Mem.rest_transitive _ _ _) c.loop-i.invariant.loaded c.in_ok-load.ensures.loads

pub returns-then-not-agree-clause-count : goal.returns-then-not-agree-clause-count
returns-then-not-agree-clause-count g c =
    let early = before_end _ c.args.prefix.now (8 * c.loop-i.i) (λ h. never (c.if-not-agree.ensures.1 h)) in
    omega (arith, c.loop-i.invariant.events, c.in_ok-load.ensures.loads.event.events, early)

pub returns-then-not-agree-clause-copied : goal.returns-then-not-agree-clause-copied
returns-then-not-agree-clause-copied g c =
    agree_no_more (g.M.Mem.seen c.loop-i.mem) (g.M.Mem.seen c.load.new.self) c.args.span c.args.prefix.now c.loop-i.out _ c.loop-i.i c.in_ok-load.field-0
    c.loop-i.invariant.copied c.in_ok-load.ensures.loads.call.done c.in_ok-load.ensures.word c.requires.span.inside.inner
    (inside_kept (g.M.Mem.seen c.args.mem.now) (g.M.Mem.seen c.loop-i.mem) (g.M.Mem.seen c.load.new.self) c.args.span c.loop-i.invariant.loaded.done c.in_ok-load.ensures.loads.call.done c.requires.span.inside)
    (omega arith)
    (next_part c.args.span c.loop-i.i c.min-to.result c.in_ok-load.field-0 _ c.to_le_bytes-bytes.result (omega (arith, parts_are c.args.span.len _ c.div_ceil-i-end.ensures, c.loop-i-test.true)) (omega (arith, c.min-to.ensures)) c.to_le_bytes-bytes.ensures refl)
    (λ h. never (c.if-not-agree.ensures.1 h))

pub returns-then-not-agree-clause-rest : goal.returns-then-not-agree-clause-rest
returns-then-not-agree-clause-rest g c =
    let early = before_end _ c.args.prefix.now (8 * c.loop-i.i) (λ h. never (c.if-not-agree.ensures.1 h)) in
    rest_behind c.args.out.now c.loop-i.out (min (8 * c.loop-i.i) c.args.span.len) (min c.args.span.len (length c.args.prefix.now)) (omega (arith, early)) c.loop-i.invariant.behind

pub loop-i-preserved : goal.loop-i-preserved
loop-i-preserved g c =
    let below : c.loop-i.i < parts_for 8 c.args.span.len = omega (arith, parts_are c.args.span.len _ c.div_ceil-i-end.ensures, c.loop-i-test.true) in
    let within = inside_kept (g.M.Mem.seen c.args.mem.now) (g.M.Mem.seen c.loop-i.mem) (g.M.Mem.seen c.load.new.self) c.args.span c.loop-i.invariant.loaded.done c.in_ok-load.ensures.loads.call.done c.requires.span.inside in
    let to_is : c.min-to.result ≡ min (8 * c.loop-i.i + 8) c.args.span.len = omega (arith, c.min-to.ensures) in
    let room : c.args.span.len ≤ length c.loop-i.out = omega arith in
    record {
      loaded = loaded_more g.M.Mem.seen g.M.Mem.same_rest _ c.loop-i.mem _ _ (g.met.M.Mem.rest_transitive _ _ _) c.loop-i.invariant.loaded c.in_ok-load.ensures.loads;
      events = omega (arith, c.loop-i.invariant.events, c.in_ok-load.ensures.loads.event.events);
      copied = copied_more (g.M.Mem.seen c.loop-i.mem) (g.M.Mem.seen c.load.new.self) c.args.span c.loop-i.out c.copy_from_slice.new.self c.to_le_bytes-bytes.result c.loop-i.i c.min-to.result c.in_ok-load.field-0
          c.loop-i.invariant.copied c.in_ok-load.ensures.loads.call.done
          (word_loaded _ _ (c.args.span.at + c.loop-i.i) _ (omega (arith, c.requires.span.inside.inner)) c.in_ok-load.ensures.word (reads_reflexive _)) within below room to_is c.to_le_bytes-bytes.ensures c.copy_from_slice.ensures.after;
      agree = agree_more (g.M.Mem.seen c.loop-i.mem) (g.M.Mem.seen c.load.new.self) c.args.span c.args.prefix.now c.loop-i.out _ c.loop-i.i c.in_ok-load.field-0
          c.loop-i.invariant.agree c.loop-i.invariant.copied c.in_ok-load.ensures.loads.call.done c.in_ok-load.ensures.word c.requires.span.inside.inner within room
          (next_part c.args.span c.loop-i.i c.min-to.result c.in_ok-load.field-0 _ c.to_le_bytes-bytes.result below to_is c.to_le_bytes-bytes.ensures refl) (c.if-not-agree.ensures.0 refl);
      behind = rest_next c.loop-i.out c.args.out.now c.copy_from_slice.new.self c.to_le_bytes-bytes.result c.loop-i.i c.min-to.result c.args.span.len c.in_ok-load.field-0
          (part_begins c.args.span.len c.loop-i.i below) to_is room c.to_le_bytes-bytes.ensures c.copy_from_slice.ensures.after c.loop-i.invariant.behind;
    }

pub returns-clause-copied : goal.returns-clause-copied
returns-clause-copied g c =
    agree_all (g.M.Mem.seen c.loop-i.mem) c.args.span c.args.prefix.now c.loop-i.out c.loop-i.i c.loop-i.invariant.agree c.loop-i.invariant.copied
    (omega (arith, parts_are c.args.span.len _ c.div_ceil-i-end.ensures, c.loop-i-test.false)) c.if-len-prefix.false (omega arith)
