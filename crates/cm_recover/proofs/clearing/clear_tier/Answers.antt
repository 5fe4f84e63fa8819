use Rattle.std.proofs.Common.{arith, ◌-◌, Bool, refl, subst, sym}
use Rattle.cm_recover.specs.Clearing.{IsTierCleared}
use Rattle.cm_geo.proofs.AddressOrder.{chunks_behind_head, segment_limit}
use Rattle.cm_recover.proofs.ClearedTiers.{tier_cleared_covered, tier_cleared_whole}
use Rattle.cm_recover.proofs.clearing.clear_tier.Goals as goal

pub overflow_add-at : goal.overflow_add-at
overflow_add-at c = omega (arith, c.tier_at-at.ensures.in_range, segment_limit c.args.geo.now)

pub clear_between-requires-clause-order : goal.clear_between-requires-clause-order
clear_between-requires-clause-order c = omega
    (arith, c.tier_at-at.ensures.value, c.chunk_at.ensures.value, chunks_behind_head c.args.geo.now c.args.place 0)

pub overflow_add-end : goal.overflow_add-end
overflow_add-end c = omega (arith, c.chunk_at-else-covered.ensures.in_range, c.chunk_words.ensures, segment_limit c.args.geo.now)

pub clear_between-requires-else-covered-clause-order : goal.clear_between-requires-else-covered-clause-order
clear_between-requires-else-covered-clause-order c =
    omega (
      arith,
      c.tier_at-at.ensures.value,
      c.chunk_at-else-covered.ensures.value,
      chunks_behind_head c.args.geo.now c.args.place
          (c.chunks.result - 1),
    )

pub returns-then-covered : goal.returns-then-covered
returns-then-covered c =
    subst (λ (b : Bool). IsTierCleared c.args.geo.now c.args.place b c.args.words.now c.clear_between.new.words) (sym c.if-covered.true)
    (tier_cleared_covered c.args.geo.now c.args.place _ _ c.args.words.now c.clear_between.new.words
    (omega (arith, c.tier_at-at.ensures.value)) c.chunk_at.ensures.value c.clear_between.ensures)

pub returns-else-covered : goal.returns-else-covered
returns-else-covered c =
    subst (λ (b : Bool). IsTierCleared c.args.geo.now c.args.place b c.args.words.now c.clear_between-else-covered.new.words) (sym c.if-covered.false)
    (tier_cleared_whole c.args.geo.now c.args.place _ _ c.args.words.now c.clear_between-else-covered.new.words c.tier_at-at.ensures.value
    (rw (c.chunk_at-else-covered.ensures.value, c.chunks.ensures, c.chunk_words.ensures) refl) c.clear_between-else-covered.ensures)
