-- The first chunk at which so many are free is the answer.
use Rattle.std.proofs.Common.{◌≡◌, ◌∙◌, ℕ, Bool, sym, refl, arith, ◌-◌, true, false}
use Rattle.cm_plain.specs.Rooms.{is_free}
use Rattle.cm_plain.proofs.Ranges.{find_here, find_next}
use Rattle.cm_plain.proofs.rooms.least_free.Goals as goal

pub loop-chunk-init : goal.loop-chunk-init
loop-chunk-init c = rw c.chunks-chunk-end.ensures (let e : c.args.geo.now.chunks - 0 ≡ c.args.geo.now.chunks = omega arith in rw e refl)

pub returns-then-is_free : goal.returns-then-is_free
returns-then-is_free c =
    let test : ℕ → Bool = λ chunk. is_free c.args.geo.now c.args.entries.now c.args.place chunk c.args.chunks in
    let passes : test c.loop-chunk.chunk ≡ true = sym c.is_free.ensures ∙ c.if-is_free.true in
    sym (c.loop-chunk.invariant ∙ find_here test c.loop-chunk.chunk c.chunks-chunk-end.result c.loop-chunk-test.true passes)

pub loop-chunk-preserved : goal.loop-chunk-preserved
loop-chunk-preserved c =
    let test : ℕ → Bool = λ chunk. is_free c.args.geo.now c.args.entries.now c.args.place chunk c.args.chunks in
    let fails : test c.loop-chunk.chunk ≡ false = sym c.is_free.ensures ∙ c.if-is_free.false in
    c.loop-chunk.invariant ∙ find_next test c.loop-chunk.chunk c.chunks-chunk-end.result c.loop-chunk-test.true fails
