use Rattle.std.proofs.Common.{◌≡◌, ◌+◌, ◌∙◌, ℕ, List, Option, ap, drop, subst, arith, rules}
use Rattle.cm_image.specs.Files.{ReadsPrefix, bytes_from}
use Rattle.cm_image.proofs.Reading.{bytes_from-more, prefix-more}
use Rattle.cm_image.proofs.stored.read_piece.Goals as goal

pub loop-at-preserved : goal.loop-at-preserved
loop-at-preserved g c =
    let kept = c.loop-at.invariant in
    let read = c.in_ok-count.ensures in
    let at = c.loop-at.at in
    let count = c.in_ok-count.count in
    let part = c.read_at.new.buf in
    let file = g.V.Vault.files c.args.vault.now c.args.name.now in
    record {
      within = search rules;
      rises = omega (arith, read.cause.rises, kept.rises);
      tells = λ tells. read.tells (kept.tells tells);
      same = λ tells name. read.files (kept.tells tells) name ∙ kept.same tells name;
      prefix = λ tells.
          let place : bytes_from (g.V.Vault.files c.loop-at.vault c.args.name.now) (c.args.from + at) ≡ drop at (bytes_from file c.args.from) =
          ap (λ (f : Option (List ℕ)). bytes_from f (c.args.from + at)) (kept.same tells c.args.name.now) ∙ bytes_from-more file c.args.from at in
          let more : ReadsPrefix (drop at (bytes_from file c.args.from)) count part =
          subst (λ (bytes : List ℕ). ReadsPrefix bytes count part) place (read.bytes (kept.tells tells)) in
          prefix-more (bytes_from file c.args.from) c.loop-at.piece part at count kept.within read.bound.0 (kept.prefix tells) more;
    }
