-- Each digit is put in its place.
use Rattle.std.proofs.Common.{◌-◌, ◌/◌, ◌%◌, ◌^◌, arith}
use Rattle.std.proofs.Math.ListN.{length-set}
use Rattle.std.proofs.lemmas.List.Edits.{fill_by_more}
use Rattle.std.proofs.lemmas.List.FromFn.{fill_by_all}
use Rattle.cm_make.specs.Made.{hex_digit, hex_text}
use Rattle.cm_make.proofs.Places.{place_of}
use Rattle.cm_make.proofs.digest.hex_text.Goals as goal

pub loop-place-preserved : goal.loop-place-preserved
loop-place-preserved c = record {
  long = simp length-set c.loop-place.invariant.long;
  digits =
      rw (place_of c.loop-place.place (omega arith))
      (fill_by_more (λ place. hex_digit (c.args.number / 16 ^ (15 - place) % 16)) c.loop-place.text c.loop-place.place 0 (omega arith) c.loop-place.invariant.digits);
}

pub returns : goal.returns
unfolding hex_text
returns c =
    fill_by_all (λ place. hex_digit (c.args.number / 16 ^ (15 - place) % 16)) c.loop-place.text 16 0 c.loop-place.invariant.long
    (λ k below. c.loop-place.invariant.digits k (omega arith))
