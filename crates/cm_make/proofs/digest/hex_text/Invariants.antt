-- The digits so far stand in their places.
use Rattle.std.proofs.Common.{◌≡◌, ◌-◌, ◌/◌, ◌%◌, ◌^◌, ◌<◌, ℕ, get_or, length}
use Rattle.cm_make.specs.Made.{hex_digit}
use Rattle.cm_make.proofs.digest.hex_text.Given as goal

abbrev pub invariant-loop-place : goal.invariant-loop-place
invariant-loop-place l = record {
  long : length l.text ≡ 16;
  digits : (k : ℕ) → k < l.place → get_or l.text k 0 ≡ hex_digit (l.number / 16 ^ (15 - k) % 16);
}
