-- What a call asks of its gates (own).
use Rattle.std.specs.Prelude.{ℕ, ◌^◌, ◌<◌, ◌≤◌}
use Rattle.cm_run.specs.Gates.{MakerSeen}

-- each count is at most 2 ^ 63
abbrev pub CountsAreLow : MakerSeen → Type 0
CountsAreLow m = (caller : ℕ) → caller < 64 → ((m.of caller).made ≤ 2 ^ 63) × ((m.of caller).deaths ≤ 2 ^ 63)
