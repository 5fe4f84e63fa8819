-- What a seat's own copies of change numbers tell (own).
use Rattle.std.specs.Prelude.{ℕ, ◌≡◌, ◌^◌, ◌≤◌, Option, Some, IsSome}
use Rattle.cm_words.specs.Memory.{Note}
use Rattle.cm_words.specs.Parity.{IsOdd}
use Rattle.cm_lock.specs.declared.view.HeldLevel.{HeldLevel}
use Rattle.cm_lock.specs.declared.view.Round.{Round}
use Rattle.cm_lock.specs.Views.{note_at}

-- where the change number is noted, it is the copy; while a change is under way it is noted, odd, and not the last
pub record CopiesNumber (h : HeldLevel) (copy : ℕ) : Type 0 where
  pub is : (note : Note) → note_at h.notes 1 ≡ Some note → note.present ≡ copy
  pub within_limit : copy ≤ 2 ^ 63
  pub noted : IsSome h.plan → IsSome (note_at h.notes 1)
  pub odd : IsSome h.plan → IsOdd copy

-- the first number of the open round, if one is, is this copy
abbrev pub CopiesFirst : Option Round → ℕ → Type 0
CopiesFirst open_round copy = (round : Round) → open_round ≡ Some round → round.first ≡ copy
