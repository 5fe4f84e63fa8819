-- The order of cursors, and how many slots are before one.
use Rattle.std.proofs.Common.{◌≡◌, ◌∙◌, ◌⊎◌, ℕ, ◌+◌, ◌*◌, ◌<◌, ◌≤◌, refl, sym, inl, inr, arith, mul_comm}
use Rattle.std.proofs.lemmas.Bool.{cases_eq, cases_lt}
use Rattle.std.proofs.lemmas.Nat.{mul-add-lt}
use Rattle.cm_geo.specs.declared.geo.Geo.{Geo}
use Rattle.cm_segment.specs.declared.walks.Cursor.{Cursor}
use Rattle.cm_segment.specs.Walks.{IsBefore}

-- the cursor behind one
abbrev pub behind : Cursor → Cursor
behind at = record { link = at.link; slot = at.slot + 1 }

pub same_cursor : (c d : Cursor) → c.link ≡ d.link → c.slot ≡ d.slot → c ≡ d
same_cursor c d e f = rw (e, f) refl

pub before_behind : (c at : Cursor) → IsBefore c (behind at) → IsBefore c at ⊎ (c ≡ at)
before_behind c at (inl low) = inl (inl low)
before_behind c at (inr same) = elim (cases_lt c.slot at.slot) [
  | inl low ↦ inl (inr (same.0, low))
  | inr high ↦ inr (same_cursor c at same.0 (let h = same.1 in omega arith))
]

pub before_or : (c d : Cursor) → IsBefore c d ⊎ (IsBefore c d → ⊥)
before_or c d = elim (cases_lt c.link d.link) [
  | inl low ↦ inl (inl low)
  | inr high ↦ elim (cases_eq c.link d.link) [
    | inl same ↦ elim (cases_lt c.slot d.slot) [
      | inl low ↦ inl (inr (same, low))
      | inr top ↦ inr (not_before high (λ _. top))
    ]
    | inr other ↦ inr (not_before high (λ e. absurd (other e)))
  ]
]
  where
    not_before : d.link ≤ c.link → (c.link ≡ d.link → d.slot ≤ c.slot) → IsBefore c d → ⊥
    not_before high top (inl low) = omega arith
    not_before high top (inr low) = (let a = top low.0 in let b = low.1 in omega arith)

-- a cursor before one is before the one behind another, if that is not before it
pub on_before : (c from at : Cursor) → (IsBefore at from → ⊥) → IsBefore c from → IsBefore c (behind at)
on_before c from at after (inl low) = elim (cases_lt at.link from.link) [
  | inl l ↦ absurd (after (inl l))
  | inr high ↦ inl (omega arith)
]
on_before c from at after (inr same) = elim (cases_lt c.link at.link) [
  | inl low ↦ inl low
  | inr high ↦ elim (cases_eq at.link from.link) [
    | inl e ↦ elim (cases_lt at.slot from.slot) [
      | inl l ↦ absurd (after (inr (e, l)))
      | inr top ↦ inr (same.0 ∙ sym e, (let h = same.1 in omega arith))
    ]
    | inr other ↦ absurd (after (inl (let h = same.0 in omega arith)))
  ]
]

pub here_before : (at : Cursor) → IsBefore at (behind at)
here_before at = inr (refl, omega arith)

-- ---- how far the walk has come

-- the slots before a cursor, and one more a tier
abbrev pub slots_before : Geo → Cursor → ℕ
slots_before geo cursor = cursor.link * (2 * geo.chunks + 1) + cursor.slot

moves : (w link slot next end : ℕ) → slot < w → link < next → link * w + slot < next * w + end
moves w link slot next end low up = let h = mul-add-lt link w slot next up low in omega (arith, h, mul_comm w next)

pub moves_on : (geo : Geo) (from at : Cursor) → from.slot ≤ 2 * geo.chunks → (IsBefore at from → ⊥) → slots_before geo from < slots_before geo (behind at)
moves_on geo from at low after = elim (cases_lt from.link at.link) [
  | inl up ↦ moves (2 * geo.chunks + 1) from.link from.slot at.link (at.slot + 1) (omega arith) up
  | inr high ↦ elim (cases_eq from.link at.link) [
    | inl same ↦ elim (cases_lt at.slot from.slot) [
      | inl below ↦ absurd (after (inr (sym same, below)))
      | inr top ↦ same_link (2 * geo.chunks + 1) from.link at.link from.slot at.slot same top
    ]
    | inr other ↦ absurd (after (inl (omega arith)))
  ]
]
  where
    same_link : (w a b s t : ℕ) → a ≡ b → s ≤ t → a * w + s < b * w + (t + 1)
    same_link w a b s t e h = rw e (omega arith)

pub within_all : (geo : Geo) (cursor : Cursor) → cursor.link < geo.tiers → cursor.slot ≤ 2 * geo.chunks → slots_before geo cursor < geo.tiers * (2 * geo.chunks + 1)
within_all geo cursor low top = omega (arith, moves (2 * geo.chunks + 1) cursor.link cursor.slot geo.tiers 0 (omega arith) low)
