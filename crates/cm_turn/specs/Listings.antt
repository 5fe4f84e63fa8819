-- The pairs of a segment's entries, as they are found one after the other (own).
use Rattle.std.specs.Prelude.{ℕ, ◌≡◌, List, map}
use Rattle.std.specs.List.Sorted.{IsPermutation}
use Rattle.cm_geo.specs.declared.geo.Geo.{Geo}
use Rattle.cm_plain.specs.declared.placed.Placed.{Placed}
use Rattle.cm_plain.specs.declared.reply.Pair.{Pair}
use Rattle.cm_plain.specs.States.{State, pair_of}
use Rattle.cm_segment.specs.declared.walks.Cursor.{Cursor}
use Rattle.cm_segment.specs.Walks.{IsBefore, StandsAt}

-- a pair is that of an entry that stands at a cursor
pub record IsPairAt (geo : Geo) (words : List ℕ) (state : State) (cursor : Cursor) (pair : Pair) : Type 0 where
  pub placed : Placed
  pub stands : StandsAt geo words state placed cursor
  pub pair_is : pair ≡ pair_of placed

-- it is the first one that is not before another cursor
pub record IsNextPair (geo : Geo) (words : List ℕ) (state : State) (from at : Cursor) (pair : Pair) : Type 0 where
  pub here : IsPairAt geo words state at pair
  pub not_before : IsBefore at from → ⊥
  pub first : (placed : Placed) (cursor : Cursor) → StandsAt geo words state placed cursor → (IsBefore cursor from → ⊥) → IsBefore cursor at → ⊥

-- every entry stands before a cursor
abbrev pub AllBefore : Geo → List ℕ → State → Cursor → Type 0
AllBefore geo words state from = (placed : Placed) (cursor : Cursor) → StandsAt geo words state placed cursor → (IsBefore cursor from → ⊥) → ⊥

-- the pairs are those of the state's entries, in any order
abbrev pub PermutesPairs : State → List Pair → Type 0
PermutesPairs state pairs = IsPermutation (map pair_of state.entries) pairs
