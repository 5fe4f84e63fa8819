-- What the tests know of a change over a memory (own). `same_rest` and `rest_with` are those of the memory.
use Rattle.std.specs.Prelude.{ℕ, Option, Some, None}
use Rattle.cm_plain.specs.Changes.{Change}

-- no change was made, or one that has this number
abbrev pub MayHaveChanged : {M : Type 0} → (M → M → Type 0) → (M → M → Change → ℕ → Type 0) → M → M → Option ℕ → Type 0
MayHaveChanged same_rest rest_with old now None = same_rest old now
MayHaveChanged same_rest rest_with old now (Some number) = (change : Change) × rest_with old now change number
