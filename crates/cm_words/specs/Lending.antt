-- A segment's words, lent out of those of the map (own).
use Rattle.std.specs.Prelude.{ℕ, List}
use Rattle.std.specs.Borrow.{Array, Fml, Lends, MutBor, u64}
use Rattle.cm_words.specs.contracts.words.Words.{the_row}
use Rattle.cm_words.specs.Maps.{MapWords, with_segment}

-- once the loan is over, the map has the words that were left for the segment's
abbrev pub LendsSegment : MutBor MapWords → ℕ → MutBor (List ℕ) → Fml
LendsSegment map segment lent = Lends the_row (Array u64 0) map lent (with_segment map.now segment)
