-- What a get finds without a lock (own).
use Rattle.std.specs.Prelude.{ℕ, ◌≡◌, ◌≤◌, ◌++◌, List, length, take, Some, None, Result}
use Rattle.cm_plain.specs.States.{State, value_of}
use Rattle.cm_plain.specs.Lawful.{IsSegmentWords, Represents}
use Rattle.cm_words.specs.declared.peek.FoundWord.{FoundWord}
use Rattle.cm_words.specs.Meters.{ReportsDeath}
use Rattle.cm_words.specs.Peeks.{HasFound, PeekSeen}
use Rattle.cm_segment.specs.declared.getting.Peeked.{Peeked}
use Rattle.cm_segment.specs.declared.getting.Peeked.TheVariants.{Found, Missing, Garbled}

-- what was found before is found still, with more in front
abbrev pub FindsMore : List FoundWord → List FoundWord → Type 0
FindsMore old now = (more : List FoundWord) × (now ≡ more ++ old)

-- loads alone were made beside writers: more words may be found, and no store was counted
pub record PeeksMore {P T E : Type 0} (seen : P → PeekSeen) (same_rest : P → P → Type 0) (old now : P) (result : Result T E) : Type 0 where
  pub rest : same_rest old now
  pub geo : (seen now).geo ≡ (seen old).geo
  pub segment : (seen now).segment ≡ (seen old).segment
  pub found : FindsMore (seen old).found (seen now).found
  pub fuse : ReportsDeath (seen old).meter (seen now).meter result
  pub no_store : (seen now).meter.stores ≡ (seen old).meter.stores

-- what was found of a key is the state's: its value, at the beginning of these bytes, or that it has no entry
abbrev pub IsPeekedIn : State → List ℕ → List ℕ → Peeked → Type 0
IsPeekedIn state key out (Found len) = (len ≤ length out) × (value_of key state ≡ Some (take len out))
IsPeekedIn state key out Missing = value_of key state ≡ None
IsPeekedIn state key out Garbled = ⊥

-- that is so of each state that a list of the segment's words with all that was found represents
abbrev pub IsPeeked : PeekSeen → List ℕ → List ℕ → Peeked → Type 0
IsPeeked p key out peeked =
    (words : List ℕ) (state : State) → IsSegmentWords p.geo words → HasFound words p.found → Represents p.geo p.segment words state
    → IsPeekedIn state key out peeked

-- a value that was found has at most so many bytes, whatever was found
abbrev pub IsWithin : ℕ → Peeked → Type 0
IsWithin most (Found len) = len ≤ most
IsWithin most _ = Unit {0}
