-- What a caller tells that loads words of a segment beside its writers (own).
use Rattle.std.specs.Prelude.{ℕ, ◌≡◌, All, List, ◌∷◌, IfOk, OnErr, Result}
use Rattle.cm_geo.specs.declared.geo.Geo.{Geo}
use Rattle.cm_plain.specs.Slots.{word_at}
use Rattle.cm_words.specs.declared.fuse.EventKind.TheVariants.{Load}
use Rattle.cm_words.specs.declared.peek.FoundWord.{FoundWord}
use Rattle.cm_words.specs.Meters.{MakesEvent, MeterSeen, ReportsDeath}

-- the geometry and the segment, the words that were found, the newest first, and the fuse with the counts of events and stores
pub record PeekSeen : Type 0 where
  pub geo : Geo
  pub segment : ℕ
  pub found : List FoundWord
  pub meter : MeterSeen

-- a list of words has each word that was found
abbrev pub HasFound : List ℕ → List FoundWord → Type 0
HasFound words found = All (λ (f : FoundWord). word_at words f.at ≡ f.word) found

-- one load was made, and the word that it answered is found at the address; where it died, all but the fuse is as before
pub record PeeksOnce {P E : Type 0} (seen : P → PeekSeen) (same_rest : P → P → Type 0) (at : ℕ) (old now : P) (result : Result ℕ E) : Type 0 where
  pub rest : same_rest old now
  pub geo : (seen now).geo ≡ (seen old).geo
  pub segment : (seen now).segment ≡ (seen old).segment
  pub fuse : ReportsDeath (seen old).meter (seen now).meter result
  pub event : MakesEvent Load (seen old).meter (seen now).meter result
  pub found : IfOk result (λ word. (seen now).found ≡ record { at = at; word = word } ∷ (seen old).found)
  pub dead : OnErr result ((seen now).found ≡ (seen old).found)
  pub dead_events : OnErr result ((seen now).meter.events ≡ (seen old).meter.events)
