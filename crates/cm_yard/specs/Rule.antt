-- What holds between any two events, of a yard's words and of all views (own). It is cut into records, each over what it reads.
use Rattle.std.specs.Prelude.{ℕ, ◌≡◌, ◌≢◌, ◌+◌, ◌<◌, ◌≤◌, ◌==◌, All, Any, Contains, List, [], count_by, length, nat_lt, sum_by, if◌then◌else◌}
use Rattle.atomic_table.specs.Table as table
use Rattle.cm_geo.specs.declared.geo.Geo.{Geo}
use Rattle.cm_yard.specs.declared.view.Key.{Key}
use Rattle.cm_yard.specs.declared.view.OwnedWord.{OwnedWord}
use Rattle.cm_yard.specs.declared.view.StopNumber.{StopNumber}
use Rattle.cm_yard.specs.declared.view.View.{View}
use Rattle.cm_yard.specs.Views.{spent_view}
use Rattle.cm_yard.specs.Words.{claim_at, stop_at, words_in_yard}

-- ---- claims

-- 1 where this claim word is owned
abbrev pub owners_of : ℕ → ℕ
owners_of word = if nat_lt 0 word then 1 else 0

-- how often a claim word was given to a seat
abbrev pub claims_of : ℕ → View → ℕ
claims_of index v = count_by (λ (o : OwnedWord). o.index == index) v.claims

-- this claim word is owned, by this segment
pub record IsOwned (geo : Geo) (words : List ℕ) (o : OwnedWord) : Type 0 where
  pub there : o.index < geo.extra
  pub here : o.segment < geo.segments
  pub word : claim_at geo words o.index ≡ o.segment + 1

-- what a seat was given, and what it found owned, is owned as it noted
pub record KnowsClaims (geo : Geo) (words : List ℕ) (v : View) : Type 0 where
  pub given : All (IsOwned geo words) v.claims
  pub found : All (IsOwned geo words) v.misses

-- the claim words, which were these at the start: each is owned where it was owned at the start or was given to one seat, once, and nowhere
-- else. What was owned at the start stays, and so does what a seat was given or found owned
pub record AreClaims (geo : Geo) (first words : List ℕ) (views : List View) : Type 0 where
  pub once : (index : ℕ) → index < geo.extra → owners_of (claim_at geo first index) + sum_by (claims_of index) views ≡ owners_of (claim_at geo words index)
  pub within : (index : ℕ) → index < geo.extra → claim_at geo words index ≤ geo.segments
  pub stays : (index : ℕ) → index < geo.extra → claim_at geo first index ≢ 0 → claim_at geo words index ≡ claim_at geo first index
  pub each : All (KnowsClaims geo words) views

-- a view's events are its claim exchanges
abbrev pub CountsExchanges : View → Type 0
CountsExchanges v = v.events ≡ length v.claims + length v.misses

-- ---- stop words

-- some seat raised this number in this segment
abbrev pub IsRaised : List View → StopNumber → Type 0
IsRaised views s = Any (λ v. Contains v.raises s) views

-- what was raised is 1 or 2, in the stop word of a segment, which isn't 0 since
pub record IsInForce (geo : Geo) (words : List ℕ) (s : StopNumber) : Type 0 where
  pub here : s.segment < geo.segments
  pub above : 0 < s.number
  pub within : s.number ≤ 2
  pub stands : stop_at words s.segment ≢ 0

-- a number that was found in a stop word is 0, or some seat raised it there
abbrev pub IsFound : List View → StopNumber → Type 0
IsFound views s = s.number ≢ 0 → IsRaised views s

-- what a seat raised is in force, and what it found was raised
pub record KnowsStops (geo : Geo) (words : List ℕ) (views : List View) (v : View) : Type 0 where
  pub raised : All (IsInForce geo words) v.raises
  pub found : All (IsFound views) v.stops

-- a stop word is 0, or a number that some seat raised there; so is what a seat found there
pub record AreStops (geo : Geo) (words : List ℕ) (views : List View) : Type 0 where
  pub from : (segment : ℕ) → segment < geo.segments → stop_at words segment ≢ 0 → IsRaised views (record { segment = segment; number = stop_at words segment })
  pub each : All (KnowsStops geo words views) views

-- ---- numbers of seats

-- how often a number is in a list
abbrev pub count_of : ℕ → List ℕ → ℕ
count_of n ns = count_by (λ m. m == n) ns

-- 1 for a seat of this number
abbrev pub own_count : ℕ → View → ℕ
own_count n v = if v.number == n then 1 else 0

-- how often a seat has a number: as its own, as that of a seat that it joined, and as that of the one that it is about to make
abbrev pub held_count : ℕ → View → ℕ
held_count n v = own_count n v + (count_of n v.joined + count_of n v.due)

-- how often a seat noted that it made a seat of this number
abbrev pub made_count : ℕ → View → ℕ
made_count n v = count_of n v.made

-- the root alone makes and joins seats; a spent seat has noted nothing
pub record IsSeat (v : View) : Type 0 where
  pub within : v.number ≤ 65
  pub only_root : v.number ≢ 64 → (v.made ≡ []) × (v.joined ≡ []) × (v.due ≡ [])
  pub nothing : v.number ≡ 65 → v ≡ spent_view

-- one seat alone is the root. A number below 64 is that of a seat, was joined, or is due, once, exactly where the root noted that it made it
pub record AreSeats (views : List View) : Type 0 where
  pub one_root : sum_by (own_count 64) views ≡ 1
  pub once : (n : ℕ) → sum_by (made_count n) views ≤ 1
  pub living : (n : ℕ) → n < 64 → sum_by (held_count n) views ≡ sum_by (made_count n) views
  pub each : All IsSeat views

-- ---- the rule

-- the words and the views of a yard
pub record IsYard (key : Key) (s : table.State (Unit {0}) View) : Type 0 where
  pub length_is : length s.words ≡ words_in_yard key.geo
  pub claims : AreClaims key.geo key.first s.words s.views
  pub counts : All CountsExchanges s.views
  pub stops : AreStops key.geo s.words s.views
  pub seats : AreSeats s.views
