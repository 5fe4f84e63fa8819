-- What a claim tells its caller (own).
use Rattle.std.specs.Prelude.{ℕ, ◌≡◌, ◌==◌, ◌<◌, Any, List, count_by, map}
use Rattle.std.specs.List.{range_with_len}
use Rattle.cm_words.specs.Fuses.{FuseSeen}
use Rattle.cm_words.specs.Meters.{MeterSeen}
use Rattle.cm_yard.specs.declared.claim.Claim.{Claim}
use Rattle.cm_yard.specs.declared.claim.Claim.TheVariants.{Given, Spent}
use Rattle.cm_yard.specs.declared.view.OwnedWord.{OwnedWord}
use Rattle.cm_yard.specs.declared.view.View.{View}
use Rattle.cm_yard.specs.Views.{with_claim, with_misses}

-- a fuse with the events of a seat, none of which is a store
abbrev pub seat_meter : FuseSeen → View → MeterSeen
seat_meter fuse v = record { fuse = fuse; events = v.events; stores = 0 }

-- one view is another but for claims and what was counted for them
abbrev pub OnlyClaims : View → View → Type 0
OnlyClaims old now = now ≡ record old { events = now.events; claims = now.claims; misses = now.misses }

-- so many claim words, the first ones in order, were found owned, each by one exchange; nothing else happened
pub record FindsOwned (old now : View) (count : ℕ) : Type 0 where
  pub words : List OwnedWord
  pub in_order : map (λ (o : OwnedWord). o.index) words ≡ range_with_len 0 count
  pub view : now ≡ with_misses old words

-- behind those before it, which were found owned, a claim word was given to the seat
pub record IsGiven (old now : View) (index segment : ℕ) : Type 0 where
  pub between : View
  pub before : FindsOwned old between index
  pub view : now ≡ with_claim between index segment

-- what a claim for a segment, of so many claim words, did where it answered this
abbrev pub AnswersClaim : ℕ → ℕ → View → View → Claim → Type 0
AnswersClaim extra segment old now (Given index) = (index < extra) × IsGiven old now index segment
AnswersClaim extra segment old now Spent = FindsOwned old now extra

-- what it did where it died: some exchanges were made, but not all
abbrev pub DiesInClaim : ℕ → View → View → Type 0
DiesInClaim extra old now = (count : ℕ) × (count < extra) × FindsOwned old now count

-- the seat found each claim word owned
abbrev pub HasFoundAll : ℕ → View → Type 0
HasFoundAll extra v = (index : ℕ) → index < extra → Any (λ (o : OwnedWord). o.index ≡ index) v.misses

-- how many claims were given to a seat for a segment
abbrev pub claims_for : ℕ → View → ℕ
claims_for segment v = count_by (λ (o : OwnedWord). o.segment == segment) v.claims
