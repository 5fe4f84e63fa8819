-- What is left of a store at the end (own).
use Rattle.std.specs.Prelude.{ℕ, ◌≡◌, ◌+◌, ◌*◌, ◌≤◌, All, List, length, slice_get, Some}
use Rattle.cm_geo.specs.Addresses.{words_in_segment}
use Rattle.cm_words.specs.Maps.{MapWords, segment_in}
use Rattle.cm_lock.specs.declared.view.Key.{Key}
use Rattle.cm_lock.specs.declared.view.View.{View}
use Rattle.cm_lock.specs.Seats.{AllJoined}
use Rattle.cm_lock.specs.Tables.{Closes}
use Rattle.cm_yard.specs.Ends.{AllJoined as YardAllJoined, Closes as YardCloses}
use Rattle.cm_yard.specs.Claims.{HasFoundAll}
use Rattle.cm_yard.specs.Words.{owned_in}
use Rattle.cm_yard.specs.declared.view.Key.{Key as YardKey}
use Rattle.cm_yard.specs.declared.view.View.{View as YardView}
use Rattle.cm_store.specs.declared.pass.Pass.{Pass}
use Rattle.cm_store.specs.Passes.{claims_view, views_of}

-- every pass that the root made was joined
pub record HasJoinedAll {F : Type 0} (pass : Pass F) : Type 0 where
  pub seats : All AllJoined (views_of pass)
  pub claims : YardAllJoined (claims_view pass)

-- these are the words of so many segments, and for each the rule holds of its words and of the root's view alone
pub record ClosesAll (keys : List Key) (roots : List View) (map_words : MapWords) : Type 0 where
  pub many : length map_words.words ≡ length keys * words_in_segment map_words.geo
  pub each : (segment : ℕ) (key : Key) (v : View) → slice_get keys segment ≡ Some key → slice_get roots segment ≡ Some v
      → Closes key v (segment_in map_words segment)

-- the yard's rule holds of the root's view alone, of some words; the claim words that were owned at the start, and those given since, are no more
-- than there are, and all where the root found each one owned
pub record ClosesYard (key : YardKey) (v : YardView) : Type 0 where
  pub closes : (words : List ℕ) × YardCloses key v words
  pub claims : owned_in key.geo key.first + length v.claims ≤ key.geo.extra
  pub all : HasFoundAll key.geo.extra v → owned_in key.geo key.first + length v.claims ≡ key.geo.extra
