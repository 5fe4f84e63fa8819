-- What callers in the tests ask of a memory, and what they tell (own).
use Rattle.std.specs.Prelude.{ℕ, ◌≡◌, ◌+◌, ◌<◌, ◌^◌, List, [], ◌∷◌, Some, None, false, replicate, slice_index, slice_set}
use Rattle.cm_geo.specs.declared.geo.Geo.{Geo}
use Rattle.cm_geo.specs.Geometry.{IsGeoOf}
use Rattle.cm_geo.specs.Addresses.{tier_at, words_in_map}
use Rattle.cm_plain.specs.declared.op.Op.TheVariants as op
use Rattle.cm_plain.specs.declared.plan.PlanKind.TheVariants.{Fresh}
use Rattle.cm_plain.specs.Changes.{Change}
use Rattle.cm_plain.specs.States.{State}
use Rattle.cm_plain.specs.Slots.{word_at}
use Rattle.cm_plain.specs.Torn.{Torn}
use Rattle.cm_words.specs.Maps.{MapWords, number_word, words_before}
use Rattle.cm_words.specs.Parity.{IsEven}
use Rattle.cm_words.specs.Memory.{FitsNotes, MemSeen}
use Rattle.cm_words.specs.Stores.{WordStore, after_stores}

-- a store keeps words torn for a change, whatever state they lie behind
abbrev pub KeepsTorn : Geo → Change → ℕ → ℕ → Type 0
KeepsTorn geo change at word = (words : List ℕ) (state : State) → Torn geo words state change → Torn geo (slice_set words at word) state change

-- these words are those from before with the next change number and then these stores
pub record CameUnder (old : MemSeen) (stores : List WordStore) (before words : List ℕ) : Type 0 where
  pub fits : FitsNotes old before
  pub leads : after_stores (slice_set before 1 (word_at before 1 + 1)) stores ≡ words

-- a change is under way, and these stores were made
pub record StoresUnder (old now : MemSeen) (change : Change) (stores : List WordStore) : Type 0 where
  pub plan : now.plan ≡ Some change
  pub came : (words : List ℕ) → FitsNotes now words → (before : List ℕ) × CameUnder old stores before words

-- the words of a map of one segment with one tier are all zero
pub record AreNew (map : MapWords) : Type 0 where
  pub geo_is : IsGeoOf map.geo 1 1 64 4 0
  pub zero : map.words ≡ replicate (words_in_map map.geo) 0

-- the first put of the value 1 for the key a
abbrev pub first_put : Change
first_put = record {
  op = op.Put (97 ∷ []) (49 ∷ []);
  kind = Fresh;
  key = 97 ∷ [];
  value = 49 ∷ [];
  old_run = None;
  new_run = Some (record { place = 0; chunk = 0; chunks = 1 });
  link = false;
}

-- the words of a map of one segment with one tier link to a ninth tier, and their change number is even and not the last
pub record AreCut (map : MapWords) : Type 0 where
  pub geo_is : IsGeoOf map.geo 1 1 64 4 0
  pub link : slice_index map.words (words_before map.geo 0 + tier_at map.geo 0) ≡ 9
  pub even : IsEven (number_word map 0)
  pub not_last : number_word map 0 < 2 ^ 63
