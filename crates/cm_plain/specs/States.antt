-- The state of a segment (after Chronicle Map in outline; the bound on the chain is own): a chain of tiers, and the entries placed in them.
-- It has no slots, bits, counts or links. The geometry and the segment's index stand beside it.
use Rattle.std.specs.Prelude.{ℕ, ◌≡◌, ◌≢◌, ◌+◌, ◌*◌, ◌<◌, ◌≤◌, List, [], ◌∷◌, length, map, All, AllPairs, Contains, find, slice_get, Option, Some}
use Rattle.std.specs.Option.{option_map}
use Rattle.std.specs.Str.{bytes_eq}
use Rattle.std.specs.Ordering.{nat_cmp}
use Rattle.std.specs.Cmp.Lexicographic.{slice_cmp}
use Rattle.std.specs.List.Sorted.{IsPermutation, IsSortedByKey}
use Rattle.cm_geo.specs.declared.geo.Geo.{Geo}
use Rattle.cm_geo.specs.Hash.{segment_of_key}
use Rattle.cm_geo.specs.Need.{Fits, need}
use Rattle.cm_plain.specs.declared.placed.Placed.{Placed}
use Rattle.cm_plain.specs.declared.reply.Pair.{Pair}

-- the places of the tiers in the order of the chain, and the entries in them
pub record State : Type 0 where
  pub chain : List ℕ
  pub entries : List Placed

-- the chunks of an entry's run
abbrev pub chunks_of : Geo → Placed → ℕ
chunks_of geo entry = need geo (length entry.key) (length entry.value)

-- the first chunk of an entry's run, counted over all places of the segment
abbrev pub run_start : Geo → Placed → ℕ
run_start geo entry = entry.place * geo.chunks + entry.chunk

-- the chunk after an entry's last one, counted over all places of the segment
abbrev pub run_end : Geo → Placed → ℕ
run_end geo entry = run_start geo entry + chunks_of geo entry

-- an entry fits the geometry, and its run lies in a tier
pub record HasRun (geo : Geo) (entry : Placed) : Type 0 where
  pub fits : Fits geo (length entry.key) (length entry.value)
  pub inside : entry.chunk + chunks_of geo entry ≤ geo.chunks

-- an entry is of this segment, and its run lies in a tier of the chain
pub record IsPlaced (geo : Geo) (segment : ℕ) (chain : List ℕ) (entry : Placed) : Type 0 where
  pub here : segment_of_key geo entry.key ≡ segment
  pub chained : Contains chain entry.place
  pub run : HasRun geo entry

-- a chain has 1 to the most tiers, at different places, the first at place 0
pub record IsChain (geo : Geo) (chain : List ℕ) : Type 0 where
  pub first : slice_get chain 0 ≡ Some 0
  pub within_limit : length chain ≤ geo.tiers
  pub inside : All (λ place. place < geo.tiers) chain
  pub apart : AllPairs (λ place other. place ≢ other) chain

-- the entries are a set, as the one list in which each run ends before the next one begins: so no two runs meet, and equal sets are equal lists
pub record IsState (geo : Geo) (segment : ℕ) (state : State) : Type 0 where
  pub chain : IsChain geo state.chain
  pub placed : All (IsPlaced geo segment state.chain) state.entries
  pub runs : AllPairs (λ entry later. run_end geo entry ≤ run_start geo later) state.entries
  pub keys : AllPairs (λ entry later. entry.key ≢ later.key) state.entries

-- one empty tier
abbrev pub one_tier : State
one_tier = record { chain = 0 ∷ []; entries = [] }

-- the entry of a key
abbrev pub entry_among : List ℕ → List Placed → Option Placed
entry_among key entries = find (λ entry. bytes_eq entry.key key) entries

-- the entry of a key in a state
abbrev pub entry_of : List ℕ → State → Option Placed
entry_of key state = entry_among key state.entries

-- the value of an entry
abbrev pub value_in : Option Placed → Option (List ℕ)
value_in entry = option_map (λ entry. entry.value) entry

-- the value of a key in a state
abbrev pub value_of : List ℕ → State → Option (List ℕ)
value_of key state = value_in (entry_of key state)

-- the pair of an entry
abbrev pub pair_of : Placed → Pair
pair_of entry = record { key = entry.key; value = entry.value }

-- the pairs are those of the entries, in byte order of the keys
pub record ListsEntries (entries : List Placed) (pairs : List Pair) : Type 0 where
  pub all : IsPermutation (map pair_of entries) pairs
  pub in_order : IsSortedByKey (λ pair. pair.key) (slice_cmp nat_cmp) pairs

-- the pairs are the contents of the state, without its places
abbrev pub Lists : State → List Pair → Type 0
Lists state pairs = ListsEntries state.entries pairs
