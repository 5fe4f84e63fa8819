-- Laws of the words at the end, and of the balance until then (own).
use Rattle.std.specs.Prelude.{ℕ, ◌≡◌, ◌+◌, ◌*◌, ◌<◌, ◌≤◌, All, Any, List, ◌∷◌, Result, Some, length, slice_get, slice_set, sum, sum_by}
use Rattle.cm_plain.specs.FoundChains.{KeepsAllowance, chain_of}
use Rattle.cm_plain.specs.Lawful.{Lawful, LawfulApart}
use Rattle.cm_plain.specs.Slots.{word_at}
use Rattle.cm_plain.specs.States.{State}
use Rattle.cm_plain.specs.Steps.{Plans, last_number}
use Rattle.cm_plain.specs.Torn.{Torn}
use Rattle.cm_lock.specs.declared.view.ChangeCopy.{ChangeCopy}
use Rattle.cm_lock.specs.declared.view.HeldLevel.{HeldLevel}
use Rattle.cm_lock.specs.declared.view.Key.{Key}
use Rattle.cm_lock.specs.declared.view.Level.TheVariants.{Free, Write}
use Rattle.cm_lock.specs.declared.view.View.{View}
use Rattle.cm_lock.specs.ChangeLists.{ChangeList, last_state, number_of}
use Rattle.cm_lock.specs.Levels.{reads, updates, weight, writes}
use Rattle.cm_lock.specs.Tables.{Closes}
use Rattle.cm_lock.specs.Views.{change_in}
use Rattle.cm_words.specs.Maps.{MapWords, segment_in}
use Rattle.cm_yard.specs.declared.view.Key.{Key as YardKey}
use Rattle.cm_yard.specs.declared.view.View.{View as YardView}
use Rattle.cm_yard.specs.Words.{owned_in}
use Rattle.cm_yard.specs.Views.{new_view as yard_new_view, with_joined as yard_with_joined, with_seat as yard_with_seat}
use Rattle.cm_plain.specs.declared.op.Op.{Op}
use Rattle.cm_plain.specs.declared.stop.NoMemory.{NoMemory}
use Rattle.cm_lock.specs.declared.take.Stop.{Stop}
use Rattle.cm_turn.specs.declared.list_call.Listing.{Listing}
use Rattle.cm_turn.specs.declared.turn.Settled.{Settled}
use Rattle.cm_turn.specs.Calls.{Leaves, LeavesReading}
use Rattle.cm_turn.specs.SeatLists.{LeavesListing}
use Rattle.cm_store.specs.Splits.{joined_views, new_views, with_seats}
use Rattle.cm_store.specs.Balance.{Balances, linking_in}
use Rattle.cm_store.specs.Closes.{ClosesAll, ClosesYard}
use Rattle.cm_store.specs.Tables.{keys_of, linked_of}
use Rattle.cm_turn.specs.Turns.{links_in}

-- the root holds no level, and no pass that it took back left one
pub record LeavesNothing (v : View) : Type 0 where
  pub own : v.own.level ≡ Free
  pub inherited : All (λ (h : HeldLevel). h.level ≡ Free) v.inherited

-- the words are torn for a plan under Write that is of this state
pub record TearsBy (key : Key) (words : List ℕ) (state : State) (h : HeldLevel) : Type 0 where
  pub change : ChangeCopy
  pub plan_is : h.plan ≡ Some change
  pub writer : h.level ≡ Write
  pub planned : Plans key.geo key.segment state change.op (change_in change)
  pub torn : Torn key.geo words state (change_in change)

-- the words represent the last state of the list apart from the lock word, or are torn for the plan of a level that was left
pub data LeavesWords (key : Key) (words : List ℕ) (list : ChangeList) (v : View) : Type 0 where
  whole : word_at words 1 ≡ 2 * number_of list → number_of list ≤ last_number → LawfulApart key.geo key.segment words (last_state key.geo list) → LeavesWords key words list v
  torn : word_at words 1 ≡ 2 * number_of list + 1 → number_of list < last_number → Any (TearsBy key words (last_state key.geo list)) (v.own ∷ v.inherited)
      → LeavesWords key words list v

-- where nobody died, the words of a segment are lawful, and stand for the whole list of its changes
abbrev pub EndsLawful : Type 0
EndsLawful = (key : Key) (v : View) (words : List ℕ) (closes : Closes key v words) → LeavesNothing v
    → Lawful key.geo key.segment words (number_of closes.list) (last_state key.geo closes.list)

-- whoever died, they are lawful apart from the lock word, or torn for one plan
abbrev pub EndsWholeOrTorn : Type 0
EndsWholeOrTorn = (key : Key) (v : View) (words : List ℕ) (closes : Closes key v words) → LeavesWords key words closes.list v

-- ---- levels that are left

-- the lock word counts these levels: at most one is an Update or a Write, and beside a Write none is a Read
pub record CountsLeft (words : List ℕ) (levels : List HeldLevel) : Type 0 where
  pub lock_word : word_at words 0 ≡ sum_by (λ (h : HeldLevel). weight h.level) levels
  pub at_most_one : sum_by (λ (h : HeldLevel). updates h.level) levels + sum_by (λ (h : HeldLevel). writes h.level) levels ≤ 1
  pub no_reader : 0 < sum_by (λ (h : HeldLevel). writes h.level) levels → sum_by (λ (h : HeldLevel). reads h.level) levels ≡ 0

-- at the end the lock word of each segment counts the level that the root holds there, and those that it took over, and no other one
abbrev pub LockWordsCountLevels : Type 0
LockWordsCountLevels = (keys : List Key) (roots : List View) (map_words : MapWords) → ClosesAll keys roots map_words
    → (segment : ℕ) (key : Key) (v : View) → slice_get keys segment ≡ Some key → slice_get roots segment ≡ Some v
    → CountsLeft (segment_in map_words segment) (v.own ∷ v.inherited)

-- ---- chained tiers

-- a chain has at the end at most one tier more for each change that links one, and for each such plan that was left
abbrev pub ChainsGrowByLinks : Type 0
ChainsGrowByLinks = (key : Key) (v : View) (words : List ℕ) → Closes key v words
    → length (chain_of key.geo words).places ≤ length (chain_of key.geo key.first).places + (links_in v + linking_in v)

-- and at least one tier more for each change that links one
abbrev pub ChainsKeepLinks : Type 0
ChainsKeepLinks = (key : Key) (v : View) (words : List ℕ) → Closes key v words
    → length (chain_of key.geo key.first).places + links_in v ≤ length (chain_of key.geo words).places

-- where the balance was kept, so is the allowance, whoever died: the claims that were given since the start, and the tiers that were linked then,
-- are no more than there are claim words
abbrev pub EndsAllowed : Type 0
EndsAllowed = (old now : MapWords) (roots : List View) (key : YardKey) (claims : YardView) → now.geo ≡ old.geo → key.geo ≡ old.geo
    → owned_in key.geo key.first ≡ sum (linked_of old) → length roots ≡ old.geo.segments → ClosesAll (keys_of old) roots now → ClosesYard key claims
    → Balances roots claims → KeepsAllowance now.geo (segment_in now)

-- ---- the balance

-- a pass that is split off has it, and the root keeps it
abbrev pub SplitsKeepBalance : Type 0
SplitsKeepBalance = (number : ℕ) (roots : List View) (claims : YardView) → Balances roots claims
    → Balances (with_seats number roots) (yard_with_seat claims number) × Balances (new_views number roots) (yard_new_view number)

-- the root keeps it where it takes back a pass that has it
abbrev pub JoinsKeepBalance : Type 0
JoinsKeepBalance = (roots others : List View) (claims taken : YardView) → Balances roots claims → Balances others taken
    → Balances (joined_views roots others) (yard_with_joined claims taken)

-- a call that leaves a live seat so keeps it, whatever it answers and whichever takes may have failed
abbrev pub CallsKeepBalance : (View → Type 0) → Type 0
CallsKeepBalance End = (extra segment : ℕ) (op : Op) (out : List ℕ) (seats : List View) (was now : View) (before later : YardView) (result : Result Settled Stop)
    → slice_get seats segment ≡ Some was → Leaves End (λ looks last v. Unit {0}) segment extra op out was now before later result
    → Balances seats before → Balances (slice_set seats segment now) later

-- and so does a question
abbrev pub QuestionsKeepBalance : Type 0
QuestionsKeepBalance = (tries segment : ℕ) (op : Op) (out : List ℕ) (seats : List View) (was now : View) (claims : YardView) (result : Result Settled Stop)
    → slice_get seats segment ≡ Some was → LeavesReading tries op out was now result
    → Balances seats claims → Balances (slice_set seats segment now) claims

-- and so does a listing
abbrev pub ListsKeepBalance : Type 0
ListsKeepBalance = (tries segment : ℕ) (seats : List View) (was now : View) (claims : YardView) (result : Result (Result Listing NoMemory) Stop)
    → slice_get seats segment ≡ Some was → LeavesListing tries segment was now result
    → Balances seats claims → Balances (slice_set seats segment now) claims
