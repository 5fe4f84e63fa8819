-- When the answers of a segment are one legal history (own). The history is read off the numbers.
use Rattle.std.specs.Prelude.{ℕ, ◌≡◌, ◌+◌, ◌<◌, ◌≤◌, Bool, true, false, List, length, map, filter, All, AllPairs}
use Rattle.std.specs.List.{range_with_len}
use Rattle.std.specs.List.Sorted.{IsPermutation}
use Rattle.cm_geo.specs.declared.geo.Geo.{Geo}
use Rattle.cm_plain.specs.declared.op.Op.{Op}
use Rattle.cm_plain.specs.declared.reply.Reply.{Reply}
use Rattle.cm_plain.specs.declared.reply.Reply.TheVariants as reply
use Rattle.cm_plain.specs.declared.receipt.Receipt.{Receipt}
use Rattle.cm_plain.specs.States.{State}
use Rattle.cm_plain.specs.Steps.{Step, is_change}

-- a receipt, with the operation that it answers
pub record Call : Type 0 where
  pub op : Op
  pub receipt : Receipt

-- whether a call changed the segment
abbrev pub is_changing : Call → Bool
is_changing call = is_change call.receipt.reply

-- how many calls did
abbrev pub change_count : List Call → ℕ
change_count calls = length (filter is_changing calls)

-- the grant of a step: no for want of a further tier, else yes
abbrev pub grant_of : Reply → Bool
grant_of reply.FullSpent = false
grant_of _ = true

-- a changing call leads from the state before its number to the state at it
abbrev pub IsChangeOf : Geo → ℕ → ℕ → (ℕ → State) → Call → Type 0
IsChangeOf geo segment before states call =
    (i : ℕ) × (call.receipt.number ≡ before + i + 1)
    × Step geo segment (states i) (before + i) true call.op (states (i + 1)) call.receipt.reply

-- any other call answers from the state at its number, which is one of the history's
abbrev pub IsAnswerOf : Geo → ℕ → ℕ → (ℕ → State) → ℕ → Call → Type 0
IsAnswerOf geo segment before states most call =
    (i : ℕ) × (i ≤ most) × (call.receipt.number ≡ before + i)
    × Step geo segment (states i) (before + i) (grant_of call.receipt.reply) call.op (states i) call.receipt.reply

-- a call is in the history, by whether it changes the segment
abbrev pub IsInHistory : Geo → ℕ → ℕ → (ℕ → State) → ℕ → Bool → Call → Type 0
IsInHistory geo segment before states most true call = IsChangeOf geo segment before states call
IsInHistory geo segment before states most false call = IsAnswerOf geo segment before states most call

-- one caller's numbers never fall, and a changing call's number is above all its earlier ones
abbrev pub KeepsOrder : Call → Call → Type 0
KeepsOrder earlier later =
    earlier.receipt.caller ≡ later.receipt.caller
    → (earlier.receipt.number ≤ later.receipt.number) × (is_changing later ≡ true → earlier.receipt.number < later.receipt.number)

-- The calls of a segment, in order of line and part for each caller, are a legal history that begins with a state after so many changes.
-- `states` are the states of the history: `states 0` is the first, and `states i` the one after i more changes. A call that changes nothing
-- answers from a state after at most `most` more changes. The calls lead to as many as they change; who allows more says what the next state is.
pub record Legal (geo : Geo) (segment : ℕ) (first : State) (before : ℕ) (states : ℕ → State) (most : ℕ) (calls : List Call) : Type 0 where
  -- the changing calls have the numbers that follow, each once
  pub numbers : IsPermutation (range_with_len (before + 1) (change_count calls)) (map (λ call. call.receipt.number) (filter is_changing calls))
  pub begins : states 0 ≡ first
  pub steps : All (λ call. IsInHistory geo segment before states most (is_changing call) call) calls
  pub in_order : AllPairs KeepsOrder calls
