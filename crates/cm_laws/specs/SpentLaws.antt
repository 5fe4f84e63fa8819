-- Claims that no change paid for, and what FullSpent says of the extra tiers at the end (own).
use Rattle.std.specs.Prelude.{ℕ, ◌≡◌, ◌+◌, ◌≤◌, ◌⊎◌, if◌then◌else◌, List, Result, Ok, Some, length, map, slice_get, slice_set, sum}
use Rattle.cm_plain.specs.declared.op.Op.{Op}
use Rattle.cm_plain.specs.declared.reply.Reply.TheVariants as reply
use Rattle.cm_words.specs.Maps.{MapWords}
use Rattle.cm_lock.specs.declared.take.Stop.{Stop}
use Rattle.cm_lock.specs.declared.view.Key.{Key}
use Rattle.cm_lock.specs.declared.view.View.{View}
use Rattle.cm_lock.specs.Rule.{root_view}
use Rattle.cm_yard.specs.declared.view.Key.{Key as YardKey}
use Rattle.cm_yard.specs.declared.view.View.{View as YardView}
use Rattle.cm_yard.specs.Claims.{HasFoundAll}
use Rattle.cm_yard.specs.Views.{new_view as yard_new_view, root_view as yard_root_view, with_joined as yard_with_joined, with_seat as yard_with_seat}
use Rattle.cm_yard.specs.Words.{owned_in}
use Rattle.cm_turn.specs.declared.turn.Settled.{Settled}
use Rattle.cm_turn.specs.Answers.{reply_in}
use Rattle.cm_store.specs.Balance.{OwesAtMost}
use Rattle.cm_turn.specs.Calls.{Leaves}
use Rattle.cm_store.specs.Closes.{ClosesAll, ClosesYard}
use Rattle.cm_store.specs.Passes.{is_died}
use Rattle.cm_store.specs.Splits.{joined_views, new_views, with_seats}
use Rattle.cm_store.specs.Tables.{keys_of, linked_of}

-- ---- what is owed

-- 1 for a call that died
abbrev pub deaths_in : Result Settled Stop → ℕ
deaths_in result = if is_died result then 1 else 0

-- the root owes nothing at the start
abbrev pub StartsOweNothing : Type 0
StartsOweNothing = (keys : List Key) → OwesAtMost 0 (map root_view keys) yard_root_view

-- nor does a pass that is split off, and the root owes what it owed
abbrev pub SplitsOweNothing : Type 0
SplitsOweNothing = (dead number : ℕ) (roots : List View) (claims : YardView) → OwesAtMost dead roots claims
    → OwesAtMost dead (with_seats number roots) (yard_with_seat claims number) × OwesAtMost 0 (new_views number roots) (yard_new_view number)

-- a call that died owes one claim at most, and any other one owes nothing; `End` is how it leaves a live seat
abbrev pub CallsOweForDeaths : (View → Type 0) → Type 0
CallsOweForDeaths End = (dead extra segment : ℕ) (op : Op) (out : List ℕ) (seats : List View) (was now : View) (before later : YardView) (result : Result Settled Stop)
    → slice_get seats segment ≡ Some was → Leaves End (λ looks last v. Unit {0}) segment extra op out was now before later result
    → OwesAtMost dead seats before → OwesAtMost (dead + deaths_in result) (slice_set seats segment now) later

-- a call that adds no change and claims nothing owes nothing: a listing, the opening of a sweep and its closing are such calls
abbrev pub UnclaimedCallsOweNothing : Type 0
UnclaimedCallsOweNothing = (dead segment : ℕ) (seats : List View) (was now : View) (claims : YardView) → slice_get seats segment ≡ Some was → now.changes ≡ was.changes
    → OwesAtMost dead seats claims → OwesAtMost dead (slice_set seats segment now) claims

-- the root takes over what a pass owes
abbrev pub JoinsAddOwed : Type 0
JoinsAddOwed = (dead others_dead : ℕ) (roots others : List View) (claims taken : YardView) → length others ≡ length roots
    → OwesAtMost dead roots claims → OwesAtMost others_dead others taken → OwesAtMost (dead + others_dead) (joined_views roots others) (yard_with_joined claims taken)

-- ---- what FullSpent says

-- a call that answers FullSpent has found each claim word owned
abbrev pub SpentFindsAll : (View → Type 0) → Type 0
SpentFindsAll End = (extra segment : ℕ) (op : Op) (out : List ℕ) (was now : View) (before later : YardView) (settled : Settled)
    → Leaves End (λ looks last v. Unit {0}) segment extra op out was now before later (Ok settled)
    → reply_in settled.answer out ≡ reply.FullSpent → HasFoundAll extra later

-- what a seat has found so it has found after any further call
abbrev pub CallsKeepFound : (View → Type 0) → Type 0
CallsKeepFound End = (extra segment : ℕ) (op : Op) (out : List ℕ) (was now : View) (before later : YardView) (result : Result Settled Stop)
    → Leaves End (λ looks last v. Unit {0}) segment extra op out was now before later result → HasFoundAll extra before → HasFoundAll extra later

-- and the root has, where it or a pass that it took back has
abbrev pub JoinsKeepFound : Type 0
JoinsKeepFound = (extra : ℕ) (claims taken : YardView) → HasFoundAll extra claims ⊎ HasFoundAll extra taken → HasFoundAll extra (yard_with_joined claims taken)

-- where a pass has found each claim word owned, all extra tiers but one for each death are linked at the end
abbrev pub SpentIsNear : Type 0
SpentIsNear = (old now : MapWords) (roots : List View) (key : YardKey) (claims : YardView) (dead : ℕ) → now.geo ≡ old.geo → key.geo ≡ old.geo
    → owned_in key.geo key.first ≡ sum (linked_of old) → length roots ≡ old.geo.segments → ClosesAll (keys_of old) roots now → ClosesYard key claims
    → OwesAtMost dead roots claims → HasFoundAll old.geo.extra claims → old.geo.extra ≤ sum (linked_of now) + dead
