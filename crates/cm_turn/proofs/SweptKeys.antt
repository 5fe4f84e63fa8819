-- The keys that a sweep finds in the words, and that there is none.
use Rattle.std.proofs.Common.{◌≡◌, ◌∙◌, ℕ, true, false, List, take, Option, Some, None, is_some, IfOk, Ok, Err, inl, inr, refl, ap, subst, arith}
use Rattle.std.specs.List.{list_any}
use Rattle.std.specs.declared.result.Result.{Result}
use Rattle.std.proofs.lemmas.Bool.{cases_Bool}
use Rattle.cm_geo.specs.declared.geo.Geo.{Geo}
use Rattle.cm_plain.specs.declared.op.Op.TheVariants.{Sweep}
use Rattle.cm_plain.specs.declared.placed.Placed.{Placed}
use Rattle.cm_plain.specs.Lawful.{Resting}
use Rattle.cm_plain.specs.States.{State, entry_of}
use Rattle.cm_plain.specs.Steps.{has_prefix, would_change}
use Rattle.cm_plain.proofs.EntrySets.{found_is}
use Rattle.cm_plain.proofs.ListElements.{all_in, in_to, none_any}
use Rattle.cm_plain.proofs.OutsideHead.{resting_represents}
use Rattle.cm_words.specs.Memory.{FitsNotes, MemSeen}
use Rattle.cm_words.specs.declared.fuse.Dead.{Dead}
use Rattle.cm_words.specs.Fuses.{FuseSeen}
use Rattle.cm_segment.specs.declared.walks.Cursor.{Cursor}
use Rattle.cm_segment.specs.declared.walks.Stand.{Stand}
use Rattle.cm_segment.specs.Walks.{IsBefore, IsFirstMatch, IsMatch, Walks}
use Rattle.cm_lock.specs.declared.hold.Hold.{Hold}
use Rattle.cm_lock.specs.declared.table.SegTable.{SegTable}
use Rattle.cm_lock.specs.Holds.{hold_seen}
use Rattle.cm_lock.specs.Rule.{known_of}
use Rattle.cm_lock.specs.Tables.{key_of, view_of}
use Rattle.cm_turn.specs.Conditions.{EachHere, IsSwept}
use Rattle.cm_turn.specs.SeatSweeps.{FindsNext}
use Rattle.cm_turn.proofs.Holding.{to_seat}
use Rattle.cm_turn.proofs.Knowledge.{KnowsNoLess}
use Rattle.cm_turn.proofs.NextPairs.{stands_at}

none_before : (cursor : Cursor) → IsBefore cursor (record { link = 0; slot = 0 }) → ⊥
none_before cursor (inl low) = omega arith
none_before cursor (inr low) = let h = low.1 in omega arith

-- where a walk from the first slot finds none, no key has the prefix
none_swept : (geo : Geo) (segment : ℕ) (words : List ℕ) (state : State) (prefix : List ℕ) → Resting geo segment words state
    → ((placed : Placed) (cursor : Cursor) → IsMatch geo words state (record { link = 0; slot = 0 }) prefix placed cursor → ⊥)
    → list_any (λ entry. has_prefix prefix entry.key) state.entries ≡ false
none_swept geo segment words state prefix rests none =
    none_any (λ (entry : Placed). has_prefix prefix entry.key) state.entries (all_in _ state.entries (λ it i. elim (cases_Bool (has_prefix prefix it.key)) [
      | inl has ↦ (let at = stands_at geo segment words state rests it (in_to state.entries it i) in
          absurd (none it at.0 (record { stands = at.1; not_before = none_before at.0; prefixed = has })))
      | inr other ↦ other
    ]))

-- what a walk finds is a key with the prefix, of an entry
module _ (geo : Geo) (segment : ℕ) (words : List ℕ) (state : State) (from : Cursor) (prefix out : List ℕ) (stand : Stand) (rests : Resting geo segment words state)
    (first : IsFirstMatch geo words state from prefix out stand) where
  prefixed_first : has_prefix prefix (take stand.key_len out) ≡ true
  prefixed_first = ap (has_prefix prefix) first.copied ∙ first.is_match.prefixed

  there_first : is_some (entry_of (take stand.key_len out) state) ≡ true
  there_first =
      ap (λ (key : List ℕ). is_some (entry_of key state)) first.copied
      ∙ ap is_some (found_is geo segment state first.placed.key first.placed (resting_represents geo segment words state rests).is_state first.is_match.stands.there refl)

pub finds_some : (m : MemSeen) (geo : Geo) (segment : ℕ) (from : Cursor) (prefix out : List ℕ) (stand : Stand)
    → ((words : List ℕ) (state : State) → FitsNotes m words → Resting geo m.setting.segment words state → IsFirstMatch geo words state from prefix out stand)
    → FindsNext m geo segment prefix out (Some stand)
finds_some m geo segment from prefix out stand walks = record {
  prefixed = λ words state fits rests. prefixed_first geo m.setting.segment words state from prefix out stand rests (walks words state fits rests);
  there = λ words state fits rests. there_first geo m.setting.segment words state from prefix out stand rests (walks words state fits rests);
}

pub finds_first : (m : MemSeen) (geo : Geo) (segment : ℕ) (prefix out : List ℕ) (found : Option Stand)
    → ((words : List ℕ) (state : State) → FitsNotes m words → Resting geo m.setting.segment words state → Walks geo words state (record { link = 0; slot = 0 }) prefix out found)
    → FindsNext m geo segment prefix out found
finds_first m geo segment prefix out (Some stand) walks = finds_some m geo segment (record { link = 0; slot = 0 }) prefix out stand walks
finds_first m geo segment prefix out None walks = λ words state fits rests. none_swept geo m.setting.segment words state prefix rests (walks words state fits rests)

pub finds_result : (m : MemSeen) (geo : Geo) (segment : ℕ) (prefix out : List ℕ) (result : Result (Option Stand) Dead)
    → IfOk result (λ found. (words : List ℕ) (state : State) → FitsNotes m words → Resting geo m.setting.segment words state
    → Walks geo words state (record { link = 0; slot = 0 }) prefix out found)
    → IfOk result (FindsNext m geo segment prefix out)
finds_result m geo segment prefix out (Ok found) walks = finds_first m geo segment prefix out found walks
finds_result m geo segment prefix out (Err error) walks = tt

-- ---- in a memory that knows no less

module _ (a b : MemSeen) (k : KnowsNoLess a b) (geo : Geo) where
  pub each_known : (IsSo : State → Type 0) → EachHere a geo IsSo → EachHere b geo IsSo
  each_known IsSo each words state fits rests = each words state (k.fits words fits) (subst (λ (n : ℕ). Resting geo n words state) k.segment rests)

  pub swept_known : (prefix key : List ℕ) → IsSwept a geo prefix key → IsSwept b geo prefix key
  swept_known prefix key swept = record {
    prefixed = each_known (λ state. has_prefix prefix key ≡ true) swept.prefixed;
    there = each_known (λ state. is_some (entry_of key state) ≡ true) swept.there;
  }

  pub finds_known : (segment : ℕ) (prefix out : List ℕ) (found : Option Stand) → FindsNext a geo segment prefix out found → FindsNext b geo segment prefix out found
  finds_known segment prefix out None none = each_known (λ state. would_change (Sweep segment prefix) state ≡ false) none
  finds_known segment prefix out (Some stand) swept = swept_known prefix (take stand.key_len out) swept

-- what was found over a hold is found of its seat
pub found_held : {F : Type 0} {g : _} (fused : F → FuseSeen) (h : Hold F g) (table : SegTable) (geo : Geo) (segment : ℕ) (prefix out : List ℕ) (result : Result (Option Stand) Dead)
    → h.table.now ≡ table → IfOk result (FindsNext (hold_seen fused h) geo segment prefix out)
    → IfOk result (FindsNext (known_of (key_of table) (view_of h.seat.now).own) geo segment prefix out)
found_held fused h table geo segment prefix out (Ok found) same finds =
    subst (λ (t : SegTable). FindsNext (known_of (key_of t) (view_of h.seat.now).own) geo segment prefix out found) same
    (finds_known _ _ (to_seat fused h) geo segment prefix out found finds)
found_held fused h table geo segment prefix out (Err error) same finds = tt
