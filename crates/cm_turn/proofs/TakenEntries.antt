-- Operations that take a key's entry away, where it has one and where it has none.
use Rattle.std.proofs.Common.{◌≡◌, ◌∙◌, ℕ, Bool, true, false, List, [], ◌∷◌, ◌++◌, length, take, None, is_some, inl, inr, refl, sym, ap}
use Rattle.std.specs.List.{list_any}
use Rattle.std.proofs.lemmas.Bool.{cases_Bool}
use Rattle.cm_geo.specs.declared.geo.Geo.{Geo}
use Rattle.cm_plain.specs.declared.op.Op.TheVariants.{RemoveIf, Sweep}
use Rattle.cm_plain.specs.declared.placed.Placed.{Placed}
use Rattle.cm_plain.specs.declared.reply.Reply.TheVariants as reply
use Rattle.cm_plain.specs.States.{entry_among, entry_of, value_of}
use Rattle.cm_plain.specs.Steps.{has_prefix}
use Rattle.cm_plain.proofs.Keys.{key_tells}
use Rattle.cm_words.specs.Memory.{MemSeen}
use Rattle.cm_words.specs.Effects.{Reads}
use Rattle.cm_segment.proofs.ChainedTiers.{rests_before}
use Rattle.cm_turn.specs.declared.answer.Answer.TheVariants as answer
use Rattle.cm_turn.specs.declared.conditions.Comparison.TheVariants.{Same}
use Rattle.cm_turn.specs.Conditions.{Compares, EachHere, IsSwept, TakesAwayHere}
use Rattle.cm_turn.specs.Verdicts.{StaysBy}
use Rattle.cm_turn.proofs.FoundValues.{same_met, unmet_right}

-- ---- a removal of an expected value

pub remove_if_takes : (m : MemSeen) (geo : Geo) (key expected : List ℕ) → EachHere m geo (λ state. Compares (value_of key state) expected Same)
    → TakesAwayHere m geo key (RemoveIf key expected)
remove_if_takes m geo key expected same words state fits rests there =
    record { met = same_met (value_of key state) expected (same words state fits rests); places_none = refl; keyed = refl }

pub remove_if_misses : (m : MemSeen) (geo : Geo) (key expected out : List ℕ) → m.setting.geo ≡ geo → EachHere m geo (λ state. entry_of key state ≡ None)
    → StaysBy m (RemoveIf key expected) out answer.Missing
remove_if_misses m geo key expected out geo_is absent = record {
  stays = refl;
  bytes = tt;
  unspent = λ e. cc e;
  right = unmet_right m geo (RemoveIf key expected) reply.Missing geo_is (λ words state fits rests. rw (absent words state fits rests) (refl, refl));
}

-- ---- a sweep

both_ways : (test : Bool) → test ≡ false → test ≡ true → ⊥
both_ways test no_test is_test = let clash : true ≡ false = sym is_test ∙ no_test in cc clash

-- an entry of a key with the prefix has it
found_any : (prefix key : List ℕ) (entries : List Placed) → has_prefix prefix key ≡ true → is_some (entry_among key entries) ≡ true
    → list_any (λ entry. has_prefix prefix entry.key) entries ≡ true
found_any prefix key [] passes there = cc there
found_any prefix key (entry ∷ entries) passes there = elim (cases_Bool (has_prefix prefix entry.key)) [
  | inl here ↦ rw here refl
  | inr fails ↦ elim (key_tells entry.key key) [
    | inl same ↦ absurd (both_ways (has_prefix prefix key) (sym (ap (has_prefix prefix) same.1) ∙ fails) passes)
    | inr differs ↦ rw fails (found_any prefix key entries passes (rw differs.0 at there))
  ]
]

pub sweep_takes : (m : MemSeen) (geo : Geo) (segment : ℕ) (prefix key : List ℕ) → EachHere m geo (λ state. has_prefix prefix key ≡ true)
    → TakesAwayHere m geo key (Sweep segment prefix)
sweep_takes m geo segment prefix key prefixed words state fits rests there =
    let here = prefixed words state fits rests in
    record { met = found_any prefix key state.entries here there; places_none = refl; keyed = (here, there) }

-- where each state has an entry of the key and none has, there is no state
pub sweep_ends : (a b : MemSeen) (geo : Geo) (segment : ℕ) (prefix key out : List ℕ) → Reads a b → b.setting.geo ≡ geo → IsSwept a geo prefix key
    → EachHere b geo (λ state. entry_of key state ≡ None) → StaysBy b (Sweep segment prefix) out answer.SweptAll
sweep_ends a b geo segment prefix key out reads geo_is swept absent = record {
  stays = refl;
  bytes = tt;
  unspent = λ e. cc e;
  right = unmet_right b geo (Sweep segment prefix) reply.SweptAll geo_is
      (λ words state fits rests. absurd (both_ways (is_some (entry_of key state)) (ap is_some (absent words state fits rests))
      (swept.there words state (reads.fits words fits) (rests_before a b geo words state reads rests))));
}

-- a key that was copied to the beginning of a list is there
pub copied_key : (copied key rest : List ℕ) → copied ≡ key → take (length key) (copied ++ rest) ≡ key
copied_key copied key rest same = rw same (first key rest)
  where
    first : (bytes rest : List ℕ) → take (length bytes) (bytes ++ rest) ≡ bytes
    first [] rest = refl
    first (byte ∷ bytes) rest = ap (λ (later : List ℕ). byte ∷ later) (first bytes rest)
