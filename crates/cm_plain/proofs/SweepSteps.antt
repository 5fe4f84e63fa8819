-- How a sweep's step removes the least key with its prefix.
use Rattle.std.proofs.Common.{◌≡◌, ◌∙◌, ℕ, Bool, true, false, List, [], ◌∷◌, All, refl, sym, ap, subst, inl, inr}
use Rattle.std.specs.Prelude.{if◌then◌else◌, is_some}
use Rattle.std.specs.List.{AllByRecursion, list_any}
use Rattle.std.proofs.lemmas.Bool.{both_ways, cases_Bool}
use Rattle.std.proofs.lemmas.List.Elements.{recursion_from_All}
use Rattle.cm_plain.specs.declared.op.Op.TheVariants.{Sweep}
use Rattle.cm_plain.specs.declared.placed.Placed.{Placed}
use Rattle.cm_plain.specs.declared.reply.Reply.TheVariants as reply
use Rattle.cm_plain.specs.States.{entry_among}
use Rattle.cm_plain.specs.Steps.{Decision, StepAs, decision, has_prefix, no_change}
use Rattle.cm_plain.specs.Segments.{AnswersOp, IsLeastKey, Segment, AnswersSweeps, SweepsLeast, RemovesKey, removal_reply}
use Rattle.cm_plain.proofs.Keys.{key_tells}

-- whether a key has the prefix
abbrev any_with : List ℕ → List Placed → Bool
any_with prefix entries = list_any (λ entry. has_prefix prefix entry.key) entries

-- no key has the prefix where none of the entries has it
none_any : (prefix : List ℕ) (entries : List Placed) → AllByRecursion (λ entry. has_prefix prefix entry.key ≡ false) entries → any_with prefix entries ≡ false
none_any prefix [] h = refl
none_any prefix (entry ∷ entries) h = rw h.0 (none_any prefix entries h.1)

-- an entry that is found by a key with the prefix has it
found_any : (prefix key : List ℕ) (entries : List Placed) → has_prefix prefix key ≡ true → is_some (entry_among key entries) ≡ true → any_with prefix entries ≡ true
found_any prefix key [] passes there = cc there
found_any prefix key (entry ∷ entries) passes there = elim (cases_Bool (has_prefix prefix entry.key)) [
  | inl here ↦ rw here refl
  | inr fails ↦ elim (key_tells entry.key key) [
    | inl same ↦ absurd (both_ways (has_prefix prefix key) (sym (ap (has_prefix prefix) same.1) ∙ fails) passes)
    | inr differs ↦ rw fails (found_any prefix key entries passes (rw differs.0 at there))
  ]
]

-- no key has the prefix
pub sweeps_none : (seen : Segment) (prefix : List ℕ) → All (λ entry. has_prefix prefix entry.key ≡ false) seen.state.entries → AnswersSweeps seen seen prefix reply.SweptAll
sweeps_none seen prefix none = record {
  answers = λ segment grant.
      let unmet = none_any prefix seen.state.entries (recursion_from_All (λ (entry : Placed). has_prefix prefix entry.key ≡ false) seen.state.entries none) in
      let decision_is : decision seen.geo seen.state seen.number grant (Sweep segment prefix) ≡ no_change = rw unmet refl in
      record {
        geo_same = refl;
        segment_same = refl;
        step = subst (λ (it : Decision). StepAs it seen.geo seen.segment seen.state (Sweep segment prefix) seen.state reply.SweptAll) (sym decision_is) (refl, refl);
        number_is = refl;
      };
  least = λ segment. tt;
}

-- the least key with the prefix was removed, or no number was left
pub sweeps_one : (old new : Segment) (prefix key : List ℕ) (removed : Bool) → IsLeastKey prefix old.state.entries key → RemovesKey old new key removed
    → AnswersSweeps old new prefix (if removed then reply.Swept key else reply.Worn)
sweeps_one old new prefix key removed is takes = record {
  answers = λ segment grant.
      subst (AnswersOp old new grant (Sweep segment prefix)) (replies segment removed)
      (takes.answers (Sweep segment prefix) grant (record { met = found_any prefix key old.state.entries is.prefixed is.there; places_none = refl; keyed = (is.prefixed, is.there) }));
  least = λ segment. elim removed as (λ it. SweepsLeast old.state (Sweep segment prefix) (if it then reply.Swept key else reply.Worn)) [ true ↦ is.least | false ↦ tt ];
}
  where
    replies : (segment : ℕ) (it : Bool) → removal_reply it (Sweep segment prefix) key ≡ (if it then reply.Swept key else reply.Worn)
    replies segment true = refl
    replies segment false = refl
