-- The places of a chain.
use Rattle.std.proofs.Common.{◌≡◌, ℕ, ◌==◌, Bool, true, false, not, List, Contains, refl, subst, inl, inr}
use Rattle.std.proofs.lemmas.Bool.Decides.{eqb_tells}
use Rattle.cm_plain.proofs.ListElements.{In, in_from, in_to, some_any}
use Rattle.cm_check.specs.Places.{is_linked}
use Rattle.cm_check.proofs.RangeTests.{any_some}

same_place : (a b : ℕ) → (a == b) ≡ true → a ≡ b
same_place a b e = elim (eqb_tells a b) [
  | inl same ↦ same.1
  | inr fails ↦ (let clash : false ≡ true = rw fails.0 at e in cc clash)
]

-- a place that is linked is one of the chain
pub linked_there : (chain : List ℕ) (place : ℕ) → is_linked chain place ≡ true → Contains chain place
linked_there chain place e =
    let found = some_any (λ linked. linked == place) chain e in
    in_to chain place (subst (λ (p : ℕ). In p chain) (same_place found.0 place found.2) found.1)

-- and back
pub there_linked : (chain : List ℕ) (place : ℕ) → Contains chain place → is_linked chain place ≡ true
there_linked chain place there = any_some (λ linked. linked == place) chain place (in_from chain place there) (same place)
  where
    same : (a : ℕ) → (a == a) ≡ true
    same a = elim (eqb_tells a a) [
      | inl yes' ↦ yes'.0
      | inr fails ↦ absurd (fails.1 refl)
    ]

-- a place that is not linked is none of it
pub linked_not : (chain : List ℕ) (place : ℕ) → (Contains chain place → ⊥) → is_linked chain place ≡ false
linked_not chain place none = by (is_linked chain place) refl
  where
    by : (b : Bool) → is_linked chain place ≡ b → b ≡ false
    by true e = absurd (none (linked_there chain place e))
    by false e = refl

pub not_there : (chain : List ℕ) (place : ℕ) → not (is_linked chain place) ≡ true → Contains chain place → ⊥
not_there chain place e there = (let linked = there_linked chain place there in let clash : false ≡ true = rw linked at e in cc clash)
