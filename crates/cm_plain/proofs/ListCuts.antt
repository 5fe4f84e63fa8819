-- Where a list in rising order is cut at a number.
use Rattle.std.proofs.Common.{◌≡◌, ◌≢◌, ℕ, ◌+◌, ◌<◌, ◌≤◌, Bool, true, false, List, [], ◌∷◌, length, filter, take, drop, nat_lt, refl, ap, arith, inl, inr}
use Rattle.std.specs.List.{AllByRecursion}
use Rattle.std.proofs.lemmas.Bool.{cases_Bool}
use Rattle.std.proofs.lemmas.Bool.Decides.{nat_tests}
use Rattle.std.specs.List.{insert}
use Rattle.cm_geo.specs.declared.geo.Geo.{Geo}
use Rattle.cm_plain.specs.declared.placed.Placed.{Placed}
use Rattle.cm_plain.specs.States.{chunks_of, run_end, run_start}
use Rattle.cm_plain.specs.Changes.{with_entry}
use Rattle.cm_plain.proofs.Each.{Pairs, each_weaker, pairs_weaker}

-- a test that all pass keeps all
kept_all : {X : Type 0} (test : X → Bool) (xs : List X) → AllByRecursion (λ x. test x ≡ true) xs → filter test xs ≡ xs
kept_all test [] h = refl
kept_all test (x ∷ xs) h = rw (h.0, kept_all test xs h.1) refl

-- and one that none passes keeps none
kept_none : {X : Type 0} (test : X → Bool) (xs : List X) → AllByRecursion (λ x. test x ≡ false) xs → filter test xs ≡ []
kept_none test [] h = refl
kept_none test (x ∷ xs) h = rw (h.0, kept_none test xs h.1) refl

-- the cut of a list where its elements pass a number
pub record IsCut {X : Type 0} (start : X → ℕ) (at : ℕ) (xs : List X) : Type 0 where
  pub low : take (length (filter (λ x. nat_lt (start x) at) xs)) xs ≡ filter (λ x. nat_lt (start x) at) xs
  pub high : drop (length (filter (λ x. nat_lt (start x) at) xs)) xs ≡ filter (λ x. nat_lt at (start x)) xs

-- a rising list has that cut at a number that is none of its
pub cut_is : {X : Type 0} (start : X → ℕ) (at : ℕ) (xs : List X) → Pairs (λ x y. start x ≤ start y) xs → AllByRecursion (λ x. start x ≢ at) xs → IsCut start at xs
cut_is start at [] rising apart = record { low = refl; high = refl }
cut_is start at (x ∷ xs) rising apart =
    elim (cases_Bool (nat_lt (start x) at)) [
      | inl below ↦
          let above : nat_lt at (start x) ≡ false = grind (arith, nat_tests) in
          let later = cut_is start at xs rising.1 apart.1 in
          record { low = rw below (ap (λ ys. x ∷ ys) later.low); high = rw (below, above) later.high }
      | inr not_below ↦
          let ne : start x ≢ at = apart.0 in
          let above : nat_lt at (start x) ≡ true = grind (arith, nat_tests, ne) in
          let over : at < start x = grind (arith, nat_tests) in
          let none = kept_none (λ y. nat_lt (start y) at) xs (each_weaker (λ y. start x ≤ start y) (λ y. nat_lt (start y) at ≡ false) (λ y h. grind (arith, nat_tests)) xs rising.0) in
          let all = kept_all (λ y. nat_lt at (start y)) xs (each_weaker (λ y. start x ≤ start y) (λ y. nat_lt at (start y) ≡ true) (λ y h. grind (arith, nat_tests)) xs rising.0) in
          record { low = rw (not_below, none) refl; high = rw (not_below, none, above, all) refl }
    ]

-- an entry put in before those behind it
pub cut_at : (geo : Geo) (entry : Placed) (entries : List Placed) → Pairs (λ other later. run_end geo other ≤ run_start geo later) entries
    → AllByRecursion (λ other. run_start geo other ≢ run_start geo entry) entries
    → insert entries (length (filter (λ other. nat_lt (run_start geo other) (run_start geo entry)) entries)) entry ≡ with_entry geo entry entries
cut_at geo entry entries rising apart =
    let cut = cut_is (run_start geo) (run_start geo entry) entries
    (pairs_weaker (λ x y. run_end geo x ≤ run_start geo y) (λ x y. run_start geo x ≤ run_start geo y) (λ x y h. starts (run_start geo x) (chunks_of geo x) (run_start geo y) h) entries rising) apart in
    rw (cut.low, cut.high) refl
  where
    starts : (start chunks later : ℕ) → start + chunks ≤ later → start ≤ later
    starts start chunks later h = omega arith
