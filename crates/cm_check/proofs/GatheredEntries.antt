-- Entries that were put into the order of their runs.
use Rattle.std.proofs.Common.{◌≡◌, ◌≢◌, ◌⊎◌, Bool, List, [], ◌∷◌, length, filter, refl, sym, subst, ◌∙◌, arith, inl, inr}
use Rattle.std.specs.List.{AllByRecursion}
use Rattle.std.proofs.lemmas.Bool.{cases_Bool}
use Rattle.cm_geo.specs.declared.geo.Geo.{Geo}
use Rattle.cm_plain.specs.declared.placed.Placed.{Placed}
use Rattle.cm_plain.specs.States.{run_start}
use Rattle.cm_plain.specs.Changes.{with_entry}
use Rattle.cm_plain.proofs.Apart.{IsApart, Rising, apart_starts, apart_symmetric, rising_with}
use Rattle.cm_plain.proofs.Each.{Pairs, each_weaker}
use Rattle.cm_plain.proofs.EntrySets.{count_with, count_without, in_with, length_with, stays_with, with_from}
use Rattle.cm_plain.proofs.ListElements.{In, all_in, in_has}
use Rattle.cm_plain.proofs.Placements.{keys_with}
use Rattle.cm_plain.proofs.States.{Differs}

-- entries put among each other, one after the other
abbrev pub gathered : Geo → List Placed → List Placed
gathered geo [] = []
gathered geo (placed ∷ entries) = with_entry geo placed (gathered geo entries)

-- two entries have runs apart and different keys
pub record AreTwo (geo : Geo) (one other : Placed) : Type 0 where
  pub apart : IsApart geo one other
  pub keys : one.key ≢ other.key

-- an element that was gathered is one of them
pub gathered_from : (geo : Geo) (entries : List Placed) (placed : Placed) → In placed (gathered geo entries) → In placed entries
gathered_from geo [] placed i = absurd i
gathered_from geo (entry ∷ entries) placed i = by (gathered_from geo entries placed) (with_from geo entry (gathered geo entries) placed i)
  where
    by : (In placed (gathered geo entries) → In placed entries) → (placed ≡ entry) ⊎ In placed (gathered geo entries) → In placed (entry ∷ entries)
    by rest (inl e) = inl e
    by rest (inr j) = inr (rest j)

-- what holds of the first against each other one holds against those gathered
against : (geo : Geo) (P : Placed → Type 0) (entries : List Placed) → AllByRecursion P entries → AllByRecursion P (gathered geo entries)
against geo P entries h = all_in P (gathered geo entries) (λ placed i. in_has P entries placed h (gathered_from geo entries placed i))

-- the runs of those gathered are apart from the first one's
apart_first : (geo : Geo) (entry : Placed) (entries : List Placed) → AllByRecursion (AreTwo geo entry) entries → AllByRecursion (λ other. IsApart geo other entry) (gathered geo entries)
apart_first geo entry entries two =
    each_weaker (AreTwo geo entry) (λ other. IsApart geo other entry) (λ other h. apart_symmetric geo entry other h.apart) (gathered geo entries) (against geo (AreTwo geo entry) entries two)

pub starts_first : (geo : Geo) (entry : Placed) (entries : List Placed) → AllByRecursion (AreTwo geo entry) entries → AllByRecursion (λ other. run_start geo other ≢ run_start geo entry) (gathered geo entries)
starts_first geo entry entries two =
    each_weaker (λ other. IsApart geo other entry) (λ other. run_start geo other ≢ run_start geo entry) (λ other h. apart_starts geo entry other h) (gathered geo entries) (apart_first geo entry entries two)

-- and each of them was
pub gathered_to : (geo : Geo) (entries : List Placed) (placed : Placed) → Pairs (AreTwo geo) entries → In placed entries → In placed (gathered geo entries)
gathered_to geo [] placed two i = absurd i
gathered_to geo (entry ∷ entries) placed two (inl e) = subst (λ (p : Placed). In p (with_entry geo entry (gathered geo entries))) (sym e) (in_with geo entry (gathered geo entries))
gathered_to geo (entry ∷ entries) placed two (inr i) =
    let later = gathered_to geo entries placed two.1 i in
    stays_with geo entry (gathered geo entries) placed (in_has (λ other. run_start geo other ≢ run_start geo entry) (gathered geo entries) placed (starts_first geo entry entries two.0) later) later

pub gathered_rising : (geo : Geo) (entries : List Placed) → Pairs (AreTwo geo) entries → Pairs (Rising geo) (gathered geo entries)
gathered_rising geo [] two = tt
gathered_rising geo (entry ∷ entries) two = rising_with geo entry (gathered geo entries) (gathered_rising geo entries two.1) (apart_first geo entry entries two.0)

pub gathered_keys : (geo : Geo) (entries : List Placed) → Pairs (AreTwo geo) entries → Pairs Differs (gathered geo entries)
gathered_keys geo [] two = tt
gathered_keys geo (entry ∷ entries) two =
    keys_with geo entry (gathered geo entries) (gathered_keys geo entries two.1)
    (each_weaker (AreTwo geo entry) (λ other. other.key ≢ entry.key) (λ other h e. h.keys (sym e)) (gathered geo entries) (against geo (AreTwo geo entry) entries two.0))

pub gathered_count : (geo : Geo) (test : Placed → Bool) (entries : List Placed) → Pairs (AreTwo geo) entries → length (filter test (gathered geo entries)) ≡ length (filter test entries)
gathered_count geo test [] two = refl
gathered_count geo test (entry ∷ entries) two =
    let rest = gathered_count geo test entries two.1 in
    let starts = starts_first geo entry entries two.0 in
    elim (cases_Bool (test entry)) [
      | inl passes ↦ (let more = count_with geo test entry (gathered geo entries) starts passes in rw passes (more ∙ omega (arith, rest)))
      | inr fails ↦ (let same = count_without geo test entry (gathered geo entries) starts fails in rw fails (same ∙ rest))
    ]

pub gathered_length : (geo : Geo) (entries : List Placed) → Pairs (AreTwo geo) entries → length (gathered geo entries) ≡ length entries
gathered_length geo [] two = refl
gathered_length geo (entry ∷ entries) two = let rest = gathered_length geo entries two.1 in length_with geo entry (gathered geo entries) (starts_first geo entry entries two.0) ∙ omega (arith, rest)
