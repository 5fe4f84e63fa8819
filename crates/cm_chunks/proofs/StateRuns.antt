-- Where the bits of a tier tell the runs of a state's entries, the first fit in its words is that of the state, and so is what is free.
use Rattle.std.proofs.Common.{◌≡◌, ◌↔◌, ℕ, suc, zero, ◌+◌, ◌-◌, ◌<◌, ◌≤◌, ◌==◌, ◌&&◌, not, Bool, true, false, nat_le, nat_lt, List, get_or, Option, Some, None, Contains, find, refl, sym, subst, ap, ◌∙◌, arith, inl, inr}
use Rattle.std.specs.List.{list_any, range_with_len}
use Rattle.std.proofs.lemmas.Bool.{cases_Bool, cases_lt}
use Rattle.std.proofs.lemmas.Bool.Decides.{nat_tests}
use Rattle.std.proofs.lemmas.List.Elements.{Contains-get_or}
use Rattle.std.proofs.lemmas.List.Folds.{list_any_at, list_any_none}
use Rattle.cm_geo.specs.declared.geo.Geo.{Geo}
use Rattle.cm_plain.specs.declared.placed.Placed.{Placed}
use Rattle.cm_plain.specs.States.{State, chunks_of}
use Rattle.cm_plain.specs.Rooms.{is_free, least_free, meets}
use Rattle.cm_plain.specs.Lawful.{BitsRepresent, IsTaken}
use Rattle.cm_plain.proofs.Apart.{chunks_some}
use Rattle.cm_plain.proofs.Ranges.{find_here, find_next, find_none}
use Rattle.cm_chunks.specs.Free.{FindsFit, IsFreeRun}

-- the test of an entry's run, in numbers
all_met : (p q a b c d : ℕ) → p ≡ q → a < b → c < d → ((p == q) && (nat_lt a b && nat_lt c d)) ≡ true
all_met p q a b c d same one other = grind (arith, nat_tests)

met_all : (p q a b c d : ℕ) → ((p == q) && (nat_lt a b && nat_lt c d)) ≡ true → (p ≡ q) × (a < b) × (c < d)
met_all p q a b c d met = grind (arith, nat_tests)

free_test : (a b : ℕ) (met : Bool) → a ≤ b → met ≡ false → (nat_le a b && not met) ≡ true
free_test a b met inside none = rw none (grind (arith, nat_tests))

test_free : (a b : ℕ) (met : Bool) → (nat_le a b && not met) ≡ true → (a ≤ b) × (met ≡ false)
test_free a b true free = absurd (let no : (nat_le a b && false) ≡ true = free in grind (arith, nat_tests))
test_free a b false free = (grind (arith, nat_tests), refl)

-- a chunk that is taken is in a run that meets
taken_meets : (geo : Geo) (state : State) (place chunk chunks other : ℕ) → IsTaken geo state place other → chunk ≤ other → other < chunk + chunks → list_any (meets geo place chunk chunks) state.entries ≡ true
taken_meets geo state place chunk chunks other taken from to =
    let there = taken.at.there in
    let met : meets geo place chunk chunks taken.placed ≡ true =
    all_met taken.placed.place place taken.placed.chunk (chunk + chunks) chunk (taken.placed.chunk + chunks_of geo taken.placed) taken.at.place_is (omega (arith, taken.begun)) (omega (arith, taken.not_ended)) in
    list_any_at (meets geo place chunk chunks) state.entries there.0 taken.placed there.1 (ap (meets geo place chunk chunks) there.2 ∙ met)

-- a run that meets has a chunk there
meets_taken : (geo : Geo) (state : State) (place chunk chunks : ℕ) (entry : Placed) → 1 ≤ chunks → Contains state.entries entry → meets geo place chunk chunks entry ≡ true
    → (other : ℕ) × (chunk ≤ other) × (other < chunk + chunks) × IsTaken geo state place other
meets_taken geo state place chunk chunks entry nonzero there met =
    let parts = met_all entry.place place entry.chunk (chunk + chunks) chunk (entry.chunk + chunks_of geo entry) met in
    elim (cases_lt chunk entry.chunk) [
      | inl later ↦ (
        entry.chunk,
        omega arith,
        parts.1,
        record { placed = entry; at = record { there = there; place_is = parts.0 }; begun = omega arith; not_ended = omega (arith, chunks_some geo entry) },
      )
      | inr sooner ↦ (chunk, omega arith, omega arith, record { placed = entry; at = record { there = there; place_is = parts.0 }; begun = sooner; not_ended = parts.2 })
    ]

-- so many chunks are free in the words just where they are in the state
pub free_as_state : (geo : Geo) (words : List ℕ) (state : State) (place chunk chunks : ℕ) → BitsRepresent geo words state place → 1 ≤ chunks
    → (IsFreeRun geo words place chunk chunks ↔ (is_free geo state.entries place chunk chunks ≡ true))
free_as_state geo words state place chunk chunks bits nonzero = (
  λ run. free_test (chunk + chunks) geo.chunks (list_any (meets geo place chunk chunks) state.entries) run.inside
      (list_any_none (meets geo place chunk chunks) state.entries (λ k d inside. none run (get_or state.entries k d) (Contains-get_or state.entries k d inside))),
  λ free.
      let parts = test_free (chunk + chunks) geo.chunks (list_any (meets geo place chunk chunks) state.entries) free in
      record {
        inside = parts.0;
        clear = λ other from to has. (let taken = (bits other (omega (arith, parts.0))).0 has in
            let both : true ≡ false = sym (taken_meets geo state place chunk chunks other taken from to) ∙ parts.1 in cc both);
      },
)
  where
    none : IsFreeRun geo words place chunk chunks → (entry : Placed) → Contains state.entries entry → meets geo place chunk chunks entry ≡ false
    none run entry there = elim (cases_Bool (meets geo place chunk chunks entry)) [
      | inl met ↦ (let taken = meets_taken geo state place chunk chunks entry nonzero there met in
          absurd (run.clear taken.0 taken.1 taken.2 ((bits taken.0 (omega (arith, taken.2, run.inside))).1 taken.3)))
      | inr apart ↦ apart
    ]

-- ---- the least of a range that passes a test

find_least : (test : ℕ → Bool) (steps low high : ℕ) → low + steps < high → ((k : ℕ) → low ≤ k → k < low + steps → test k ≡ false) → test (low + steps) ≡ true
    → find test (range_with_len low (high - low)) ≡ Some (low + steps)
find_least test zero low high inside fails passes =
    let same : low + zero ≡ low = omega arith in
    find_here test low high (omega arith) (ap test (sym same) ∙ passes) ∙ ap (λ (k : ℕ). Some k) (sym same)
find_least test (suc steps) low high inside fails passes =
    let same : low + 1 + steps ≡ low + suc steps = omega arith in
    find_next test low high (omega arith) (fails low (omega arith) (omega arith))
    ∙ (find_least test steps (low + 1) high (omega arith) (λ k from to. fails k (omega arith) (omega arith)) (ap test same ∙ passes) ∙ ap (λ (k : ℕ). Some k) same)

find_no : (test : ℕ → Bool) (steps low high : ℕ) → low + steps ≡ high → ((k : ℕ) → low ≤ k → k < high → test k ≡ false) → find test (range_with_len low (high - low)) ≡ None
find_no test zero low high end fails = find_none test low high (omega arith)
find_no test (suc steps) low high end fails =
    find_next test low high (omega arith) (fails low (omega arith) (omega arith)) ∙ find_no test steps (low + 1) high (omega arith) (λ k from to. fails k (omega arith) to)

-- what is found in the words is the state's first fit in the tier
pub fit_as_state : (geo : Geo) (words : List ℕ) (state : State) (place chunks : ℕ) (found : Option ℕ) → BitsRepresent geo words state place → 1 ≤ chunks → FindsFit geo words place chunks found
    → found ≡ least_free geo state.entries chunks place
fit_as_state geo words state place chunks None bits nonzero fits =
    let whole : geo.chunks - 0 ≡ geo.chunks = omega arith in
    sym (subst (λ (n : ℕ). find (λ chunk. is_free geo state.entries place chunk chunks) (range_with_len 0 n) ≡ None) whole
    (find_no (λ chunk. is_free geo state.entries place chunk chunks) geo.chunks 0 geo.chunks (omega arith) (λ k from to. elim (cases_Bool (is_free geo state.entries place k chunks)) [
      | inl free ↦ absurd (fits k ((free_as_state geo words state place k chunks bits nonzero).1 free))
      | inr taken ↦ taken
    ])))
fit_as_state geo words state place chunks (Some chunk) bits nonzero fits =
    let whole : geo.chunks - 0 ≡ geo.chunks = omega arith in
    let begin : 0 + chunk ≡ chunk = omega arith in
    let room = fits.run.inside in
    sym (subst (λ (n : ℕ). find (λ chunk. is_free geo state.entries place chunk chunks) (range_with_len 0 n) ≡ Some chunk) whole
    (subst (λ (c : ℕ). find (λ chunk. is_free geo state.entries place chunk chunks) (range_with_len 0 (geo.chunks - 0)) ≡ Some c) begin
    (find_least (λ chunk. is_free geo state.entries place chunk chunks) chunk 0 geo.chunks (omega (arith, room)) (λ k from to. elim (cases_Bool (is_free geo state.entries place k chunks)) [
      | inl free ↦ (let least = fits.least k ((free_as_state geo words state place k chunks bits nonzero).1 free) in absurd (omega (arith, least)))
      | inr taken ↦ taken
    ]) (subst (λ (c : ℕ). is_free geo state.entries place c chunks ≡ true) (sym begin) ((free_as_state geo words state place chunk chunks bits nonzero).0 fits.run)))))
