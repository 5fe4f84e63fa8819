-- When the run of a new entry meets none of those that stand.
use Rattle.std.proofs.Common.{◌≡◌, ◌≢◌, ◌∙◌, ℕ, ◌+◌, ◌-◌, ◌*◌, ◌/◌, ◌<◌, ◌≤◌, ◌==◌, ◌&&◌, Bool, true, false, List, [], ◌∷◌, length, filter, find, nat_lt, nat_le, Some, refl, subst, arith, inl, inr, ◌⊎◌}
use Rattle.std.specs.List.{AllByRecursion, list_any}
use Rattle.std.proofs.lemmas.Bool.{both_ways, cases_Bool, cases_eq, cases_lt}
use Rattle.std.proofs.Math.Nat.{div-lt_iff_lt-mul}
use Rattle.std.proofs.lemmas.Bool.Decides.{nat_tests}
use Rattle.cm_geo.proofs.Ranges.{chunk_words_range}
use Rattle.cm_geo.specs.declared.geo.Geo.{Geo}
use Rattle.cm_geo.specs.Need.{parts_for}
use Rattle.cm_plain.specs.declared.placed.Placed.{Placed}
use Rattle.cm_plain.specs.States.{HasRun, chunks_of, run_start, run_end}
use Rattle.cm_plain.specs.Rooms.{meets, is_free}
use Rattle.cm_plain.specs.Changes.{with_entry}
use Rattle.cm_plain.proofs.Each.{Pairs, each_kept, each_weaker, each_both, pairs_kept, pairs_append, each_fails, found_first, found_has}

-- on numbers: which of two runs comes first, by where they begin
low_end : (start chunks at more : ℕ) → (start + chunks ≤ at) ⊎ (at + more ≤ start) → nat_lt start at ≡ true → start + chunks ≤ at
low_end start chunks at more apart below = grind (arith, nat_tests)

-- the other way round
high_start : (start chunks at more : ℕ) → (start + chunks ≤ at) ⊎ (at + more ≤ start) → nat_lt at start ≡ true → at + more ≤ start
high_start start chunks at more apart above = grind (arith, nat_tests)

-- two runs don't meet: one ends before the other begins
abbrev pub IsApart : Geo → Placed → Placed → Type 0
IsApart geo entry other = (run_end geo entry ≤ run_start geo other) ⊎ (run_end geo other ≤ run_start geo entry)

-- one run ends before the other begins
abbrev pub Rising : Geo → Placed → Placed → Type 0
Rising geo entry later = run_end geo entry ≤ run_start geo later

-- the test of those that begin before an entry
abbrev pub begins_before : Geo → Placed → Placed → Bool
begins_before geo entry other = nat_lt (run_start geo other) (run_start geo entry)

-- the test of those that begin behind it
abbrev pub begins_behind : Geo → Placed → Placed → Bool
begins_behind geo entry other = nat_lt (run_start geo entry) (run_start geo other)

-- a run that is apart from all others may be put among them
pub rising_with : (geo : Geo) (entry : Placed) (entries : List Placed) → Pairs (Rising geo) entries → AllByRecursion (λ other. IsApart geo other entry) entries
    → Pairs (Rising geo) (with_entry geo entry entries)
rising_with geo entry entries rising apart =
    let before = begins_before geo entry in
    let behind = begins_behind geo entry in
    let low : AllByRecursion (λ other. Rising geo other entry) (filter before entries) =
    each_kept (λ other. IsApart geo other entry) (λ other. Rising geo other entry) before
    (λ other h e. low_end (run_start geo other) (chunks_of geo other) (run_start geo entry) (chunks_of geo entry) h e) entries apart in
    let high : AllByRecursion (Rising geo entry) (filter behind entries) =
    each_kept (λ other. IsApart geo other entry) (Rising geo entry) behind
    (λ other h e. high_start (run_start geo other) (chunks_of geo other) (run_start geo entry) (chunks_of geo entry) h e) entries apart in
    let across : (other : Placed) → Rising geo other entry → AllByRecursion (Rising geo other) (entry ∷ filter behind entries) =
    λ other first. (first, each_weaker (Rising geo entry) (Rising geo other) (λ later h. past (run_end geo other) (run_start geo entry) (chunks_of geo entry) (run_start geo later) first h) (filter behind entries) high) in
    pairs_append (Rising geo) (filter before entries) (entry ∷ filter behind entries) (pairs_kept (Rising geo) before entries rising)
    (high, pairs_kept (Rising geo) behind entries rising)
    (each_weaker (λ other. Rising geo other entry) (λ other. AllByRecursion (Rising geo other) (entry ∷ filter behind entries)) across (filter before entries) low)
  where
    past : (end at chunks later : ℕ) → end ≤ at → at + chunks ≤ later → end ≤ later
    past end at chunks later h k = omega arith

-- on numbers: places are apart by whole tiers
lower_tier : (place other tier chunk chunks at : ℕ) → place < other → chunk + chunks ≤ tier → place * tier + chunk + chunks ≤ other * tier + at
lower_tier place other tier chunk chunks at below inside = grind arith

-- entries of different places are apart
pub apart_places : (geo : Geo) (entry other : Placed) → entry.chunk + chunks_of geo entry ≤ geo.chunks → other.chunk + chunks_of geo other ≤ geo.chunks
    → entry.place ≢ other.place → IsApart geo entry other
apart_places geo entry other inside inside' differ =
    by_place entry.place other.place geo.chunks entry.chunk (chunks_of geo entry) other.chunk (chunks_of geo other) inside inside' differ
  where
    by_place : (place place' tier chunk chunks chunk' chunks' : ℕ) → chunk + chunks ≤ tier → chunk' + chunks' ≤ tier → place ≢ place'
        → (place * tier + chunk + chunks ≤ place' * tier + chunk') ⊎ (place' * tier + chunk' + chunks' ≤ place * tier + chunk)
    by_place place place' tier chunk chunks chunk' chunks' h h' ne = elim (cases_lt place place') [
      | inl below ↦ inl (lower_tier place place' tier chunk chunks chunk' below h)
      | inr above ↦ let over : place' < place = omega arith in inr (lower_tier place' place tier chunk' chunks' chunk over h')
    ]

-- something takes a part at least
some_parts : (size whole : ℕ) → 1 ≤ size → 1 ≤ whole → 1 ≤ parts_for size whole
some_parts size whole h k = elim (cases_lt ((whole + size - 1) / size) 1) [
  | inl none ↦ let below : whole + size - 1 < 1 * size = (div-lt_iff_lt-mul h).0 none in absurd (omega (arith, below))
  | inr nonzero ↦ nonzero
]

-- so an entry takes a chunk at least
pub chunks_some : (geo : Geo) (entry : Placed) → 1 ≤ chunks_of geo entry
chunks_some geo entry =
    some_parts geo.chunk_words (2 + parts_for 8 (length entry.key) + parts_for 8 (length entry.value)) (omega (arith, chunk_words_range geo)) (omega arith)

-- a run that is not met is apart in its tier
not_met : (place place' chunk chunks chunk' chunks' : ℕ) → (place == place' && (nat_lt chunk (chunk' + chunks') && nat_lt chunk' (chunk + chunks))) ≡ false → place ≡ place'
    → (chunk + chunks ≤ chunk') ⊎ (chunk' + chunks' ≤ chunk)
not_met place place' chunk chunks chunk' chunks' e same = grind (arith, nat_tests)

-- the numbers of runs in one tier, counted over all places
in_tier : (place place' tier chunk chunks chunk' chunks' : ℕ) → place ≡ place' → (chunk + chunks ≤ chunk') ⊎ (chunk' + chunks' ≤ chunk)
    → (place * tier + chunk + chunks ≤ place' * tier + chunk') ⊎ (place' * tier + chunk' + chunks' ≤ place * tier + chunk)
in_tier place place' tier chunk chunks chunk' chunks' same apart = grind arith

-- and back
pub out_tier : (place place' tier chunk chunks chunk' chunks' : ℕ) → place ≡ place'
    → (place * tier + chunk + chunks ≤ place' * tier + chunk') ⊎ (place' * tier + chunk' + chunks' ≤ place * tier + chunk)
    → (chunk + chunks ≤ chunk') ⊎ (chunk' + chunks' ≤ chunk)
out_tier place place' tier chunk chunks chunk' chunks' same apart = grind arith

-- an entry that stands is apart from a free run
free_apart : (geo : Geo) (entry other : Placed) → HasRun geo other → entry.chunk + chunks_of geo entry ≤ geo.chunks
    → meets geo entry.place entry.chunk (chunks_of geo entry) other ≡ false → IsApart geo other entry
free_apart geo entry other run inside e = elim (cases_eq other.place entry.place) [
  | inl same ↦
      in_tier other.place entry.place geo.chunks other.chunk (chunks_of geo other) entry.chunk (chunks_of geo entry) same
      (not_met other.place entry.place other.chunk (chunks_of geo other) entry.chunk (chunks_of geo entry) e same)
  | inr differ ↦ apart_places geo other entry run.inside inside differ
]

-- what a free run tells
pub record IsFreeRun (geo : Geo) (entries : List Placed) (place chunk chunks : ℕ) : Type 0 where
  pub inside : chunk + chunks ≤ geo.chunks
  pub alone : AllByRecursion (λ other. meets geo place chunk chunks other ≡ false) entries

-- free chunks are such a run
pub free_run : (geo : Geo) (entries : List Placed) (place chunk chunks : ℕ) → is_free geo entries place chunk chunks ≡ true → IsFreeRun geo entries place chunk chunks
free_run geo entries place chunk chunks e = elim (cases_Bool (nat_le (chunk + chunks) geo.chunks)) [
  | inl inside ↦
      let rest = rw inside at e in
      record {
        inside = grind (arith, nat_tests);
        alone = each_fails (meets geo place chunk chunks) entries (elim (cases_Bool (list_any (meets geo place chunk chunks) entries)) [
          | inl met ↦ let h = rw met at rest in cc h
          | inr none ↦ none
        ]);
      }
  | inr outside ↦ let h = rw outside at e in cc h
]

-- an entry on a free run is apart from all that stand
pub fresh_apart : (geo : Geo) (entry : Placed) (entries : List Placed) → AllByRecursion (HasRun geo) entries
    → is_free geo entries entry.place entry.chunk (chunks_of geo entry) ≡ true → AllByRecursion (λ other. IsApart geo other entry) entries
fresh_apart geo entry entries runs e =
    let free = free_run geo entries entry.place entry.chunk (chunks_of geo entry) e in
    each_both (HasRun geo) (λ other. meets geo entry.place entry.chunk (chunks_of geo entry) other ≡ false) (λ other. IsApart geo other entry)
    (λ other run h. free_apart geo entry other run free.inside h) entries runs free.alone

-- the entry that a test finds is apart from all that the test does not pass
pub others_apart : (geo : Geo) (test : Placed → Bool) (entries : List Placed) (old : Placed) → Pairs (Rising geo) entries → find test entries ≡ Some old
    → AllByRecursion (λ other. test other ≡ false → IsApart geo other old) entries
others_apart geo test [] old rising e = tt
others_apart geo test (entry ∷ entries) old rising e = elim (cases_Bool (test entry)) [
  | inl passes ↦
      subst (λ (it : Placed). AllByRecursion (λ other. test other ≡ false → IsApart geo other it) (entry ∷ entries)) (found_first test entry entries old passes e)
      (λ fails. absurd (both_ways (test entry) fails passes), each_weaker (Rising geo entry) (λ other. test other ≡ false → IsApart geo other entry) (λ other h fails. inr h) entries rising.0)
  | inr fails ↦
      let later = rw fails at e in
      (λ fails'. inl (found_has (Rising geo entry) test entries old rising.0 later), others_apart geo test entries old rising.1 later)
]

-- entries at one chunk begin as one
pub start_same : (geo : Geo) (one other : Placed) → one.place ≡ other.place → one.chunk ≡ other.chunk → run_start geo one ≡ run_start geo other
start_same geo one other place chunk = rw (place, chunk) refl

-- a shorter run in the same place is apart from whatever the longer one was
pub shorter : (geo : Geo) (old entry other : Placed) → entry.place ≡ old.place → entry.chunk ≡ old.chunk → chunks_of geo entry ≤ chunks_of geo old
    → IsApart geo other old → IsApart geo other entry
shorter geo old entry other place chunk within_limit apart =
    by_numbers (run_start geo other) (chunks_of geo other) (run_start geo old) (chunks_of geo old) (chunks_of geo entry) (run_start geo entry) (start_same geo entry old place chunk) within_limit apart
  where
    by_numbers : (at n start long short start' : ℕ) → start' ≡ start → short ≤ long → (at + n ≤ start) ⊎ (start + long ≤ at) → (at + n ≤ start') ⊎ (start' + short ≤ at)
    by_numbers at n start long short start' e within_limit apart = grind arith

-- a longer run in the same place is apart from what the shorter one and the chunks behind it are apart from
pub longer : (geo : Geo) (old entry other : Placed) → entry.place ≡ old.place → entry.chunk ≡ old.chunk → chunks_of geo old ≤ chunks_of geo entry
    → HasRun geo other → entry.chunk + chunks_of geo entry ≤ geo.chunks
    → meets geo old.place (old.chunk + chunks_of geo old) (chunks_of geo entry - chunks_of geo old) other ≡ false
    → IsApart geo other old → IsApart geo other entry
longer geo old entry other place chunk length_is run inside e apart = elim (cases_eq other.place entry.place) [
  | inl same ↦
      let behind = not_met other.place old.place other.chunk (chunks_of geo other) (old.chunk + chunks_of geo old) (chunks_of geo entry - chunks_of geo old) e (same ∙ place) in
      in_tier other.place entry.place geo.chunks other.chunk (chunks_of geo other) entry.chunk (chunks_of geo entry) same
      (joined other.chunk (chunks_of geo other) old.chunk (chunks_of geo old) (chunks_of geo entry) entry.chunk chunk length_is (chunks_some geo other) behind
      (out_tier other.place old.place geo.chunks other.chunk (chunks_of geo other) old.chunk (chunks_of geo old) (same ∙ place) apart))
  | inr differ ↦ apart_places geo other entry run.inside inside differ
]
  where
    joined : (at n start short long start' : ℕ) → start' ≡ start → short ≤ long → 1 ≤ n → (at + n ≤ start + short) ⊎ (start + short + (long - short) ≤ at)
        → (at + n ≤ start) ⊎ (start + short ≤ at) → (at + n ≤ start') ⊎ (start' + long ≤ at)
    joined at n start short long start' e length_is nonzero behind apart = grind arith

-- an entry begins in its tier
pub begins_low : (geo : Geo) (placed : Placed) → HasRun geo placed → placed.chunk < geo.chunks
begins_low geo placed run = omega (arith, run.inside, chunks_some geo placed)

-- that two runs are apart says the same of the two turned round
pub apart_symmetric : (geo : Geo) (one other : Placed) → IsApart geo one other → IsApart geo other one
apart_symmetric geo one other (inl before) = inr before
apart_symmetric geo one other (inr behind) = inl behind

-- on numbers: runs that are apart don't meet
far : (same : Bool) (chunk chunks chunk' chunks' : ℕ) → (chunk + chunks ≤ chunk') ⊎ (chunk' + chunks' ≤ chunk) → (same && (nat_lt chunk (chunk' + chunks') && nat_lt chunk' (chunk + chunks))) ≡ false
far same chunk chunks chunk' chunks' apart = grind (arith, nat_tests)

-- so does an entry whose run is apart
pub apart_not_met : (geo : Geo) (placed other : Placed) → IsApart geo other placed → meets geo placed.place placed.chunk (chunks_of geo placed) other ≡ false
apart_not_met geo placed other apart = elim (cases_eq other.place placed.place) [
  | inl same ↦ far (other.place == placed.place) other.chunk (chunks_of geo other) placed.chunk (chunks_of geo placed)
      (out_tier other.place placed.place geo.chunks other.chunk (chunks_of geo other) placed.chunk (chunks_of geo placed) same apart)
  | inr differ ↦ (let away : (other.place == placed.place) ≡ false = elsewhere other.place placed.place differ in rw away refl)
]
  where
    elsewhere : (a b : ℕ) → a ≢ b → (a == b) ≡ false
    elsewhere a b ne = grind (arith, nat_tests)

-- runs that are apart begin apart
pub apart_starts : (geo : Geo) (placed other : Placed) → IsApart geo other placed → run_start geo other ≢ run_start geo placed
apart_starts geo placed other apart = by_numbers (run_start geo other) (chunks_of geo other) (run_start geo placed) (chunks_of geo placed) (chunks_some geo other) (chunks_some geo placed) apart
  where
    by_numbers : (start chunks at more : ℕ) → 1 ≤ chunks → 1 ≤ more → (start + chunks ≤ at) ⊎ (at + more ≤ start) → start ≢ at
    by_numbers start chunks at more h k apart e = grind arith
