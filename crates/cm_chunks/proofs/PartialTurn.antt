-- What a list of words is while the bits of a run are being set or cleared, and which of these stores are allowed.
use Rattle.std.proofs.Common.{◌≡◌, ◌⊎◌, ℕ, suc, zero, ◌+◌, ◌/◌, ◌%◌, ◌<◌, List, [], ◌∷◌, length, take, get_or, refl, sym, subst, ap, ◌∙◌, arith, inl, inr, Option}
use Rattle.std.proofs.lemmas.Bool.{cases_eq, cases_lt}
use Rattle.cm_words.specs.Stores.{AllowsAll, WordStore, after_stores}
use Rattle.cm_geo.specs.declared.geo.Geo.{Geo}
use Rattle.cm_geo.specs.Addresses.{words_in_segment}
use Rattle.cm_geo.proofs.Ranges.{chunks_whole}
use Rattle.cm_plain.specs.declared.plan.Run.{Run}
use Rattle.cm_plain.specs.Changes.{Change}
use Rattle.cm_plain.specs.Lawful.{HasBit}
use Rattle.cm_words.specs.Memory.{IsAllowed, Setting}
use Rattle.cm_chunks.specs.declared.turn.Turn.{Turn}
use Rattle.cm_chunks.specs.declared.turn.Turn.TheVariants.{Set, Clear}
use Rattle.cm_chunks.specs.Turns.{stores_for, stores_to_clear, stores_to_set}
use Rattle.cm_chunks.specs.RunBits.{HasCleared, HasSet, IsApart, IsInRun, IsRunIn}
use Rattle.cm_chunks.proofs.Fitting.{bit_of}
use Rattle.cm_chunks.proofs.TurnStores.{stores_one, stores_two}
use Rattle.cm_chunks.proofs.TurnedRuns.{IsTurned, bit_of_one, has_cleared, has_set, in_after, in_run_or_not, one_of_bit, other_after, out_after, run_turned, turned_at, turned_two, value_of}

-- some of the run's bits have their new value, and all others stay
pub record IsPartTurned (turn : Turn) (geo : Geo) (run : Run) (before words : List ℕ) : Type 0 where
  pub inside : (place chunk : ℕ) → chunk < geo.chunks → IsInRun run place chunk → (bit_of geo words place chunk ≡ value_of turn) ⊎ (bit_of geo words place chunk ≡ bit_of geo before place chunk)
  pub outside : (place chunk : ℕ) → chunk < geo.chunks → (IsInRun run place chunk → ⊥) → bit_of geo words place chunk ≡ bit_of geo before place chunk
  pub others : (at : ℕ) → IsApart geo run at → get_or words at 0 ≡ get_or before at 0

part_none : (turn : Turn) (geo : Geo) (run : Run) (words : List ℕ) → IsPartTurned turn geo run words words
part_none turn geo run words = record { inside = λ place chunk below in_run. inr refl; outside = λ place chunk below out. refl; others = λ at apart. refl }

part_all : (turn : Turn) (geo : Geo) (run : Run) (before words : List ℕ) → IsTurned turn geo run before words → IsPartTurned turn geo run before words
part_all turn geo run before words turned_word = record { inside = λ place chunk below in_run. inl (turned_word.inside place chunk below in_run); outside = turned_word.outside; others = turned_word.others }

part_first : (turn : Turn) (geo : Geo) (run : Run) (words : List ℕ) → length words ≡ words_in_segment geo → IsRunIn geo run → IsPartTurned turn geo run words (turned_at turn geo run (run.chunk / 64) words)
part_first turn geo run words length_is is_run =
    let whole = chunks_whole geo in
    let number_inside : run.chunk / 64 < geo.chunks / 64 = omega (arith, whole.1, is_run.inside, is_run.nonzero) in
    record {
      inside = λ place chunk below in_run. elim (cases_eq (chunk / 64) (run.chunk / 64)) [
        | inl here ↦ inl (in_after turn geo run (run.chunk / 64) words length_is is_run.place_inside number_inside place chunk in_run here)
        | inr there ↦ inr (out_after turn geo run (run.chunk / 64) words length_is is_run.place_inside number_inside place chunk below (λ _. there))
      ];
      outside = λ place chunk below out. out_after turn geo run (run.chunk / 64) words length_is is_run.place_inside number_inside place chunk below (λ in_run. absurd (out in_run));
      others = λ at apart. other_after turn geo run (run.chunk / 64) words length_is is_run.place_inside number_inside at (apart run.chunk (record { place_is = refl; begun = omega arith; not_ended = omega (arith, is_run.nonzero) }));
    }

-- after so many of the stores, from the first one on
pub run_part_turned : (turn : Turn) (geo : Geo) (run : Run) (made : ℕ) (words : List ℕ) → length words ≡ words_in_segment geo → IsRunIn geo run
    → IsPartTurned turn geo run words (after_stores words (take made (stores_for turn geo run words)))
unfolding turned_at
run_part_turned turn geo run zero words length_is is_run = part_none turn geo run words
run_part_turned turn geo run (suc zero) words length_is is_run = elim (cases_lt 64 (run.chunk % 64 + run.chunks)) [
  | inl long ↦ subst (λ (w : List ℕ). IsPartTurned turn geo run words w) (sym (ap (λ (stores : List WordStore). after_stores words (take (suc zero) stores)) (stores_two turn geo run is_run.inside long words))) (part_first turn geo run words length_is is_run)
  | inr in_one_word ↦ subst (λ (w : List ℕ). IsPartTurned turn geo run words w) (sym (ap (λ (stores : List WordStore). after_stores words (take (suc zero) stores)) (stores_one turn geo run in_one_word words))) (part_first turn geo run words length_is is_run)
]
run_part_turned turn geo run (suc (suc made)) words length_is is_run = elim (cases_lt 64 (run.chunk % 64 + run.chunks)) [
  | inl long ↦
      let both = stores_two turn geo run is_run.inside long words in
      let all : take (suc (suc made)) (stores_for turn geo run words) ≡ stores_for turn geo run words = ap (take (suc (suc made))) both ∙ (whole_two made _ _ ∙ sym both) in
      subst (λ (stores : List WordStore). IsPartTurned turn geo run words (after_stores words stores)) (sym all) (part_all turn geo run words _ (run_turned turn geo run words length_is is_run))
  | inr in_one_word ↦
      let one = stores_one turn geo run in_one_word words in
      let all : take (suc (suc made)) (stores_for turn geo run words) ≡ stores_for turn geo run words = ap (take (suc (suc made))) one ∙ sym one in
      subst (λ (stores : List WordStore). IsPartTurned turn geo run words (after_stores words stores)) (sym all) (part_all turn geo run words _ (run_turned turn geo run words length_is is_run))
]
  where
    whole_two : (made : ℕ) (s t : WordStore) → take (suc (suc made)) (s ∷ t ∷ []) ≡ s ∷ t ∷ []
    whole_two zero s t = refl
    whole_two (suc made) s t = refl

-- a bit is set while a run is being set: it was set before, or it is one of the run's
pub part_set : (geo : Geo) (run : Run) (before words : List ℕ) → IsPartTurned Set geo run before words → (place chunk : ℕ) → chunk < geo.chunks
    → (HasBit geo before place chunk → HasBit geo words place chunk) × (HasBit geo words place chunk → IsInRun run place chunk ⊎ HasBit geo before place chunk)
part_set geo run before words part place chunk below = elim (in_run_or_not run place chunk) [
  | inl in_run ↦ (
    λ had. elim (part.inside place chunk below in_run) [
      | inl one ↦ bit_of_one geo words place chunk one
      | inr same ↦ bit_of_one geo words place chunk (same ∙ one_of_bit geo before place chunk had)
    ],
    λ has. inl in_run,
  )
  | inr out ↦ (
    λ had. bit_of_one geo words place chunk (part.outside place chunk below out ∙ one_of_bit geo before place chunk had),
    λ has. inr (bit_of_one geo before place chunk (sym (part.outside place chunk below out) ∙ one_of_bit geo words place chunk has)),
  )
]

-- a bit is set while a run is being cleared: it was set before, and it is left where it is none of the run's
pub part_cleared : (geo : Geo) (run : Run) (before words : List ℕ) → IsPartTurned Clear geo run before words → (place chunk : ℕ) → chunk < geo.chunks
    → (HasBit geo words place chunk → HasBit geo before place chunk) × (HasBit geo before place chunk → (IsInRun run place chunk → ⊥) → HasBit geo words place chunk)
part_cleared geo run before words part place chunk below = elim (in_run_or_not run place chunk) [
  | inl in_run ↦ (
    λ has. elim (part.inside place chunk below in_run) [
      | inl zero_is ↦ (let one = one_of_bit geo words place chunk has in absurd (omega (arith, zero_is, one)))
      | inr same ↦ bit_of_one geo before place chunk (sym same ∙ one_of_bit geo words place chunk has)
    ],
    λ had out. absurd (out in_run),
  )
  | inr out ↦ (
    λ has. bit_of_one geo before place chunk (sym (part.outside place chunk below out) ∙ one_of_bit geo words place chunk has),
    λ had _. bit_of_one geo words place chunk (part.outside place chunk below out ∙ one_of_bit geo before place chunk had),
  )
]

-- ---- which stores are allowed

-- all stores for a run are allowed, if each list on the way is allowed after each one before it
pub allows_run : (setting : Setting) (plan : Option Change) (o : List ℕ) (turn : Turn) (geo : Geo) (run : Run) (words : List ℕ) → length words ≡ words_in_segment geo → IsRunIn geo run
    → ((one later : List ℕ) → IsPartTurned turn geo run words one → IsPartTurned turn geo run words later → IsAllowed setting plan o one later) → AllowsAll setting plan o words (stores_for turn geo run words)
unfolding turned_at
allows_run setting plan o turn geo run words length_is is_run each = elim (cases_lt 64 (run.chunk % 64 + run.chunks)) [
  | inl long ↦ subst (λ (stores : List WordStore). AllowsAll setting plan o words stores) (sym (stores_two turn geo run is_run.inside long words)) (
    each words (turned_at turn geo run (run.chunk / 64) words) (part_none turn geo run words) (part_first turn geo run words length_is is_run),
    (
      each (turned_at turn geo run (run.chunk / 64) words) (turned_at turn geo run (run.chunk / 64 + 1) (turned_at turn geo run (run.chunk / 64) words))
          (part_first turn geo run words length_is is_run) (part_all turn geo run words _ (turned_two turn geo run words length_is is_run long)),
      tt,
    ),
  )
  | inr in_one_word ↦ subst (λ (stores : List WordStore). AllowsAll setting plan o words stores) (sym (stores_one turn geo run in_one_word words))
      (each words (turned_at turn geo run (run.chunk / 64) words) (part_none turn geo run words) (part_first turn geo run words length_is is_run), tt)
]

-- ---- the same, of a run that is set and of one that is cleared

pub allows_set : (setting : Setting) (plan : Option Change) (o : List ℕ) (geo : Geo) (run : Run) (words : List ℕ) → length words ≡ words_in_segment geo → IsRunIn geo run
    → ((one later : List ℕ) → IsPartTurned Set geo run words one → IsPartTurned Set geo run words later → IsAllowed setting plan o one later) → AllowsAll setting plan o words (stores_to_set geo run words)
allows_set setting plan o geo run words length_is is_run each = allows_run setting plan o Set geo run words length_is is_run each

pub allows_clear : (setting : Setting) (plan : Option Change) (o : List ℕ) (geo : Geo) (run : Run) (words : List ℕ) → length words ≡ words_in_segment geo → IsRunIn geo run
    → ((one later : List ℕ) → IsPartTurned Clear geo run words one → IsPartTurned Clear geo run words later → IsAllowed setting plan o one later) → AllowsAll setting plan o words (stores_to_clear geo run words)
allows_clear setting plan o geo run words length_is is_run each = allows_run setting plan o Clear geo run words length_is is_run each

pub run_part_set : (geo : Geo) (run : Run) (made : ℕ) (words : List ℕ) → length words ≡ words_in_segment geo → IsRunIn geo run → IsPartTurned Set geo run words (after_stores words (take made (stores_to_set geo run words)))
run_part_set geo run made words length_is is_run = run_part_turned Set geo run made words length_is is_run

pub run_part_cleared : (geo : Geo) (run : Run) (made : ℕ) (words : List ℕ) → length words ≡ words_in_segment geo → IsRunIn geo run → IsPartTurned Clear geo run words (after_stores words (take made (stores_to_clear geo run words)))
run_part_cleared geo run made words length_is is_run = run_part_turned Clear geo run made words length_is is_run

pub run_set : (geo : Geo) (run : Run) (words : List ℕ) → length words ≡ words_in_segment geo → IsRunIn geo run → HasSet geo run words (after_stores words (stores_to_set geo run words))
run_set geo run words length_is is_run = has_set geo run words _ (run_turned Set geo run words length_is is_run)

pub run_cleared : (geo : Geo) (run : Run) (words : List ℕ) → length words ≡ words_in_segment geo → IsRunIn geo run → HasCleared geo run words (after_stores words (stores_to_clear geo run words))
run_cleared geo run words length_is is_run = has_cleared geo run words _ (run_turned Clear geo run words length_is is_run)
