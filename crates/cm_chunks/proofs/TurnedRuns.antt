-- What a list of words is after the bits of a run were set or cleared.
use Rattle.std.proofs.Common.{◌≡◌, ◌≢◌, ◌⊎◌, ℕ, ◌+◌, ◌-◌, ◌*◌, ◌/◌, ◌%◌, ◌^◌, ◌<◌, ◌≤◌, min, List, length, get_or, refl, sym, subst, ap, ◌∙◌, arith, inl, inr, get_or-set_same, get_or-set_other, length-set}
use Rattle.std.specs.Int.{bit_at, bit_not, w64}
use Rattle.std.proofs.lemmas.Bool.{cases_eq, cases_lt}
use Rattle.std.proofs.lemmas.Nat.{pow_pos}
use Rattle.std.proofs.lemmas.Nat.Bits.{bit_at-lt, bit_at_and, bit_at_mask_above, bit_at_mask_below, bit_at_mask_inside, bit_at_not, bit_at_or}
use Rattle.std.proofs.Math.Nat.{max-eq_left, max-eq_right, min-eq_left, min-eq_right}
use Rattle.cm_geo.specs.declared.geo.Geo.{Geo}
use Rattle.cm_geo.specs.Addresses.{bits_at, words_in_segment}
use Rattle.cm_geo.proofs.AddressesApart.{bits_apart}
use Rattle.cm_geo.proofs.AddressOrder.{bits_in_range}
use Rattle.cm_geo.proofs.Ranges.{chunks_whole}
use Rattle.cm_plain.specs.declared.plan.Run.{Run}
use Rattle.cm_plain.specs.Lawful.{HasBit}
use Rattle.cm_words.specs.Memory.{FitsNotes, MemSeen}
use Rattle.cm_words.specs.Stores.{Leads, WritesEach, after_stores}
use Rattle.cm_words.proofs.StoreLists.{after_stores_append}
use Rattle.cm_chunks.specs.declared.turn.Turn.{Turn}
use Rattle.cm_chunks.specs.declared.turn.Turn.TheVariants.{Set, Clear}
use Rattle.cm_chunks.specs.Turns.{bits_in, stores_for, stores_to_clear, stores_to_set, turn_at, turned_word}
use Rattle.cm_chunks.specs.RunBits.{Clears, HasCleared, HasSet, IsApart, IsInRun, IsRunIn, LeadsCleared, LeadsSet, Sets}
use Rattle.cm_words.proofs.ListChanges.{changes_as}
use Rattle.cm_chunks.proofs.WordBits.{one_of_set, power_grows, set_of_one}
use Rattle.cm_chunks.proofs.Fitting.{bit_of}
use Rattle.cm_chunks.proofs.TurnStores.{stores_one, stores_two}

-- ---- one word

-- what each bit of the run becomes
abbrev pub value_of : Turn → ℕ
value_of Set = 1
value_of Clear = 0

turned_in : (turn : Turn) (word bits bit : ℕ) → bits < 2 ^ 64 → bit < 64 → bit_at bits bit ≡ 1 → bit_at (turned_word turn word bits) bit ≡ value_of turn
turned_in Set word bits bit small inside one =
    let less : bit_at word bit ≤ bit_at bits bit = omega (arith, one, bit_at-lt word bit) in
    bit_at_or word bits bit ∙ (max-eq_right less ∙ one)
turned_in Clear word bits bit small inside one =
    let zero_is : bit_at (bit_not w64 bits) bit ≡ 0 = (let not_is = bit_at_not w64 bits bit small inside in omega (arith, not_is, one)) in
    let less : bit_at (bit_not w64 bits) bit ≤ bit_at word bit = omega (arith, zero_is) in
    bit_at_and word (bit_not w64 bits) bit ∙ (min-eq_right less ∙ zero_is)

turned_out : (turn : Turn) (word bits bit : ℕ) → bits < 2 ^ 64 → bit < 64 → bit_at bits bit ≡ 0 → bit_at (turned_word turn word bits) bit ≡ bit_at word bit
turned_out Set word bits bit small inside none =
    let less : bit_at bits bit ≤ bit_at word bit = omega (arith, none) in
    bit_at_or word bits bit ∙ max-eq_left less
turned_out Clear word bits bit small inside none =
    let one_is : bit_at (bit_not w64 bits) bit ≡ 1 = (let not_is = bit_at_not w64 bits bit small inside in omega (arith, not_is, none)) in
    let less : bit_at word bit ≤ bit_at (bit_not w64 bits) bit = omega (arith, one_is, bit_at-lt word bit) in
    bit_at_and word (bit_not w64 bits) bit ∙ min-eq_left less

-- ---- the bits of a run in a word

bits_small : (run : Run) (number : ℕ) → bits_in run number < 2 ^ 64
bits_small run number =
    let within_limit : min 64 (run.chunk + run.chunks - 64 * number) ≤ 64 = omega arith in
    omega (arith, power_grows (min 64 (run.chunk + run.chunks - 64 * number)) 64 within_limit, pow_pos (run.chunk - 64 * number))

bits_of_run : (run : Run) (number bit : ℕ) → bit < 64 → run.chunk ≤ 64 * number + bit → 64 * number + bit < run.chunk + run.chunks → bit_at (bits_in run number) bit ≡ 1
bits_of_run run number bit inside from to = bit_at_mask_inside (run.chunk - 64 * number) (min 64 (run.chunk + run.chunks - 64 * number)) bit (omega arith) (omega arith)

bits_of_others : (run : Run) (number bit : ℕ) → bit < 64 → (run.chunk ≤ 64 * number + bit → 64 * number + bit < run.chunk + run.chunks → ⊥) → bit_at (bits_in run number) bit ≡ 0
bits_of_others run number bit inside outside = elim (cases_lt bit (run.chunk - 64 * number)) [
  | inl below ↦ bit_at_mask_below (run.chunk - 64 * number) (min 64 (run.chunk + run.chunks - 64 * number)) bit below
  | inr from ↦ elim (cases_lt bit (min 64 (run.chunk + run.chunks - 64 * number))) [
    | inl to ↦ absurd (outside (omega arith) (omega arith))
    | inr above ↦ bit_at_mask_above (run.chunk - 64 * number) (min 64 (run.chunk + run.chunks - 64 * number)) bit above
  ]
]

-- ---- one bit word of a tier

-- the list after the store of a bit word
unfoldable pub turned_at : Turn → Geo → Run → ℕ → List ℕ → List ℕ
turned_at turn geo run number words = after_stores words (turn_at turn geo run number words)

module _ (turn : Turn) (geo : Geo) (run : Run) (number : ℕ) (words : List ℕ) (length_is : length words ≡ words_in_segment geo) (place_inside : run.place < geo.tiers) (inside : number < geo.chunks / 64) where
  long_after : length (turned_at turn geo run number words) ≡ words_in_segment geo
  unfolding turned_at
  long_after = length-set words (bits_at geo run.place number) _ ∙ length_is

  pub other_after : (at : ℕ) → at ≢ bits_at geo run.place number → get_or (turned_at turn geo run number words) at 0 ≡ get_or words at 0
  unfolding turned_at
  other_after at other = get_or-set_other words (bits_at geo run.place number) at _ 0 other

  bit_after : (chunk : ℕ) → chunk / 64 ≡ number → bit_of geo (turned_at turn geo run number words) run.place chunk ≡ bit_at (turned_word turn (get_or words (bits_at geo run.place number) 0) (bits_in run number)) (chunk % 64)
  unfolding turned_at bit_of
  bit_after chunk here =
      let in_range : bits_at geo run.place number < length words = rw length_is (bits_in_range geo run.place number place_inside inside) in
      rw (here, get_or-set_same) refl

  bit_other : (place chunk : ℕ) → chunk < geo.chunks → (place ≡ run.place → chunk / 64 ≢ number) → bit_of geo (turned_at turn geo run number words) place chunk ≡ bit_of geo words place chunk
  unfolding turned_at bit_of
  bit_other place chunk below other =
      let whole = chunks_whole geo in
      ap (λ (w : ℕ). bit_at w (chunk % 64)) (get_or-set_other words (bits_at geo run.place number) (bits_at geo place (chunk / 64)) _ 0 (bits_apart geo place run.place (chunk / 64) number (omega (arith, whole.1)) inside other))

  pub in_after : (place chunk : ℕ) → IsInRun run place chunk → chunk / 64 ≡ number → bit_of geo (turned_at turn geo run number words) place chunk ≡ value_of turn
  in_after place chunk in_run here =
      let one = bits_of_run run number (chunk % 64) (omega arith) (omega (arith, in_run.begun)) (omega (arith, in_run.not_ended)) in
      subst (λ (p : ℕ). bit_of geo (turned_at turn geo run number words) p chunk ≡ value_of turn) (sym in_run.place_is)
      (bit_after chunk here ∙ turned_in turn (get_or words (bits_at geo run.place number) 0) (bits_in run number) (chunk % 64) (bits_small run number) (omega arith) one)

  kept_here : (chunk : ℕ) → chunk / 64 ≡ number → (run.chunk ≤ chunk → chunk < run.chunk + run.chunks → ⊥) → bit_of geo (turned_at turn geo run number words) run.place chunk ≡ bit_of geo words run.place chunk
  unfolding bit_of
  kept_here chunk here out =
      let none = bits_of_others run number (chunk % 64) (omega arith) (λ from to. out (omega arith) (omega arith)) in
      bit_after chunk here ∙ (turned_out turn (get_or words (bits_at geo run.place number) 0) (bits_in run number) (chunk % 64) (bits_small run number) (omega arith) none
      ∙ ap (λ (k : ℕ). bit_at (get_or words (bits_at geo run.place k) 0) (chunk % 64)) (sym here))

  pub out_after : (place chunk : ℕ) → chunk < geo.chunks → (IsInRun run place chunk → chunk / 64 ≢ number) → bit_of geo (turned_at turn geo run number words) place chunk ≡ bit_of geo words place chunk
  out_after place chunk below out = elim (cases_eq place run.place) [
    | inl same ↦ elim (cases_eq (chunk / 64) number) [
      | inl here ↦ subst (λ (p : ℕ). bit_of geo (turned_at turn geo run number words) p chunk ≡ bit_of geo words p chunk) (sym same) (kept_here chunk here (λ begun to. out (record { place_is = same; begun = begun; not_ended = to }) here))
      | inr there ↦ bit_other place chunk below (λ _. there)
    ]
    | inr apart ↦ bit_other place chunk below (λ same. absurd (apart same))
  ]

-- ---- a run

-- the bits of the run have this value, and all others stay
pub record IsTurned (turn : Turn) (geo : Geo) (run : Run) (before words : List ℕ) : Type 0 where
  pub inside : (place chunk : ℕ) → chunk < geo.chunks → IsInRun run place chunk → bit_of geo words place chunk ≡ value_of turn
  pub outside : (place chunk : ℕ) → chunk < geo.chunks → (IsInRun run place chunk → ⊥) → bit_of geo words place chunk ≡ bit_of geo before place chunk
  pub others : (at : ℕ) → IsApart geo run at → get_or words at 0 ≡ get_or before at 0

turned_one : (turn : Turn) (geo : Geo) (run : Run) (words : List ℕ) → length words ≡ words_in_segment geo → IsRunIn geo run → run.chunk % 64 + run.chunks ≤ 64 → IsTurned turn geo run words (turned_at turn geo run (run.chunk / 64) words)
turned_one turn geo run words length_is is_run in_one_word =
    let whole = chunks_whole geo in
    let number_inside : run.chunk / 64 < geo.chunks / 64 = omega (arith, whole.1, is_run.inside, is_run.nonzero) in
    record {
      inside = λ place chunk below in_run. in_after turn geo run (run.chunk / 64) words length_is is_run.place_inside number_inside place chunk in_run (omega (arith, in_run.begun, in_run.not_ended));
      outside = λ place chunk below out. out_after turn geo run (run.chunk / 64) words length_is is_run.place_inside number_inside place chunk below (λ in_run. absurd (out in_run));
      others = λ at apart. other_after turn geo run (run.chunk / 64) words length_is is_run.place_inside number_inside at (apart run.chunk (record { place_is = refl; begun = omega arith; not_ended = omega (arith, is_run.nonzero) }));
    }

pub turned_two : (turn : Turn) (geo : Geo) (run : Run) (words : List ℕ) → length words ≡ words_in_segment geo → IsRunIn geo run → 64 < run.chunk % 64 + run.chunks
    → IsTurned turn geo run words (turned_at turn geo run (run.chunk / 64 + 1) (turned_at turn geo run (run.chunk / 64) words))
turned_two turn geo run words length_is is_run long =
    let whole = chunks_whole geo in
    let first_inside : run.chunk / 64 < geo.chunks / 64 = omega (arith, whole.1, is_run.inside) in
    let second_inside : run.chunk / 64 + 1 < geo.chunks / 64 = omega (arith, whole.1, is_run.inside) in
    let between : List ℕ = turned_at turn geo run (run.chunk / 64) words in
    let still = long_after turn geo run (run.chunk / 64) words length_is is_run.place_inside first_inside in
    record {
      inside = λ place chunk below in_run. elim (cases_eq (chunk / 64) (run.chunk / 64 + 1)) [
        | inl there ↦ in_after turn geo run (run.chunk / 64 + 1) (turned_at turn geo run (run.chunk / 64) words) still is_run.place_inside second_inside place chunk in_run there
        | inr other ↦ out_after turn geo run (run.chunk / 64 + 1) (turned_at turn geo run (run.chunk / 64) words) still is_run.place_inside second_inside place chunk below (λ _. other)
            ∙ in_after turn geo run (run.chunk / 64) words length_is is_run.place_inside first_inside place chunk in_run (omega (arith, in_run.begun, in_run.not_ended, is_run.within_limit))
      ];
      outside = λ place chunk below out. out_after turn geo run (run.chunk / 64 + 1) (turned_at turn geo run (run.chunk / 64) words) still is_run.place_inside second_inside place chunk below (λ in_run. absurd (out in_run))
          ∙ out_after turn geo run (run.chunk / 64) words length_is is_run.place_inside first_inside place chunk below (λ in_run. absurd (out in_run));
      others = λ at apart.
          let not_first : at ≢ bits_at geo run.place (run.chunk / 64) = apart run.chunk (record { place_is = refl; begun = omega arith; not_ended = omega (arith, is_run.nonzero) }) in
          let next_is : 64 * (run.chunk / 64 + 1) / 64 ≡ run.chunk / 64 + 1 = omega arith in
          let not_second : at ≢ bits_at geo run.place (run.chunk / 64 + 1) =
          subst (λ (k : ℕ). at ≢ bits_at geo run.place k) next_is (apart (64 * (run.chunk / 64 + 1)) (record { place_is = refl; begun = omega arith; not_ended = omega arith })) in
          other_after turn geo run (run.chunk / 64 + 1) (turned_at turn geo run (run.chunk / 64) words) still is_run.place_inside second_inside at not_second
          ∙ other_after turn geo run (run.chunk / 64) words length_is is_run.place_inside first_inside at not_first;
    }

-- the stores for a run turn its bits and no others
pub run_turned : (turn : Turn) (geo : Geo) (run : Run) (words : List ℕ) → length words ≡ words_in_segment geo → IsRunIn geo run → IsTurned turn geo run words (after_stores words (stores_for turn geo run words))
unfolding turned_at
run_turned turn geo run words length_is is_run = elim (cases_lt 64 (run.chunk % 64 + run.chunks)) [
  | inl long ↦ subst (λ (w : List ℕ). IsTurned turn geo run words w)
      (sym (ap (after_stores words) (stores_two turn geo run is_run.inside long words) ∙ after_stores_append words (turn_at turn geo run (run.chunk / 64) words) (turn_at turn geo run (run.chunk / 64 + 1) (turned_at turn geo run (run.chunk / 64) words))))
      (turned_two turn geo run words length_is is_run long)
  | inr in_one_word ↦ subst (λ (w : List ℕ). IsTurned turn geo run words w) (sym (ap (after_stores words) (stores_one turn geo run in_one_word words))) (turned_one turn geo run words length_is is_run in_one_word)
]

-- a chunk lies in a run or not
pub in_run_or_not : (run : Run) (place chunk : ℕ) → IsInRun run place chunk ⊎ (IsInRun run place chunk → ⊥)
in_run_or_not run place chunk = elim (cases_eq place run.place) [
  | inl same ↦ elim (cases_lt chunk run.chunk) [
    | inl before ↦ inr (λ in_run. omega (arith, in_run.begun))
    | inr from ↦ elim (cases_lt chunk (run.chunk + run.chunks)) [
      | inl to ↦ inl (record { place_is = same; begun = from; not_ended = to })
      | inr past ↦ inr (λ in_run. omega (arith, in_run.not_ended))
    ]
  ]
  | inr other ↦ inr (λ in_run. other in_run.place_is)
]

pub one_of_bit : (geo : Geo) (words : List ℕ) (place chunk : ℕ) → HasBit geo words place chunk → bit_of geo words place chunk ≡ 1
unfolding bit_of
one_of_bit geo words place chunk has = one_of_set (get_or words (bits_at geo place (chunk / 64)) 0) (chunk % 64) has

pub bit_of_one : (geo : Geo) (words : List ℕ) (place chunk : ℕ) → bit_of geo words place chunk ≡ 1 → HasBit geo words place chunk
unfolding bit_of
bit_of_one geo words place chunk one = set_of_one (get_or words (bits_at geo place (chunk / 64)) 0) (chunk % 64) one

pub has_set : (geo : Geo) (run : Run) (before words : List ℕ) → IsTurned Set geo run before words → HasSet geo run before words
has_set geo run before words turned_word = record {
  bits = λ place chunk below. (
    λ has. elim (in_run_or_not run place chunk) [
      | inl in_run ↦ inl in_run
      | inr out ↦ inr (bit_of_one geo before place chunk (sym (turned_word.outside place chunk below out) ∙ one_of_bit geo words place chunk has))
    ],
    λ either. elim (in_run_or_not run place chunk) [
      | inl in_run ↦ bit_of_one geo words place chunk (turned_word.inside place chunk below in_run)
      | inr out ↦ elim either [
        | inl in_run ↦ absurd (out in_run)
        | inr had ↦ bit_of_one geo words place chunk (turned_word.outside place chunk below out ∙ one_of_bit geo before place chunk had)
      ]
    ],
  );
  others = turned_word.others;
}

pub has_cleared : (geo : Geo) (run : Run) (before words : List ℕ) → IsTurned Clear geo run before words → HasCleared geo run before words
has_cleared geo run before words turned_word = record {
  bits = λ place chunk below. (
    λ has. elim (in_run_or_not run place chunk) [
      | inl in_run ↦ (let zero_is = turned_word.inside place chunk below in_run in let one = one_of_bit geo words place chunk has in absurd (omega (arith, zero_is, one)))
      | inr out ↦ (out, bit_of_one geo before place chunk (sym (turned_word.outside place chunk below out) ∙ one_of_bit geo words place chunk has))
    ],
    λ left. bit_of_one geo words place chunk (turned_word.outside place chunk below left.0 ∙ one_of_bit geo before place chunk left.1),
  );
  others = turned_word.others;
}

-- ---- over a memory

-- a list that fits is as long as a segment
fit_long : (m : MemSeen) (geo : Geo) (words : List ℕ) → m.setting.geo ≡ geo → FitsNotes m words → length words ≡ words_in_segment geo
fit_long m geo words is fits = fits.are.length_is ∙ ap words_in_segment is

pub sets_run : (a b : MemSeen) (geo : Geo) (run : Run) → a.setting.geo ≡ geo → IsRunIn geo run → WritesEach a b (stores_to_set geo run) → Sets a b geo run
sets_run a b geo run is is_run writes =
    changes_as a b (λ before words. Leads a b (stores_to_set geo run before) before words) (LeadsSet a b geo run) writes
    (λ before words fits by. record { by = by; has = has_set geo run before words (subst (λ (w : List ℕ). IsTurned Set geo run before w) by.leads (run_turned Set geo run before (fit_long a geo before is fits) is_run)) })

pub clears_run : (a b : MemSeen) (geo : Geo) (run : Run) → a.setting.geo ≡ geo → IsRunIn geo run → WritesEach a b (stores_to_clear geo run) → Clears a b geo run
clears_run a b geo run is is_run writes =
    changes_as a b (λ before words. Leads a b (stores_to_clear geo run before) before words) (LeadsCleared a b geo run) writes
    (λ before words fits by. record { by = by; has = has_cleared geo run before words (subst (λ (w : List ℕ). IsTurned Clear geo run before w) by.leads (run_turned Clear geo run before (fit_long a geo before is fits) is_run)) })
