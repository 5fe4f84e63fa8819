-- What a text of numbers begins with, and how it goes on.
use Rattle.std.specs.Prelude.{MatchOption, Option, codes, decimal}
use Rattle.std.proofs.Common.{◌≡◌, ◌∙◌, ◌++◌, ◌∷◌, ℕ, List, Bor, append_assoc, arith, refl, sym}
use Rattle.std.proofs.lemmas.Fmt.{decimal_injective}
use Rattle.std.proofs.lemmas.Str.Pattern.{IsSplitOnceResult, split_after}
use Rattle.cm_command.specs.declared.numbers.Numbers.{Numbers}
use Rattle.cm_command.specs.Numbers.{AreInRange, AreNumbersOf, numbers_text}
use Rattle.cm_command.proofs.Parts.{apart, no-comma}
use Rattle.cm_command.specs.Texts.{BeginsWith, BeginsWithNone, HasNoNumbers, IsNoNumberTo, IsNumberTo}

-- the text is cut behind the number that it begins with
pub begins_cut : (text : List ℕ) (number : ℕ) (rest : List ℕ) (r : Option (Bor (List ℕ) × Bor (List ℕ))) → IsSplitOnceResult 44 text r → BeginsWith text number rest
    → MatchOption r ⊥ (λ x. (x.0.now ≡ decimal number) × (x.1.now ≡ rest))
begins_cut text number rest r split begins =
    split_after 44 text (decimal number) rest r split (omega arith) (begins.1 ∙ append_assoc (decimal number) (codes ",") rest) (no-comma number (omega (arith, begins.0)))

-- a text begins with one number, and has one rest
begins_same : (text : List ℕ) (number other : ℕ) (rest others : List ℕ) → BeginsWith text number rest → BeginsWith text other others → (number ≡ other) × (rest ≡ others)
begins_same text number other rest others one two =
    let texts : decimal number ++ (44 ∷ rest) ≡ decimal other ++ (44 ∷ others) =
    sym (one.1 ∙ append_assoc (decimal number) (codes ",") rest) ∙ two.1 ∙ append_assoc (decimal other) (codes ",") others in
    let parts = apart 44 (decimal number) (decimal other) rest others (no-comma number (omega (arith, one.0))) (no-comma other (omega (arith, two.0))) texts in
    (decimal_injective number other (omega (arith, one.0)) (omega (arith, two.0)) parts.0, parts.1)

-- what stands behind the first number, and behind the next ones
abbrev pub behind_three : Numbers → List ℕ
behind_three n = decimal n.chunk_words ++ codes "," ++ decimal n.extra

abbrev pub behind_two : Numbers → List ℕ
behind_two n = decimal n.chunks ++ codes "," ++ behind_three n

abbrev pub behind_one : Numbers → List ℕ
behind_one n = decimal n.tiers ++ codes "," ++ behind_two n

regrouped : (s t k w e comma : List ℕ) → s ++ comma ++ t ++ comma ++ k ++ comma ++ w ++ comma ++ e ≡ s ++ comma ++ (t ++ comma ++ (k ++ comma ++ (w ++ comma ++ e)))
regrouped s t k w e comma = simp append_assoc refl

pub first_of_five : (n : Numbers) → numbers_text n ≡ decimal n.segments ++ codes "," ++ behind_one n
first_of_five n = regrouped (decimal n.segments) (decimal n.tiers) (decimal n.chunks) (decimal n.chunk_words) (decimal n.extra) (codes ",")

-- each rest is that of the numbers whose text it is
rest_one : (text : List ℕ) (s : ℕ) (r : List ℕ) (n : Numbers) → BeginsWith text s r → AreNumbersOf text n → r ≡ behind_one n
rest_one text s r n begins are = (begins_same text s n.segments r (behind_one n) begins (are.1.segments, are.0 ∙ first_of_five n)).1

rest_two : (r : List ℕ) (t : ℕ) (r2 : List ℕ) (n : Numbers) → BeginsWith r t r2 → AreInRange n → r ≡ behind_one n → r2 ≡ behind_two n
rest_two r t r2 n begins range is = (begins_same r t n.tiers r2 (behind_two n) begins (range.tiers, is)).1

rest_three : (r : List ℕ) (k : ℕ) (r3 : List ℕ) (n : Numbers) → BeginsWith r k r3 → AreInRange n → r ≡ behind_two n → r3 ≡ behind_three n
rest_three r k r3 n begins range is = (begins_same r k n.chunks r3 (behind_three n) begins (range.chunks, is)).1

rest_four : (r : List ℕ) (w : ℕ) (r4 : List ℕ) (n : Numbers) → BeginsWith r w r4 → AreInRange n → r ≡ behind_three n → r4 ≡ decimal n.extra
rest_four r w r4 n begins range is = (begins_same r w n.chunk_words r4 (decimal n.extra) begins (range.chunk_words, is)).1

-- a text of five numbers is read to its end
pub no_first : (text : List ℕ) → BeginsWithNone text → HasNoNumbers text
no_first text none = λ n are. none n.segments (behind_one n) (are.1.segments, are.0 ∙ first_of_five n)

pub no_second : (text r : List ℕ) (s : ℕ) → BeginsWith text s r → BeginsWithNone r → HasNoNumbers text
no_second text r s one none = λ n are. none n.tiers (behind_two n) (are.1.tiers, rest_one text s r n one are)

pub no_third : (text r r2 : List ℕ) (s t : ℕ) → BeginsWith text s r → BeginsWith r t r2 → BeginsWithNone r2 → HasNoNumbers text
no_third text r r2 s t one two none = λ n are. none n.chunks (behind_three n) (are.1.chunks, rest_two r t r2 n two are.1 (rest_one text s r n one are))

pub no_fourth : (text r r2 r3 : List ℕ) (s t k : ℕ) → BeginsWith text s r → BeginsWith r t r2 → BeginsWith r2 k r3 → BeginsWithNone r3 → HasNoNumbers text
no_fourth text r r2 r3 s t k one two three none = λ n are.
    none n.chunk_words (decimal n.extra) (are.1.chunk_words, rest_three r2 k r3 n three are.1 (rest_two r t r2 n two are.1 (rest_one text s r n one are)))

pub no_fifth : (text r r2 r3 r4 : List ℕ) (s t k w : ℕ) → BeginsWith text s r → BeginsWith r t r2 → BeginsWith r2 k r3 → BeginsWith r3 w r4 → IsNoNumberTo 4294967295 r4 → HasNoNumbers text
no_fifth text r r2 r3 r4 s t k w one two three four none = λ n are.
    none n.extra (omega (arith, are.1.extra), rest_four r3 w r4 n four are.1 (rest_three r2 k r3 n three are.1 (rest_two r t r2 n two are.1 (rest_one text s r n one are))))

-- what was read to the end is a text of five numbers
pub all_five : (text r r2 r3 r4 : List ℕ) (s t k w e : ℕ) → BeginsWith text s r → BeginsWith r t r2 → BeginsWith r2 k r3 → BeginsWith r3 w r4 → IsNumberTo 4294967295 r4 e
    → AreNumbersOf text (record { segments = s; tiers = t; chunks = k; chunk_words = w; extra = e })
all_five text r r2 r3 r4 s t k w e one two three four five =
    let n : Numbers = record { segments = s; tiers = t; chunks = k; chunk_words = w; extra = e } in (
      rw (one.1, two.1, three.1, four.1, five.1) (sym (first_of_five n)),
      record { segments = one.0; tiers = two.0; chunks = three.0; chunk_words = four.0; extra = omega (arith, five.0) },
    )

-- a text is of one list of numbers
same_parts : (n m : Numbers) → n.segments ≡ m.segments → n.tiers ≡ m.tiers → n.chunks ≡ m.chunks → n.chunk_words ≡ m.chunk_words → n.extra ≡ m.extra → n ≡ m
same_parts n m s t k w e =
    let made : ℕ → ℕ → ℕ → ℕ → ℕ → Numbers = λ a b c d f. record { segments = a; tiers = b; chunks = c; chunk_words = d; extra = f } in
    let same : made n.segments n.tiers n.chunks n.chunk_words n.extra ≡ made m.segments m.tiers m.chunks m.chunk_words m.extra = rw (s, t, k, w, e) refl in
    same

pub same_numbers : (text : List ℕ) (n m : Numbers) → AreNumbersOf text n → AreNumbersOf text m → n ≡ m
same_numbers text n m one two =
    let a = begins_same text n.segments m.segments (behind_one n) (behind_one m) (one.1.segments, one.0 ∙ first_of_five n) (two.1.segments, two.0 ∙ first_of_five m) in
    let b = begins_same (behind_one n) n.tiers m.tiers (behind_two n) (behind_two m) (one.1.tiers, refl) (two.1.tiers, a.1) in
    let c = begins_same (behind_two n) n.chunks m.chunks (behind_three n) (behind_three m) (one.1.chunks, refl) (two.1.chunks, b.1) in
    let d = begins_same (behind_three n) n.chunk_words m.chunk_words (decimal n.extra) (decimal m.extra) (one.1.chunk_words, refl) (two.1.chunk_words, c.1) in
    same_parts n m a.0 b.0 c.0 d.0 (decimal_injective n.extra m.extra (omega (arith, one.1.extra)) (omega (arith, two.1.extra)) d.1)
