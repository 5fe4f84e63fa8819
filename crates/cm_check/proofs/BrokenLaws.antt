-- The laws one after the other.
use Rattle.std.proofs.Common.{◌≡◌, ℕ, List, [], ◌∷◌, ◌++◌, map, Result, Ok, Err, refl, sym, ap, subst, ◌∙◌, append_assoc}
use Rattle.std.proofs.lemmas.List.Concat.{flat_map-append}
use Rattle.cm_geo.specs.declared.geo.Geo.{Geo}
use Rattle.cm_check.specs.declared.law.Broken.{Broken}
use Rattle.cm_check.specs.declared.law.Law.{Law}
use Rattle.cm_check.specs.Findings.{Begins, NamesFirst}
use Rattle.cm_check.specs.LawOrder.{breaks_in, breaks_of, broken_at, count_laws, head_laws, slot_laws, words_broken}
use Rattle.cm_check.proofs.FirstFound.{append_none, begins_left, begins_right, mapped_none}

-- ---- an answer for one list, and then for the lists behind it

-- where the first is empty, the answer is that for the others
pub names_rest : {X T : Type 0} (xs ys : List X) (result : Result T X) → xs ≡ [] → NamesFirst ys result → NamesFirst (xs ++ ys) result
names_rest {X} {T} xs ys result none names = subst (λ (zs : List X). NamesFirst (zs ++ ys) result) (sym none) names

-- ---- laws of a segment

-- the first of some laws, and the others
pub breaks_more : (law : Law) (laws : List Law) (geo : Geo) (segment : ℕ) (words : List ℕ) → breaks_of (law ∷ laws) geo segment words ≡ map (broken_at segment law) (words_broken geo segment words law) ++ breaks_of laws geo segment words
unfolding breaks_of
breaks_more law laws geo segment words = refl

pub breaks_none : (geo : Geo) (segment : ℕ) (words : List ℕ) → breaks_of [] geo segment words ≡ []
unfolding breaks_of
breaks_none geo segment words = refl

-- those of two lists of laws
pub breaks_both : (some more : List Law) (geo : Geo) (segment : ℕ) (words : List ℕ) → breaks_of (some ++ more) geo segment words ≡ breaks_of some geo segment words ++ breaks_of more geo segment words
unfolding breaks_of
breaks_both some more geo segment words = flat_map-append (λ law. map (broken_at segment law) (words_broken geo segment words law)) some more

-- those of a segment
pub breaks_parts : (geo : Geo) (segment : ℕ) (words : List ℕ) → breaks_in geo segment words ≡ breaks_of head_laws geo segment words ++ (breaks_of slot_laws geo segment words ++ breaks_of count_laws geo segment words)
unfolding breaks_in
breaks_parts geo segment words =
    breaks_both (head_laws ++ slot_laws) count_laws geo segment words
    ∙ (ap (λ (xs : List Broken). xs ++ breaks_of count_laws geo segment words) (breaks_both head_laws slot_laws geo segment words)
    ∙ append_assoc (breaks_of head_laws geo segment words) (breaks_of slot_laws geo segment words) (breaks_of count_laws geo segment words))

-- a law that is broken, before the others
pub law_broken : (law : Law) (laws : List Law) (geo : Geo) (segment : ℕ) (words : List ℕ) (broken : Broken) → Begins (map (broken_at segment law) (words_broken geo segment words law)) broken → Begins (breaks_of (law ∷ laws) geo segment words) broken
law_broken law laws geo segment words broken begins =
    subst (λ (xs : List Broken). Begins xs broken) (sym (breaks_more law laws geo segment words)) (begins_left (map (broken_at segment law) (words_broken geo segment words law)) (breaks_of laws geo segment words) broken begins)

-- one that is kept, before the others
pub law_kept : (law : Law) (laws : List Law) (geo : Geo) (segment : ℕ) (words : List ℕ) (broken : Broken) → map (broken_at segment law) (words_broken geo segment words law) ≡ [] → Begins (breaks_of laws geo segment words) broken → Begins (breaks_of (law ∷ laws) geo segment words) broken
law_kept law laws geo segment words broken none begins =
    subst (λ (xs : List Broken). Begins xs broken) (sym (breaks_more law laws geo segment words)) (begins_right (map (broken_at segment law) (words_broken geo segment words law)) (breaks_of laws geo segment words) broken none begins)

-- the last one decides
pub law_last : (law : Law) (geo : Geo) (segment : ℕ) (words : List ℕ) (result : Result (Unit {0}) Broken) → NamesFirst (map (broken_at segment law) (words_broken geo segment words law)) result → NamesFirst (breaks_of (law ∷ []) geo segment words) result
law_last law geo segment words result names =
    subst (λ (xs : List Broken). NamesFirst xs result) (sym (breaks_more law [] geo segment words ∙ (ap (λ (xs : List Broken). map (broken_at segment law) (words_broken geo segment words law) ++ xs) (breaks_none geo segment words) ∙ append_none_right (map (broken_at segment law) (words_broken geo segment words law))))) names
  where
    append_none_right : (xs : List Broken) → xs ++ [] ≡ xs
    append_none_right [] = refl
    append_none_right (x ∷ xs) = ap (λ (ys : List Broken). x ∷ ys) (append_none_right xs)

-- where one is kept, the answer is that for the others
pub law_names : (law : Law) (laws : List Law) (geo : Geo) (segment : ℕ) (words : List ℕ) (result : Result (Unit {0}) Broken) → map (broken_at segment law) (words_broken geo segment words law) ≡ [] → NamesFirst (breaks_of laws geo segment words) result
    → NamesFirst (breaks_of (law ∷ laws) geo segment words) result
law_names law laws geo segment words result none names =
    subst (λ (xs : List Broken). NamesFirst xs result) (sym (breaks_more law laws geo segment words)) (names_rest (map (broken_at segment law) (words_broken geo segment words law)) (breaks_of laws geo segment words) result none names)

-- where no law of some is broken, each is kept
pub each_kept : (law : Law) (laws : List Law) (geo : Geo) (segment : ℕ) (words : List ℕ) → breaks_of (law ∷ laws) geo segment words ≡ [] → (words_broken geo segment words law ≡ []) × (breaks_of laws geo segment words ≡ [])
each_kept law laws geo segment words none =
    let both = append_none (map (broken_at segment law) (words_broken geo segment words law)) (breaks_of laws geo segment words) (sym (breaks_more law laws geo segment words) ∙ none) in
    (mapped_none (broken_at segment law) (words_broken geo segment words law) both.0, both.1)

-- and back
pub all_kept : (law : Law) (laws : List Law) (geo : Geo) (segment : ℕ) (words : List ℕ) → words_broken geo segment words law ≡ [] → breaks_of laws geo segment words ≡ [] → breaks_of (law ∷ laws) geo segment words ≡ []
all_kept law laws geo segment words one rest = breaks_more law laws geo segment words ∙ rw (one, rest) refl

-- ---- one answer, with its law

pub answer_err : (law : Law) (geo : Geo) (segment s : ℕ) (words : List ℕ) (named : Result (Unit {0}) Broken) (broken : Broken) → s ≡ segment → NamesFirst (map (broken_at s law) (words_broken geo segment words law)) named → named ≡ Err broken
    → Begins (map (broken_at segment law) (words_broken geo segment words law)) broken
answer_err law geo segment s words named broken e names is =
    let there : Begins (map (broken_at s law) (words_broken geo segment words law)) broken = subst (λ (r : Result (Unit {0}) Broken). NamesFirst (map (broken_at s law) (words_broken geo segment words law)) r) is names in
    subst (λ (n : ℕ). Begins (map (broken_at n law) (words_broken geo segment words law)) broken) e there

pub answer_ok : (law : Law) (geo : Geo) (segment s : ℕ) (words : List ℕ) (named : Result (Unit {0}) Broken) (done : Unit {0}) → s ≡ segment → NamesFirst (map (broken_at s law) (words_broken geo segment words law)) named → named ≡ Ok done
    → map (broken_at segment law) (words_broken geo segment words law) ≡ []
answer_ok law geo segment s words named done e names is =
    let there : map (broken_at s law) (words_broken geo segment words law) ≡ [] = subst (λ (r : Result (Unit {0}) Broken). NamesFirst (map (broken_at s law) (words_broken geo segment words law)) r) is names in
    subst (λ (n : ℕ). map (broken_at n law) (words_broken geo segment words law) ≡ []) e there

pub answer_last : (law : Law) (geo : Geo) (segment s : ℕ) (words : List ℕ) (named : Result (Unit {0}) Broken) → s ≡ segment → NamesFirst (map (broken_at s law) (words_broken geo segment words law)) named
    → NamesFirst (map (broken_at segment law) (words_broken geo segment words law)) named
answer_last law geo segment s words named e names = subst (λ (n : ℕ). NamesFirst (map (broken_at n law) (words_broken geo segment words law)) named) e names
