-- What callers in the tests need of a segment's words, and have at their end.
use Rattle.std.proofs.Common.{◌≡◌, ℕ, suc, ◌<◌, List, [], ◌∷◌, ◌++◌, All, Any, Option, Some, length, refl, sym, ap, ◌∙◌, subst, arith}
use Rattle.std.proofs.lemmas.List.Elements.{All-cons, All-nil}
use Rattle.cm_geo.specs.declared.geo.Geo.{Geo}
use Rattle.cm_geo.specs.Addresses.{words_in_segment}
use Rattle.cm_words.specs.Peeks.{HasFound}
use Rattle.cm_plain.specs.States.{State}
use Rattle.cm_plain.specs.Lawful.{Resting}
use Rattle.cm_plain.specs.Slots.{word_at}
use Rattle.cm_plain.proofs.OutsideHead.{resting_represents}
use Rattle.cm_lock.specs.declared.view.HeldLevel.{HeldLevel}
use Rattle.cm_lock.specs.declared.view.View.{View}
use Rattle.cm_lock.specs.declared.view.Round.{Round}
use Rattle.cm_lock.specs.Rounds.{found_in}
use Rattle.cm_lock.specs.Seats.{AllJoined}

-- a segment has a number of entries
pub count_inside : (geo : Geo) → 2 < words_in_segment geo
unfolding words_in_segment
count_inside geo = omega arith

-- which words that rest for a state say
pub count_is : (geo : Geo) (segment : ℕ) (words : List ℕ) (state : State) → Resting geo segment words state → word_at words 2 ≡ length state.entries
count_is geo segment words state rests = (resting_represents geo segment words state rests).count

-- the numbers that a root noted are those of the seats
pub four_numbers : (a b c d : ℕ) → a ≡ 0 → b ≡ 1 → c ≡ 2 → d ≡ 3 → 3 ∷ 2 ∷ 1 ∷ 0 ∷ [] ≡ d ∷ c ∷ b ∷ a ∷ []
four_numbers a b c d ea eb ec ed =
    ap (λ (n : ℕ). n ∷ 2 ∷ 1 ∷ 0 ∷ []) (sym ed) ∙ (ap (λ (n : ℕ). d ∷ n ∷ 1 ∷ 0 ∷ []) (sym ec) ∙ (ap (λ (n : ℕ). d ∷ c ∷ n ∷ 0 ∷ []) (sym eb) ∙ ap (λ (n : ℕ). d ∷ c ∷ b ∷ n ∷ []) (sym ea)))

-- a round that found one word alone
pub one_found : (at word first : ℕ) (round : Round) (words : List ℕ) → Some round ≡ Some (record { first = first; found = record { at = at; word = word } ∷ [] }) → HasFound words round.found → word_at words at ≡ word
one_found at word first round words e found =
    let same : round.found ≡ record { at = at; word = word } ∷ [] = ap (λ (o : Option Round). found_in o) e in
    subst (HasFound words) same found 0 (record { at = at; word = word }) (omega arith)

-- a root that made four seats and joined all
pub four_joined : (a b c d : HeldLevel) (is bs cs ds rest : List HeldLevel) (v : View) → v.made ≡ d.number ∷ c.number ∷ b.number ∷ a.number ∷ [] → v.inherited ≡ a ∷ (is ++ b ∷ (bs ++ c ∷ (cs ++ d ∷ (ds ++ rest)))) → AllJoined v
four_joined a b c d is bs cs ds rest v made inherited =
    let all : List HeldLevel = a ∷ (is ++ b ∷ (bs ++ c ∷ (cs ++ d ∷ (ds ++ rest)))) in
    let P : ℕ → Type 0 = λ n. Any (λ (h : HeldLevel). h.number ≡ n) all in
    let at_d : P d.number = later a _ d.number (behind is _ d.number (later b _ d.number (behind bs _ d.number (later c _ d.number (behind cs _ d.number (here d _)))))) in
    let at_c : P c.number = later a _ c.number (behind is _ c.number (later b _ c.number (behind bs _ c.number (here c _)))) in
    let at_b : P b.number = later a _ b.number (behind is _ b.number (here b _)) in
    let each : All P (d.number ∷ c.number ∷ b.number ∷ a.number ∷ []) =
    All-cons P d.number (c.number ∷ b.number ∷ a.number ∷ []) at_d (
    All-cons P c.number (b.number ∷ a.number ∷ []) at_c (
    All-cons P b.number (a.number ∷ []) at_b (
    All-cons P a.number [] (here a _) (All-nil P)))) in
    subst (λ (hs : List HeldLevel). All (λ n. Any (λ (h : HeldLevel). h.number ≡ n) hs) v.made) (sym inherited) (subst (All P) (sym made) each)
  where
    here : (h : HeldLevel) (hs : List HeldLevel) → Any (λ (k : HeldLevel). k.number ≡ h.number) (h ∷ hs)
    here h hs = (0, h, omega arith, refl, refl)

    later : (h : HeldLevel) (hs : List HeldLevel) (n : ℕ) → Any (λ (k : HeldLevel). k.number ≡ n) hs → Any (λ (k : HeldLevel). k.number ≡ n) (h ∷ hs)
    later h hs n any = (suc any.0, any.1, (let less = any.2 in omega arith), any.3, any.4)

    behind : (gs hs : List HeldLevel) (n : ℕ) → Any (λ (k : HeldLevel). k.number ≡ n) hs → Any (λ (k : HeldLevel). k.number ≡ n) (gs ++ hs)
    behind [] hs n any = any
    behind (g ∷ gs) hs n any = later g (gs ++ hs) n (behind gs hs n any)
