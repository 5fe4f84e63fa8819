-- Lists of texts of kills.
use Rattle.std.specs.Prelude.{All, MatchBool, MatchOption, None, Option, Some, map}
use Rattle.std.specs.Option.{IsSome}
use Rattle.std.proofs.Common.{◌≡◌, ◌∙◌, ◌+◌, ◌-◌, ◌<◌, ◌≤◌, ◌++◌, [], ◌∷◌, ℕ, zero, suc, List, length, get_or, take, drop, Bool, true, false, Bor, ap, arith, refl, subst, sym}
use Rattle.std.proofs.lemmas.List.Elements.{All-cons, All-head, All-nil, All-push, All-tail}
use Rattle.std.proofs.lemmas.List.{get_or-map, length-map, map-append, take_all, take_more}
use Rattle.cm_command.specs.declared.kill.Kill.{Kill}
use Rattle.cm_command.specs.Kills.{AreKills, AreOfOthers, IsKill, kill_text}
use Rattle.cm_command.specs.Texts.{AreAllKills, IsKillOf, IsOfNoKill, IsOfNoKillBy}
use Rattle.cm_command.proofs.ReadKills.{same-kill}

-- a list with one word at least is its first word and the rest
pub first-and-rest : (words : List (List ℕ)) (first default : List ℕ) → 1 ≤ length words → first ≡ get_or words 0 default → words ≡ first ∷ take (length words - 1) (drop 1 words)
first-and-rest [] first default some is = absurd (omega (arith, some))
first-and-rest (word ∷ words) first default some is =
    let count : length (word ∷ words) - 1 ≡ length words = omega arith in
    rw (count, take_all (length words) words (omega arith), is) refl

-- kills of others have no text of a kill of this caller
texts-of-others : (caller : ℕ) (kills : List Kill) → AreKills kills → AreOfOthers caller kills → All (IsOfNoKillBy caller) (map kill_text kills)
texts-of-others caller [] are others = All-nil (IsOfNoKillBy caller)
texts-of-others caller (kill ∷ kills) are others =
    All-cons (IsOfNoKillBy caller) (kill_text kill) (map kill_text kills)
    (λ other is by. others.0 (ap (λ (k : Kill). k.caller) (same-kill kill other are.0 is.0 is.1) ∙ by))
    (texts-of-others caller kills are.2 others.1)

-- and the other way round
of-others : (caller : ℕ) (kills : List Kill) → AreKills kills → All (IsOfNoKillBy caller) (map kill_text kills) → AreOfOthers caller kills
of-others caller [] are none = tt
of-others caller (kill ∷ kills) are none = (
  All-head (IsOfNoKillBy caller) (kill_text kill) (map kill_text kills) none kill (are.0, refl),
  of-others caller kills are.2 (All-tail (IsOfNoKillBy caller) (kill_text kill) (map kill_text kills) none),
)

-- a word that is no kill is not among kills
pub first-is-none : (first : List ℕ) (rest : List (List ℕ)) → IsOfNoKill first → AreAllKills (first ∷ rest) → ⊥
first-is-none first rest none ([], are, e) = cc e
first-is-none first rest none (kill ∷ kills, are, e) = let is : first ≡ kill_text kill = cc e in none kill (are.0, is)

-- behind a kill stands no other of its caller
pub second-by-caller : (first : List ℕ) (rest : List (List ℕ)) (kill : Kill) → IsKillOf first kill → (All (IsOfNoKillBy kill.caller) rest → ⊥) → AreAllKills (first ∷ rest) → ⊥
second-by-caller first rest kill is more ([], are, e) = cc e
second-by-caller first rest kill is more (other ∷ kills, are, e) =
    let here : first ≡ kill_text other = cc e in
    let tails : rest ≡ map kill_text kills = cc e in
    let same : other ≡ kill = same-kill other kill are.0 is.0 (sym here ∙ is.1) in
    let others : AreOfOthers kill.caller kills = subst (λ (k : Kill). AreOfOthers k.caller kills) same are.1 in
    more (subst (All (IsOfNoKillBy kill.caller)) (sym tails) (texts-of-others kill.caller kills are.2 others))

-- with no other of its caller, the first kill goes before kills
pub goes-before : (first : List ℕ) (rest : List (List ℕ)) (kill : Kill) (b : Bool) → IsKillOf first kill → All (IsOfNoKillBy kill.caller) rest
    → MatchBool b (AreAllKills rest) (AreAllKills rest → ⊥) → MatchBool b (AreAllKills (first ∷ rest)) (AreAllKills (first ∷ rest) → ⊥)
goes-before first rest kill true is none (kills, are, e) =
    let others : AreOfOthers kill.caller kills = of-others kill.caller kills are (subst (All (IsOfNoKillBy kill.caller)) e none) in
    let words : first ∷ rest ≡ kill_text kill ∷ map kill_text kills = rw (is.1, e) refl in
    (kill ∷ kills, (is.0, others, are), words)
goes-before first rest kill false is none not_kills = λ all. not-behind all
  where
    not-behind : AreAllKills (first ∷ rest) → ⊥
    not-behind ([], are, e) = cc e
    not-behind (other ∷ kills, are, e) = let tails : rest ≡ map kill_text kills = cc e in not_kills (kills, are.2, tails)

-- each word of kills is a kill's
pub word-of-kill : (words : List (List ℕ)) (i : ℕ) (default : List ℕ) → AreAllKills words → i < length words → IsOfNoKill (get_or words i default) → ⊥
word-of-kill words i default (kills, are, e) inside none = in-kills kills i are (subst (λ (all : List (List ℕ)). i < length all) e inside) (subst (λ (all : List (List ℕ)). IsOfNoKill (get_or all i default)) e none)
  where
    in-kills : (kills : List Kill) (i : ℕ) → AreKills kills → i < length (map kill_text kills) → IsOfNoKill (get_or (map kill_text kills) i default) → ⊥
    in-kills [] i are inside none = omega (arith, inside)
    in-kills (kill ∷ kills) zero are inside none = none kill (are.0, refl)
    in-kills (kill ∷ kills) (suc i) are inside none = in-kills kills i are.2 (omega (arith, inside)) none

-- texts are of one list of kills
same-kills : (kills others : List Kill) → All IsKill kills → AreKills others → map kill_text kills ≡ map kill_text others → kills ≡ others
same-kills [] [] each are e = refl
same-kills [] (other ∷ others) each are e = cc e
same-kills (kill ∷ kills) [] each are e = cc e
same-kills (kill ∷ kills) (other ∷ others) each are e =
    let heads : kill_text kill ≡ kill_text other = cc e in
    let tails : map kill_text kills ≡ map kill_text others = cc e in
    let first : kill ≡ other = same-kill kill other (All-head IsKill kill kills each) are.0 heads in
    rw (first, same-kills kills others (All-tail IsKill kill kills each) are.2 tails) refl

-- the kills of texts that are all kills are kills
pub kills-are : (texts : List (List ℕ)) (kills : List Kill) → AreAllKills texts → All IsKill kills → texts ≡ map kill_text kills → AreKills kills
kills-are texts kills (others, are, e) each is = subst AreKills (sym (same-kills kills others each are (sym is ∙ e))) are

-- these are the kills of these texts
abbrev pub KillsOf : List (Bor (List ℕ)) → List Kill → Type 0
KillsOf texts kills = (map (λ text. text.now) texts ≡ map kill_text kills) × All IsKill kills

-- one more text, and its kill
pub one-more : (texts : List (Bor (List ℕ))) (i : ℕ) (default : Bor (List ℕ)) (kills : List Kill) (kill : Kill) → i < length texts → IsKillOf (get_or texts i default).now kill
    → KillsOf (take i texts) kills → KillsOf (take (i + 1) texts) (kills ++ kill ∷ [])
one-more texts i default kills kill inside is (same, each) = (
  rw (take_more texts i default inside) (map-append (λ (text : Bor (List ℕ)). text.now) (take i texts) (get_or texts i default ∷ []) ∙ rw (same, is.1) (sym (map-append kill_text kills (kill ∷ [])))),
  All-push IsKill kills kill each is.0,
)

-- each text has a kill
pub some-kill : (texts : List (Bor (List ℕ))) (i : ℕ) (default : Bor (List ℕ)) (found : Option Kill) → AreAllKills (map (λ text. text.now) texts) → i < length texts
    → MatchOption found (IsOfNoKill (get_or texts i default).now) (IsKillOf (get_or texts i default).now) → IsSome found
some-kill texts i default None all inside none =
    let now : Bor (List ℕ) → List ℕ = λ text. text.now in
    let same : get_or (map now texts) i default.now ≡ (get_or texts i default).now = get_or-map now texts i default default.now inside in
    absurd (word-of-kill (map now texts) i default.now all (rw (length-map texts now) inside) (rw same none))
some-kill texts i default (Some kill) all inside is = refl

-- all texts have had their kills
pub all-done : (texts : List (Bor (List ℕ))) (i : ℕ) (kills : List Kill) → AreAllKills (map (λ text. text.now) texts) → length texts ≤ i → KillsOf (take i texts) kills → AreKills kills
all-done texts i kills all done (same, each) = kills-are (map (λ text. text.now) texts) kills all each (ap (map (λ (text : Bor (List ℕ)). text.now)) (sym (take_all i texts done)) ∙ same)
