-- What a text of a kill is made of.
use Rattle.std.specs.Prelude.{MatchBool, MatchOption, Option, codes, decimal, nat_eq}
use Rattle.std.proofs.Common.{◌≡◌, ◌≢◌, ◌∙◌, ◌++◌, [], ◌∷◌, ℕ, List, get_or, zero, suc, Bool, true, false, Bor, ap, append_assoc, arith, refl, sym}
use Rattle.std.proofs.lemmas.Bool.{eqb-false, eqb-true}
use Rattle.std.proofs.lemmas.Fmt.{decimal_injective}
use Rattle.std.proofs.lemmas.Str.Pattern.{IsSplitOnceResult, split_after}
use Rattle.cm_command.specs.declared.kill.Kill.{Kill}
use Rattle.cm_command.specs.declared.kill.KillKind.{KillKind}
use Rattle.cm_command.specs.declared.kill.KillKind.TheVariants as kind
use Rattle.cm_command.specs.Grammar.{IsValue}
use Rattle.cm_command.specs.Kills.{IsKill, kill_text, kind_text}
use Rattle.cm_command.specs.Texts.{IsKillOf, IsOfNoKillBy}
use Rattle.cm_command.proofs.Parts.{HasNo, apart, digit-first, no-colon}

-- what stands behind the caller
abbrev pub behind_caller : Kill → List ℕ
behind_caller kill = kind_text kill.kind ++ (58 ∷ decimal kill.after)

regrouped : (c k a colon : List ℕ) → c ++ colon ++ k ++ colon ++ a ≡ c ++ (colon ++ (k ++ (colon ++ a)))
regrouped c k a colon = simp append_assoc refl

pub shape : (kill : Kill) → kill_text kill ≡ decimal kill.caller ++ (58 ∷ behind_caller kill)
shape kill = regrouped (decimal kill.caller) (kind_text kill.kind) (decimal kill.after) (codes ":")

kind-no-colon : (k : KillKind) → HasNo 58 (kind_text k)
kind-no-colon kind.Stores zero inside = λ e. omega (arith, e)
kind-no-colon kind.Stores (suc zero) inside = λ e. omega (arith, e)
kind-no-colon kind.Stores (suc (suc zero)) inside = λ e. omega (arith, e)
kind-no-colon kind.Stores (suc (suc (suc zero))) inside = λ e. omega (arith, e)
kind-no-colon kind.Stores (suc (suc (suc (suc zero)))) inside = λ e. omega (arith, e)
kind-no-colon kind.Stores (suc (suc (suc (suc (suc zero))))) inside = λ e. omega (arith, e)
kind-no-colon kind.Stores (suc (suc (suc (suc (suc (suc i)))))) inside = absurd (omega (arith, inside))
kind-no-colon kind.Events zero inside = λ e. omega (arith, e)
kind-no-colon kind.Events (suc zero) inside = λ e. omega (arith, e)
kind-no-colon kind.Events (suc (suc zero)) inside = λ e. omega (arith, e)
kind-no-colon kind.Events (suc (suc (suc zero))) inside = λ e. omega (arith, e)
kind-no-colon kind.Events (suc (suc (suc (suc zero)))) inside = λ e. omega (arith, e)
kind-no-colon kind.Events (suc (suc (suc (suc (suc zero))))) inside = λ e. omega (arith, e)
kind-no-colon kind.Events (suc (suc (suc (suc (suc (suc i)))))) inside = absurd (omega (arith, inside))

-- the text of a kill is cut behind the caller
pub cut-caller : (text : List ℕ) (kill : Kill) (r : Option (Bor (List ℕ) × Bor (List ℕ))) → IsSplitOnceResult 58 text r → IsKillOf text kill
    → MatchOption r ⊥ (λ x. (x.0.now ≡ decimal kill.caller) × (x.1.now ≡ behind_caller kill))
cut-caller text kill r split is =
    split_after 58 text (decimal kill.caller) (behind_caller kill) r split (omega arith) (is.1 ∙ shape kill) (no-colon kill.caller (omega (arith, is.0.caller)))

-- and then behind the kind
pub cut-kind : (text : List ℕ) (kill : Kill) (r : Option (Bor (List ℕ) × Bor (List ℕ))) → IsSplitOnceResult 58 text r → text ≡ behind_caller kill
    → MatchOption r ⊥ (λ x. (x.0.now ≡ kind_text kill.kind) × (x.1.now ≡ decimal kill.after))
cut-kind text kill r split is = split_after 58 text (kind_text kill.kind) (decimal kill.after) r split (omega arith) is (kind-no-colon kill.kind)

-- the words for two kinds begin differently
abbrev first_byte : List ℕ → ℕ
first_byte text = get_or text 0 0

same-kind : (k j : KillKind) → kind_text k ≡ kind_text j → k ≡ j
same-kind kind.Stores kind.Stores e = refl
same-kind kind.Stores kind.Events e = let clash : first_byte (codes "stores") ≡ first_byte (codes "events") = ap first_byte e in absurd (omega (arith, clash))
same-kind kind.Events kind.Stores e = let clash : first_byte (codes "events") ≡ first_byte (codes "stores") = ap first_byte e in absurd (omega (arith, clash))
same-kind kind.Events kind.Events e = refl

-- a text is of one kill
pub same-kill : (kill other : Kill) → IsKill kill → IsKill other → kill_text kill ≡ kill_text other → kill ≡ other
same-kill kill other one two e =
    let first = apart 58 (decimal kill.caller) (decimal other.caller) (behind_caller kill) (behind_caller other)
    (no-colon kill.caller (omega (arith, one.caller))) (no-colon other.caller (omega (arith, two.caller))) (sym (shape kill) ∙ e ∙ shape other) in
    let second = apart 58 (kind_text kill.kind) (kind_text other.kind) (decimal kill.after) (decimal other.after) (kind-no-colon kill.kind) (kind-no-colon other.kind) first.1 in
    let callers : kill.caller ≡ other.caller = decimal_injective kill.caller other.caller (omega (arith, one.caller)) (omega (arith, two.caller)) first.0 in
    let afters : kill.after ≡ other.after = decimal_injective kill.after other.after (omega (arith, one.after)) (omega (arith, two.after)) second.1 in
    let made : ℕ → KillKind → ℕ → Kill = λ c k a. record { caller = c; kind = k; after = a } in
    let same : made kill.caller kill.kind kill.after ≡ made other.caller other.kind other.after = rw (callers, same-kind kill.kind other.kind second.0, afters) refl in
    same

-- a text of a kill is a value
value-from : (text rest : List ℕ) → ((first : ℕ) (others : List ℕ) → text ≡ first ∷ others → first ≢ 45) → IsValue (text ++ (58 ∷ rest))
value-from [] rest f = λ e. omega (arith, e)
value-from (x ∷ xs) rest f = f x xs refl

pub kill-is-value : (kill : Kill) → IsKill kill → IsValue (kill_text kill)
kill-is-value kill is = rw (shape kill) (value-from (decimal kill.caller) (behind_caller kill) (λ first others e. digit-first kill.caller first others (omega (arith, is.caller)) e))

-- whether the kill of a text is of a caller
pub by-caller : (caller : ℕ) (text : List ℕ) (kill : Kill) (b : Bool) → IsKillOf text kill → nat_eq kill.caller caller ≡ b → MatchBool b (IsOfNoKillBy caller text → ⊥) (IsOfNoKillBy caller text)
by-caller caller text kill true is e = λ none. none kill is (eqb-true kill.caller caller e)
by-caller caller text kill false is e = λ other other_is same.
    let kills : kill ≡ other = same-kill kill other is.0 other_is.0 (sym is.1 ∙ other_is.1) in
    eqb-false kill.caller caller e (ap (λ (k : Kill). k.caller) kills ∙ same)
