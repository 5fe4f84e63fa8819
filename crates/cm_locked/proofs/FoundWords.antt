-- What a round found last.
use Rattle.std.proofs.Common.{◌≡◌, ℕ, List, ◌∷◌, Option, Some, ap, subst, arith}
use Rattle.cm_plain.specs.Slots.{word_at}
use Rattle.cm_words.specs.declared.peek.FoundWord.{FoundWord}
use Rattle.cm_words.specs.Peeks.{HasFound}
use Rattle.cm_lock.specs.declared.view.Round.{Round}
use Rattle.cm_lock.specs.Rounds.{found_in}

pub newest_found : (at word : ℕ) (others : List FoundWord) (first : ℕ) (round : Round) (words : List ℕ)
    → Some round ≡ Some (record { first = first; found = record { at = at; word = word } ∷ others }) → HasFound words round.found → word_at words at ≡ word
newest_found at word others first round words e found =
    let same : round.found ≡ record { at = at; word = word } ∷ others = ap (λ (o : Option Round). found_in o) e in
    subst (HasFound words) same found 0 (record { at = at; word = word }) (omega arith)
