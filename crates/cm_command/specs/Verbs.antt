-- Commands by their names alone (own).
use Rattle.std.specs.Prelude.{ℕ, ◌≡◌, ◌^◌, ◌<◌, ◌≤◌, false, List, [], ◌∷◌, codes, decimal}
use Rattle.cm_command.specs.declared.command.Command.{Command}
use Rattle.cm_command.specs.declared.command.Command.TheVariants as command
use Rattle.cm_command.specs.declared.limits.TheConstants.{MAX_RECORDS}
use Rattle.cm_command.specs.declared.verb.Verb.{Verb}
use Rattle.cm_command.specs.declared.verb.Verb.TheVariants as verb
use Rattle.cm_command.specs.Grammar.{AsksFor, IsValue}
use Rattle.cm_command.specs.Texts.{GoOn}

-- the name as it is written
abbrev pub verb_text : Verb → List ℕ
verb_text verb.Run = codes "run"
verb_text verb.Make = codes "make"
verb_text verb.Check = codes "check"
verb_text verb.Print = codes "print"
verb_text verb.Recover = codes "recover"

-- the name of a command
abbrev pub verb_of : Command → Verb
verb_of (command.Run from save kills) = verb.Run
verb_of (command.Make records seed) = verb.Make
verb_of (command.Check name) = verb.Check
verb_of (command.Print name) = verb.Print
verb_of (command.Recover name renewed) = verb.Recover

-- the words ask for a command of this name
pub record AsksBy (words : List (List ℕ)) (name : Verb) : Type 0 where
  pub asked : Command
  pub asks : AsksFor words asked
  pub name_is : verb_of asked ≡ name

-- the words are one name
pub record IsOneName (words : List (List ℕ)) : Type 0 where
  pub name : List ℕ
  pub words_are : words ≡ name ∷ []
  pub is_value : IsValue name

-- two names
pub record AreTwoNames (words : List (List ℕ)) : Type 0 where
  pub name : List ℕ
  pub renewed : List ℕ
  pub words_are : words ≡ name ∷ renewed ∷ []
  pub is_value : IsValue name
  pub is_value_too : IsValue renewed

-- a number of records and a seed
pub record AreTwoNumbers (words : List (List ℕ)) : Type 0 where
  pub records : ℕ
  pub seed : ℕ
  pub words_are : words ≡ decimal records ∷ decimal seed ∷ []
  pub records_fit : records ≤ MAX_RECORDS
  pub seed_fits : seed < 2 ^ 64

-- the words may stand behind a command's name
abbrev pub MayStandBehind : Verb → List (List ℕ) → Type 0
MayStandBehind verb.Run words = GoOn words false false
MayStandBehind verb.Make words = AreTwoNumbers words
MayStandBehind verb.Check words = IsOneName words
MayStandBehind verb.Print words = IsOneName words
MayStandBehind verb.Recover words = AreTwoNames words
