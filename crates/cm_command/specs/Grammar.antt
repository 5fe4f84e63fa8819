-- The words of the command line, and the command that they ask for (own).
use Rattle.std.specs.Prelude.{ℕ, ◌≡◌, ◌≢◌, ◌^◌, ◌<◌, ◌≤◌, ◌++◌, Bool, true, false, if◌then◌else◌, List, [], ◌∷◌, map, flat_map, Option, Some, None, codes, decimal}
use Rattle.cm_command.specs.declared.command.Command.{Command}
use Rattle.cm_command.specs.declared.command.Command.TheVariants.{Run, Make, Check, Print, Recover}
use Rattle.cm_command.specs.declared.command.Origin.{Origin}
use Rattle.cm_command.specs.declared.command.Origin.TheVariants as origin
use Rattle.cm_command.specs.declared.kill.Kill.{Kill}
use Rattle.cm_command.specs.declared.limits.TheConstants.{MAX_RECORDS}
use Rattle.cm_command.specs.declared.option.RunOption.{RunOption}
use Rattle.cm_command.specs.declared.option.RunOption.TheVariants.{Geo, Image, Save}
use Rattle.cm_command.specs.Kills.{AreKills, kill_text}
use Rattle.cm_command.specs.Numbers.{AreNumbersOf, default_numbers}

-- a value or a positional word: it isn't empty, and doesn't begin with a hyphen (45)
abbrev pub IsValue : List ℕ → Type 0
IsValue [] = ⊥
IsValue (first ∷ rest) = first ≢ 45

-- the word that names an option of `run`
abbrev pub option_word : RunOption → List ℕ
option_word Geo = codes "--geo"
option_word Image = codes "--image"
option_word Save = codes "--save"

abbrev pub is_same_option : RunOption → RunOption → Bool
is_same_option Geo Geo = true
is_same_option Image Image = true
is_same_option Save Save = true
is_same_option _ _ = false

-- an option as it is given: which one, its value, and whether one word has both
pub record Given : Type 0 where
  pub option : RunOption
  pub value : List ℕ
  pub is_joined : Bool

-- the words that give it: `--name=VALUE`, or `--name VALUE`
abbrev pub words_of : Given → List (List ℕ)
words_of given = if given.is_joined then (option_word given.option ++ codes "=" ++ given.value) ∷ [] else option_word given.option ∷ given.value ∷ []

-- the value of an option, if it is given
abbrev pub value_of : RunOption → List Given → Option (List ℕ)
value_of option [] = None
value_of option (first ∷ rest) = if is_same_option first.option option then Some first.value else value_of option rest

-- each has a value, and no option is given twice
abbrev pub AreOptions : List Given → Type 0
AreOptions [] = Unit {0}
AreOptions (first ∷ rest) = IsValue first.value × (value_of first.option rest ≡ None) × AreOptions rest

-- where a run's first words come from, by the values of `--geo` and `--image`: not both are given
abbrev pub OriginIs : Option (List ℕ) → Option (List ℕ) → Origin → Type 0
OriginIs None None (origin.Numbers numbers) = numbers ≡ default_numbers
OriginIs (Some text) None (origin.Numbers numbers) = AreNumbersOf text numbers
OriginIs None (Some name) (origin.Image image) = image ≡ name
OriginIs _ _ _ = ⊥

-- `run`, options in any order, and then kills
pub record AsksForRun (words : List (List ℕ)) (from : Origin) (save : Option (List ℕ)) (kills : List Kill) : Type 0 where
  pub options : List Given
  pub words_are : words ≡ codes "run" ∷ flat_map words_of options ++ map kill_text kills
  pub are_options : AreOptions options
  pub are_kills : AreKills kills
  pub origin : OriginIs (value_of Geo options) (value_of Image options) from
  pub save_is : save ≡ value_of Save options

-- the words ask for this command
abbrev pub AsksFor : List (List ℕ) → Command → Type 0
AsksFor words (Run from save kills) = AsksForRun words from save kills
AsksFor words (Make records seed) = (words ≡ codes "make" ∷ decimal records ∷ decimal seed ∷ []) × (records ≤ MAX_RECORDS) × (seed < 2 ^ 64)
AsksFor words (Check name) = (words ≡ codes "check" ∷ name ∷ []) × IsValue name
AsksFor words (Print name) = (words ≡ codes "print" ∷ name ∷ []) × IsValue name
AsksFor words (Recover name renewed) = (words ≡ codes "recover" ∷ name ∷ renewed ∷ []) × IsValue name × IsValue renewed

-- they ask for none
abbrev pub AsksForNone : List (List ℕ) → Type 0
AsksForNone words = (command : Command) → AsksFor words command → ⊥

-- words ask for one command at most
abbrev pub AskForOne : Type 0
AskForOne = (words : List (List ℕ)) (command other : Command) → AsksFor words command → AsksFor words other → command ≡ other
