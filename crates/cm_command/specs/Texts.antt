-- What single words and the fronts of lists of words are, as the test of the words reads them (own).
use Rattle.std.specs.Prelude.{ℕ, ◌≡◌, ◌^◌, ◌<◌, ◌≤◌, ◌++◌, Bool, false, true, List, [], ◌∷◌, map, flat_map, Option, Some, None, codes, decimal}
use Rattle.cm_command.specs.declared.kill.Kill.{Kill}
use Rattle.cm_command.specs.declared.numbers.Numbers.{Numbers}
use Rattle.cm_command.specs.declared.option.RunOption.{RunOption}
use Rattle.cm_command.specs.declared.option.RunOption.TheVariants.{Geo, Image, Save}
use Rattle.cm_command.specs.Grammar.{Given, IsValue, option_word, words_of}
use Rattle.cm_command.specs.Kills.{AreKills, IsKill, kill_text}
use Rattle.cm_command.specs.Numbers.{AreNumbersOf}

-- the text of a number up to this limit
abbrev pub IsNumberTo : ℕ → List ℕ → ℕ → Type 0
IsNumberTo limit text number = (number ≤ limit) × (text ≡ decimal number)

-- of none
abbrev pub IsNoNumberTo : ℕ → List ℕ → Type 0
IsNoNumberTo limit text = (number : ℕ) → IsNumberTo limit text number → ⊥

-- the text begins with this number and a comma, and goes on with this rest
abbrev pub BeginsWith : List ℕ → ℕ → List ℕ → Type 0
BeginsWith text number rest = (number < 2 ^ 32) × (text ≡ decimal number ++ codes "," ++ rest)

-- with none
abbrev pub BeginsWithNone : List ℕ → Type 0
BeginsWithNone text = (number : ℕ) (rest : List ℕ) → BeginsWith text number rest → ⊥

-- the text is of no five numbers
abbrev pub HasNoNumbers : List ℕ → Type 0
HasNoNumbers text = (n : Numbers) → AreNumbersOf text n → ⊥

-- the text of a kill
abbrev pub IsKillOf : List ℕ → Kill → Type 0
IsKillOf text kill = IsKill kill × (text ≡ kill_text kill)

-- of none
abbrev pub IsOfNoKill : List ℕ → Type 0
IsOfNoKill text = (kill : Kill) → IsKillOf text kill → ⊥

-- of none of this caller
abbrev pub IsOfNoKillBy : ℕ → List ℕ → Type 0
IsOfNoKillBy caller text = (kill : Kill) → IsKillOf text kill → kill.caller ≡ caller → ⊥

-- the words are kills
abbrev pub AreAllKills : List (List ℕ) → Type 0
AreAllKills words = (kills : List Kill) × AreKills kills × (words ≡ map kill_text kills)

-- the word of an option, with what is joined to it
abbrev pub option_text : RunOption → Option (List ℕ) → List ℕ
option_text option None = option_word option
option_text option (Some value) = option_word option ++ codes "=" ++ value

-- no option's word
abbrev pub IsNoOption : List ℕ → Type 0
IsNoOption word = (option : RunOption) (value : Option (List ℕ)) → word ≡ option_text option value → ⊥

-- the words begin with an option and its value, and go on with these
pub record BeginsWithOption (words : List (List ℕ)) (option : RunOption) (value : List ℕ) (rest : List (List ℕ)) : Type 0 where
  pub is_joined : Bool
  pub words_are : words ≡ words_of (record { option = option; value = value; is_joined = is_joined }) ++ rest

-- with none
abbrev pub BeginsWithNoOption : List (List ℕ) → Type 0
BeginsWithNoOption words = (option : RunOption) (value : List ℕ) (rest : List (List ℕ)) → BeginsWithOption words option value rest → ⊥

-- a value that an option may have
abbrev pub IsValueFor : RunOption → List ℕ → Type 0
IsValueFor Geo value = (numbers : Numbers) × AreNumbersOf value numbers
IsValueFor Image value = IsValue value
IsValueFor Save value = IsValue value

-- an option may be next, and these behind it: where the first words come from is said once, and where the last words go
abbrev pub MayBeNext : RunOption → Type 0 → (Bool → Bool → Type 0) → Bool → Bool → Type 0
MayBeNext Geo HasValue MayFollow origin save = (origin ≡ false) × HasValue × MayFollow true save
MayBeNext Image HasValue MayFollow origin save = (origin ≡ false) × HasValue × MayFollow true save
MayBeNext Save HasValue MayFollow origin save = (save ≡ false) × HasValue × MayFollow origin true

-- these options may be given, where it is known of the ones before them whether one of them said the one and the other
abbrev pub MayFollow : List Given → Bool → Bool → Type 0
MayFollow [] origin save = Unit {0}
MayFollow (first ∷ rest) origin save = MayBeNext first.option (IsValueFor first.option first.value) (MayFollow rest) origin save

-- the words are such options, and then kills
pub record GoOn (words : List (List ℕ)) (origin save : Bool) : Type 0 where
  pub options : List Given
  pub kills : List Kill
  pub words_are : words ≡ flat_map words_of options ++ map kill_text kills
  pub may_follow : MayFollow options origin save
  pub are_kills : AreKills kills
