-- What clap finds in the words of a command that one or two positional words follow, and that it takes them.
use Rattle.std.specs.Borrow.{Bor}
use Rattle.std.specs.Prelude.{decimal}
use Rattle.std.specs.Option.{IsSome, MatchOption, option_map}
use Rattle.std.proofs.Common.{◌≡◌, ◌∙◌, ◌∷◌, [], ℕ, List, Option, Some, None, true, ap, arith, codes, refl, subst, sym}
use Rattle.clap.specs.Words.{Text, first_of, first_value, matches_of, rows_of, takes}
use Rattle.clap.specs.declared.parser.matches.Found.{Found}
use Rattle.clap.proofs.OnLiterals.{clap_on_literals}
use Rattle.clap.proofs.WalkLemmas.{first_value-rows}
use Rattle.cm_command.specs.declared.command.Command.{Command}
use Rattle.cm_command.specs.declared.command.Command.TheVariants.{Run, Make, Check, Print, Recover}
use Rattle.cm_command.specs.declared.limits.TheConstants.{MAX_RECORDS}
use Rattle.cm_command.specs.declared.verb.Verb.TheVariants as verb
use Rattle.cm_command.specs.Apps.{one_word_app, two_words_app}
use Rattle.cm_command.specs.Grammar.{AsksFor, IsValue}
use Rattle.cm_command.specs.Texts.{IsNoNumberTo, IsNumberTo}
use Rattle.cm_command.specs.Verbs.{AsksBy, verb_of}
use Rattle.cm_command.proofs.Stands.{decimal-value}
use Rattle.cm_command.proofs.Walks.{IsPlainWord, plain}

-- one word is taken, and is found
one-taken : (name word : Text) → IsPlainWord word → takes (one_word_app name) (name ∷ word ∷ []) ≡ true
unfolding clap_on_literals
one-taken name word p = rw (p.no_end, p.no_hyphen, p.no_hyphen) refl

one-found : (name word : Text) → IsPlainWord word → first_of (codes "first") (matches_of (one_word_app name) (name ∷ word ∷ [])) ≡ Some word
unfolding clap_on_literals
one-found name word p = rw (p.no_end, p.no_hyphen, p.no_hyphen) refl

-- and so are two
two-taken : (name word other : Text) → IsPlainWord word → IsPlainWord other → takes (two_words_app name) (name ∷ word ∷ other ∷ []) ≡ true
unfolding clap_on_literals
two-taken name word other p q = rw (p.no_end, p.no_hyphen, p.no_hyphen, q.no_end, q.no_hyphen, q.no_hyphen) refl

first-found : (name word other : Text) → IsPlainWord word → IsPlainWord other → first_of (codes "first") (matches_of (two_words_app name) (name ∷ word ∷ other ∷ [])) ≡ Some word
unfolding clap_on_literals
first-found name word other p q = rw (p.no_end, p.no_hyphen, p.no_hyphen, q.no_end, q.no_hyphen, q.no_hyphen) refl

second-found : (name word other : Text) → IsPlainWord word → IsPlainWord other → first_of (codes "second") (matches_of (two_words_app name) (name ∷ word ∷ other ∷ [])) ≡ Some other
unfolding clap_on_literals
second-found name word other p q = rw (p.no_end, p.no_hyphen, p.no_hyphen, q.no_end, q.no_hyphen, q.no_hyphen) refl

-- words of a name and one value
pub record HasOneWord (words : List Text) (name : Text) : Type 0 where
  pub word : Text
  pub words_are : words ≡ name ∷ word ∷ []
  pub is_value : IsValue word

-- and two
pub record HasTwoWords (words : List Text) (name : Text) : Type 0 where
  pub word : Text
  pub other : Text
  pub words_are : words ≡ name ∷ word ∷ other ∷ []
  pub is_value : IsValue word
  pub is_value_too : IsValue other

-- clap takes them, and finds those words
pub takes-one : (words : List Text) (name : Text) → HasOneWord words name → takes (one_word_app name) words ≡ true
takes-one words name has = rw has.words_are (one-taken name has.word (plain has.word has.is_value))

pub takes-two : (words : List Text) (name : Text) → HasTwoWords words name → takes (two_words_app name) words ≡ true
takes-two words name has = rw has.words_are (two-taken name has.word has.other (plain has.word has.is_value) (plain has.other has.is_value_too))

pub reads-one : (words : List Text) (name : Text) (has : HasOneWord words name) (f : Found) → rows_of f ≡ matches_of (one_word_app name) words → first_value f (codes "first") ≡ Some has.word
reads-one words name has f rows =
    first_value-rows f (codes "first") ∙ ap (first_of (codes "first")) (rows ∙ ap (matches_of (one_word_app name)) has.words_are) ∙ one-found name has.word (plain has.word has.is_value)

pub reads-first : (words : List Text) (name : Text) (has : HasTwoWords words name) (f : Found) → rows_of f ≡ matches_of (two_words_app name) words → first_value f (codes "first") ≡ Some has.word
reads-first words name has f rows =
    first_value-rows f (codes "first") ∙ ap (first_of (codes "first")) (rows ∙ ap (matches_of (two_words_app name)) has.words_are)
    ∙ first-found name has.word has.other (plain has.word has.is_value) (plain has.other has.is_value_too)

pub reads-second : (words : List Text) (name : Text) (has : HasTwoWords words name) (f : Found) → rows_of f ≡ matches_of (two_words_app name) words → first_value f (codes "second") ≡ Some has.other
reads-second words name has f rows =
    first_value-rows f (codes "second") ∙ ap (first_of (codes "second")) (rows ∙ ap (matches_of (two_words_app name)) has.words_are)
    ∙ second-found name has.word has.other (plain has.word has.is_value) (plain has.other has.is_value_too)

-- words that ask by these names have such words
pub check-has : (words : List Text) → AsksBy words verb.Check → HasOneWord words (codes "check")
check-has words by = go by.asked by.asks by.name_is
  where
    go : (asked : Command) → AsksFor words asked → verb_of asked ≡ verb.Check → HasOneWord words (codes "check")
    go (Check name) asks e = record { word = name; words_are = asks.0; is_value = asks.1 }
    go (Run from save kills) asks e = cc e
    go (Make records seed) asks e = cc e
    go (Print name) asks e = cc e
    go (Recover name renewed) asks e = cc e

pub print-has : (words : List Text) → AsksBy words verb.Print → HasOneWord words (codes "print")
print-has words by = go by.asked by.asks by.name_is
  where
    go : (asked : Command) → AsksFor words asked → verb_of asked ≡ verb.Print → HasOneWord words (codes "print")
    go (Print name) asks e = record { word = name; words_are = asks.0; is_value = asks.1 }
    go (Run from save kills) asks e = cc e
    go (Make records seed) asks e = cc e
    go (Check name) asks e = cc e
    go (Recover name renewed) asks e = cc e

pub recover-has : (words : List Text) → AsksBy words verb.Recover → HasTwoWords words (codes "recover")
recover-has words by = go by.asked by.asks by.name_is
  where
    go : (asked : Command) → AsksFor words asked → verb_of asked ≡ verb.Recover → HasTwoWords words (codes "recover")
    go (Recover name renewed) asks e = record { word = name; other = renewed; words_are = asks.0; is_value = asks.1; is_value_too = asks.2 }
    go (Run from save kills) asks e = cc e
    go (Make records seed) asks e = cc e
    go (Check name) asks e = cc e
    go (Print name) asks e = cc e

-- of `make` they are two numbers
pub record HasTwoNumbers (words : List Text) : Type 0 where
  pub has : HasTwoWords words (codes "make")
  pub records : ℕ
  pub seed : ℕ
  pub first_is : IsNumberTo MAX_RECORDS has.word records
  pub second_is : IsNumberTo 18446744073709551615 has.other seed

pub make-has : (words : List Text) → AsksBy words verb.Make → HasTwoNumbers words
make-has words by = go by.asked by.asks by.name_is
  where
    go : (asked : Command) → AsksFor words asked → verb_of asked ≡ verb.Make → HasTwoNumbers words
    go (Make records seed) asks e = record {
      has = record {
        word = decimal records;
        other = decimal seed;
        words_are = asks.0;
        is_value = decimal-value records (omega (arith, asks.1));
        is_value_too = decimal-value seed asks.2;
      };
      records = records;
      seed = seed;
      first_is = (asks.1, refl);
      second_is = (omega (arith, asks.2), refl);
    }
    go (Run from save kills) asks e = cc e
    go (Check name) asks e = cc e
    go (Print name) asks e = cc e
    go (Recover name renewed) asks e = cc e

-- a text that shows as this word is there, and is the word
pub is-there : (o : Option (Bor Text)) (word : Text) → option_map (λ s. s.now) o ≡ Some word → IsSome o
is-there None word e = cc e
is-there (Some s) word e = refl

pub is-word : (o : Option (Bor Text)) (s : Bor Text) (word : Text) → option_map (λ s. s.now) o ≡ Some word → o ≡ Some s → s.now ≡ word
is-word o s word e is = let same : Some s.now ≡ Some word = sym (ap (option_map (λ (s : Bor Text). s.now)) is) ∙ e in cc same

-- the number of a text that has one is found, and is one
pub number-there : (limit number : ℕ) (text : Text) (r : Option ℕ) → IsNumberTo limit text number → MatchOption r (IsNoNumberTo limit text) (IsNumberTo limit text) → IsSome r
number-there limit number text None is found = absurd (found number is)
number-there limit number text (Some n) is found = refl

pub number-is : (limit number : ℕ) (text : Text) (r : Option ℕ) → r ≡ Some number → MatchOption r (IsNoNumberTo limit text) (IsNumberTo limit text) → IsNumberTo limit text number
number-is limit number text r e found = subst (λ (r : Option ℕ). MatchOption r (IsNoNumberTo limit text) (IsNumberTo limit text)) e found
