-- Words behind a command's name, and the commands that they ask for with it.
use Rattle.std.specs.Prelude.{codes, decimal, nat_eq}
use Rattle.std.proofs.Common.{◌≡◌, ◌≢◌, ◌∙◌, ◌++◌, ◌-◌, ◌<◌, ◌≤◌, ◌^◌, ◌∷◌, [], ℕ, List, Option, Some, None, Bool, true, false, ap, arith, cond, drop, get_or, length, refl, subst, sym, take}
use Rattle.std.proofs.lemmas.Fmt.{decimal_is_IsNumeral}
use Rattle.std.proofs.lemmas.List.{take_rest}
use Rattle.cm_command.specs.declared.command.Command.{Command}
use Rattle.cm_command.specs.declared.command.Command.TheVariants as command
use Rattle.cm_command.specs.declared.command.Origin.{Origin}
use Rattle.cm_command.specs.declared.command.Origin.TheVariants as origin
use Rattle.cm_command.specs.declared.numbers.Numbers.{Numbers}
use Rattle.cm_command.specs.declared.option.RunOption.{RunOption}
use Rattle.cm_command.specs.declared.option.RunOption.TheVariants.{Geo, Image, Save}
use Rattle.cm_command.specs.declared.verb.Verb.{Verb}
use Rattle.cm_command.specs.declared.verb.Verb.TheVariants as verb
use Rattle.cm_command.specs.Grammar.{AreOptions, AsksFor, AsksForNone, Given, IsValue, OriginIs, value_of}
use Rattle.cm_command.specs.Numbers.{AreNumbersOf, default_numbers}
use Rattle.cm_command.specs.Texts.{IsValueFor, MayFollow}
use Rattle.cm_command.specs.Verbs.{AsksBy, MayStandBehind, verb_of, verb_text}
use Rattle.cm_command.proofs.Parts.{digit-first}
use Rattle.cm_command.proofs.ReadNumbers.{behind_one, first_of_five}

-- ---- values

value-append : (xs ys : List ℕ) → IsValue xs → IsValue (xs ++ ys)
value-append [] ys is = absurd is
value-append (x ∷ xs) ys is = is

-- a number's text is a value
pub decimal-value : (number : ℕ) → number < 2 ^ 64 → IsValue (decimal number)
decimal-value number small = by (decimal number) refl
  where
    by : (text : List ℕ) → decimal number ≡ text → IsValue text
    by [] e = let some : 0 < length (decimal number) = (decimal_is_IsNumeral number small).0.0 in let none : length (decimal number) ≡ 0 = rw e refl in absurd (omega (arith, some, none))
    by (first ∷ rest) e = digit-first number first rest small e

-- and so is the text of five numbers
pub numbers-value : (text : List ℕ) (n : Numbers) → AreNumbersOf text n → IsValue text
numbers-value text n are =
    subst IsValue (sym (are.0 ∙ first_of_five n))
    (value-append (decimal n.segments ++ codes ",") (behind_one n) (value-append (decimal n.segments) (codes ",") (decimal-value n.segments (omega (arith, are.1.segments)))))

-- ---- options that may follow

-- there is such an origin
abbrev HasOrigin : Option (List ℕ) → Option (List ℕ) → Type 0
HasOrigin geo image = (from : Origin) × OriginIs geo image from

-- what options that may follow are
record Follows (options : List Given) (origin save : Bool) : Type 0 where
  are : AreOptions options
  no_origin : origin ≡ true → (value_of Geo options ≡ None) × (value_of Image options ≡ None)
  no_save : save ≡ true → value_of Save options ≡ None
  has_origin : HasOrigin (value_of Geo options) (value_of Image options)

geo-alone : (value : List ℕ) (image : Option (List ℕ)) → image ≡ None → IsValueFor Geo value → HasOrigin (Some value) image
geo-alone value image none is = rw none (origin.Numbers is.0, is.1)

image-alone : (geo : Option (List ℕ)) (name : List ℕ) → geo ≡ None → HasOrigin geo (Some name)
image-alone geo name none = rw none (origin.Image name, refl)

no-option : HasOrigin None None
no-option = (origin.Numbers default_numbers, refl)

not-true : (b : Bool) (P : Type 0) → b ≡ false → b ≡ true → P
not-true b P e f = absurd (cc (e, f))

following : (options : List Given) (origin save : Bool) → MayFollow options origin save → Follows options origin save
following [] said save may = record { are = tt; no_origin = λ e. (refl, refl); no_save = λ e. refl; has_origin = no-option }
following (first ∷ rest) said save may = by (λ said save. following rest said save) first.option first.value first.is_joined may
  where
    by : ((said save : Bool) → MayFollow rest said save → Follows rest said save) → (option : RunOption) (value : List ℕ) (joined : Bool)
        → MayFollow (record { option = option; value = value; is_joined = joined } ∷ rest) said save
        → Follows (record { option = option; value = value; is_joined = joined } ∷ rest) said save
    by rests Geo value joined may =
        let behind = rests true save may.2 in
        let none = behind.no_origin refl in
        record { are = (numbers-value value may.1.0 may.1.1, none.0, behind.are); no_origin = not-true said _ may.0; no_save = behind.no_save; has_origin = geo-alone value (value_of Image rest) none.1 may.1 }
    by rests Image value joined may =
        let behind = rests true save may.2 in
        let none = behind.no_origin refl in
        record { are = (may.1, none.1, behind.are); no_origin = not-true said _ may.0; no_save = behind.no_save; has_origin = image-alone (value_of Geo rest) value none.0 }
    by rests Save value joined may =
        let behind = rests said true may.2 in
        record { are = (may.1, behind.no_save refl, behind.are); no_origin = behind.no_origin; no_save = not-true save _ may.0; has_origin = behind.has_origin }

-- the other way round
geo-origin : (value : List ℕ) (image : Option (List ℕ)) → HasOrigin (Some value) image → IsValueFor Geo value × (image ≡ None)
geo-origin value image has = by image has.0 has.1
  where
    by : (image : Option (List ℕ)) (from : Origin) → OriginIs (Some value) image from → IsValueFor Geo value × (image ≡ None)
    by None (origin.Numbers numbers) is = ((numbers, is), refl)
    by None (origin.Image name) is = absurd is
    by (Some name) from is = absurd is

image-origin : (geo : Option (List ℕ)) (name : List ℕ) → HasOrigin geo (Some name) → geo ≡ None
image-origin geo name has = by geo has.0 has.1
  where
    by : (geo : Option (List ℕ)) (from : Origin) → OriginIs geo (Some name) from → geo ≡ None
    by None from is = refl
    by (Some text) from is = absurd is

not-said : (b : Bool) → (b ≡ true → ⊥) → b ≡ false
not-said true f = absurd (f refl)
not-said false f = refl

followed : (options : List Given) (origin save : Bool) → Follows options origin save → MayFollow options origin save
followed [] said save is = tt
followed (first ∷ rest) said save is = by (λ said save. followed rest said save) first.option first.value first.is_joined is
  where
    by : ((said save : Bool) → Follows rest said save → MayFollow rest said save) → (option : RunOption) (value : List ℕ) (joined : Bool)
        → Follows (record { option = option; value = value; is_joined = joined } ∷ rest) said save
        → MayFollow (record { option = option; value = value; is_joined = joined } ∷ rest) said save
    by rests Geo value joined is =
        let its = geo-origin value (value_of Image rest) is.has_origin in
        let behind : Follows rest true save = record {
          are = is.are.2;
          no_origin = λ e. (is.are.1, its.1);
          no_save = is.no_save;
          has_origin = rw (is.are.1, its.1) no-option;
        } in
        (not-said said (λ e. let clash : Some value ≡ None = (is.no_origin e).0 in cc clash), its.0, rests true save behind)
    by rests Image value joined is =
        let none = image-origin (value_of Geo rest) value is.has_origin in
        let behind : Follows rest true save = record {
          are = is.are.2;
          no_origin = λ e. (none, is.are.1);
          no_save = is.no_save;
          has_origin = rw (none, is.are.1) no-option;
        } in
        (not-said said (λ e. let clash : Some value ≡ None = (is.no_origin e).1 in cc clash), is.are.0, rests true save behind)
    by rests Save value joined is =
        let behind : Follows rest said true = record { are = is.are.2; no_origin = is.no_origin; no_save = λ e. is.are.1; has_origin = is.has_origin } in
        (not-said save (λ e. let clash : Some value ≡ None = is.no_save e in cc clash), is.are.0, rests said true behind)

-- ---- commands

-- the words ask for a command of this name where these others stand behind it
pub asks-by : (name : Verb) (words others : List (List ℕ)) → words ≡ verb_text name ∷ others → MayStandBehind name others → AsksBy words name
asks-by verb.Run words others is go =
    let follows = following go.options false false go.may_follow in
    record {
      asked = command.Run follows.has_origin.0 (value_of Save go.options) go.kills;
      asks = record {
        options = go.options;
        words_are = is ∙ ap (λ (them : List (List ℕ)). codes "run" ∷ them) go.words_are;
        are_options = follows.are;
        are_kills = go.are_kills;
        origin = follows.has_origin.1;
        save_is = refl;
      };
      name_is = refl;
    }
asks-by verb.Make words others is are = record {
  asked = command.Make are.records are.seed;
  asks = (is ∙ ap (λ (them : List (List ℕ)). codes "make" ∷ them) are.words_are, are.records_fit, are.seed_fits);
  name_is = refl;
}
asks-by verb.Check words others is one = record {
  asked = command.Check one.name;
  asks = (is ∙ ap (λ (them : List (List ℕ)). codes "check" ∷ them) one.words_are, one.is_value);
  name_is = refl;
}
asks-by verb.Print words others is one = record {
  asked = command.Print one.name;
  asks = (is ∙ ap (λ (them : List (List ℕ)). codes "print" ∷ them) one.words_are, one.is_value);
  name_is = refl;
}
asks-by verb.Recover words others is two = record {
  asked = command.Recover two.name two.renewed;
  asks = (is ∙ ap (λ (them : List (List ℕ)). codes "recover" ∷ them) two.words_are, two.is_value, two.is_value_too);
  name_is = refl;
}

-- what asks for a command is its name and what may stand behind that
pub record IsAsked (word : List ℕ) (others : List (List ℕ)) (name : Verb) : Type 0 where
  pub word_is : word ≡ verb_text name
  pub may_stand : MayStandBehind name others

pub asked : (it : Command) (word : List ℕ) (others : List (List ℕ)) → AsksFor (word ∷ others) it → IsAsked word others (verb_of it)
asked (command.Run from save kills) word others asks = record {
  word_is = cc asks.words_are;
  may_stand = record {
    options = asks.options;
    kills = kills;
    words_are = cc asks.words_are;
    may_follow = followed asks.options false false (record { are = asks.are_options; no_origin = λ e. absurd (cc e); no_save = λ e. absurd (cc e); has_origin = (from, asks.origin) });
    are_kills = asks.are_kills;
  };
}
asked (command.Make records seed) word others asks = record {
  word_is = cc asks.0;
  may_stand = record { records = records; seed = seed; words_are = cc asks.0; records_fit = asks.1; seed_fits = asks.2 };
}
asked (command.Check name) word others asks = record { word_is = cc asks.0; may_stand = record { name = name; words_are = cc asks.0; is_value = asks.1 } }
asked (command.Print name) word others asks = record { word_is = cc asks.0; may_stand = record { name = name; words_are = cc asks.0; is_value = asks.1 } }
asked (command.Recover name renewed) word others asks = record {
  word_is = cc asks.0;
  may_stand = record { name = name; renewed = renewed; words_are = cc asks.0; is_value = asks.1; is_value_too = asks.2 };
}

-- a name is of one command: its second letter tells
abbrev verb_by : ℕ → Verb
verb_by letter =
    cond (nat_eq letter 117) verb.Run (cond (nat_eq letter 97) verb.Make (cond (nat_eq letter 104) verb.Check (cond (nat_eq letter 114) verb.Print verb.Recover)))

verb-back : (name : Verb) → verb_by (get_or (verb_text name) 1 0) ≡ name
verb-back verb.Run = refl
verb-back verb.Make = refl
verb-back verb.Check = refl
verb-back verb.Print = refl
verb-back verb.Recover = refl

pub same-verb : (name other : Verb) → verb_text name ≡ verb_text other → name ≡ other
same-verb name other e = sym (verb-back name) ∙ ap (λ (text : List ℕ). verb_by (get_or text 1 0)) e ∙ verb-back other

-- words ask for no command where the first is the name of none
pub none-named : (words : List (List ℕ)) (text word : List ℕ) → 1 ≤ length words → text ≡ get_or words 0 word → ((name : Verb) → text ≢ verb_text name) → AsksForNone words
none-named [] text word some is none = absurd (omega (arith, some))
none-named (first ∷ others) text word some is none = λ it asks. none (verb_of it) (is ∙ (asked it first others asks).word_is)

-- or where others stand behind it than may stand there
pub none-behind : (words others : List (List ℕ)) (name : Verb) (text word : List ℕ) → 1 ≤ length words → text ≡ get_or words 0 word → text ≡ verb_text name → take (length words - 1) (drop 1 words) ≡ others
    → (MayStandBehind name others → ⊥) → AsksForNone words
none-behind [] others name text word some is named rest none = absurd (omega (arith, some))
none-behind (first ∷ behind) others name text word some is named rest none = λ it asks.
    let its = asked it first behind asks in
    let verbs : verb_of it ≡ name = same-verb (verb_of it) name (sym its.word_is ∙ sym is ∙ named) in
    let them : behind ≡ others = sym (take_rest (first ∷ behind) 1) ∙ rest in
    none (subst (MayStandBehind name) them (subst (λ (v : Verb). MayStandBehind v behind) verbs its.may_stand))

-- else they ask for a command of that name
pub one-behind : (words others : List (List ℕ)) (name : Verb) (text word : List ℕ) → 1 ≤ length words → text ≡ get_or words 0 word → text ≡ verb_text name → take (length words - 1) (drop 1 words) ≡ others
    → MayStandBehind name others → AsksBy words name
one-behind [] others name text word some is named rest may = absurd (omega (arith, some))
one-behind (first ∷ behind) others name text word some is named rest may =
    let them : behind ≡ others = sym (take_rest (first ∷ behind) 1) ∙ rest in
    let word_is : first ≡ verb_text name = sym is ∙ named in
    asks-by name (first ∷ behind) behind (ap (λ (w : List ℕ). w ∷ behind) word_is) (subst (MayStandBehind name) (sym them) may)
