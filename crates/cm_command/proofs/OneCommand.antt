-- Words ask for one command at most.
use Rattle.std.specs.Prelude.{decimal, flat_map, nat_eq, if◌then◌else◌}
use Rattle.std.specs.Str.{bytes_eq}
use Rattle.std.proofs.Common.{◌≡◌, ◌∙◌, ◌++◌, [], ◌∷◌, ℕ, List, get_or, Bool, true, false, codes, Option, Some, None, map, append_assoc, ap, arith, refl, subst, sym}
use Rattle.std.proofs.lemmas.Fmt.{decimal_injective}
use Rattle.std.proofs.lemmas.List.{append_cancel_left}
use Rattle.cm_command.specs.declared.command.Command.{Command}
use Rattle.cm_command.specs.declared.command.Command.TheVariants.{Run, Make, Check, Print, Recover}
use Rattle.cm_command.specs.declared.command.Origin.{Origin}
use Rattle.cm_command.specs.declared.command.Origin.TheVariants as origin
use Rattle.cm_command.specs.declared.kill.Kill.{Kill}
use Rattle.cm_command.specs.declared.option.RunOption.{RunOption}
use Rattle.cm_command.specs.declared.option.RunOption.TheVariants.{Geo, Image, Save}
use Rattle.cm_command.specs.declared.verb.Verb.{Verb}
use Rattle.cm_command.specs.declared.verb.Verb.TheVariants as verb
use Rattle.cm_command.specs.Grammar.{AskForOne, AsksFor, AsksForRun, Given, IsValue, OriginIs, option_word, value_of, words_of}
use Rattle.cm_command.specs.Kills.{AreKills, kill_text}
use Rattle.cm_command.specs.Verbs.{verb_of, verb_text}
use Rattle.cm_command.proofs.ReadKills.{kill-is-value, same-kill}
use Rattle.cm_command.proofs.ReadNumbers.{same_numbers}

-- ---- which command

-- the name that a text is
abbrev verb_read : List ℕ → Verb
verb_read text =
    if bytes_eq text (codes "run") then verb.Run
    else if bytes_eq text (codes "make") then verb.Make
    else if bytes_eq text (codes "check") then verb.Check
    else if bytes_eq text (codes "print") then verb.Print
    else verb.Recover

reads-verb : (v : Verb) → verb_read (verb_text v) ≡ v
reads-verb verb.Run = refl
reads-verb verb.Make = refl
reads-verb verb.Check = refl
reads-verb verb.Print = refl
reads-verb verb.Recover = refl

abbrev first_word : List (List ℕ) → List ℕ
first_word [] = []
first_word (word ∷ words) = word

-- the first word is the command's name
begins-with : (words : List (List ℕ)) (command : Command) → AsksFor words command → first_word words ≡ verb_text (verb_of command)
begins-with words (Run from save kills) asks = ap first_word asks.words_are
begins-with words (Make records seed) asks = ap first_word asks.0
begins-with words (Check name) asks = ap first_word asks.0
begins-with words (Print name) asks = ap first_word asks.0
begins-with words (Recover name renewed) asks = ap first_word asks.0

same-verb : (words : List (List ℕ)) (command other : Command) → AsksFor words command → AsksFor words other → verb_of command ≡ verb_of other
same-verb words command other one two =
    sym (reads-verb (verb_of command)) ∙ ap verb_read (sym (begins-with words command one) ∙ begins-with words other two) ∙ reads-verb (verb_of other)

-- ---- one option

abbrev given : RunOption → List ℕ → Bool → Given
given o value is_joined = record { option = o; value = value; is_joined = is_joined }

-- the option that the first of the words names, by the first letter behind its hyphens
abbrev option_read : List (List ℕ) → RunOption
option_read words = if nat_eq (get_or (first_word words) 2 0) 103 then Geo else if nat_eq (get_or (first_word words) 2 0) 105 then Image else Save

reads-option : (o : RunOption) (value : List ℕ) (is_joined : Bool) (rest : List (List ℕ)) → option_read (words_of (given o value is_joined) ++ rest) ≡ o
reads-option Geo value true rest = refl
reads-option Geo value false rest = refl
reads-option Image value true rest = refl
reads-option Image value false rest = refl
reads-option Save value true rest = refl
reads-option Save value false rest = refl

-- a joined word is no lone one
not-lone : (o : RunOption) (value : List ℕ) → option_word o ++ codes "=" ++ value ≡ option_word o → ⊥
not-lone Geo value e = cc e
not-lone Image value e = cc e
not-lone Save value e = cc e

-- the words of one option are of one value, with one rest
same-value : (o : RunOption) (v w : List ℕ) (a b : Bool) (rest others : List (List ℕ)) → words_of (given o v a) ++ rest ≡ words_of (given o w b) ++ others → (v ≡ w) × (rest ≡ others)
same-value o v w true true rest others e =
    let texts : option_word o ++ codes "=" ++ v ≡ option_word o ++ codes "=" ++ w = cc e in
    let rests : rest ≡ others = cc e in
    (append_cancel_left (option_word o ++ codes "=") v w texts, rests)
same-value o v w true false rest others e = let texts : option_word o ++ codes "=" ++ v ≡ option_word o = cc e in absurd (not-lone o v texts)
same-value o v w false true rest others e = let texts : option_word o ++ codes "=" ++ w ≡ option_word o = cc e in absurd (not-lone o w texts)
same-value o v w false false rest others e =
    let values : v ≡ w = cc e in
    let rests : rest ≡ others = cc e in
    (values, rests)

record SameFirst (one two : Given) (rest others : List (List ℕ)) : Type 0 where
  option : one.option ≡ two.option
  value : one.value ≡ two.value
  rests : rest ≡ others

same-first : (one two : Given) (rest others : List (List ℕ)) → words_of one ++ rest ≡ words_of two ++ others → SameFirst one two rest others
same-first one two rest others e =
    let options : one.option ≡ two.option =
    sym (reads-option one.option one.value one.is_joined rest) ∙ ap option_read e ∙ reads-option two.option two.value two.is_joined others in
    let moved : words_of (given two.option one.value one.is_joined) ++ rest ≡ words_of two ++ others =
    subst (λ (o : RunOption). words_of (given o one.value one.is_joined) ++ rest ≡ words_of two ++ others) options e in
    let parts = same-value two.option one.value two.value one.is_joined two.is_joined rest others moved in
    record { option = options; value = parts.0; rests = parts.1 }

-- ---- options and kills

-- no kill's text begins an option's words
no-kill-first : (o : RunOption) (value : List ℕ) (is_joined : Bool) (rest : List (List ℕ)) → IsValue (first_word (words_of (given o value is_joined) ++ rest)) → ⊥
no-kill-first Geo value true rest is = is refl
no-kill-first Geo value false rest is = is refl
no-kill-first Image value true rest is = is refl
no-kill-first Image value false rest is = is refl
no-kill-first Save value true rest is = is refl
no-kill-first Save value false rest is = is refl

kills-first : (kills : List Kill) (option : Given) (rest : List (List ℕ)) → AreKills kills → map kill_text kills ≡ words_of option ++ rest → ⊥
kills-first [] option rest are e = no-words option.is_joined e
  where
    no-words : (is_joined : Bool) → [] ≡ words_of (given option.option option.value is_joined) ++ rest → ⊥
    no-words true e = cc e
    no-words false e = cc e
kills-first (kill ∷ kills) option rest are e =
    no-kill-first option.option option.value option.is_joined rest (subst (λ (words : List (List ℕ)). IsValue (first_word words)) e (kill-is-value kill are.0))

-- texts are of one list of kills
same-kills : (kills others : List Kill) → AreKills kills → AreKills others → map kill_text kills ≡ map kill_text others → kills ≡ others
same-kills [] [] one two e = refl
same-kills [] (other ∷ others) one two e = cc e
same-kills (kill ∷ kills) [] one two e = cc e
same-kills (kill ∷ kills) (other ∷ others) one two e =
    let heads : kill_text kill ≡ kill_text other = cc e in
    let tails : map kill_text kills ≡ map kill_text others = cc e in
    let first = same-kill kill other one.0 two.0 heads in
    let rest = same-kills kills others one.2 two.2 tails in
    rw (first, rest) refl

record SameRun (options others : List Given) (one two : List Kill) : Type 0 where
  values : (o : RunOption) → value_of o options ≡ value_of o others
  kills : one ≡ two

-- words that are options and then kills are so in one way, but for how an option's value is joined
same-run : (options others : List Given) (kills other_kills : List Kill) → AreKills kills → AreKills other_kills
    → flat_map words_of options ++ map kill_text kills ≡ flat_map words_of others ++ map kill_text other_kills → SameRun options others kills other_kills
same-run [] [] kills other_kills one two e = record { values = λ o. refl; kills = same-kills kills other_kills one two e }
same-run [] (other ∷ others) kills other_kills one two e =
    absurd (kills-first kills other (flat_map words_of others ++ map kill_text other_kills) one (e ∙ append_assoc (words_of other) (flat_map words_of others) (map kill_text other_kills)))
same-run (option ∷ options) [] kills other_kills one two e =
    absurd (kills-first other_kills option (flat_map words_of options ++ map kill_text kills) two (sym e ∙ append_assoc (words_of option) (flat_map words_of options) (map kill_text kills)))
same-run (option ∷ options) (other ∷ others) kills other_kills one two e =
    let first = same-first option other (flat_map words_of options ++ map kill_text kills) (flat_map words_of others ++ map kill_text other_kills)
    (sym (append_assoc (words_of option) (flat_map words_of options) (map kill_text kills)) ∙ e ∙ append_assoc (words_of other) (flat_map words_of others) (map kill_text other_kills)) in
    let rest = same-run options others kills other_kills one two first.rests in
    record { values = λ o. rw (first.option, first.value, rest.values o) refl; kills = rest.kills }

-- values are of one origin
same-origin : (geo image : Option (List ℕ)) (from other : Origin) → OriginIs geo image from → OriginIs geo image other → from ≡ other
same-origin None None (origin.Numbers n) (origin.Numbers m) one two = ap origin.Numbers (one ∙ sym two)
same-origin None None (origin.Numbers n) (origin.Image name) one two = absurd two
same-origin None None (origin.Image name) other one two = absurd one
same-origin (Some text) None (origin.Numbers n) (origin.Numbers m) one two = ap origin.Numbers (same_numbers text n m one two)
same-origin (Some text) None (origin.Numbers n) (origin.Image name) one two = absurd two
same-origin (Some text) None (origin.Image name) other one two = absurd one
same-origin None (Some text) (origin.Image name) (origin.Image renewed) one two = ap origin.Image (one ∙ sym two)
same-origin None (Some text) (origin.Image name) (origin.Numbers m) one two = absurd two
same-origin None (Some text) (origin.Numbers n) other one two = absurd one
same-origin (Some text) (Some name) (origin.Numbers n) other one two = absurd one
same-origin (Some text) (Some name) (origin.Image image) other one two = absurd one

-- ---- each command

one-run : (words : List (List ℕ)) (from other_from : Origin) (save other_save : Option (List ℕ)) (kills other_kills : List Kill) → AsksForRun words from save kills
    → AsksForRun words other_from other_save other_kills → Run from save kills ≡ Run other_from other_save other_kills
one-run words from other_from save other_save kills other_kills one two =
    let behind : flat_map words_of one.options ++ map kill_text kills ≡ flat_map words_of two.options ++ map kill_text other_kills = cc (sym one.words_are ∙ two.words_are) in
    let same = same-run one.options two.options kills other_kills one.are_kills two.are_kills behind in
    let origins : from ≡ other_from = same-origin (value_of Geo two.options) (value_of Image two.options) from other_from (rw (same.values Geo, same.values Image) at one.origin) two.origin in
    let saves : save ≡ other_save = one.save_is ∙ same.values Save ∙ sym two.save_is in
    rw (origins, saves, same.kills) refl

one-make : (words : List (List ℕ)) (records other_records seed other_seed : ℕ) → AsksFor words (Make records seed) → AsksFor words (Make other_records other_seed)
    → Make records seed ≡ Make other_records other_seed
one-make words records other_records seed other_seed one two =
    let both : codes "make" ∷ decimal records ∷ decimal seed ∷ [] ≡ codes "make" ∷ decimal other_records ∷ decimal other_seed ∷ [] = sym one.0 ∙ two.0 in
    let firsts : decimal records ≡ decimal other_records = cc both in
    let seconds : decimal seed ≡ decimal other_seed = cc both in
    let first = decimal_injective records other_records (omega (arith, one.1)) (omega (arith, two.1)) firsts in
    let second = decimal_injective seed other_seed one.2 two.2 seconds in
    rw (first, second) refl

one-of-verb : (words : List (List ℕ)) (command other : Command) → AsksFor words command → AsksFor words other → verb_of command ≡ verb_of other → command ≡ other
one-of-verb words (Run from save kills) (Run other_from other_save other_kills) one two e = one-run words from other_from save other_save kills other_kills one two
one-of-verb words (Run from save kills) (Make records seed) one two e = cc e
one-of-verb words (Run from save kills) (Check name) one two e = cc e
one-of-verb words (Run from save kills) (Print name) one two e = cc e
one-of-verb words (Run from save kills) (Recover name renewed) one two e = cc e
one-of-verb words (Make records seed) (Run from save kills) one two e = cc e
one-of-verb words (Make records seed) (Make other_records other_seed) one two e = one-make words records other_records seed other_seed one two
one-of-verb words (Make records seed) (Check name) one two e = cc e
one-of-verb words (Make records seed) (Print name) one two e = cc e
one-of-verb words (Make records seed) (Recover name renewed) one two e = cc e
one-of-verb words (Check name) (Run from save kills) one two e = cc e
one-of-verb words (Check name) (Make records seed) one two e = cc e
one-of-verb words (Check name) (Check other) one two e = let names : name ≡ other = cc (sym one.0 ∙ two.0) in ap Check names
one-of-verb words (Check name) (Print other) one two e = cc e
one-of-verb words (Check name) (Recover other renewed) one two e = cc e
one-of-verb words (Print name) (Run from save kills) one two e = cc e
one-of-verb words (Print name) (Make records seed) one two e = cc e
one-of-verb words (Print name) (Check other) one two e = cc e
one-of-verb words (Print name) (Print other) one two e = let names : name ≡ other = cc (sym one.0 ∙ two.0) in ap Print names
one-of-verb words (Print name) (Recover other renewed) one two e = cc e
one-of-verb words (Recover name renewed) (Run from save kills) one two e = cc e
one-of-verb words (Recover name renewed) (Make records seed) one two e = cc e
one-of-verb words (Recover name renewed) (Check other) one two e = cc e
one-of-verb words (Recover name renewed) (Print other) one two e = cc e
one-of-verb words (Recover name renewed) (Recover other other_renewed) one two e =
    let names : name ≡ other = cc (sym one.0 ∙ two.0) in
    let renewals : renewed ≡ other_renewed = cc (sym one.0 ∙ two.0) in
    rw (names, renewals) refl

pub one-command : AskForOne
one-command words command other one two = one-of-verb words command other one two (same-verb words command other one two)
