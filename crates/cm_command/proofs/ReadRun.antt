-- What clap finds in words that ask for a run, and that it takes them.
use Rattle.std.specs.Prelude.{option_map}
use Rattle.std.proofs.Common.{◌≡◌, ◌∙◌, ◌∷◌, ◌++◌, [], ℕ, List, codes, Option, Some, None, map, ap, refl, sym, subst}
use Rattle.clap.proofs.WalkLemmas.{first_value-rows, raw_values-rows}
use Rattle.clap.specs.Matches.{matched_of, raw_values}
use Rattle.clap.specs.Words.{Row, all_of, first_of, first_value, matches_of, rows_of}
use Rattle.clap.specs.declared.parser.matches.Found.{Found}
use Rattle.cm_command.specs.declared.command.Command.{Command}
use Rattle.cm_command.specs.declared.command.Command.TheVariants.{Run, Make, Check, Print, Recover}
use Rattle.cm_command.specs.declared.command.Origin.{Origin}
use Rattle.cm_command.specs.declared.kill.Kill.{Kill}
use Rattle.cm_command.specs.declared.option.RunOption.{RunOption}
use Rattle.cm_command.specs.declared.verb.Verb.TheVariants as verb
use Rattle.cm_command.specs.Apps.{option_id, run_app}
use Rattle.cm_command.specs.Grammar.{AsksFor, AsksForRun, value_of}
use Rattle.cm_command.specs.Kills.{AreKills, kill_text}
use Rattle.cm_command.specs.Verbs.{AsksBy, verb_of}
use Rattle.cm_command.proofs.ReadKills.{kill-is-value}
use Rattle.cm_command.proofs.Walks.{AreValues, RunIsRead, kill_rows, kills-found, option-found, row_of, run-is-read, texts_found}

-- a run that words ask for, with all that it says
pub record RunAsked (words : List (List ℕ)) : Type 0 where
  pub from : Origin
  pub save : Option (List ℕ)
  pub kills : List Kill
  pub asks : AsksForRun words from save kills

-- words that ask by the name `run` ask for a run
pub run-asked : (words : List (List ℕ)) → AsksBy words verb.Run → RunAsked words
run-asked words by = go by.asked by.asks by.name_is
  where
    go : (asked : Command) → AsksFor words asked → verb_of asked ≡ verb.Run → RunAsked words
    go (Run from save kills) asks e = record { from = from; save = save; kills = kills; asks = asks }
    go (Make records seed) asks e = cc e
    go (Check name) asks e = cc e
    go (Print name) asks e = cc e
    go (Recover name renewed) asks e = cc e

-- the texts of kills are values
kills-are-values : (kills : List Kill) → AreKills kills → AreValues (map kill_text kills)
kills-are-values [] are = tt
kills-are-values (kill ∷ kills) are = (kill-is-value kill are.0, kills-are-values kills are.2)

-- the rows that clap finds in them
abbrev pub run_rows : {words : List (List ℕ)} → RunAsked words → List Row
run_rows run = map row_of run.asks.options ++ kill_rows (map kill_text run.kills)

pub run-taken : (words : List (List ℕ)) (run : RunAsked words) → RunIsRead words (run_rows run)
run-taken words run =
    subst (λ (them : List (List ℕ)). RunIsRead them (run_rows run)) (sym run.asks.words_are)
    (run-is-read run.asks.options (map kill_text run.kills) run.asks.are_options (kills-are-values run.kills run.asks.are_kills))

-- what it finds under an option's name is the option's value
pub value-read : (words : List (List ℕ)) (run : RunAsked words) (o : RunOption) (f : Found) → rows_of f ≡ matches_of run_app words
    → first_value f (option_id o) ≡ value_of o run.asks.options
value-read words run o f rows =
    first_value-rows f (option_id o) ∙ ap (first_of (option_id o)) (rows ∙ (run-taken words run).rows_are) ∙ option-found run.asks.options (map kill_text run.kills) o

-- and what it finds as kills are their texts
pub kills-read : (words : List (List ℕ)) (run : RunAsked words) (f : Found) → rows_of f ≡ matches_of run_app words
    → option_map raw_values (matched_of f (codes "kill")) ≡ texts_found (map kill_text run.kills)
kills-read words run f rows =
    raw_values-rows f (codes "kill") ∙ ap (all_of (codes "kill")) (rows ∙ (run-taken words run).rows_are) ∙ kills-found run.asks.options (map kill_text run.kills)

-- texts that were found are all texts
pub some-found : (found texts : List (List ℕ)) → Some found ≡ texts_found texts → found ≡ texts
some-found found [] e = cc e
some-found found (text ∷ texts) e = cc e

-- where none were found there are none
pub none-found : (texts : List (List ℕ)) → None ≡ texts_found texts → texts ≡ []
none-found [] e = refl
none-found (text ∷ texts) e = cc e
