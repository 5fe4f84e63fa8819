-- The commands of the command line, as clap sees them.
use Rattle.std.specs.Prelude.{Some, codes}
use Rattle.clap.specs.Words.{App, Rule, Text, new_app, new_rule, with_rule}
use Rattle.clap.specs.declared.builder.ArgAction.TheVariants.{Append}
use Rattle.cm_command.specs.declared.option.RunOption.{RunOption}
use Rattle.cm_command.specs.declared.option.RunOption.TheVariants.{Geo, Image, Save}

-- the name of an option, without its hyphens
abbrev pub option_id : RunOption → Text
option_id Geo = codes "geo"
option_id Image = codes "image"
option_id Save = codes "save"

abbrev pub option_rule : Text → Rule
option_rule id = record (new_rule id) { long = Some id }

abbrev pub kill_rule : Rule
kill_rule = record (new_rule (codes "kill")) { action = Some Append }

-- `run`: three options, and kills
abbrev pub run_app : App
run_app = with_rule (with_rule (with_rule (with_rule (new_app (codes "run")) (option_rule (codes "geo"))) (option_rule (codes "image"))) (option_rule (codes "save"))) kill_rule

-- a command of one positional word
abbrev pub one_word_app : Text → App
one_word_app name = with_rule (new_app name) (new_rule (codes "first"))

-- a command of two
abbrev pub two_words_app : Text → App
two_words_app name = with_rule (one_word_app name) (new_rule (codes "second"))
