use Rattle.std.proofs.Common.{◌≡◌, ◌∙◌, Result, Ok, Err, codes, false, rules, ap₂}
use Rattle.std.specs.Prelude.{IfOk}
use Rattle.clap.specs.Words.{AddsArg, App, Rule, app_of, rule_of, with_rule}
use Rattle.clap.specs.declared.builder.arg.Arg.{Arg}
use Rattle.clap.specs.declared.builder.command.Command.{Command}
use Rattle.cm_command.specs.Apps.{kill_rule, option_rule}
use Rattle.cm_command.proofs.parse.run_command.Goals as goal

-- the command with the last argument is the application with its rule
last_added : {E : Type 0} (old : Command) (a : Arg) (app : App) (rule : Rule) (r : Result Command E) → IfOk r (λ new. AddsArg old a new) → a.global ≡ false → app_of old ≡ app
    → rule_of a ≡ rule → IfOk r (λ new. app_of new ≡ with_rule app rule)
last_added old a app rule (Ok new) adds g e f = adds.shape g ∙ ap₂ with_rule e f
last_added old a app rule (Err why) adds g e f = tt

pub returns : goal.returns
returns c =
    let geo : rule_of c.long-geo.result ≡ option_rule (codes "geo") = search rules in
    let image : rule_of c.long-image.result ≡ option_rule (codes "image") = search rules in
    let save : rule_of c.long-save.result ≡ option_rule (codes "save") = search rules in
    let kill : rule_of c.action-kill.result ≡ kill_rule = search rules in
    let one = c.in_ok-arg.ensures.shape (search rules) ∙ ap₂ with_rule c.new-5.ensures.app geo in
    let two = c.in_ok-arg-2.ensures.shape (search rules) ∙ ap₂ with_rule one image in
    let three = c.in_ok-arg-3.ensures.shape (search rules) ∙ ap₂ with_rule two save in
    last_added _ _ _ _ c.arg-4.result c.arg-4.ensures (search rules) three kill
