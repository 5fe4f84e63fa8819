use Rattle.std.proofs.Common.{◌∙◌, List, ap}
use Rattle.std.proofs.lemmas.List.{map-id}
use Rattle.clap.proofs.WalkLemmas.{both}
use Rattle.clap.specs.Words.{Text, app_of, matches_of}
use Rattle.cm_command.proofs.parse.matches_in.Goals as goal

pub returns-in-Ok-clause-ok : goal.returns-in-Ok-clause-ok
returns-in-Ok-clause-ok c =
    (c.in-Ok.ensures.matches (both _ _ c.requires).0).0 ∙ ap (λ (words : List Text). matches_of (app_of c.args.command) words) (map-id c.args.words.now)
