use Rattle.std.proofs.Common.{◌∙◌, refl}
use Rattle.cm_command.proofs.Stands.{none-behind, none-named, one-behind}
use Rattle.cm_command.proofs.verb.verb_asked.Goals as goal

pub returns-in_err-verb-in-len1-up : goal.returns-in_err-verb-in-len1-up
returns-in_err-verb-in-len1-up c =
    rw c.from_residual.ensures (none-named c.args.words.now _ _ c.in-len1-up.len_at_least (c.as_str.ensures ∙ c.name-item.is) c.in_err-verb-in-len1-up.ensures)

pub returns-then-may_follow : goal.returns-then-may_follow
returns-then-may_follow c =
    one-behind c.args.words.now _ _ _ _ c.in-len1-up.len_at_least (c.as_str.ensures ∙ c.name-item.is) c.in_ok-verb-in-len1-up.ensures refl c.if-may_follow.ensures

pub returns-else-may_follow : goal.returns-else-may_follow
returns-else-may_follow c =
    none-behind c.args.words.now _ _ _ _ c.in-len1-up.len_at_least (c.as_str.ensures ∙ c.name-item.is) c.in_ok-verb-in-len1-up.ensures refl c.if-may_follow.ensures
