-- What is kept is what has another key.
use Rattle.std.proofs.Common.{not, rules}
use Rattle.std.specs.Str.{bytes_eq}
use Rattle.std.proofs.lemmas.Fn.{filter_same}
use Rattle.cm_plain.specs.declared.placed.Placed.{Placed}
use Rattle.cm_plain.proofs.entries.remove_key.Goals as goal

pub returns-clause-items : goal.returns-clause-items
returns-clause-items c = filter_same _ (λ (entry : Placed). not (bytes_eq entry.key c.args.key.now)) _ (λ x b f k. search rules) _ _ c.retain.ensures.filtered
