use Rattle.std.specs.Prelude.{MatchBool}
use Rattle.std.proofs.Common.{ℕ, ◌∙◌, List, subst, sym}
use Rattle.cm_command.specs.Texts.{AreAllKills}
use Rattle.cm_command.proofs.AllKills.{first-and-rest, first-is-none, goes-before, second-by-caller}
use Rattle.cm_command.proofs.kill.+are_kills.Goals as goal

pub returns-then-not-has_kill_by : goal.returns-then-not-has_kill_by
returns-then-not-has_kill_by t c =
    let words = first-and-rest c.args.words.now c.as_str.result.now _ c.in-len1-up.len_at_least (c.as_str.ensures ∙ c.first-item.is) in
    subst (λ (all : List (List ℕ)). MatchBool c.are_kills.result (AreAllKills all) (AreAllKills all → ⊥)) (sym words) (goes-before _ _ c.in-Some.kill _ c.in-Some.ensures c.if-not-has_kill_by.ensures c.are_kills.ensures)

pub returns-else-not-has_kill_by : goal.returns-else-not-has_kill_by
returns-else-not-has_kill_by t c =
    let words = first-and-rest c.args.words.now c.as_str.result.now _ c.in-len1-up.len_at_least (c.as_str.ensures ∙ c.first-item.is) in
    rw c.if-not-has_kill_by.false (subst (λ (all : List (List ℕ)). AreAllKills all → ⊥) (sym words) (second-by-caller _ _ c.in-Some.kill c.in-Some.ensures c.if-not-has_kill_by.ensures))

pub returns-in-None : goal.returns-in-None
returns-in-None t c =
    let words = first-and-rest c.args.words.now c.as_str.result.now _ c.in-len1-up.len_at_least (c.as_str.ensures ∙ c.first-item.is) in
    subst (λ (all : List (List ℕ)). AreAllKills all → ⊥) (sym words) (first-is-none _ _ c.in-None.ensures)
