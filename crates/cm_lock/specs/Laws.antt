-- Laws of the rule (own).
use Rattle.std.specs.Prelude.{ℕ, List}
use Rattle.cm_lock.specs.declared.view.Key.{Key}
use Rattle.cm_lock.specs.declared.view.View.{View}
use Rattle.cm_lock.specs.ChangeLists.{AreSteps}
use Rattle.cm_lock.specs.Rule.{IsSharedSegment}

-- of all views, and of the root's alone at the end, the rule's list of changes is one of steps
abbrev pub ChangesAreSteps : Type 0
ChangesAreSteps = (key : Key) (words : List ℕ) (views : List View) (rule : IsSharedSegment key words views) → AreSteps key rule.list
