-- An entry that was found has a run.
use Rattle.std.proofs.Common.{◌∙◌, sym}
use Rattle.std.proofs.lemmas.List.Elements.{recursion_from_All}
use Rattle.cm_plain.specs.States.{HasRun}
use Rattle.cm_plain.proofs.Each.{found_has}
use Rattle.cm_plain.proofs.Placements.{is_at}
use Rattle.cm_plain.proofs.rooms.placement_of.Goals as goal

pub room-room-requires-clause-old_run : goal.room-room-requires-clause-old_run
room-room-requires-clause-old_run c = λ x e.
    found_has (HasRun c.args.geo.now) (is_at c.args.key.now) c.args.entries.now x (recursion_from_All (HasRun c.args.geo.now) c.args.entries.now c.requires.runs) (sym c.find_entry-old.ensures ∙ e)
