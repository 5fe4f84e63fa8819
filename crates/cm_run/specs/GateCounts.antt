-- What the makers of this crate tell (own).
use Rattle.std.specs.Prelude.{ℕ, ◌≡◌, true, false, List, [], get_or, Option, None, is_some}
use Rattle.cm_command.specs.declared.kill.Kill.{Kill}
use Rattle.cm_run.specs.declared.kill_gates.KillGates.{KillGates}
use Rattle.cm_run.specs.declared.turn_gates.TurnGates.{TurnGates}
use Rattle.cm_run.specs.Gates.{CallerGates, MakerSeen}

-- the counts of each caller, by its number
abbrev pub counts_in : List ℕ → List (Option Kill) → List ℕ → ℕ → CallerGates
counts_in made last_kills deaths caller = record { made = get_or made caller 0; last_kill = get_or last_kills caller None; deaths = get_or deaths caller 0 }

-- gates that die where there is a kill, and tell its number
abbrev pub kill_gates_seen : KillGates → MakerSeen
kill_gates_seen m = record { can_die = λ caller kill. is_some kill; tells = true; of = counts_in m.made m.last_kills m.deaths }

-- gates that never die, and tell nothing
abbrev pub turn_gates_seen : TurnGates → MakerSeen
turn_gates_seen m = record { can_die = λ caller kill. false; tells = false; of = counts_in m.made m.last_kills [] }

-- no gate was made, and none came back
abbrev pub IsNew : MakerSeen → Type 0
IsNew m = (caller : ℕ) → m.of caller ≡ record { made = 0; last_kill = None; deaths = 0 }
