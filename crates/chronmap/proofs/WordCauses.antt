-- What the answer to words is, from what their command gives.
use Rattle.std.specs.Prelude.{◌≡◌, ℕ, List, [], Option, Result, None, Ok, Err, IfOk, IfErr, false}
use Rattle.std.proofs.Common.{inr, refl, subst}
use Rattle.cm_command.specs.declared.command.Command.{Command}
use Rattle.cm_command.specs.declared.command.Command.TheVariants as command
use Rattle.cm_command.specs.declared.command.Origin.{Origin}
use Rattle.cm_command.specs.declared.kill.Kill.{Kill}
use Rattle.cm_run.specs.Gates.{MakerSeen}
use Rattle.chronmap.specs.declared.stop.Stop.{Stop}
use Rattle.chronmap.specs.Done.{Gives}
use Rattle.chronmap.specs.ExitCodes.{Answers, Asks, IsStopped}
use Rattle.chronmap.specs.Lent.{Lent, lent}
use Rattle.chronmap.specs.Refusals.{Stops}
use Rattle.chronmap.specs.Streams.{StreamView}
use Rattle.chronmap.specs.Taken.{IsOffline, IsTaken, Leaves}
use Rattle.chronmap.specs.Vaults.{VaultView}

-- a command that runs nothing needs no source
pub offline-leaves : (it : Command) (source : StreamView) (old new : VaultView) (gates later_gates : MakerSeen) → IsOffline it
    → Leaves it (lent source old gates) (lent source new later_gates)
offline-leaves (command.Run from save kills) source old new gates later_gates offline = absurd offline
offline-leaves (command.Make records seed) source old new gates later_gates offline = absurd offline
offline-leaves (command.Check name) source old new gates later_gates offline = record { source = refl; vault = tt }
offline-leaves (command.Print name) source old new gates later_gates offline = record { source = refl; vault = tt }
offline-leaves (command.Recover name renewed) source old new gates later_gates offline = record { source = refl; vault = tt }

-- what it gives is the answer to the words that ask for it
pub offline-answers : {T : Type 0} (result : Result T Stop) (items : T → List ℕ) (words : List (List ℕ)) (it : Command) (old new : VaultView) → Asks IsOffline words it
    → IfOk result (λ (text : T). (source : StreamView) (gates : MakerSeen) → Gives it (lent source old gates) (lent source new gates) (items text))
    → IfOk result (λ (text : T). (source : StreamView) (gates : MakerSeen) → Answers IsOffline words (lent source old gates) (lent source new gates) (items text))
offline-answers (Ok text) items words it old new asked gives = λ source gates. record {
  it = it;
  asked = asked;
  gives = gives source gates;
  leaves = offline-leaves it source old new gates gates asked.taken;
}
offline-answers (Err why) items words it old new asked gives = tt

-- and where it stops, the call does
pub offline-stops : {T : Type 0} (result : Result T Stop) (words : List (List ℕ)) (it : Command) (old new : VaultView) → Asks IsOffline words it
    → IfErr result (λ why. (source : StreamView) (gates : MakerSeen) → Stops it (lent source old gates) (lent source new gates) why)
    → IfErr result (λ why. (source : StreamView) (gates : MakerSeen) → IsStopped IsOffline words (lent source old gates) (lent source new gates) why)
offline-stops (Ok text) words it old new asked stops = tt
offline-stops (Err why) words it old new asked stops = λ source gates. inr record {
  it = it;
  asked = asked;
  stops = stops source gates;
  leaves = offline-leaves it source old new gates gates asked.taken;
}

-- ---- of all commands that are taken

-- what is no run and no generated one runs nothing
pub is-offline : (it : Command) → ((from : Origin) (save : Option (List ℕ)) (kills : List Kill) → it ≡ command.Run from save kills → ⊥)
    → ((records seed : ℕ) → it ≡ command.Make records seed → ⊥) → IsOffline it
is-offline (command.Run from save kills) no_run no_make = no_run from save kills refl
is-offline (command.Make records seed) no_run no_make = no_make records seed refl
is-offline (command.Check name) no_run no_make = tt
is-offline (command.Print name) no_run no_make = tt
is-offline (command.Recover name renewed) no_run no_make = tt

pub offline-answered : {T : Type 0} (result : Result T Stop) (items : T → List ℕ) (words : List (List ℕ)) (it : Command) (source : StreamView) (old new : VaultView) (gates : MakerSeen)
    → IsOffline it → Asks IsTaken words it
    → IfOk result (λ (text : T). (source : StreamView) (gates : MakerSeen) → Gives it (lent source old gates) (lent source new gates) (items text))
    → IfOk result (λ (text : T). Answers IsTaken words (lent source old gates) (lent source new gates) (items text))
offline-answered (Ok text) items words it source old new gates offline asked gives = record {
  it = it;
  asked = asked;
  gives = gives source gates;
  leaves = offline-leaves it source old new gates gates offline;
}
offline-answered (Err why) items words it source old new gates offline asked gives = tt

pub offline-stopped : {T : Type 0} (result : Result T Stop) (words : List (List ℕ)) (it : Command) (source : StreamView) (old new : VaultView) (gates : MakerSeen)
    → IsOffline it → Asks IsTaken words it
    → IfErr result (λ why. (source : StreamView) (gates : MakerSeen) → Stops it (lent source old gates) (lent source new gates) why)
    → IfErr result (IsStopped IsTaken words (lent source old gates) (lent source new gates))
offline-stopped (Ok text) words it source old new gates offline asked stops = tt
offline-stopped (Err why) words it source old new gates offline asked stops = inr record {
  it = it;
  asked = asked;
  stops = stops source gates;
  leaves = offline-leaves it source old new gates gates offline;
}

-- a run that was taken has no kill
pub run-stopped : {T : Type 0} (result : Result T Stop) (words : List (List ℕ)) (it : Command) (from : Origin) (save : Option (List ℕ)) (kills : List Kill) (old new : Lent)
    → it ≡ command.Run from save kills → Asks IsTaken words it → IfErr result (Stops (command.Run from save []) old new) → Leaves (command.Run from save []) old new
    → IfErr result (IsStopped IsTaken words old new)
run-stopped (Ok text) words it from save kills old new is asked stops leaves = tt
run-stopped (Err why) words it from save kills old new is asked stops leaves =
    let run = subst (Asks IsTaken words) is asked in
    inr record {
      it = command.Run from save [];
      asked = subst (λ (ks : List Kill). Asks IsTaken words (command.Run from save ks)) run.taken run;
      stops = stops;
      leaves = leaves;
    }

-- gates of which none was made
pub no-gates : MakerSeen
no-gates = record { can_die = λ caller kill. false; tells = false; of = λ caller. record { made = 0; last_kill = None; deaths = 0 } }
