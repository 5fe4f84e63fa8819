-- What the exit code of a call says of the words, of what is lent, and of the output (own).
use Rattle.std.specs.Prelude.{◌≡◌, ◌⊎◌, ℕ, List}
use Rattle.std.specs.Io.KnownBytes.{Appends}
use Rattle.cm_geo.specs.declared.refused.GeoRefused.{GeoRefused}
use Rattle.cm_command.specs.Grammar.{AsksFor}
use Rattle.cm_command.specs.declared.command.Command.{Command}
use Rattle.cm_script.specs.Scripts.{Refusal}
use Rattle.chronmap.specs.declared.status.Status.{Status}
use Rattle.chronmap.specs.declared.status.Status.TheVariants as status
use Rattle.chronmap.specs.declared.stop.Stop.{Stop}
use Rattle.chronmap.specs.declared.stop.Stop.TheVariants as stop
use Rattle.chronmap.specs.Done.{Gives}
use Rattle.chronmap.specs.Lent.{Lent}
use Rattle.chronmap.specs.Refusals.{CausesImage, RefusesNumbers, RefusesScript, Stops}
use Rattle.chronmap.specs.Statuses.{code_of, refusal_text, status_of}
use Rattle.chronmap.specs.Streams.{StreamView, AppendsPrefix, AppendsUnlessFault, CountsFault}
use Rattle.chronmap.specs.Taken.{AsksForNoneOf, Leaves, Untouched}
use Rattle.chronmap.specs.Vaults.{VaultView}

-- the words ask for a command that is taken
pub record Asks (takes : Command → Type 0) (words : List (List ℕ)) (it : Command) : Type 0 where
  pub asks : AsksFor words it
  pub taken : takes it

-- the command was done, with this text
pub record Answers (takes : Command → Type 0) (words : List (List ℕ)) (old new : Lent) (text : List ℕ) : Type 0 where
  pub it : Command
  pub asked : Asks takes words it
  pub gives : Gives it old new text
  pub leaves : Leaves it old new

-- the words alone are refused: they ask for no command that is taken, or they ask for one and there is no memory
abbrev pub RefusesWords : (Command → Type 0) → List (List ℕ) → Stop → Type 0
RefusesWords takes words stop.Usage = AsksForNoneOf takes words
RefusesWords takes words stop.NoMemory = (it : Command) × AsksFor words it
RefusesWords takes words _ = ⊥

pub record StopsAtWords (takes : Command → Type 0) (words : List (List ℕ)) (old new : Lent) (why : Stop) : Type 0 where
  pub refuses : RefusesWords takes words why
  pub untouched : Untouched old new

-- the command stopped
pub record StopsCommand (takes : Command → Type 0) (words : List (List ℕ)) (old new : Lent) (why : Stop) : Type 0 where
  pub it : Command
  pub asked : Asks takes words it
  pub stops : Stops it old new why
  pub leaves : Leaves it old new

-- the call stopped
abbrev pub IsStopped : (Command → Type 0) → List (List ℕ) → Lent → Lent → Stop → Type 0
IsStopped takes words old new why = StopsAtWords takes words old new why ⊎ StopsCommand takes words old new why

-- a text was written whole, or a prefix of it and a fault was counted
abbrev pub WritesText : Status → StreamView → StreamView → List ℕ → Type 0
WritesText status.Ok old new text = Appends old.bytes new.bytes text
WritesText status.WriteFault old new text = CountsFault old new × AppendsPrefix old new text
WritesText _ old new text = ⊥

-- the command was done, and its text was written, as far as this status says
pub record Done (it : Status) (takes : Command → Type 0) (words : List (List ℕ)) (old new : Lent) (sink later_sink : StreamView) : Type 0 where
  pub text : List ℕ
  pub answers : Answers takes words old new text
  pub writes : WritesText it sink later_sink text

-- the call stopped with this status, and the line of the refusal was written, as far as the sink took it
pub record Refuses (it : Status) (takes : Command → Type 0) (words : List (List ℕ)) (old new : Lent) (sink later_sink : StreamView) : Type 0 where
  pub why : Stop
  pub status_is : it ≡ status_of why
  pub stopped : IsStopped takes words old new why
  pub text : AppendsUnlessFault sink later_sink (refusal_text why)

-- the cause of a status
abbrev pub HasStatus : Status → (Command → Type 0) → List (List ℕ) → Lent → Lent → StreamView → StreamView → Type 0
HasStatus it takes words old new sink later_sink = Done it takes words old new sink later_sink ⊎ Refuses it takes words old new sink later_sink

-- The call did what this exit code says: for 0 what the words ask for (of a run each segment's printed answers are one legal history of a bounded map,
-- each call once and in its caller's order, and the printed map is what the history leads to); each other code but 1 comes only for its cause.
pub record HasExitCode (code : ℕ) (takes : Command → Type 0) (words : List (List ℕ)) (old new : Lent) (sink later_sink : StreamView) : Type 0 where
  pub status : Status
  pub code_is : code ≡ code_of status
  pub cause : HasStatus status takes words old new sink later_sink

-- the words ask for a run of numbers that are no geometry
pub record RefusesGeometry (takes : Command → Type 0) (words : List (List ℕ)) : Type 0 where
  pub it : Command
  pub asked : Asks takes words it
  pub why : GeoRefused
  pub refuses : RefusesNumbers it why

-- they ask for a run, and the input is no script
pub record IsNoScript (takes : Command → Type 0) (words : List (List ℕ)) (old new : Lent) : Type 0 where
  pub it : Command
  pub asked : Asks takes words it
  pub why : Refusal
  pub refuses : RefusesScript it why old new

-- they ask for a command that reads a file, which is missing, no image, or one of a map that is not lawful where a lawful one is wanted
pub record RefusesImage (takes : Command → Type 0) (words : List (List ℕ)) (vault : VaultView) : Type 0 where
  pub it : Command
  pub asked : Asks takes words it
  pub why : Stop
  pub refuses : CausesImage it vault why
