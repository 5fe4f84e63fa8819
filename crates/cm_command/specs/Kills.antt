-- Kills, and their texts (own).
use Rattle.std.specs.Prelude.{ℕ, ◌≢◌, ◌^◌, ◌<◌, ◌++◌, List, [], ◌∷◌, codes, decimal}
use Rattle.cm_command.specs.declared.kill.Kill.{Kill}
use Rattle.cm_command.specs.declared.kill.KillKind.{KillKind}
use Rattle.cm_command.specs.declared.kill.KillKind.TheVariants as kind

-- the word for what a kill counts
abbrev pub kind_text : KillKind → List ℕ
kind_text kind.Stores = codes "stores"
kind_text kind.Events = codes "events"

-- `caller:stores:n` or `caller:events:n`
abbrev pub kill_text : Kill → List ℕ
kill_text kill = decimal kill.caller ++ codes ":" ++ kind_text kill.kind ++ codes ":" ++ decimal kill.after

-- a kill that may be given: of one of the 64 callers, and after at most 4,294,967,295
pub record IsKill (kill : Kill) : Type 0 where
  pub caller : kill.caller < 64
  pub after : kill.after < 2 ^ 32

-- none of the kills is of this caller
abbrev pub AreOfOthers : ℕ → List Kill → Type 0
AreOfOthers caller [] = Unit {0}
AreOfOthers caller (kill ∷ kills) = (kill.caller ≢ caller) × AreOfOthers caller kills

-- each kill may be given, and no two are of one caller
abbrev pub AreKills : List Kill → Type 0
AreKills [] = Unit {0}
AreKills (kill ∷ kills) = IsKill kill × AreOfOthers kill.caller kills × AreKills kills
