-- What a maker of gates tells, and what its two calls do (own). A gate is the fuse of one caller of a run.
use Rattle.std.specs.Prelude.{ℕ, ◌≡◌, ◌≢◌, ◌+◌, Bool, true, IsTrue, Option, Some, None, zero, suc}
use Rattle.cm_words.specs.Fuses.{Budget, FuseSeen, events, stores}
use Rattle.cm_command.specs.declared.kill.Kill.{Kill}
use Rattle.cm_command.specs.declared.kill.KillKind.{KillKind}
use Rattle.cm_command.specs.declared.kill.KillKind.TheVariants as kind

-- of one caller: how many gates were made, the kill of the last one, and how many came back dead
pub record CallerGates : Type 0 where
  pub made : ℕ
  pub last_kill : Option Kill
  pub deaths : ℕ

-- for which caller and kill a gate can die, whether gates tell the number of their kill, and what was counted of each caller
pub record MakerSeen : Type 0 where
  pub can_die : ℕ → Option Kill → Bool
  pub tells : Bool
  pub of : ℕ → CallerGates

-- what a kill leaves a fuse to count
abbrev pub budget_by : KillKind → ℕ → Budget
budget_by kind.Stores after = stores after
budget_by kind.Events after = events after

abbrev pub budget_of : Option Kill → Option Budget
budget_of None = None
budget_of (Some kill) = Some (budget_by kill.kind kill.after)

-- a gate of this maker for a caller and a kill: it is alive, dies only where the maker says so, and tells its kill's number where the maker's gates do
pub record IsGateOf (m : MakerSeen) (caller : ℕ) (kill : Option Kill) (gate : FuseSeen) : Type 0 where
  pub alive : gate.deaths ≡ 0
  pub could : IsTrue gate.can_die → m.can_die caller kill ≡ true
  pub told : m.tells ≡ true → gate.budget ≡ budget_of kill

-- of one caller this is counted now, and all else that the maker tells stays
pub record CountsOf (caller : ℕ) (next : CallerGates) (old now : MakerSeen) : Type 0 where
  pub here : now.of caller ≡ next
  pub others : (other : ℕ) → other ≢ caller → now.of other ≡ old.of other
  pub can_die : now.can_die ≡ old.can_die
  pub tells : now.tells ≡ old.tells

-- a gate was made for a caller and a kill
pub record MakesGate (caller : ℕ) (kill : Option Kill) (old now : MakerSeen) (gate : FuseSeen) : Type 0 where
  pub counts : CountsOf caller (record (old.of caller) { made = (old.of caller).made + 1; last_kill = kill }) old now
  pub its : IsGateOf old caller kill gate

-- one death more where a gate died
abbrev pub deaths_with : ℕ → ℕ → ℕ
deaths_with zero deaths = deaths
deaths_with (suc more) deaths = deaths + 1

-- a gate of a caller came back
abbrev pub CountsDeath : ℕ → MakerSeen → MakerSeen → FuseSeen → Type 0
CountsDeath caller old now gate = CountsOf caller (record (old.of caller) { deaths = deaths_with gate.deaths (old.of caller).deaths }) old now
