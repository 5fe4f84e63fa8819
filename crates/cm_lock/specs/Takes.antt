-- What a take and a raise did (own).
use Rattle.std.specs.Prelude.{ℕ, ◌≡◌, ◌≢◌, ◌+◌, ◌*◌, ◌<◌, ◌≤◌, ◌⊎◌, All, Bool, List, [], ◌∷◌, length, Result, Ok, Err, if◌then◌else◌}
use Rattle.cm_words.specs.declared.fuse.EventKind.TheVariants.{Exchange}
use Rattle.cm_words.specs.Meters.{CountsForBudget, IsKilled, MeterSeen, Survives}
use Rattle.cm_lock.specs.declared.view.Level.{Level}
use Rattle.cm_lock.specs.declared.view.Try.{Try}
use Rattle.cm_lock.specs.declared.view.View.{View}
use Rattle.cm_lock.specs.declared.take.Stop.{Stop}
use Rattle.cm_lock.specs.declared.take.Stop.TheVariants.{Busy, Died}
use Rattle.cm_lock.specs.declared.take.Tried.{Tried}
use Rattle.cm_lock.specs.declared.take.Tried.TheVariants.{Taken, Missed}
use Rattle.cm_lock.specs.Levels.{Permits}

-- a try that failed: the word that its look loaded doesn't permit the level, or its exchange found another one
abbrev pub HasFailed : Level → Level → Try → Type 0
HasFailed from to t = (¬ (Permits from to t.found)) ⊎ (t.found ≢ t.looked)

-- the word that the newest try found
abbrev pub last_found : List Try → ℕ
last_found [] = 0
last_found (t ∷ ts) = t.found

-- at most so many looks were made, each by one event, and at most one exchange behind each
pub record MakesLooks (most : ℕ) (old now : View) : Type 0 where
  pub looks : old.looks ≤ now.looks
  pub within : now.looks ≤ old.looks + most
  pub events : old.events + now.looks ≤ now.events + old.looks
  pub exchanges : now.events + 2 * old.looks ≤ old.events + 2 * now.looks

-- nothing was taken: the view is as before but for tries and the counts of looks and events
pub record HasTried (most : ℕ) (old now : View) : Type 0 where
  pub view : now ≡ record old { tries = now.tries; looks = now.looks; events = now.events }
  pub counts : MakesLooks most old now

-- the level was taken, by an exchange behind a look: besides, the seat holds it
pub record GetsLevel (to : Level) (most : ℕ) (old now : View) : Type 0 where
  pub view : now ≡ record old { tries = now.tries; looks = now.looks; events = now.events; own = record old.own { level = to } }
  pub counts : MakesLooks most old now
  pub looked : old.looks < now.looks
  pub exchanged : old.events + now.looks < now.events + old.looks

-- a take gave the level: each of its looks was a try of it, and the newest one found a word that permits the level
pub record HasTaken (from to : Level) (most : ℕ) (old now : View) : Type 0 where
  pub gets : GetsLevel to most old now
  pub made : now.looks ≡ old.looks + length now.tries
  pub permits : Permits from to (last_found now.tries)

-- so many tries were made, one look each, and all failed; the newest found this word last
pub record HasFailedAll (from to : Level) (tries : ℕ) (last : ℕ) (old now : View) : Type 0 where
  pub tried : HasTried tries old now
  pub made : length now.tries ≡ tries
  pub looks : now.looks ≡ old.looks + tries
  pub failed : All (HasFailed from to) now.tries
  pub last_is : last_found now.tries ≡ last

-- what a take of at most so many tries did where it answered this
abbrev pub AnswersTake : Level → Level → ℕ → View → View → Result (Unit {0}) Stop → Type 0
AnswersTake from to tries old now (Ok done) = HasTaken from to tries old now
AnswersTake from to tries old now (Err (Busy looks last)) = (looks ≡ tries) × HasFailedAll from to tries last old now
AnswersTake from to tries old now (Err Died) = HasTried tries old now

-- a take answers Died exactly where one of its events died; none of them is a store
abbrev pub ReportsStop : MeterSeen → MeterSeen → Result (Unit {0}) Stop → Type 0
ReportsStop old now (Ok done) = Survives old now
ReportsStop old now (Err (Busy looks last)) = Survives old now
ReportsStop old now (Err Died) = IsKilled old now × CountsForBudget Exchange old.fuse.budget

-- this try was the first one of a take, or came behind its tries before it
abbrev pub AddsTry : Bool → Try → View → View → Type 0
AddsTry is_first t old now = now.tries ≡ t ∷ (if is_first then [] else old.tries)

-- what one try did, the first one of a take or a later one
abbrev pub AnswersTry : Level → Level → Bool → View → View → Tried → Type 0
AnswersTry from to is_first old now Taken = GetsLevel to 1 old now × ((t : Try) × Permits from to t.found × AddsTry is_first t old now)
AnswersTry from to is_first old now (Missed last) =
    HasTried 1 old now × (now.looks ≡ old.looks + 1) × ((t : Try) × (t.found ≡ last) × HasFailed from to t × AddsTry is_first t old now)
