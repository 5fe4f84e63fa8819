-- What a call by one seat, and by its seat of the yard, counts and leaves (own).
use Rattle.std.specs.Prelude.{ℕ, ◌≡◌, ◌≢◌, ◌+◌, ◌<◌, ◌≤◌, ◌⊎◌, Bool, true, false, List, ◌++◌, Some, None, count_by}
use Rattle.cm_plain.specs.declared.op.Op.{Op}
use Rattle.cm_plain.specs.declared.reply.Reply.TheVariants as reply
use Rattle.cm_plain.specs.Steps.{is_change}
use Rattle.cm_words.specs.Fuses.{FuseSeen}
use Rattle.cm_words.specs.Meters.{MeterSeen}
use Rattle.cm_lock.specs.declared.view.ChangeCopy.{ChangeCopy}
use Rattle.cm_lock.specs.declared.view.Level.TheVariants.{Write}
use Rattle.cm_lock.specs.declared.view.NumberedChange.{NumberedChange}
use Rattle.cm_lock.specs.declared.view.View.{View}
use Rattle.cm_lock.specs.Tables.{key_of}
use Rattle.cm_yard.specs.declared.view.OwnedWord.{OwnedWord}
use Rattle.cm_yard.specs.declared.view.View.{View as YardView}
use Rattle.cm_yard.specs.Claims.{FindsOwned, OnlyClaims, claims_for}
use Rattle.cm_yard.specs.Yards.{key_of as yard_key_of}
use Rattle.cm_turn.specs.declared.turn.Ground.{Ground}
use Rattle.cm_turn.specs.declared.turn.Settled.{Settled}
use Rattle.cm_turn.specs.Answers.{reply_in}
use Rattle.cm_turn.specs.Records.{Adds, Dies, NotesEnd}

-- the parts that callers of a segment share fit each other
pub record IsGround (ground : Ground) : Type 0 where
  pub here : ground.segment < ground.geo.now.segments
  pub table_geo : (key_of ground.table.now).geo ≡ ground.geo.now
  pub table_segment : (key_of ground.table.now).segment ≡ ground.segment
  pub yard_geo : (yard_key_of ground.yard.now).geo ≡ ground.geo.now

-- a fuse, with the counts of both seats
abbrev pub turn_meter : FuseSeen → View → YardView → MeterSeen
turn_meter fuse v y = record { fuse = fuse; events = v.events + y.events; stores = v.stores }

-- ---- claims and link changes

-- how many of a seat's changes link a tier
abbrev pub links_in : View → ℕ
links_in v = count_by (λ (c : NumberedChange). c.change.link) v.changes

-- what was found owned is noted behind what was found so before
abbrev pub KeepsFound : YardView → YardView → Type 0
KeepsFound old now = (words : List OwnedWord) × (now.misses ≡ old.misses ++ words)

-- nothing but claims of this segment, and what was counted for them, is another
pub record ClaimsAlone (segment : ℕ) (old now : YardView) : Type 0 where
  pub only : OnlyClaims old now
  pub found : KeepsFound old now
  pub others : (other : ℕ) → other ≢ segment → claims_for other now ≡ claims_for other old

-- no claim was given
pub record ClaimsNone (old now : YardView) : Type 0 where
  pub only : OnlyClaims old now
  pub found : KeepsFound old now
  pub claims : now.claims ≡ old.claims

-- a claim was given where one was wanted; else each claim word was found owned by an exchange of this call. Where none was wanted, none was
-- tried
pub record IsGranted (segment extra : ℕ) (wanted granted : Bool) (old now : YardView) : Type 0 where
  pub alone : ClaimsAlone segment old now
  pub given : granted ≡ true → wanted ≡ true → claims_for segment now ≡ claims_for segment old + 1
  pub unwanted : wanted ≡ false → (granted ≡ true) × (now ≡ old)
  pub refused : granted ≡ false → FindsOwned old now extra

-- a claim was given for each change that links a tier
pub record Pays (segment : ℕ) (old now : View) (before later : YardView) : Type 0 where
  pub alone : ClaimsAlone segment before later
  pub paid : links_in now + claims_for segment before ≡ links_in old + claims_for segment later

-- after a death there may be one claim more, and is, where the plan under way links a tier
pub record Owes (segment : ℕ) (old now : View) (before later : YardView) : Type 0 where
  pub alone : ClaimsAlone segment before later
  pub paid : links_in now + claims_for segment before ≤ links_in old + claims_for segment later
  pub one_more : links_in old + claims_for segment later ≤ links_in now + claims_for segment before + 1
  pub plan : (c : ChangeCopy) → now.own.plan ≡ Some c → c.link ≡ true → links_in old + claims_for segment later ≡ links_in now + claims_for segment before + 1

-- ---- what was done under a level

-- the answer was added; the level is the same, or Write, and so is the round. It is FullSpent only where this call's exchanges found each claim
-- word owned; no exchange was made where it is another one and no change that links a tier was added
pub record Settles (segment extra : ℕ) (op : Op) (out : List ℕ) (old now : View) (before later : YardView) (settled : Settled) : Type 0 where
  pub adds : Adds op settled.number (reply_in settled.answer out) old now
  pub idle : now.own.plan ≡ None
  pub level : (now.own.level ≡ old.own.level) ⊎ (now.own.level ≡ Write)
  pub round : now.round ≡ old.round
  pub noted : is_change (reply_in settled.answer out) ≡ true → (now.own.level ≡ Write) × NotesEnd now settled.number
  pub pays : Pays segment old now before later
  pub spent : reply_in settled.answer out ≡ reply.FullSpent → FindsOwned before later extra
  pub untried : reply_in settled.answer out ≢ reply.FullSpent → links_in now ≡ links_in old → later ≡ before

-- or it died
pub record DiesOwing (segment : ℕ) (op : Op) (old now : View) (before later : YardView) : Type 0 where
  pub dies : Dies op old now
  pub owes : Owes segment old now before later
