-- What a fuse that was asked for one event makes of a meter, and a call of a seat that makes one event.
use Rattle.std.proofs.Common.{◌≡◌, ℕ, ◌+◌, Ok, Err, refl, arith, false, true}
use Rattle.std.specs.Prelude.{IsErr}
use Rattle.cm_words.specs.declared.fuse.Admit.TheVariants.{Go, Die}
use Rattle.cm_words.specs.declared.fuse.EventKind.{EventKind}
use Rattle.cm_words.specs.declared.fuse.EventKind.TheVariants.{Exchange, Load}
use Rattle.std.specs.declared.result.Result.{Result}
use Rattle.cm_words.specs.Fuses.{Admits, FuseSeen, stores_in}
use Rattle.cm_words.specs.Meters.{MakesEvent, MeterSeen, ReportsDeath}
use Rattle.cm_words.proofs.MeterCounts.{counts_event, killed_event, survives_event}
use Rattle.cm_lock.specs.declared.view.View.{View}
use Rattle.cm_lock.specs.Calls.{MakesOneEvent}
use Rattle.cm_lock.specs.Rule.{seat_meter}

module _ {T E : Type 0} (kind : EventKind) (old now : MeterSeen) where
  -- the event was admitted and counted
  pub reports_made : (value : T) → Admits kind old.fuse now.fuse Go → now.events ≡ old.events + 1 → now.stores ≡ old.stores + stores_in kind → ReportsDeath {T = T} {E = E} old now (Ok value)
  reports_made value admits e s = record { survives = survives_event kind old now admits e s; killed = tt }

  pub makes_made : (value : T) → now.events ≡ old.events + 1 → now.stores ≡ old.stores + stores_in kind → MakesEvent {T = T} {E = E} kind old now (Ok value)
  makes_made value e s = record { events = e; stores = s; counts = tt }

  -- it died, and nothing was counted
  pub reports_died : (error : E) → Admits kind old.fuse now.fuse Die → now.events ≡ old.events → now.stores ≡ old.stores → ReportsDeath {T = T} {E = E} old now (Err error)
  reports_died error admits e s = record { survives = tt; killed = killed_event kind old now admits e s }

  pub makes_died : (error : E) → Admits kind old.fuse now.fuse Die → MakesEvent {T = T} {E = E} kind old now (Err error)
  makes_died error admits = record { events = tt; stores = tt; counts = counts_event kind old.fuse now.fuse admits }

-- a load and an exchange count no store
pub load_stores : (old now : ℕ) → now ≡ old → now ≡ old + stores_in Load
load_stores old now e = omega (arith, e)

pub exchange_stores : (old now : ℕ) → now ≡ old → now ≡ old + stores_in Exchange
exchange_stores old now e = omega (arith, e)

-- ---- one event of a seat

-- it was made, and did this
pub one_made : {T E : Type 0} (kind : EventKind) (Done : T → View → View → Type 0) (before after : FuseSeen) (old now : View) (value : T) → Admits kind before after Go → now.events ≡ old.events + 1 → now.stores ≡ old.stores + stores_in kind → Done value old now
    → MakesOneEvent {T = T} {E = E} kind Done before after old now (Ok value)
one_made kind Done before after old now value admits e s done = record {
  fuse = reports_made kind (seat_meter before old) (seat_meter after now) value admits e s;
  event = makes_made kind (seat_meter before old) (seat_meter after now) value e s;
  done = done;
  dead = tt;
}

-- it died
pub one_died : {T E : Type 0} (kind : EventKind) (Done : T → View → View → Type 0) (before after : FuseSeen) (old : View) (result : Result T E) → IsErr result → Admits kind before after Die → MakesOneEvent kind Done before after old old result
one_died kind Done before after old (Ok value) err admits = absurd (let no : false ≡ true = err in cc)
one_died kind Done before after old (Err error) err admits = record {
  fuse = reports_died kind (seat_meter before old) (seat_meter after old) error admits refl refl;
  event = makes_died kind (seat_meter before old) (seat_meter after old) error admits;
  done = tt;
  dead = refl;
}
