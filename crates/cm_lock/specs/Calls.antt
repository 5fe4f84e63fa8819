-- What a call of a seat owes that makes one event (own).
use Rattle.std.specs.Prelude.{◌≡◌, IfOk, OnErr, Result}
use Rattle.cm_words.specs.declared.fuse.EventKind.{EventKind}
use Rattle.cm_words.specs.Fuses.{FuseSeen}
use Rattle.cm_words.specs.Meters.{MakesEvent, ReportsDeath}
use Rattle.cm_lock.specs.declared.view.View.{View}
use Rattle.cm_lock.specs.Rule.{seat_meter}

-- One event of this kind was made, and did this, of the answer and of the view before and after. Where it died, the view is as before
pub record MakesOneEvent {T E : Type 0} (kind : EventKind) (Done : T → View → View → Type 0) (before after : FuseSeen) (old now : View) (result : Result T E) : Type 0 where
  pub fuse : ReportsDeath (seat_meter before old) (seat_meter after now) result
  pub event : MakesEvent kind (seat_meter before old) (seat_meter after now) result
  pub done : IfOk result (λ value. Done value old now)
  pub dead : OnErr result (now ≡ old)
