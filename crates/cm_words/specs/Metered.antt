-- What a meter of the program tells (own).
use Rattle.cm_words.specs.declared.meter.Meter.{Meter}
use Rattle.cm_words.specs.Fuses.{FuseSeen}
use Rattle.cm_words.specs.Meters.{MeterSeen}

abbrev pub meter_seen : {F : Type 0} → (F → FuseSeen) → Meter F → MeterSeen
meter_seen fused meter = record { fuse = fused meter.fuse; events = meter.events; stores = meter.stores }
