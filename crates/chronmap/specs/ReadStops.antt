-- Why the input was not read (own).
use Rattle.chronmap.specs.declared.source.ReadStop.{ReadStop}
use Rattle.chronmap.specs.declared.source.ReadStop.TheVariants.{Fault, NoMemory}
use Rattle.chronmap.specs.Streams.{StreamView, CountsFault}

-- the cause of each stop: a fault that was counted; want of memory is free
abbrev pub CausesReadStop : StreamView → StreamView → ReadStop → Type 0
CausesReadStop old new Fault = CountsFault old new
CausesReadStop old new NoMemory = Unit {0}
