-- What the fuses of this crate tell (own).
use Rattle.std.specs.Prelude.{◌+◌, ◌-◌, ◌^◌, ◌==◌, true, false, Some, None, if◌then◌else◌}
use Rattle.cm_words.specs.Fuses.{FuseSeen, events, stores}
use Rattle.cm_words.specs.declared.fuse.EventKind.{EventKind}
use Rattle.cm_words.specs.declared.fuse.EventKind.TheVariants.{Load, Store, Exchange}
use Rattle.cm_words.specs.declared.fuse.KillFuse.{KillFuse}
use Rattle.cm_words.specs.declared.fuse.KillFuse.TheVariants.{Never, Stores, Events, Spent}

-- a fuse that never dies
abbrev pub never_seen : FuseSeen
never_seen = record { can_die = false; deaths = 0; budget = None }

-- all but the first can die; those that count tell what is left
abbrev pub kill_seen : KillFuse → FuseSeen
kill_seen Never = never_seen
kill_seen (Stores left) = record { can_die = true; deaths = 0; budget = Some (stores left) }
kill_seen (Events left) = record { can_die = true; deaths = 0; budget = Some (events left) }
kill_seen (Spent deaths) = record { can_die = true; deaths = deaths; budget = None }

-- the fuse after it was asked for an event of this kind: it counts down, and its death is the first one of a spent fuse
abbrev pub kill_after : EventKind → KillFuse → KillFuse
kill_after kind Never = Never
kill_after Store (Stores left) = if left == 0 then Spent 1 else Stores (left - 1)
kill_after Load (Stores left) = Stores left
kill_after Exchange (Stores left) = Stores left
kill_after kind (Events left) = if left == 0 then Spent 1 else Events (left - 1)
kill_after kind (Spent deaths) = if deaths == 2 ^ 64 - 1 then Spent deaths else Spent (deaths + 1)
