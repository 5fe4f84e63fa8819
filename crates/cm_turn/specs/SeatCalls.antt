-- What calls by one seat ask (own).
use Rattle.std.specs.Prelude.{ℕ, ◌≡◌, ◌≤◌}
use Rattle.cm_geo.specs.declared.geo.Geo.{Geo}
use Rattle.cm_plain.specs.declared.op.Op.{Op}
use Rattle.cm_plain.specs.Limits.{KeepsLimits, segment_of}
use Rattle.cm_words.specs.Memory.{MemSeen}
use Rattle.cm_lock.specs.declared.view.View.{View}
use Rattle.cm_turn.specs.Records.{IsIdle}

-- a take has a try at least
pub record IsNonzero (tries : ℕ) : Type 0 where
  pub nonzero : 1 ≤ tries

-- besides, what the operation asks of the words holds of all memories
pub record IsValid (tries : ℕ) (ready : MemSeen → Type 0) : Type 0 where
  pub nonzero : 1 ≤ tries
  pub ready_always : (m : MemSeen) → ready m

-- a call of an operation may be made by a seat of the operation's segment that holds nothing, where the geometry has what it asks
pub record MayAct (op : Op) (Valid : Geo → Type 0) (geo : Geo) (segment : ℕ) (v : View) : Type 0 where
  pub idle : IsIdle v
  pub valid : Valid geo
  pub limits : KeepsLimits geo op
  pub segment_is : segment_of geo op ≡ segment
