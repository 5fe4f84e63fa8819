-- The change of a plan of the program (own). A plan borrows its bytes; a change has lists.
use Rattle.std.specs.Prelude.{◌≤◌, length}
use Rattle.cm_geo.specs.declared.limits.TheConstants.{MAX_KEY_BYTES, MAX_VALUE_BYTES}
use Rattle.cm_plain.specs.declared.op.Op.{Op}
use Rattle.cm_plain.specs.declared.op.Op.TheVariants as op
use Rattle.cm_plain.specs.declared.plan.Ask.{Ask}
use Rattle.cm_plain.specs.declared.plan.Ask.TheVariants.{Put, Get, PutIfAbsent, Replace, ReplaceIf, Remove, RemoveIf, Count, List as ListAll, Sweep}
use Rattle.cm_plain.specs.declared.plan.Plan.{Plan}
use Rattle.cm_plain.specs.Changes.{Change}

-- the operation that is asked for
abbrev pub op_of_ask : Ask → Op
op_of_ask (Put key value) = op.Put key.now value.now
op_of_ask (Get key) = op.Get key.now
op_of_ask (PutIfAbsent key value) = op.PutIfAbsent key.now value.now
op_of_ask (Replace key value) = op.Replace key.now value.now
op_of_ask (ReplaceIf key expected value) = op.ReplaceIf key.now expected.now value.now
op_of_ask (Remove key) = op.Remove key.now
op_of_ask (RemoveIf key expected) = op.RemoveIf key.now expected.now
op_of_ask (Count segment) = op.Count segment
op_of_ask (ListAll segment) = op.List segment
op_of_ask (Sweep segment prefix) = op.Sweep segment prefix.now

-- the change of a plan; the slot that points to the old run is a fact of the words, and of no state
abbrev pub plan_change : Plan → Change
plan_change plan = record {
  op = op_of_ask plan.ask;
  kind = plan.kind;
  key = plan.key.now;
  value = plan.value.now;
  old_run = plan.old;
  new_run = plan.new;
  link = plan.link;
}

-- keys, prefixes and values of an operation are no longer than the longest key and the longest value
abbrev pub IsShortOp : Op → Type 0
IsShortOp (op.Put key value) = (length key ≤ MAX_KEY_BYTES) × (length value ≤ MAX_VALUE_BYTES)
IsShortOp (op.Get key) = length key ≤ MAX_KEY_BYTES
IsShortOp (op.PutIfAbsent key value) = (length key ≤ MAX_KEY_BYTES) × (length value ≤ MAX_VALUE_BYTES)
IsShortOp (op.Replace key value) = (length key ≤ MAX_KEY_BYTES) × (length value ≤ MAX_VALUE_BYTES)
IsShortOp (op.ReplaceIf key expected value) = (length key ≤ MAX_KEY_BYTES) × (length expected ≤ MAX_VALUE_BYTES) × (length value ≤ MAX_VALUE_BYTES)
IsShortOp (op.Remove key) = length key ≤ MAX_KEY_BYTES
IsShortOp (op.RemoveIf key expected) = (length key ≤ MAX_KEY_BYTES) × (length expected ≤ MAX_VALUE_BYTES)
IsShortOp (op.Count segment) = Unit {0}
IsShortOp (op.List segment) = Unit {0}
IsShortOp (op.Sweep segment prefix) = length prefix ≤ MAX_KEY_BYTES

-- and so are those of a change and of its operation
pub record IsShort (change : Change) : Type 0 where
  pub key : length change.key ≤ MAX_KEY_BYTES
  pub value : length change.value ≤ MAX_VALUE_BYTES
  pub op : IsShortOp change.op
