-- What a copy of a plan tells (own).
use Rattle.std.specs.Prelude.{Bool, true, false, Option, Some, None}
use Rattle.cm_plain.specs.declared.op.Op.{Op}
use Rattle.cm_plain.specs.declared.op.Op.TheVariants as op
use Rattle.cm_plain.specs.Changes.{Change}
use Rattle.cm_words.specs.declared.plan_copy.AskCopy.{AskCopy}
use Rattle.cm_words.specs.declared.plan_copy.AskKind.{AskKind}
use Rattle.cm_words.specs.declared.plan_copy.AskKind.TheVariants.{Put, Get, PutIfAbsent, Replace, ReplaceIf, Remove, RemoveIf, Count, List, Sweep}
use Rattle.cm_words.specs.declared.plan_copy.PlanCopy.{PlanCopy}

-- the kind of an operation
abbrev pub kind_of_op : Op → AskKind
kind_of_op (op.Put key value) = Put
kind_of_op (op.Get key) = Get
kind_of_op (op.PutIfAbsent key value) = PutIfAbsent
kind_of_op (op.Replace key value) = Replace
kind_of_op (op.ReplaceIf key expected value) = ReplaceIf
kind_of_op (op.Remove key) = Remove
kind_of_op (op.RemoveIf key expected) = RemoveIf
kind_of_op (op.Count segment) = Count
kind_of_op (op.List segment) = List
kind_of_op (op.Sweep segment prefix) = Sweep

-- the operation of a kind, with the bytes that it has
abbrev pub op_of_kind : AskKind → AskCopy → Op
op_of_kind Put ask = op.Put ask.key ask.value
op_of_kind Get ask = op.Get ask.key
op_of_kind PutIfAbsent ask = op.PutIfAbsent ask.key ask.value
op_of_kind Replace ask = op.Replace ask.key ask.value
op_of_kind ReplaceIf ask = op.ReplaceIf ask.key ask.expected ask.value
op_of_kind Remove ask = op.Remove ask.key
op_of_kind RemoveIf ask = op.RemoveIf ask.key ask.expected
op_of_kind Count ask = op.Count ask.segment
op_of_kind List ask = op.List ask.segment
op_of_kind Sweep ask = op.Sweep ask.segment ask.key

-- the operation that was asked for
abbrev pub copied_op : AskCopy → Op
copied_op ask = op_of_kind ask.kind ask

-- the change of the plan
abbrev pub copied_change : PlanCopy → Change
copied_change plan = record {
  op = copied_op plan.ask;
  kind = plan.kind;
  key = plan.key;
  value = plan.value;
  old_run = plan.old_run;
  new_run = plan.new_run;
  link = plan.link;
}

-- the change of the plan that is under way, if one is
abbrev pub plan_under_way : Bool → PlanCopy → Option Change
plan_under_way true plan = Some (copied_change plan)
plan_under_way false plan = None
