use Rattle.std.proofs.Common.{Some, None, arith}
use Rattle.cm_command.proofs.ReadKills.{cut-caller, cut-kind}
use Rattle.cm_command.proofs.kill.kill_of.Goals as goal

pub returns-in_err-caller : goal.returns-in_err-caller
returns-in_err-caller c = rw c.from_residual.ensures (λ kill is. cut-caller c.args.text.now kill None c.in_err-caller.ensures.cases is)

pub returns-in_err-kind : goal.returns-in_err-kind
returns-in_err-kind c = rw c.from_residual-in_err-kind.ensures (λ kill is.
    let front = cut-caller c.args.text.now kill (Some (c.in_ok-caller.caller, c.in_ok-caller.others)) c.in_ok-caller.ensures.cases is in
    cut-kind c.in_ok-caller.others.now kill None c.in_err-kind.ensures.cases front.1)

pub returns-in_err-caller-2 : goal.returns-in_err-caller-2
returns-in_err-caller-2 c = rw c.from_residual-in_err-caller-2.ensures (λ kill is.
    let front = cut-caller c.args.text.now kill (Some (c.in_ok-caller.caller, c.in_ok-caller.others)) c.in_ok-caller.ensures.cases is in
    c.in_err-caller-2.ensures kill.caller (omega (arith, is.0.caller), front.0))

pub returns-in_err-kind-2 : goal.returns-in_err-kind-2
returns-in_err-kind-2 c = rw c.from_residual-in_err-kind-2.ensures (λ kill is.
    let front = cut-caller c.args.text.now kill (Some (c.in_ok-caller.caller, c.in_ok-caller.others)) c.in_ok-caller.ensures.cases is in
    let back = cut-kind c.in_ok-caller.others.now kill (Some (c.in_ok-kind.kind, c.in_ok-kind.after)) c.in_ok-kind.ensures.cases front.1 in
    c.in_err-kind-2.ensures kill.kind back.0)

pub returns-in_err-after : goal.returns-in_err-after
returns-in_err-after c = rw c.from_residual-in_err-after.ensures (λ kill is.
    let front = cut-caller c.args.text.now kill (Some (c.in_ok-caller.caller, c.in_ok-caller.others)) c.in_ok-caller.ensures.cases is in
    let back = cut-kind c.in_ok-caller.others.now kill (Some (c.in_ok-kind.kind, c.in_ok-kind.after)) c.in_ok-kind.ensures.cases front.1 in
    c.in_err-after.ensures kill.after (omega (arith, is.0.after), back.1))
