use Rattle.std.proofs.Common.{Option, None, true, subst, sym}
use denote.Ref.{Bor}
use Rattle.go_client_typings.specs.Bodies.{IsTypedFunc}
use Rattle.go_clients.proofs.JudgedBodies.{no_function}
use Rattle.go_clients.specs.inner.Told.{HasOwnRun, func_of}
use Rattle.go_judged.proofs.Joining.{judged_same}
use Rattle.go_judged.specs.Judging.{Judges, tested}
use Rattle.go_local_scopes.specs.States.{around}
use Rattle.go_syntax.specs.declared.declaration.Func.{Func}
use Rattle.std.specs.Prelude.{IfOk}
use Rattle.go_clients.proofs.declarations.body.Goals as goal

pub returns-in-None-clause-judged : goal.returns-in-None-clause-judged
returns-in-None-clause-judged c =
    let E = around c.args.env.now in
    let bs = c.args.blocks.now.list.now in
    subst (λ (o : Option (Bor Func)). Judges E bs (IsTypedFunc E bs (func_of o)) (HasOwnRun E bs (func_of o)) c.tested.result) (sym c.in-None.is) (judged_same E bs (IsTypedFunc E bs None) (HasOwnRun E bs None) (tested true) c.tested.result c.tested.ensures (no_function E bs))

pub returns-in-Some-clause-judged : goal.returns-in-Some-clause-judged
returns-in-Some-clause-judged c =
    let E = around c.args.env.now in
    let bs = c.args.blocks.now.list.now in
    subst (λ (o : Option (Bor Func)). IfOk c.type_body.result (Judges E bs (IsTypedFunc E bs (func_of o)) (HasOwnRun E bs (func_of o)))) (sym c.in-Some.is) c.type_body.ensures.judged
