use Rattle.std.proofs.Common.{Option, subst}
use Rattle.go_client_typings.specs.Bodies.{AreTypedBodies, HasBody, IsTypedFunc}
use Rattle.go_clients.proofs.JudgedBodies.{bodies_judged, literals_judged}
use Rattle.go_clients.specs.inner.Told.{HasOwnRun}
use Rattle.go_declarations.specs.Forms.{form_of}
use Rattle.go_judged.proofs.Joining.{judged_same}
use Rattle.go_judged.specs.Judging.{Judges, both}
use Rattle.go_local_scopes.specs.States.{around}
use Rattle.go_nodes.specs.Trees.{nodes_in}
use Rattle.go_syntax.specs.declared.declaration.Func.{Func}
use Rattle.go_typings.specs.DeclarationNodes.{nodes}
use Rattle.go_clients.proofs.declarations.bodies.Goals as goal

pub returns-clause-judged : goal.returns-clause-judged
returns-clause-judged c =
    let E = around c.args.env.now in
    let bs = c.args.blocks.now.list.now in
    let f = form_of c.args.form in
    let own = subst (λ (o : Option Func). Judges E bs (IsTypedFunc E bs o) (HasOwnRun E bs o) c.in_ok-own.own) c.func_in.ensures c.in_ok-own.ensures.judged in
    let literals = literals_judged c.args.env.now c.body.new.env bs (nodes f) (nodes_in c.in_ok-trees.trees) c.in_ok-literals.literals c.body.ensures.same c.requires c.in_ok-trees.ensures c.in_ok-literals.ensures.judged in
    judged_same E bs (AreTypedBodies E bs f) (HasBody E bs f) (both c.in_ok-own.own c.in_ok-literals.literals) c.both.result c.both.ensures (bodies_judged E bs f c.in_ok-own.own c.in_ok-literals.literals own literals)
