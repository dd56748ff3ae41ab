use Rattle.std.proofs.Common.{◌∙◌, List, ap, subst}
use Rattle.go_assignments.specs.Simple.{Assigns, GivesResults}
use Rattle.go_flat_statements.proofs.FlatKinds.{fitted}
use Rattle.go_syntax.specs.declared.expression.Expr.{Expr}
use Rattle.go_syntax.specs.declared.statement.StmtKind.{StmtKind-F, out-StmtKind}
use Rattle.go_syntax.specs.declared.statement.StmtKind.TheVariants.{outs-Assign, outs-AssignOp, outs-Defer, outs-Expr, outs-Go, outs-Return, outs-Send, outs-Step}
use Rattle.go_type_terms.specs.Answers.{Tells, env_in}
use Rattle.go_flat_statements.proofs.fitting.fitting.Goals as goal

pub returns-in-Expr : goal.returns-in-Expr
returns-in-Expr c = fitted (env_in c.args.context.now) c.args.returned.now (out-StmtKind c.args.kind.now) (StmtKind-F.Expr c.in-Expr.expr) (ap out-StmtKind c.in-Expr.is ∙ outs-Expr _) c.alone.result c.alone.ensures

pub returns-in-Send : goal.returns-in-Send
returns-in-Send c = fitted (env_in c.args.context.now) c.args.returned.now (out-StmtKind c.args.kind.now) (StmtKind-F.Send c.in-Send.channel c.in-Send.value) (ap out-StmtKind c.in-Send.is ∙ outs-Send _ _) c.send.result c.send.ensures

pub returns-in-Step : goal.returns-in-Step
returns-in-Step c = fitted (env_in c.args.context.now) c.args.returned.now (out-StmtKind c.args.kind.now) (StmtKind-F.Step c.in-Step.side c.in-Step.op) (ap out-StmtKind c.in-Step.is ∙ outs-Step _ _) c.step.result c.step.ensures

pub returns-in-Assign : goal.returns-in-Assign
returns-in-Assign c = fitted (env_in c.args.context.now) c.args.returned.now (out-StmtKind c.args.kind.now) (StmtKind-F.Assign c.in-Assign.sides c.in-Assign.values) (ap out-StmtKind c.in-Assign.is ∙ outs-Assign _ _) c.assign.result
    (subst (λ (es : List Expr). Tells {A = Unit {0}} (λ u. Assigns (env_in c.args.context.now) es c.in-Assign.values) c.assign.result) c.items.ensures
    (subst (λ (xs : List Expr). Tells {A = Unit {0}} (λ u. Assigns (env_in c.args.context.now) c.items.result.now xs) c.assign.result) c.items-in-Assign.ensures c.assign.ensures))

pub returns-in-AssignOp : goal.returns-in-AssignOp
returns-in-AssignOp c = fitted (env_in c.args.context.now) c.args.returned.now (out-StmtKind c.args.kind.now) (StmtKind-F.AssignOp c.in-AssignOp.side c.in-AssignOp.op c.in-AssignOp.value) (ap out-StmtKind c.in-AssignOp.is ∙ outs-AssignOp _ _ _) c.operate.result c.operate.ensures

pub returns-in-Go : goal.returns-in-Go
returns-in-Go c = fitted (env_in c.args.context.now) c.args.returned.now (out-StmtKind c.args.kind.now) (StmtKind-F.Go c.in-Go.call) (ap out-StmtKind c.in-Go.is ∙ outs-Go _) c.call_alone.result c.call_alone.ensures

pub returns-in-Defer : goal.returns-in-Defer
returns-in-Defer c = fitted (env_in c.args.context.now) c.args.returned.now (out-StmtKind c.args.kind.now) (StmtKind-F.Defer c.in-Defer.call) (ap out-StmtKind c.in-Defer.is ∙ outs-Defer _) c.call_alone-in-Defer.result c.call_alone-in-Defer.ensures

pub returns-in-Return : goal.returns-in-Return
returns-in-Return c = fitted (env_in c.args.context.now) c.args.returned.now (out-StmtKind c.args.kind.now) (StmtKind-F.Return c.in-Return.values) (ap out-StmtKind c.in-Return.is ∙ outs-Return _) c.results.result
    (subst (λ (xs : List Expr). Tells {A = Unit {0}} (λ u. GivesResults (env_in c.args.context.now) c.args.returned.now xs) c.results.result) c.items-in-Return.ensures c.results.ensures)
