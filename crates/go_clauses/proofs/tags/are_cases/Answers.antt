use Rattle.std.proofs.Common.{arith}
use Rattle.go_nodes.proofs.EachItems.{each_done, each_next, each_not}
use Rattle.go_statement_rules.specs.Clauses.{IsCase}
use Rattle.go_type_terms.specs.Answers.{env_in}
use Rattle.go_clauses.proofs.tags.are_cases.Goals as goal

pub returns-then-not-branch : goal.returns-then-not-branch
returns-then-not-branch c = each_not (IsCase (env_in c.args.context.now) c.args.term.now) c.args.exprs.now c.loop-expr.expr-index c.expr-item.result c.loop-expr-test.true c.expr-item.is c.loop-expr.invariant c.in_ok-is_case.field-0 c.if-not-branch.true c.in_ok-is_case.ensures

pub loop-expr-preserved : goal.loop-expr-preserved
loop-expr-preserved c = each_next (IsCase (env_in c.args.context.now) c.args.term.now) c.args.exprs.now c.loop-expr.expr-index c.expr-item.result c.loop-expr-test.true c.expr-item.is c.loop-expr.invariant c.in_ok-is_case.field-0 c.if-not-branch.false c.in_ok-is_case.ensures

pub returns : goal.returns
returns c = each_done (IsCase (env_in c.args.context.now) c.args.term.now) c.args.exprs.now c.loop-expr.expr-index (omega arith) c.loop-expr.invariant
