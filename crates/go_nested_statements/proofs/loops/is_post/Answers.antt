use Rattle.go_nested_statements.proofs.Looped.{post_told}
use Rattle.go_syntax.specs.declared.statement.Stmt.{Stmt, out-Stmt}
use Rattle.go_syntax.specs.declared.statement.StmtKind.{out-StmtKind}
use Rattle.go_selectors.specs.Answers.{Decides}
use Rattle.go_statement_rules.specs.Statements.{IsPost, is_definition}
use Rattle.std.proofs.Common.{◌∙◌, Option, ap, subst, sym, true}
use Rattle.go_nested_statements.proofs.loops.is_post.Goals as goal

pub returns-in-Some : goal.returns-in-Some
returns-in-Some c = post_told c.args.post.now c.in-Some.statement c.is_definition.result c.in-Some.is (c.is_definition.ensures ∙ ap (λ (x : Stmt). is_definition (out-StmtKind (out-Stmt x).kind)) c.value.ensures)

pub returns-in-None : goal.returns-in-None
returns-in-None c = subst (λ (p : Option Stmt). Decides true (IsPost p)) (sym c.in-None.is) tt
