use Rattle.std.proofs.Common.{Option, Some, subst, sym}
use Rattle.go_model.specs.declared.constants.value.Basic.TheVariants as basic
use Rattle.go_model.specs.declared.types.term.Term.{Term}
use Rattle.go_model.specs.declared.types.term.Term.TheVariants as term
use Rattle.go_operators.proofs.LevelForms.{plain_is}
use Rattle.go_syntax.specs.declared.expression.Expr.{Expr}
use Rattle.go_type_terms.specs.Answers.{Tells, env_in}
use Rattle.go_type_terms.proofs.NamedTypes.{same_tells}
use Rattle.go_clauses.specs.Clauses.{IsTagOf}
use Rattle.go_clauses.specs.inner.Tags.{HasValueType}
use Rattle.go_clauses.proofs.Tagging.{tag_in, tag_to, without_tag}
use Rattle.go_clauses.proofs.tags.tag.Goals as goal

pub returns-in-Some : goal.returns-in-Some
returns-in-Some c =
    let E = env_in c.args.context.now in
    subst (λ (e : Option Expr). Tells {A = Term} (IsTagOf E e) c.type_of_value.result) (sym c.in-Some.is)
    (same_tells (HasValueType E c.in-Some.expr) (IsTagOf E (Some c.in-Some.expr)) c.type_of_value.result (tag_to E c.in-Some.expr) (tag_in E c.in-Some.expr) c.type_of_value.ensures)

pub returns-in-None : goal.returns-in-None
returns-in-None c = without_tag (env_in c.args.context.now) c.args.tag.now (term.Plain basic.Bool) c.in-None.is (plain_is basic.Bool)
