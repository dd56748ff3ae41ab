-- One step of an operand and what follows it, from the answers of the calls that take it.
use Rattle.std.proofs.Common.{◌≡◌, Bool, Result, Ok, Err}
use Rattle.std.specs.Result.{IsErrAnd}
use Rattle.go_rules.specs.Environments.{Env}
use Rattle.go_rules.specs.declared.operand.Operand.{Operand}
use Rattle.go_syntax.specs.declared.expression.Expr.{Expr}
use Rattle.go_syntax.specs.declared.expression.Post.{Post}
use Rattle.go_syntax.specs.declared.name.Name.{Name}
use Rattle.go_literals.specs.go_type_terms.Answers.{Tells}
use Rattle.go_literals.specs.go_type_terms.declared.error.ExprError.{ExprError}
use Rattle.go_literals.specs.go_type_terms.declared.error.ExprError.TheVariants.{NoMemory, Untyped}
use Rattle.go_expr.specs.Chains.{Makes, NamesImported}
use Rattle.go_expr.specs.Imports.{ImportedWithin, IsQualified}
use Rattle.go_expr.specs.Posts.{IsStep, StepTyped}
use Rattle.go_expr.proofs.ImportedNames.{one_name, one_selector}
use Rattle.go_expr.proofs.PrimaryExprs.{renamed}

module _ (E : Env) where
  pub step_makes : (o r : Operand) (x : Post) (b : Bool) → IsStep E o x r b → Makes E o x r
  step_makes o r x b s = (s.0, s.1)

  pub step_none : (o : Operand) (x : Post) (e : ExprError) (r : Result Operand ExprError) → IsErrAnd r (λ y. y ≡ e) → StepTyped E o x (Err e) → Tells (Makes E o x) r
  step_none o x e (Ok a) h t = absurd h
  step_none o x e (Err NoMemory) h t = tt
  step_none o x Untyped (Err Untyped) h t = λ r m. t r m.0 m.1
  step_none o x NoMemory (Err Untyped) h t = absurd (cc)

  pub imported_named : (e : Expr) (x : Post) (q n : Name) → IsQualified E e x (q, n) → (r : Result Operand ExprError) → Tells (ImportedWithin E q n) r → Tells (NamesImported E e x) r
  imported_named e x q n y (Ok o) t = ((q, n), y.0, y.1, t)
  imported_named e x q n y (Err NoMemory) t = tt
  imported_named e x q n y (Err Untyped) t = λ o m. t o (renamed E (one_name m.1 y.0) (one_selector m.2 y.1) m.3)

  pub imported_none : (e : Expr) (x : Post) → ((ns : Name × Name) → IsQualified E e x ns → ⊥) → (o : Operand) → NamesImported E e x o → ⊥
  imported_none e x none o m = none m.0 (m.1, m.2, m.3.0.path, m.3.0.imported)
