use Rattle.std.proofs.Common.{◌≡◌, ◌∙◌, ℕ, List, Result, Ok, Err, sym, subst}
use Rattle.std.specs.Prelude.{IfErr}
use Rattle.go_model.specs.declared.files.build.ConstraintPart.{ConstraintPart}
use Rattle.go_model.specs.declared.files.build.Constraint.{Constraint}
use Rattle.go_model.specs.files.BuildConstraints.{AreParts, IsOr}
use Rattle.go_tags.specs.declared.error.TagError.{TagError}
use Rattle.go_tags.specs.declared.error.TagError.TheVariants.{BadExpression, Twice, PlusBuild, NoMemory}
use Rattle.go_tags.specs.inner.ExpressionCauses.{OrCause, ExpressionCause}
use Rattle.go_tags.proofs.OneCut.{parts_once}
use Rattle.go_tags.proofs.expression.expression_of.Goals as goal

through : (r : Result Constraint TagError) (text : List ℕ) (parts read : List ConstraintPart) → AreParts text parts → read ≡ parts → IfErr r (OrCause read) → IfErr r (ExpressionCause text)
through (Ok x) text parts read d e h = tt
through (Err BadExpression) text parts read d e h = λ x p. h x (subst (λ (w : List ConstraintPart). IsOr 256 w x) (sym (e ∙ parts_once d p.0 p.1)) p.2)
through (Err NoMemory) text parts read d e h = tt
through (Err Twice) text parts read d e h = h
through (Err PlusBuild) text parts read d e h = h

pub returns-clause-cause : goal.returns-clause-cause
returns-clause-cause c = through c.read_parts.result c.args.text.now c.in_ok-parts.parts c.items.result.now c.in_ok-parts.ensures.parts c.items.ensures c.read_parts.ensures.cause
