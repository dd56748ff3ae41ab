use Rattle.std.proofs.Common.{◌≡◌, ◌≢◌, List, [], Result, Ok, Err, Some, IfOk, refl, sym, subst}
use Rattle.std.specs.Prelude.{IfErr}
use Rattle.go_model.specs.declared.files.build.ConstraintPart.{ConstraintPart}
use Rattle.go_model.specs.declared.files.build.Constraint.{Constraint}
use Rattle.go_model.specs.files.BuildConstraints.{IsOr}
use Rattle.go_tags.specs.declared.error.TagError.{TagError}
use Rattle.go_tags.specs.declared.error.TagError.TheVariants.{BadExpression, Twice, PlusBuild, NoMemory}
use Rattle.go_tags.specs.inner.RecursiveDescent.{or_below}
use Rattle.go_tags.specs.inner.ParserAnswers.{Reads}
use Rattle.go_tags.specs.inner.ExpressionCauses.{OrCause}
use Rattle.go_tags.proofs.CompleteExpressions.{refused, left_over}
use Rattle.go_tags.proofs.SoundExpressions.{whole_below}
use Rattle.go_tags.proofs.expression.read_parts.Goals as goal

failed : (e : TagError) (parts rest : List ConstraintPart) → Reads {A = Constraint} (or_below 257 parts) (Err e) rest → OrCause parts e
failed BadExpression parts rest r = refused 256 257 refl parts r
failed NoMemory parts rest r = tt
failed Twice parts rest r = r
failed PlusBuild parts rest r = r

tree_of : (r : Result Constraint TagError) (parts rest : List ConstraintPart) (y : Constraint) → or_below 257 parts ≡ Some (y, rest) → IfOk r (λ x. (x ≡ y) × (rest ≡ [])) → IfOk r (IsOr 256 parts)
tree_of (Ok x) parts rest y e o = subst (IsOr 256 parts) (sym o.0) (whole_below 256 257 refl parts y rest e o.1)
tree_of (Err e) parts rest y q o = tt

cause_of : (r : Result Constraint TagError) (parts rest : List ConstraintPart) (y : Constraint) → or_below 257 parts ≡ Some (y, rest) → IfErr r (λ e. (e ≡ BadExpression) × (rest ≢ [])) → IfErr r (OrCause parts)
cause_of (Ok x) parts rest y e o = tt
cause_of (Err e) parts rest y q o = subst (OrCause parts) (sym o.0) (left_over 256 257 refl parts y rest q o.1)

pub returns-in-Ok : goal.returns-in-Ok
returns-in-Ok c =
    let e = subst (λ (parts : List ConstraintPart). or_below 257 parts ≡ Some (c.in-Ok.found, c.or_below.new.parts)) c.new-cursor.ensures c.in-Ok.ensures in
    record {
      tree = tree_of c.whole.result c.args.parts.now c.or_below.new.parts c.in-Ok.found e c.whole.ensures.tree;
      cause = cause_of c.whole.result c.args.parts.now c.or_below.new.parts c.in-Ok.found e c.whole.ensures.cause;
    }

pub returns-in-Err : goal.returns-in-Err
returns-in-Err c = record {
  tree = tt;
  cause = failed c.in-Err.error c.args.parts.now c.or_below.new.parts (subst (λ (parts : List ConstraintPart). Reads {A = Constraint} (or_below 257 parts) (Err c.in-Err.error) c.or_below.new.parts) c.new-cursor.ensures c.in-Err.ensures);
}
