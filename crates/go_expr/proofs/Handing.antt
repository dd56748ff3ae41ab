-- Errors of parts that are handed on.
use Rattle.std.proofs.Common.{◌≡◌, List, [], ◌∷◌, sym, subst, Bool, Result, Ok, Err}
use Rattle.std.specs.Result.{IsErrAnd}
use Rattle.go_rules.specs.Environments.{Env}
use Rattle.go_rules.specs.Expressions.{Has, HasElements, HasPost, HasPosts}
use Rattle.go_rules.specs.Nodes.{PostLayer, element_parts, post, post_parts}
use Rattle.go_rules.specs.declared.operand.Operand.{Operand}
use Rattle.go_rules.proofs.OneOperand.{has_once}
use Rattle.go_syntax.specs.declared.expression.Expr.{Expr}
use Rattle.go_syntax.specs.declared.expression.Post.{Post, out-Post}
use Rattle.go_syntax.specs.declared.name.Name.{Name}
use denote.Ref.{Bor}
use Rattle.go_model.specs.declared.types.term.Term.{Term}
use Rattle.go_syntax.specs.declared.expression.Element.{Element}
use Rattle.go_literals.specs.go_type_terms.Answers.{Tells, Types, TypesPart}
use Rattle.go_literals.specs.go_type_terms.Loudness.{AreLoud}
use Rattle.go_literals.specs.go_type_terms.declared.part.Answer.TheVariants as answer
use Rattle.go_literals.specs.go_type_terms.declared.part.Part.{Part}
use Rattle.go_literals.specs.go_type_terms.declared.part.Part.TheVariants as part
use Rattle.go_literals.specs.go_type_terms.declared.error.ExprError.{ExprError}
use Rattle.go_literals.specs.go_type_terms.declared.error.ExprError.TheVariants.{NoMemory, Untyped}
use Rattle.go_expr.specs.Imports.{ImportedWithin}
use Rattle.go_expr.specs.Posts.{PostsTyped, QualifiedTyped, UnqualifiedTyped}
use Rattle.go_expr.proofs.Parts.{post_loud}

module _ (E : Env) where
  pub qualified_handed : (q n : Name) (xs : List Post) (e : ExprError) (r : Result (Operand × Bool) ExprError) → IsErrAnd r (λ y. y ≡ e) → Tells {A = Operand} (ImportedWithin E q n) (Err e) → QualifiedTyped E q n xs r
  qualified_handed q n xs e (Ok a) d t = absurd d
  qualified_handed q n xs e (Err NoMemory) d t = tt
  qualified_handed q n xs Untyped (Err Untyped) d t = λ o r w h. t o w
  qualified_handed q n xs NoMemory (Err Untyped) d t = absurd (cc)

  pub unqualified_handed : (x : Expr) (o : Operand) (xs : List Post) → Has E x o → (e : ExprError) (r : Result (Operand × Bool) ExprError) → IsErrAnd r (λ y. y ≡ e) → PostsTyped E o xs (Err e) → UnqualifiedTyped E x xs r
  unqualified_handed x o xs h e (Ok a) d t = absurd d
  unqualified_handed x o xs h e (Err NoMemory) d t = tt
  unqualified_handed x o xs h Untyped (Err Untyped) d t = λ p r k m. t r (subst (λ (q : Operand). HasPosts E q xs r) (has_once E k h) m)
  unqualified_handed x o xs h NoMemory (Err Untyped) d t = absurd (cc)

  pub post_form : (o : Operand) (x : Post) (l : PostLayer) → out-Post x ≡ l → (r : Result (Operand × Bool) ExprError) → Types {A = Operand} E (HasPost E o l) (post_parts l) r → Types {A = Operand} E (HasPost E o (out-Post x)) (post x ∷ []) r
  post_form o x l i (Ok a) t = (subst (λ (k : PostLayer). HasPost E o k a.0) (sym i) t.0, post_loud E x l i a.1 t.1)
  post_form o x l i (Err NoMemory) t = tt
  post_form o x l i (Err Untyped) t = λ a h. t a (subst (λ (k : PostLayer). HasPost E o k a) i h)

  pub elements_part : (p : Part) (t : Bor Term) (xs : Bor (List Element)) (b : Bool) → p ≡ part.Elements t xs → HasElements E t.now xs.now → AreLoud E (element_parts xs.now) b → TypesPart E p (Ok (answer.Elements b))
  elements_part p t xs b i h l = subst (λ (q : Part). TypesPart E q (Ok (answer.Elements b))) (sym i) (h, l)

  -- want of memory
  pub starved_part : (p : Part) → TypesPart E p (Err NoMemory)
  starved_part (part.Expr e) = tt
  starved_part (part.Type t) = tt
  starved_part (part.Elements t xs) = tt
