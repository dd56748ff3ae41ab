-- The form of the left side of an assignment.
use Rattle.std.proofs.Common.{◌≡◌, ℕ, List, Bool, true, false, sym, ap, ◌∙◌, subst}
use Rattle.go_model.specs.declared.types.term.Term.{Term}
use Rattle.go_rules.specs.Expressions.{is_blank}
use Rattle.go_rules.specs.Nodes.{ExprLayer}
use Rattle.go_rules.specs.declared.operand.Mode.{Mode}
use Rattle.go_rules.specs.declared.operand.Operand.{Operand}
use Rattle.go_rules.specs.declared.operand.Shape.{Shape}
use Rattle.go_rules.specs.declared.operand.Shape.TheVariants as shape
use Rattle.go_rules.proofs.OneKind.{no_truth}
use Rattle.go_selectors.specs.Answers.{Decides}
use Rattle.go_statement_rules.specs.Assignments.{IsAssigned, is_assigned, is_assignable, IsBlankSide, blank_side, blank_in_parentheses}
use Rattle.go_syntax.specs.declared.expression.Expr.{Expr, Expr-F, out-Expr}
use Rattle.go_syntax.specs.declared.name.Name.{Name}

assigned_by : (m : Mode) (s : Shape) (t : Term) → s ≡ shape.Of t → is_assignable m ≡ true → IsAssigned (record { mode = m; shape = s }) t
assigned_by m s t e h = subst (λ (x : Shape). IsAssigned (record { mode = m; shape = x }) t) (sym e) (is_assigned h)

pub assigned_by_shape : (o : Operand) (t : Term) → o.shape ≡ shape.Of t → is_assignable o.mode ≡ true → IsAssigned o t
assigned_by_shape o t e h = assigned_by o.mode o.shape t e h

one_paren : {l : ExprLayer} {x y : Expr} → l ≡ Expr-F.«Expr::Paren» x → l ≡ Expr-F.«Expr::Paren» y → x ≡ y
one_paren a b = cc

one_name : {l : ExprLayer} {m n : Name} → l ≡ Expr-F.Name m → l ≡ Expr-F.Name n → m ≡ n
one_name a b = cc

name_in : (e : Expr) (n : Name) → out-Expr e ≡ Expr-F.Name n → IsBlankSide e → is_blank n.text ≡ true
name_in e n i (blank_side j k) = ap (λ (m : Name). is_blank m.text) (one_name i j) ∙ k
name_in e n i (blank_in_parentheses j h) = absurd (cc)

name_so : (e : Expr) (n : Name) (b : Bool) → out-Expr e ≡ Expr-F.Name n → is_blank n.text ≡ b → Decides b (IsBlankSide e)
name_so e n true i f = blank_side i f
name_so e n false i f = λ h. no_truth (sym (name_in e n i h) ∙ f)

pub name_decided : (e : Expr) (n : Name) (text : List ℕ) (b : Bool) → out-Expr e ≡ Expr-F.Name n → text ≡ n.text → b ≡ is_blank text → Decides b (IsBlankSide e)
name_decided e n text b i j f = name_so e n b i (sym (f ∙ ap is_blank j))

paren_in : (e x : Expr) → out-Expr e ≡ Expr-F.«Expr::Paren» x → IsBlankSide e → IsBlankSide x
paren_in e x i (blank_side j k) = absurd (cc)
paren_in e x i (blank_in_parentheses j h) = subst IsBlankSide (one_paren j i) h

pub paren_decided : (e x y : Expr) (b : Bool) → out-Expr e ≡ Expr-F.«Expr::Paren» x → y ≡ x → Decides b (IsBlankSide y) → Decides b (IsBlankSide e)
paren_decided e x y true i j d = blank_in_parentheses i (subst IsBlankSide j d)
paren_decided e x y false i j d = λ h. d (subst IsBlankSide (sym j) (paren_in e x i h))
