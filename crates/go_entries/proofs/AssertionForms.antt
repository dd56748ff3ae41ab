-- Type assertions and receives, by the form of an expression.
use Rattle.std.proofs.Common.{◌≡◌, List, Bool, true, false, sym, ap, ◌∙◌, subst}
use Rattle.go_base.specs.declared.operator.PrefixOperator.{PrefixOperator}
use Rattle.go_base.specs.declared.operator.PrefixOperator.TheVariants as prefix
use Rattle.go_rules.specs.Nodes.{ExprLayer}
use Rattle.go_selectors.specs.Answers.{Decides}
use Rattle.go_syntax.specs.declared.expression.Expr.{Expr, Expr-F, out-Expr}
use Rattle.go_syntax.specs.declared.expression.Post.{Post}
use Rattle.go_typings.specs.Initializers.{IsAssertionOrReceive, is_receive, is_assertion, is_in_parentheses}
use Rattle.go_entries.specs.inner.Values.{EndsInAssertion}

one_paren : {l : ExprLayer} {x y : Expr} → l ≡ Expr-F.«Expr::Paren» x → l ≡ Expr-F.«Expr::Paren» y → x ≡ y
one_paren a b = cc

assertion_in : (e x : Expr) (ps : List Post) → out-Expr e ≡ Expr-F.Primary x ps → IsAssertionOrReceive e → EndsInAssertion ps
assertion_in e x ps i (is_receive j) = absurd (cc)
assertion_in e x ps i (is_assertion {t = t} qs p j k) = (qs, p, t, cc, k)
assertion_in e x ps i (is_in_parentheses j h) = absurd (cc)

assertion_to : (e x : Expr) (ps : List Post) → out-Expr e ≡ Expr-F.Primary x ps → EndsInAssertion ps → IsAssertionOrReceive e
assertion_to e x ps i h = is_assertion h.0 h.1 (i ∙ ap (λ rs. Expr-F.Primary x rs) h.3) h.4

primary_so : (e x : Expr) (ps : List Post) (b : Bool) → out-Expr e ≡ Expr-F.Primary x ps → Decides b (EndsInAssertion ps) → Decides b (IsAssertionOrReceive e)
primary_so e x ps true i d = assertion_to e x ps i d
primary_so e x ps false i d = λ h. d (assertion_in e x ps i h)

pub primary_decided : (e x : Expr) (qs ps : List Post) (b : Bool) → out-Expr e ≡ Expr-F.Primary x qs → ps ≡ qs → Decides b (EndsInAssertion ps) → Decides b (IsAssertionOrReceive e)
primary_decided e x qs ps b i j d = primary_so e x qs b i (subst (λ (rs : List Post). Decides b (EndsInAssertion rs)) j d)

one_operator : {l : ExprLayer} {x y : Expr} {o p : PrefixOperator} → l ≡ Expr-F.Prefix o x → l ≡ Expr-F.Prefix p y → o ≡ p
one_operator a b = cc

receive_in : (e x : Expr) (o : PrefixOperator) → out-Expr e ≡ Expr-F.Prefix o x → IsAssertionOrReceive e → o ≡ prefix.Receive
receive_in e x o i (is_receive j) = one_operator i j
receive_in e x o i (is_assertion qs p j k) = absurd (cc)
receive_in e x o i (is_in_parentheses j h) = absurd (cc)

pub prefix_decided : (e x : Expr) (o : PrefixOperator) (b : Bool) → out-Expr e ≡ Expr-F.Prefix o x → Decides b (o ≡ prefix.Receive) → Decides b (IsAssertionOrReceive e)
prefix_decided e x o true i d = is_receive (subst (λ (p : PrefixOperator). out-Expr e ≡ Expr-F.Prefix p x) d i)
prefix_decided e x o false i d = λ h. d (receive_in e x o i h)

paren_in : (e x : Expr) → out-Expr e ≡ Expr-F.«Expr::Paren» x → IsAssertionOrReceive e → IsAssertionOrReceive x
paren_in e x i (is_receive j) = absurd (cc)
paren_in e x i (is_assertion qs p j k) = absurd (cc)
paren_in e x i (is_in_parentheses j h) = subst IsAssertionOrReceive (one_paren j i) h

pub paren_decided : (e x y : Expr) (b : Bool) → out-Expr e ≡ Expr-F.«Expr::Paren» x → y ≡ x → Decides b (IsAssertionOrReceive y) → Decides b (IsAssertionOrReceive e)
paren_decided e x y true i j d = is_in_parentheses i (subst IsAssertionOrReceive j d)
paren_decided e x y false i j d = λ h. d (subst IsAssertionOrReceive (sym j) (paren_in e x i h))
