-- Whether expressions are loud, by their forms and parts.
use Rattle.std.proofs.Common.{◌≡◌, List, [], ◌∷◌, ◌++◌, ◌⊎◌, inl, inr, refl, sym, ap, ◌∙◌, subst, Bool, true, false, ◌||◌}
use Rattle.go_base.specs.Lists.{Has as In}
use Rattle.go_base.specs.declared.operator.PrefixOperator.{PrefixOperator}
use Rattle.go_base.specs.declared.operator.PrefixOperator.TheVariants as prefix
use Rattle.go_syntax.specs.declared.expression.Expr.{Expr, Expr-F, out-Expr}
use Rattle.go_syntax.specs.declared.expression.Post.{Post}
use Rattle.go_rules.specs.Environments.{Env}
use Rattle.go_rules.specs.Expressions.{CallsAt, calls_at, IsQuietCall, is_receive}
use Rattle.go_rules.specs.Nodes.{ExprLayer, Node, Stands, stands_here, stands_in, expression_parts, parts, expression}
use Rattle.go_type_terms.proofs.Gone.{or_false}
use Rattle.go_type_terms.specs.Loudness.{AreLoud, Loud, loud_receive, loud_call, Quiet}
use Rattle.go_operations.specs.Prefixes.{is_receive_operator}

-- how a tree stands in another
pub stands : {a b : Node} → Stands a b → (a ≡ b) ⊎ ((c : Node) × In (parts a) c × Stands c b)
stands stands_here = inl refl
stands (stands_in i s) = inr (_, i, s)

same_expr : {x y : Expr} → expression x ≡ expression y → x ≡ y
same_expr e = cc

module _ (E : Env) where
  -- a part that is loud makes the whole so
  pub raised : (n m : Node) → In (parts n) m → Loud E m → Loud E n
  raised n m i (loud_receive x s r) = loud_receive x (stands_in i s) r
  raised n m i (loud_call y x before c s a o t r k) = loud_call y x before c (stands_in i s) a o t r k

  pub alone_quiet : (n : Node) → Quiet E n → AreLoud E (n ∷ []) false
  alone_quiet n q = λ m i. elim i [ inl e ↦ subst (Quiet E) e q | inr k ↦ absurd k ]

  pub alone_loud : (n : Node) → Loud E n → AreLoud E (n ∷ []) true
  alone_loud n l = (n, inl refl, l)

  -- an expression that is no receive, whose own calls are quiet, and whose parts are
  pub quiet_by_parts : (e : Expr) → is_receive (out-Expr e) ≡ false → ((x : Expr) (before : List Post) (c : Post) → CallsAt e x before c → IsQuietCall E x before c)
      → ((m : Node) → In (parts (expression e)) m → Quiet E m) → Quiet E (expression e)
  quiet_by_parts e r calls q = record {
    receives = λ x s. elim (stands s) [ inl i ↦ subst (λ (y : Expr). is_receive (out-Expr y) ≡ false) (same_expr i) r | inr t ↦ (q t.0 t.1).receives x t.2 ];
    calls = λ y x before c s at. elim (stands s) [ inl i ↦ calls x before c (subst (λ (w : Expr). CallsAt w x before c) (sym (same_expr i)) at) | inr t ↦ (q t.0 t.1).calls y x before c t.2 at ];
  }

  whole_loud : (e : Expr) → is_receive (out-Expr e) ≡ false → ((x : Expr) (before : List Post) (c : Post) → CallsAt e x before c → ⊥)
      → (b : Bool) → AreLoud E (parts (expression e)) b → AreLoud E (expression e ∷ []) b
  whole_loud e r none true h = alone_loud (expression e) (raised (expression e) h.0 h.1 h.2)
  whole_loud e r none false h = alone_quiet (expression e) (quiet_by_parts e r (λ x before c at. absurd (none x before c at)) h)

  -- the forms other than a receive and an operand with what follows it
  abbrev pub IsPlainForm : ExprLayer → Type 0
  IsPlainForm (Expr-F.Prefix op x) = is_receive_operator op ≡ false
  IsPlainForm (Expr-F.Primary x ps) = ⊥
  IsPlainForm l = Unit {0}

  plain_no_receive : (l : ExprLayer) → IsPlainForm l → is_receive l ≡ false
  plain_no_receive (Expr-F.Prefix prefix.Plus x) h = refl
  plain_no_receive (Expr-F.Prefix prefix.Minus x) h = refl
  plain_no_receive (Expr-F.Prefix prefix.Not x) h = refl
  plain_no_receive (Expr-F.Prefix prefix.Xor x) h = refl
  plain_no_receive (Expr-F.Prefix prefix.Dereference x) h = refl
  plain_no_receive (Expr-F.Prefix prefix.Address x) h = refl
  plain_no_receive (Expr-F.Prefix prefix.Receive x) h = absurd (cc)
  plain_no_receive (Expr-F.Primary x ps) h = absurd h
  plain_no_receive l h = refl

  plain_no_call : (e : Expr) → IsPlainForm (out-Expr e) → (x : Expr) (before : List Post) (c : Post) → CallsAt e x before c → ⊥
  plain_no_call e h x before c (calls_at after i k) = subst IsPlainForm i h

  pub form_loud : (e : Expr) (l : ExprLayer) → out-Expr e ≡ l → IsPlainForm l → (b : Bool) → AreLoud E (expression_parts l) b → AreLoud E (expression e ∷ []) b
  form_loud e l i p b h =
      let q = subst IsPlainForm (sym i) p in
      whole_loud e (plain_no_receive (out-Expr e) q) (plain_no_call e q) b (subst (λ (k : ExprLayer). AreLoud E (expression_parts k) b) (sym i) h)

  receive_loud : (e x : Expr) → out-Expr e ≡ Expr-F.Prefix prefix.Receive x → AreLoud E (expression e ∷ []) true
  receive_loud e x i = alone_loud (expression e) (loud_receive e stands_here (ap is_receive i))

  or_true : (a : Bool) → true ≡ (a || true)
  or_true true = refl
  or_true false = refl

  prefix_by : (e x : Expr) (op : PrefixOperator) (r : Bool) → r ≡ is_receive_operator op → out-Expr e ≡ Expr-F.Prefix op x → (b : Bool) → AreLoud E (expression x ∷ []) b → AreLoud E (expression e ∷ []) (b || r)
  prefix_by e x prefix.Receive true k i b h = subst (λ (f : Bool). AreLoud E (expression e ∷ []) f) (or_true b) (receive_loud e x i)
  prefix_by e x prefix.Receive false k i b h = absurd (cc)
  prefix_by e x op false k i b h = subst (λ (f : Bool). AreLoud E (expression e ∷ []) f) (sym (or_false b)) (form_loud e (Expr-F.Prefix op x) i (sym k) b h)
  prefix_by e x op true k i b h = absurd (cc)

  -- an operator before an operand is loud by the operand, or as a receive
  pub prefix_loud : (e x : Expr) (op : PrefixOperator) (r : Bool) → r ≡ is_receive_operator op → out-Expr e ≡ Expr-F.Prefix op x → (b : Bool) → AreLoud E (expression x ∷ []) b → AreLoud E (expression e ∷ []) (b || r)
  prefix_loud e x op r k i b h = prefix_by e x op r k i b h
