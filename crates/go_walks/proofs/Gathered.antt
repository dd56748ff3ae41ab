-- What is found in the function literals of trees, from what is found in each.
use Rattle.std.proofs.Common.{◌≡◌, List, [], ◌∷◌, None, Some, refl, sym, ap, subst, inl, inr}
use Rattle.go_base.specs.Lists.{Has as In, Each}
use Rattle.go_base.proofs.Members.{each_has}
use Rattle.go_judged.specs.Judging.{Among, Judges}
use Rattle.go_judged.proofs.Joining.{judged_as}
use Rattle.go_judged.specs.declared.judged.Judged.{Judged}
use Rattle.go_literal_blocks.specs.Literals.{AreLiteralsOf, Form, HasLiteral, form_of, forms_in, layer_literal, literal_here}
use Rattle.go_literal_blocks.specs.declared.literals.Literal.{Literal}
use Rattle.go_rules.specs.Environments.{Env}
use Rattle.go_rules.specs.Nodes.{ExprLayer, Node, Stands, expression, post, value, type, signature}
use Rattle.go_statement_rules.specs.Bodies.{IsTypedRun}
use Rattle.go_statement_rules.specs.Functions.{Enclosing, EntersFunction, Run}
use Rattle.go_statement_rules.specs.Scopes.{Scopes}
use Rattle.go_statement_rules.specs.Statements.{IsTypedFunction, LiteralsAreTyped, literals_typed}
use Rattle.go_statement_rules.proofs.OneRun.{literal_run}
use Rattle.go_syntax.specs.declared.body.BodyRange.{BodyRange}
use Rattle.go_syntax.specs.declared.expression.Expr.{Expr, Expr-F, out-Expr}
use Rattle.go_syntax.specs.declared.statement.LiteralBlock.{LiteralBlock}
use Rattle.go_syntax.specs.declared.types.Signature.{Signature as Sig}
use Rattle.go_untyped_places.specs.LiteralRuns.{IsLiteralRun}
use Rattle.go_walks.specs.Literals.{EntersLiteral, IsTypedLiteral, LiteralsTyped}

-- ---- a literal as a tree

none_some : {l : Form} → None ≡ Some l → ⊥
none_some e = absurd (cc)

same_form : {l m : Form} → Some l ≡ Some m → l ≡ m
same_form e = cc

layer_is : (x : ExprLayer) (l : Form) → layer_literal x ≡ Some l → x ≡ Expr-F.FuncLit l.0 l.1
layer_is (Expr-F.FuncLit g b) l e = ap (λ (m : Form). Expr-F.FuncLit m.0 m.1) (same_form e)
layer_is x l e = absurd (none_some e)

node_is : (n : Node) (l : Form) → literal_here n ≡ Some l → (x : Expr) × (n ≡ expression x) × (out-Expr x ≡ Expr-F.FuncLit l.0 l.1)
node_is (expression x) l e = (x, refl, layer_is (out-Expr x) l e)
node_is (post p) l e = absurd (none_some e)
node_is (value v) l e = absurd (none_some e)
node_is (type t) l e = absurd (none_some e)
node_is (signature g) l e = absurd (none_some e)

form_is : (x : Expr) (g : Sig) (b : BodyRange) → out-Expr x ≡ Expr-F.FuncLit g b → literal_here (expression x) ≡ Some (g, b)
form_is x g b e = ap layer_literal e

-- ---- borrowed ones

in_forms : (ls : List Literal) (l : Form) → In (forms_in ls) l → (x : Literal) × In ls x × (form_of x ≡ l)
in_forms [] l h = absurd h
in_forms (x ∷ ls) l (inl e) = (x, inl refl, e)
in_forms (x ∷ ls) l (inr h) = let k = in_forms ls l h in (k.0, inr k.1, k.2)

to_forms : (ls : List Literal) (x : Literal) → In ls x → In (forms_in ls) (form_of x)
to_forms [] x h = absurd h
to_forms (y ∷ ls) x (inl e) = inl (ap form_of e)
to_forms (y ∷ ls) x (inr h) = inr (to_forms ls x h)

each_of : {A : Type 0} (P : A → Type 0) (xs : List A) → ((x : A) → In xs x → P x) → Each P xs
each_of P [] f = tt
each_of P (x ∷ xs) f = (f x (inl refl), each_of P xs (λ y h. f y (inr h)))

module _ (E : Env) (blocks : List LiteralBlock) (r : Enclosing) (s : Scopes) (ns : List Node) (ls : List Literal) (are : AreLiteralsOf ns (forms_in ls)) where
  abbrev Typed : Form → Type 0
  Typed l = IsTypedFunction E blocks r s l.0 l.1

  to_literals : Each (IsTypedLiteral E blocks r s) ls → LiteralsTyped E blocks r s ns
  to_literals h n i = literals_typed (λ x g b st e.
      let there = in_forms ls (g, b) ((are (g, b)).1 (n, i, expression x, st, form_is x g b e)) in
      subst Typed there.2 (each_has (IsTypedLiteral E blocks r s) ls there.0 h there.1))

  of_literals : LiteralsTyped E blocks r s ns → Each (IsTypedLiteral E blocks r s) ls
  of_literals h = each_of (IsTypedLiteral E blocks r s) ls (λ x i. at_literal x ((are (form_of x)).0 (to_forms ls x i)))
    where
      typed_at : (n : Node) (y : Expr) (g : Sig) (b : BodyRange) → LiteralsAreTyped E blocks r s n → Stands n (expression y) → out-Expr y ≡ Expr-F.FuncLit g b → IsTypedFunction E blocks r s g b
      typed_at n y g b (literals_typed f) st e = f y g b st e

      at_literal : (x : Literal) → HasLiteral ns (form_of x) → IsTypedLiteral E blocks r s x
      at_literal x (n, i, m, st, e) = let k = node_is m (form_of x) e in typed_at n k.0 x.signature.now x.body.now (h n i) (subst (Stands n) k.1 st) k.2

  to_run : (v : Run) → Among (EntersLiteral E blocks r s) ls v → IsLiteralRun E blocks r s ns v
  to_run v (x, i, k) =
      let there = (are (form_of x)).0 (to_forms ls x i) in
      let y = node_is there.2 (form_of x) there.4 in
      record { at = there.0; among = there.1; literal = y.0; signature = x.signature.now; body = x.body.now; stands = subst (Stands there.0) y.1 there.3; is = y.2; enters = k }

  of_run : (v : Run) → IsLiteralRun E blocks r s ns v → Among (EntersLiteral E blocks r s) ls v
  of_run v k =
      let there = in_forms ls (k.signature, k.body) ((are (k.signature, k.body)).1 (k.at, k.among, expression k.literal, k.stands, form_is k.literal k.signature k.body k.is)) in
      (there.0, there.1, subst (λ (l : Form). EntersFunction E blocks r s l.0 l.1 v) (sym there.2) k.enters)

  pub literals_judged : (j : Judged) → Judges E blocks (Each (IsTypedLiteral E blocks r s) ls) (Among (EntersLiteral E blocks r s) ls) j → Judges E blocks (LiteralsTyped E blocks r s ns) (IsLiteralRun E blocks r s ns) j
  literals_judged j k = judged_as E blocks (Each (IsTypedLiteral E blocks r s) ls) (LiteralsTyped E blocks r s ns) (Among (EntersLiteral E blocks r s) ls) (IsLiteralRun E blocks r s ns) j to_literals of_literals to_run of_run k

-- the runs of function literals whose blocks are typed
pub literals_none : (E : Env) (blocks : List LiteralBlock) (r : Enclosing) (s : Scopes) (ns : List Node) → LiteralsTyped E blocks r s ns → (v : Run) → IsLiteralRun E blocks r s ns v → IsTypedRun E blocks v
literals_none E blocks r s ns l v k = of_node (l k.at k.among)
  where
    of_node : LiteralsAreTyped E blocks r s k.at → IsTypedRun E blocks v
    of_node (literals_typed f) = literal_run E blocks r s k.signature k.body v k.enters (f k.literal k.signature k.body k.stands k.is)

-- the same trees
pub literals_as : (E : Env) (blocks : List LiteralBlock) (r : Enclosing) (s : Scopes) (ns ms : List Node) → ns ≡ ms → (j : Judged) → Judges E blocks (LiteralsTyped E blocks r s ns) (IsLiteralRun E blocks r s ns) j → Judges E blocks (LiteralsTyped E blocks r s ms) (IsLiteralRun E blocks r s ms) j
literals_as E blocks r s ns ms e j h = subst (λ (xs : List Node). Judges E blocks (LiteralsTyped E blocks r s xs) (IsLiteralRun E blocks r s xs) j) e h
