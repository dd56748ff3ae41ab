-- Names of imported packages before a selector.
use Rattle.std.proofs.Common.{◌≡◌, ℕ, List, refl, sym, ap, ◌∙◌, subst, Option, Some}
use Rattle.go_rules.specs.Environments.{Env}
use Rattle.go_rules.specs.Expressions.{DenotesImported}
use Rattle.go_rules.specs.Nodes.{ExprLayer, PostLayer}
use Rattle.go_rules.specs.Operands.{ShapeWithin}
use Rattle.go_rules.specs.declared.operand.Operand.{Operand}
use Rattle.go_rules.specs.declared.seen.Seen.TheVariants as seen
use Rattle.go_syntax.specs.declared.expression.Expr.{Expr, Expr-F, out-Expr}
use Rattle.go_syntax.specs.declared.expression.Post.{Post, Post-F, out-Post}
use Rattle.go_syntax.specs.declared.name.Name.{Name}
use Rattle.go_rules.proofs.OneName.{one_imported}
use Rattle.go_expr.specs.Imports.{ImportedWithin, IsQualified}

abbrev name_in : ExprLayer → Name → Name
name_in (Expr-F.Name n) d = n
name_in l d = d

-- the name that an expression is, alone
pub one_name : {l : ExprLayer} {m n : Name} → l ≡ Expr-F.Name m → l ≡ Expr-F.Name n → m ≡ n
one_name {m = m} i j = ap (λ (l : ExprLayer). name_in l m) (sym i ∙ j)

abbrev selected_in : PostLayer → Name → Name
selected_in (Post-F.Selector n) d = n
selected_in l d = d

pub one_selector : {l : PostLayer} {m n : Name} → l ≡ Post-F.Selector m → l ≡ Post-F.Selector n → m ≡ n
one_selector {m = m} i j = ap (λ (l : PostLayer). selected_in l m) (sym i ∙ j)

module _ (E : Env) (e : Expr) (x : Post) where
  pub qualified : (q n : Name) → out-Expr e ≡ Expr-F.Name q → out-Post x ≡ Post-F.Selector n → (path : List ℕ) × (E.meaning q.text ≡ Some (seen.Import path)) → IsQualified E e x (q, n)
  qualified q n i j p = (i, j, p.0, p.1)

  pub no_name : ((n : Name) → out-Expr e ≡ Expr-F.Name n → ⊥) → (ns : Name × Name) → IsQualified E e x ns → ⊥
  no_name none ns h = none ns.0 h.0

  pub no_package : (q : Name) → out-Expr e ≡ Expr-F.Name q → ((path : List ℕ) × (E.meaning q.text ≡ Some (seen.Import path)) → ⊥) → (ns : Name × Name) → IsQualified E e x ns → ⊥
  no_package q i none ns h = none (h.2, subst (λ (m : Name). E.meaning m.text ≡ Some (seen.Import h.2)) (one_name h.0 i) h.3)

  pub no_selector : ((n : Name) → out-Post x ≡ Post-F.Selector n → ⊥) → (ns : Name × Name) → IsQualified E e x ns → ⊥
  no_selector none ns h = none ns.1 h.1

-- an object of an imported package, out of bounds
pub out_of_bounds : (E : Env) (q n : Name) (o : Operand) → DenotesImported E q n o → (ShapeWithin o.shape → ⊥) → (p : Operand) → ImportedWithin E q n p → ⊥
out_of_bounds E q n o d none p h = none (subst (λ (r : Operand). ShapeWithin r.shape) (one_imported h.0 d) h.1)
