-- One step of an operand and what follows it.
-- Public source: Go specification, "Primary expressions" and "Qualified identifiers".
use Rattle.std.specs.Prelude.{◌≡◌}
use Rattle.go_rules.specs.Environments.{Env}
use Rattle.go_rules.specs.Expressions.{HasPost}
use Rattle.go_rules.specs.Operands.{ShapeWithin}
use Rattle.go_rules.specs.declared.operand.Operand.{Operand}
use Rattle.go_syntax.specs.declared.expression.Expr.{Expr, Expr-F, out-Expr}
use Rattle.go_syntax.specs.declared.expression.Post.{Post, Post-F, out-Post}
use Rattle.go_syntax.specs.declared.name.Name.{Name}
use Rattle.go_expr.specs.Imports.{ImportedWithin}

-- what the post makes of the operand, within bounds
abbrev pub Makes : Env → Operand → Post → Operand → Type 0
Makes E o x r = HasPost E o (out-Post x) r × ShapeWithin r.shape

-- the expression is the name of an imported package, and the post selects this object of it, within bounds
abbrev pub NamesImported : Env → Expr → Post → Operand → Type 0
NamesImported E e x o = (ns : Name × Name) × (out-Expr e ≡ Expr-F.Name ns.0) × (out-Post x ≡ Post-F.Selector ns.1) × ImportedWithin E ns.0 ns.1 o
