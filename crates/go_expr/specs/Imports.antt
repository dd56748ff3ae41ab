-- Names of imported packages before a selector.
-- Public source: Go specification, "Qualified identifiers".
use Rattle.std.specs.Prelude.{◌≡◌, ℕ, List, Option, Some, None}
use denote.Ref.{Bor}
use Rattle.go_rules.specs.Environments.{Env}
use Rattle.go_rules.specs.Expressions.{DenotesImported}
use Rattle.go_rules.specs.Operands.{ShapeWithin}
use Rattle.go_rules.specs.declared.operand.Operand.{Operand}
use Rattle.go_rules.specs.declared.seen.Seen.TheVariants as seen
use Rattle.go_syntax.specs.declared.expression.Expr.{Expr, Expr-F, out-Expr}
use Rattle.go_syntax.specs.declared.expression.Post.{Post, Post-F, out-Post}
use Rattle.go_syntax.specs.declared.name.Name.{Name}

-- the names that were borrowed
abbrev pub names_of : Option (Bor Name × Bor Name) → Option (Name × Name)
names_of None = None
names_of (Some ns) = Some (ns.0.now, ns.1.now)

-- the operand is the name of an imported package, and the post selects the other name
abbrev pub IsQualified : Env → Expr → Post → Name × Name → Type 0
IsQualified E e x ns = (out-Expr e ≡ Expr-F.Name ns.0) × (out-Post x ≡ Post-F.Selector ns.1) × (path : List ℕ) × (E.meaning ns.0.text ≡ Some (seen.Import path))

-- the object of the imported package is this operand, within bounds
abbrev pub ImportedWithin : Env → Name → Name → Operand → Type 0
ImportedWithin E q n o = DenotesImported E q n o × ShapeWithin o.shape
