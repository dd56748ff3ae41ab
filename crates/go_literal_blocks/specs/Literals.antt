-- The function literals that stand in trees.
-- Public source: Go specification, "Function literals".
use Rattle.std.specs.Prelude.{◌≡◌, ◌↔◌, List, [], ◌∷◌, map, Option, None, Some}
use Rattle.go_base.specs.Lists.{Has as In}
use Rattle.go_literal_blocks.specs.declared.literals.Literal.{Literal}
use Rattle.go_rules.specs.Nodes.{ExprLayer, Node, Stands, expression}
use Rattle.go_syntax.specs.declared.body.BodyRange.{BodyRange}
use Rattle.go_syntax.specs.declared.expression.Expr.{Expr-F, out-Expr}
use Rattle.go_syntax.specs.declared.types.Signature.{Signature as Sig}

-- the signature of a function literal, and where its block stands
abbrev pub Form : Type 0
Form = Sig × BodyRange

abbrev pub layer_literal : ExprLayer → Option Form
layer_literal (Expr-F.FuncLit g b) = Some (g, b)
layer_literal l = None

-- the tree itself, where it is a function literal
abbrev pub literal_here : Node → Option Form
literal_here (expression e) = layer_literal (out-Expr e)
literal_here n = None

-- the literal stands in one of the trees
abbrev pub HasLiteral : List Node → Form → Type 0
HasLiteral ns l = (at : Node) × In ns at × (n : Node) × Stands at n × (literal_here n ≡ Some l)

abbrev pub form_of : Literal → Form
form_of l = (l.signature.now, l.body.now)

abbrev pub form_in : Option Literal → Option Form
form_in None = None
form_in (Some l) = Some (form_of l)

abbrev pub forms_in : List Literal → List Form
forms_in ls = map form_of ls

abbrev pub listed : Option Form → List Form
listed None = []
listed (Some l) = l ∷ []

-- these are the literals in the trees
abbrev pub AreLiteralsOf : List Node → List Form → Type 0
AreLiteralsOf ns ls = (l : Form) → In ls l ↔ HasLiteral ns l
