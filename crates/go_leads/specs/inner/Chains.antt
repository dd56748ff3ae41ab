-- The methods that are found in an operand and what follows it.
-- Public source: Go specification, "Selectors", "Method expressions" and "Qualified identifiers".
use Rattle.std.specs.Prelude.{◌≡◌, ◌⊎◌, Bool, false, Option, None, Some, List, [], ◌∷◌}
use Rattle.go_expr.specs.Chains.{Makes, NamesImported}
use Rattle.go_model.specs.declared.types.found.Found.{Found as Find}
use Rattle.go_model.specs.declared.types.found.Found.TheVariants as find
use Rattle.go_model.specs.declared.types.names.Sel.{Sel}
use Rattle.go_model.specs.declared.types.names.TypeName.{TypeName}
use Rattle.go_model.specs.declared.types.term.Signature.{Signature}
use Rattle.go_model.specs.declared.types.term.Term.{Term}
use Rattle.go_model.specs.types.Selectors.{is_defined_pointer, method}
use Rattle.go_rules.specs.Environments.{Env, Found, selector_of}
use Rattle.go_rules.specs.Expressions.{Has}
use Rattle.go_rules.specs.Nodes.{ExprLayer, Node, PostLayer, expression, post, value, type, signature}
use Rattle.go_rules.specs.declared.operand.Operand.{Operand}
use Rattle.go_syntax.specs.declared.expression.Expr.{Expr, Expr-F, out-Expr}
use Rattle.go_syntax.specs.declared.expression.Post.{Post, Post-F, out-Post}
use Rattle.go_typings.specs.References.{FindsOf}
use Rattle.go_leads.specs.declared.methods.FoundMethod.{FoundMethod}

-- the type for which a method that was found is declared
abbrev pub owner_in : Option Find → Option TypeName
owner_in (Some (find.MethodAt m)) = m.owner
owner_in f = None

-- the selector finds the method in the type
pub record FoundIn (E : Env) (s : Sel) (t : Term) (m : FoundMethod) : Type 0 where
  pub sel : m.sel ≡ s
  pub through : Bool
  pub pointer : Bool
  pub signature_of : Signature
  pub found : Found E s t (record { through = through; target = method (Some m.owner) pointer signature_of })
  pub counts : is_defined_pointer E.table t ≡ false

-- the selector finds the method in the operand
abbrev pub FoundOf : Env → Operand → Sel → FoundMethod → Type 0
FoundOf E o s m = (m.sel ≡ s) × FindsOf E o s m.owner

-- the same of a post, where it is a selector
abbrev pub FoundPost : Env → Operand → PostLayer → FoundMethod → Type 0
FoundPost E o (Post-F.Selector n) m = FoundOf E o (selector_of E n.text) m
FoundPost E o l m = ⊥

-- a post finds the method in the operand that stands before it
pub data FoundAlong (E : Env) : Operand → List Post → FoundMethod → Type 0 where
  along_here : {o : Operand} {x : Post} {xs : List Post} {m : FoundMethod} → FoundPost E o (out-Post x) m → FoundAlong E o (x ∷ xs) m
  along_more : {o q : Operand} {x : Post} {xs : List Post} {m : FoundMethod} → Makes E o x q → FoundAlong E q xs m → FoundAlong E o (x ∷ xs) m

-- the same behind an object of an imported package
abbrev pub ImportedAlong : Env → Expr → List Post → FoundMethod → Type 0
ImportedAlong E e [] m = ⊥
ImportedAlong E e (x ∷ xs) m = (o : Operand) × NamesImported E e x o × FoundAlong E o xs m

-- the same of an operand and what follows it
abbrev pub FoundAt : Env → ExprLayer → FoundMethod → Type 0
FoundAt E (Expr-F.Primary e ps) m = ((o : Operand) × Has E e o × FoundAlong E o ps m) ⊎ ImportedAlong E e ps m
FoundAt E l m = ⊥

-- the same of a tree by itself
abbrev pub FoundHere : Env → Node → FoundMethod → Type 0
FoundHere E (expression e) m = FoundAt E (out-Expr e) m
FoundHere E (post p) m = ⊥
FoundHere E (value v) m = ⊥
FoundHere E (type t) m = ⊥
FoundHere E (signature g) m = ⊥
