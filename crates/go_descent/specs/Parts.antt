-- What a function value that reads the parts of a tree ensures.
-- Own: how the parser reads what the grammar derives.
use Rattle.std.specs.Prelude.{◌≡◌, ℕ, List, Some, None, Result, Ok, Err}
use Rattle.std.specs.declared.alloc.Global.{Global}
use denote.Ref.{MutBor}
use Rattle.go_syntax.specs.declared.expression.Element.{Element}
use Rattle.go_syntax.specs.declared.expression.Expr.{Expr}
use Rattle.go_syntax.specs.declared.types.Signature.{Signature}
use Rattle.go_syntax.specs.declared.types.«Type».{«Type» as Typ}
use Rattle.go_syntax.specs.declared.token.Token.{Token}
use Rattle.go_syntax.specs.grammar.Terminals.{Terminal, terminals}
use Rattle.go_cursor.specs.declared.error.ParseError.{ParseError}
use Rattle.go_cursor.specs.declared.error.ParseError.TheVariants.{NoMemory, Syntax}
use Rattle.go_descent.specs.declared.grammar.Part.{Part}
use Rattle.go_descent.specs.declared.grammar.Part.TheVariants as part
use Rattle.go_descent.specs.declared.grammar.PartTree.{PartTree}
use Rattle.go_descent.specs.declared.grammar.PartTree.TheVariants as tree
use Rattle.go_cursor.specs.Reading.{Found}
use Rattle.go_descent.specs.Levels.{levels}
use Rattle.go_descent.specs.Rules.{Parts}

abbrev pub ReadsExpr : Found Expr → Result PartTree ParseError → List Token → Type 0
ReadsExpr found (Ok (tree.Expr x)) new = found ≡ Some (x, terminals new)
ReadsExpr found (Ok (tree.Type t)) new = ⊥
ReadsExpr found (Ok (tree.Signature s)) new = ⊥
ReadsExpr found (Ok (tree.LiteralValue es)) new = ⊥
ReadsExpr found (Err NoMemory) new = Unit {0}
ReadsExpr found (Err Syntax) new = found ≡ None

abbrev pub ReadsType : Found Typ → Result PartTree ParseError → List Token → Type 0
ReadsType found (Ok (tree.Type t)) new = found ≡ Some (t, terminals new)
ReadsType found (Ok (tree.Expr x)) new = ⊥
ReadsType found (Ok (tree.Signature s)) new = ⊥
ReadsType found (Ok (tree.LiteralValue es)) new = ⊥
ReadsType found (Err NoMemory) new = Unit {0}
ReadsType found (Err Syntax) new = found ≡ None

abbrev pub ReadsSignature : Found Signature → Result PartTree ParseError → List Token → Type 0
ReadsSignature found (Ok (tree.Signature s)) new = found ≡ Some (s, terminals new)
ReadsSignature found (Ok (tree.Expr x)) new = ⊥
ReadsSignature found (Ok (tree.Type t)) new = ⊥
ReadsSignature found (Ok (tree.LiteralValue es)) new = ⊥
ReadsSignature found (Err NoMemory) new = Unit {0}
ReadsSignature found (Err Syntax) new = found ≡ None

abbrev pub ReadsLiteralValue : Found (List Element) → Result PartTree ParseError → List Token → Type 0
ReadsLiteralValue found (Ok (tree.LiteralValue es)) new = found ≡ Some (es, terminals new)
ReadsLiteralValue found (Ok (tree.Expr x)) new = ⊥
ReadsLiteralValue found (Ok (tree.Type t)) new = ⊥
ReadsLiteralValue found (Ok (tree.Signature s)) new = ⊥
ReadsLiteralValue found (Err NoMemory) new = Unit {0}
ReadsLiteralValue found (Err Syntax) new = found ≡ None

-- a part is read as these readers find it
abbrev pub ReadsPart : Parts → Part → List Terminal → Result PartTree ParseError → List Token → Type 0
ReadsPart l part.Expr ts = ReadsExpr (l.expr ts)
ReadsPart l (part.Unary b) ts = ReadsExpr (l.unary b ts)
ReadsPart l part.Type ts = ReadsType (l.typ ts)
ReadsPart l part.CompositeType ts = ReadsType (l.composite_type ts)
ReadsPart l part.Signature ts = ReadsSignature (l.signature ts)
ReadsPart l part.LiteralValue ts = ReadsLiteralValue (l.literal_value ts)

-- the function value can be called, and reads each part of a height below this
pub record ReadsBelow (height : ℕ) (pre : Global → MutBor (List Token) → ℕ → Part → Type 0)
    (post : Global → MutBor (List Token) → ℕ → Part → Result PartTree ParseError → MutBor (List Token) → Type 0) : Type 0 where
  pub callable : (alloc : Global) (old : MutBor (List Token)) (p : Part) → pre alloc old height p
  pub reads : (alloc : Global) (old new : MutBor (List Token)) (p : Part) (r : Result PartTree ParseError) → post alloc old height p r new → ReadsPart (levels height) p (terminals old.now) r new.now
