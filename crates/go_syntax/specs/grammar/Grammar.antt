-- The grammar of types and expressions, by cases: a rule's relation holds of the terminals at which a tree
-- begins, the tree, and the terminals that follow it.
-- Public source: Go specification, "Types" and "Expressions", without type parameters; the height is own.
--
-- `Body` says what the block of a function literal is: a balanced run that is skipped, or statements.
--
-- The number bounds the height. A name, a literal, an empty struct and an empty interface have height 0; a chain
-- has that of its highest part; a selector adds nothing. Every other post, parentheses, a prefix operator, a type
-- with parts, a signature, a composite literal, its braces and a function literal have 1 more than their highest
-- part. Lists, parameters, fields, methods, elements and skipped bodies add nothing.
--
-- The truth value says whether a type's name may begin a composite literal here: not between `if`, `for` or
-- `switch` and the block, outside of brackets.
--
-- For given terminals that follow there is at most one tree. A rule says by itself what must not follow only where
-- a longer tree is meant: after a type's name and after the parameters of a signature.
use Rattle.std.specs.Prelude.{◌≡◌, ℕ, suc, Bool, true, false, if◌then◌else◌, List, [], ◌∷◌, Option, Some, None}
use Rattle.go_syntax.specs.declared.expression.Element.{Element, roll-Element}
use Rattle.go_syntax.specs.declared.expression.ElementValue.{ElementValue}
use Rattle.go_syntax.specs.declared.expression.ElementValue.TheVariants as value
use Rattle.go_syntax.specs.declared.expression.Expr.{Expr}
use Rattle.go_syntax.specs.declared.expression.Expr.TheVariants as expr
use Rattle.go_syntax.specs.declared.expression.Literal.{Literal}
use Rattle.go_syntax.specs.declared.expression.Post.{Post}
use Rattle.go_syntax.specs.declared.expression.Post.TheVariants as post
use Rattle.go_syntax.specs.declared.name.Name.{Name}
use Rattle.go_syntax.specs.declared.name.QualifiedName.{QualifiedName}
use Rattle.go_base.specs.declared.operator.CompareOp.{CompareOp}
use Rattle.go_base.specs.declared.operator.CompareOp.TheVariants as compare
use Rattle.go_base.specs.declared.operator.PrefixOperator.{PrefixOperator}
use Rattle.go_base.specs.declared.operator.PrefixOperator.TheVariants as prefix
use Rattle.go_base.specs.declared.operator.ProductOperator.{ProductOperator}
use Rattle.go_base.specs.declared.operator.ProductOperator.TheVariants as product
use Rattle.go_base.specs.declared.operator.SumOperator.{SumOperator}
use Rattle.go_base.specs.declared.operator.SumOperator.TheVariants as sum
use Rattle.go_syntax.specs.declared.body.BodyRange.{BodyRange}
use Rattle.go_syntax.specs.declared.types.FieldDecl.{FieldDecl}
use Rattle.go_syntax.specs.declared.types.FieldDecl.TheVariants as field
use Rattle.go_syntax.specs.declared.types.FuncResult.{FuncResult}
use Rattle.go_syntax.specs.declared.types.FuncResult.TheVariants as result
use Rattle.go_syntax.specs.declared.types.InterfaceElem.{InterfaceElem}
use Rattle.go_syntax.specs.declared.types.InterfaceElem.TheVariants as elem
use Rattle.go_syntax.specs.declared.types.ParameterDecl.{ParameterDecl, out-ParameterDecl}
use Rattle.go_syntax.specs.declared.types.Signature.{Signature, roll-Signature}
use Rattle.go_syntax.specs.declared.types.«Type».{«Type» as Typ}
use Rattle.go_syntax.specs.declared.types.«Type».TheVariants as type
use Rattle.go_syntax.specs.declared.token.TokenKind.{TokenKind}
use Rattle.go_syntax.specs.declared.token.TokenKind.TheVariants as kind
use Rattle.go_syntax.specs.grammar.Symbols.{Rule, Takes, MayTake, Marks, TakesName, TakesLiteral, TakesString, Ends, begins, begins_type, begins_selector}
use Rattle.go_syntax.specs.grammar.Terminals.{Terminal}

-- Operators

abbrev pub comparison : TokenKind → Option CompareOp
comparison kind.Equal = Some compare.Equal
comparison kind.NotEqual = Some compare.NotEqual
comparison kind.Less = Some compare.Less
comparison kind.LessEqual = Some compare.LessEqual
comparison kind.Greater = Some compare.Greater
comparison kind.GreaterEqual = Some compare.GreaterEqual
comparison _ = None

abbrev pub sum_operator : TokenKind → Option SumOperator
sum_operator kind.Add = Some sum.Add
sum_operator kind.Subtract = Some sum.Subtract
sum_operator kind.Or = Some sum.Or
sum_operator kind.Xor = Some sum.Xor
sum_operator _ = None

abbrev pub product_operator : TokenKind → Option ProductOperator
product_operator kind.Multiply = Some product.Multiply
product_operator kind.Divide = Some product.Divide
product_operator kind.Remainder = Some product.Remainder
product_operator kind.ShiftLeft = Some product.ShiftLeft
product_operator kind.ShiftRight = Some product.ShiftRight
product_operator kind.And = Some product.And
product_operator kind.AndNot = Some product.AndNot
product_operator _ = None

abbrev pub prefix_operator : TokenKind → Option PrefixOperator
prefix_operator kind.Add = Some prefix.Plus
prefix_operator kind.Subtract = Some prefix.Minus
prefix_operator kind.Not = Some prefix.Not
prefix_operator kind.Xor = Some prefix.Xor
prefix_operator kind.Multiply = Some prefix.Dereference
prefix_operator kind.And = Some prefix.Address
prefix_operator kind.Arrow = Some prefix.Receive
prefix_operator _ = None

-- a `<-` before `chan`, which begins a type and no expression
abbrev pub is_receive_type : TokenKind → List Terminal → Bool
is_receive_type kind.Arrow ts = begins kind.ChanWord ts
is_receive_type _ ts = false

-- Trees of chains: one operand alone is itself

abbrev pub or_of : Expr → List Expr → Expr
or_of x [] = x
or_of x (y ∷ ys) = expr.Or x (y ∷ ys)

abbrev pub and_of : Expr → List Expr → Expr
and_of x [] = x
and_of x (y ∷ ys) = expr.And x (y ∷ ys)

abbrev pub compare_of : Expr → List CompareOp → List Expr → Expr
compare_of x ops [] = x
compare_of x ops (y ∷ ys) = expr.Compare x ops (y ∷ ys)

abbrev pub sum_of : Expr → List SumOperator → List Expr → Expr
sum_of x ops [] = x
sum_of x ops (y ∷ ys) = expr.Sum x ops (y ∷ ys)

abbrev pub product_of : Expr → List ProductOperator → List Expr → Expr
product_of x ops [] = x
product_of x ops (y ∷ ys) = expr.Product x ops (y ∷ ys)

abbrev pub primary_of : Expr → List Post → Expr
primary_of x [] = x
primary_of x (p ∷ ps) = expr.Primary x (p ∷ ps)

-- Elements and parameters

abbrev pub element : Option ElementValue → ElementValue → Element
element key value = roll-Element (record { key = key; value = value })

abbrev pub parameter : List Name → Bool → Typ → ParameterDecl
parameter names variadic type_ = record { names = names; variadic = variadic; type_ = type_ }

abbrev pub signature : List ParameterDecl → Option FuncResult → Signature
signature parameters result = roll-Signature (record { parameters = parameters; result = result })

abbrev pub is_variadic : ParameterDecl → Bool
is_variadic d = (out-ParameterDecl d).variadic

-- whether there is at most one name
abbrev pub at_most_one : List Name → Bool
at_most_one [] = true
at_most_one (n ∷ []) = true
at_most_one _ = false

-- whether no `...` stands in the list, as in a result
abbrev pub none_variadic : List ParameterDecl → Bool
none_variadic [] = true
none_variadic (d ∷ ds) = if is_variadic d then false else none_variadic ds

-- whether `...` stands at the last parameter alone, if at any, and then with at most one name before it
abbrev pub last_variadic : List ParameterDecl → Bool
last_variadic [] = true
last_variadic (d ∷ []) = if is_variadic d then at_most_one (out-ParameterDecl d).names else true
last_variadic (d ∷ ds) = if is_variadic d then false else last_variadic ds

-- List(Name)
mutual
  pub data IsNames : List Terminal → List Name → List Terminal → Type 0 where
    names : {ts u rest : List Terminal} {n : Name} {ns : List Name} → TakesName n ts u → IsMoreNames u ns rest → IsNames ts (n ∷ ns) rest

  -- { "," Name }
  pub data IsMoreNames : List Terminal → List Name → List Terminal → Type 0 where
    names_none : {ts : List Terminal} → IsMoreNames ts [] ts
    names_more : {ts u v rest : List Terminal} {n : Name} {ns : List Name} → Takes kind.Comma ts u → TakesName n u v → IsMoreNames v ns rest → IsMoreNames ts (n ∷ ns) rest

-- TName = Name [ "." Name ], of which the longer one is meant
pub data IsTypeName : List Terminal → QualifiedName → List Terminal → Type 0 where
  type_name_alone : {ts rest : List Terminal} {n : Name} → TakesName n ts rest → begins_selector rest ≡ false → IsTypeName ts (record { qualifier = None; name = n }) rest
  type_name_qualified : {ts u v rest : List Terminal} {p n : Name} → TakesName p ts u → Takes kind.Period u v → TakesName n v rest → IsTypeName ts (record { qualifier = Some p; name = n }) rest

-- [ StrLit ]
pub data IsTag : List Terminal → Option (List ℕ) → List Terminal → Type 0 where
  tag_none : {ts : List Terminal} → IsTag ts None ts
  tag_some : {ts rest : List Terminal} {text : List ℕ} (place : ℕ) → TakesString text place ts rest → IsTag ts (Some text) rest

mutual
  -- Type
  pub data IsType (Body : ℕ → Rule BodyRange) : ℕ → List Terminal → Typ → List Terminal → Type 0 where
    type_name : {h : ℕ} {ts rest : List Terminal} {q : QualifiedName} → IsTypeName ts q rest → IsType Body h ts (type.Named q) rest
    type_paren : {h : ℕ} {ts u v rest : List Terminal} {t : Typ} → Takes kind.LeftParen ts u → IsType Body h u t v → Takes kind.RightParen v rest → IsType Body (suc h) ts (type.Paren t) rest
    type_pointer : {h : ℕ} {ts u rest : List Terminal} {t : Typ} → Takes kind.Multiply ts u → IsType Body h u t rest → IsType Body (suc h) ts (type.Pointer t) rest
    type_receive : {h : ℕ} {ts u v rest : List Terminal} {t : Typ} → Takes kind.Arrow ts u → Takes kind.ChanWord u v → IsType Body h v t rest → IsType Body (suc h) ts (type.ReceiveChan t) rest
    type_func : {h : ℕ} {ts u rest : List Terminal} {s : Signature} → Takes kind.FuncWord ts u → IsSignature Body h u s rest → IsType Body (suc h) ts (type.Func s) rest
    type_composite : {h : ℕ} {ts rest : List Terminal} {t : Typ} → IsCompositeType Body h ts t rest → IsType Body h ts t rest
    type_other : {h : ℕ} {ts rest : List Terminal} {t : Typ} → IsOtherType Body h ts t rest → IsType Body h ts t rest

  -- the type literals that may stand before a composite literal's braces: slices, arrays, maps and structs
  pub data IsCompositeType (Body : ℕ → Rule BodyRange) : ℕ → List Terminal → Typ → List Terminal → Type 0 where
    type_slice : {h : ℕ} {ts u v rest : List Terminal} {t : Typ} → Takes kind.LeftBracket ts u → Takes kind.RightBracket u v → IsType Body h v t rest → IsCompositeType Body (suc h) ts (type.Slice t) rest
    type_array : {h : ℕ} {ts u v w rest : List Terminal} {x : Expr} {t : Typ} → Takes kind.LeftBracket ts u → IsExpr Body true h u x v → Takes kind.RightBracket v w → IsType Body h w t rest → IsCompositeType Body (suc h) ts (type.Array x t) rest
    type_map : {h : ℕ} {ts u v w y rest : List Terminal} {key t : Typ} → Takes kind.MapWord ts u → Takes kind.LeftBracket u v → IsType Body h v key w → Takes kind.RightBracket w y → IsType Body h y t rest → IsCompositeType Body (suc h) ts (type.Map key t) rest
    type_struct_empty : {h : ℕ} {ts u v rest : List Terminal} → Takes kind.StructWord ts u → Takes kind.LeftBrace u v → Takes kind.RightBrace v rest → IsCompositeType Body h ts (type.Struct []) rest
    type_struct : {h : ℕ} {ts u v w rest : List Terminal} {fs : List FieldDecl} → Takes kind.StructWord ts u → Takes kind.LeftBrace u v → IsFields Body h v fs w → Takes kind.RightBrace w rest → IsCompositeType Body (suc h) ts (type.Struct fs) rest

  -- channels and interfaces; `chan` before `<-` is a channel to send on
  pub data IsOtherType (Body : ℕ → Rule BodyRange) : ℕ → List Terminal → Typ → List Terminal → Type 0 where
    type_chan : {h : ℕ} {ts u rest : List Terminal} {t : Typ} → Takes kind.ChanWord ts u → begins kind.Arrow u ≡ false → IsType Body h u t rest → IsOtherType Body (suc h) ts (type.Chan t) rest
    type_send : {h : ℕ} {ts u v rest : List Terminal} {t : Typ} → Takes kind.ChanWord ts u → Takes kind.Arrow u v → IsType Body h v t rest → IsOtherType Body (suc h) ts (type.SendChan t) rest
    type_interface_empty : {h : ℕ} {ts u v rest : List Terminal} → Takes kind.InterfaceWord ts u → Takes kind.LeftBrace u v → Takes kind.RightBrace v rest → IsOtherType Body h ts (type.Interface []) rest
    type_interface : {h : ℕ} {ts u v w rest : List Terminal} {es : List InterfaceElem} → Takes kind.InterfaceWord ts u → Takes kind.LeftBrace u v → IsInterfaceElems Body h v es w → Takes kind.RightBrace w rest → IsOtherType Body (suc h) ts (type.Interface es) rest

  -- Sig = Params [ Result ]; a terminal that can begin a result begins one
  pub data IsSignature (Body : ℕ → Rule BodyRange) : ℕ → List Terminal → Signature → List Terminal → Type 0 where
    signature_alone : {h : ℕ} {ts rest : List Terminal} {ds : List ParameterDecl} → IsParameters Body h ts ds rest → last_variadic ds ≡ true → begins_type rest ≡ false → IsSignature Body (suc h) ts (signature ds None) rest
    signature_parameters : {h : ℕ} {ts u rest : List Terminal} {ds rs : List ParameterDecl} → IsParameters Body h ts ds u → last_variadic ds ≡ true → IsParameters Body h u rs rest → none_variadic rs ≡ true → IsSignature Body (suc h) ts (signature ds (Some (result.Parameters rs))) rest
    signature_type : {h : ℕ} {ts u rest : List Terminal} {ds : List ParameterDecl} {t : Typ} → IsParameters Body h ts ds u → last_variadic ds ≡ true → begins kind.LeftParen u ≡ false → IsType Body h u t rest → IsSignature Body (suc h) ts (signature ds (Some (result.Type t))) rest

  -- Params = "(" [ ( Unnamed | Named ) [ "," ] ] ")"
  pub data IsParameters (Body : ℕ → Rule BodyRange) : ℕ → List Terminal → List ParameterDecl → List Terminal → Type 0 where
    parameters_none : {h : ℕ} {ts u rest : List Terminal} → Takes kind.LeftParen ts u → Takes kind.RightParen u rest → IsParameters Body h ts [] rest
    parameters_unnamed : {h : ℕ} {ts u v w rest : List Terminal} {ds : List ParameterDecl} → Takes kind.LeftParen ts u → IsUnnamed Body h u ds v → MayTake kind.Comma v w → Takes kind.RightParen w rest → IsParameters Body h ts ds rest
    parameters_named : {h : ℕ} {ts u v w rest : List Terminal} {ds : List ParameterDecl} → Takes kind.LeftParen ts u → IsNamed Body h u ds v → MayTake kind.Comma v w → Takes kind.RightParen w rest → IsParameters Body h ts ds rest

  -- Par, with the names before it
  pub data IsParameter (Body : ℕ → Rule BodyRange) : ℕ → List Name → List Terminal → ParameterDecl → List Terminal → Type 0 where
    parameter_one : {h : ℕ} {ns : List Name} {ts rest : List Terminal} {t : Typ} → IsType Body h ts t rest → IsParameter Body h ns ts (parameter ns false t) rest
    parameter_variadic : {h : ℕ} {ns : List Name} {ts u rest : List Terminal} {t : Typ} → Takes kind.Ellipsis ts u → IsType Body h u t rest → IsParameter Body h ns ts (parameter ns true t) rest

  -- Unnamed = List(Par)
  pub data IsUnnamed (Body : ℕ → Rule BodyRange) : ℕ → List Terminal → List ParameterDecl → List Terminal → Type 0 where
    unnamed : {h : ℕ} {ts u rest : List Terminal} {d : ParameterDecl} {ds : List ParameterDecl} → IsParameter Body h [] ts d u → IsMoreUnnamed Body h u ds rest → IsUnnamed Body h ts (d ∷ ds) rest

  -- { "," Par }
  pub data IsMoreUnnamed (Body : ℕ → Rule BodyRange) : ℕ → List Terminal → List ParameterDecl → List Terminal → Type 0 where
    unnamed_none : {h : ℕ} {ts : List Terminal} → IsMoreUnnamed Body h ts [] ts
    unnamed_more : {h : ℕ} {ts u v rest : List Terminal} {d : ParameterDecl} {ds : List ParameterDecl} → Takes kind.Comma ts u → IsParameter Body h [] u d v → IsMoreUnnamed Body h v ds rest → IsMoreUnnamed Body h ts (d ∷ ds) rest

  -- Named = List( List(Name) Par )
  pub data IsNamed (Body : ℕ → Rule BodyRange) : ℕ → List Terminal → List ParameterDecl → List Terminal → Type 0 where
    named : {h : ℕ} {ts u v rest : List Terminal} {ns : List Name} {d : ParameterDecl} {ds : List ParameterDecl} → IsNames ts ns u → IsParameter Body h ns u d v → IsMoreNamed Body h v ds rest → IsNamed Body h ts (d ∷ ds) rest

  -- { "," List(Name) Par }
  pub data IsMoreNamed (Body : ℕ → Rule BodyRange) : ℕ → List Terminal → List ParameterDecl → List Terminal → Type 0 where
    named_none : {h : ℕ} {ts : List Terminal} → IsMoreNamed Body h ts [] ts
    named_more : {h : ℕ} {ts u v w rest : List Terminal} {ns : List Name} {d : ParameterDecl} {ds : List ParameterDecl} → Takes kind.Comma ts u → IsNames u ns v → IsParameter Body h ns v d w → IsMoreNamed Body h w ds rest → IsMoreNamed Body h ts (d ∷ ds) rest

  -- { FieldDecl ";" }
  pub data IsFields (Body : ℕ → Rule BodyRange) : ℕ → List Terminal → List FieldDecl → List Terminal → Type 0 where
    fields_none : {h : ℕ} {ts : List Terminal} → IsFields Body h ts [] ts
    fields_more : {h : ℕ} {ts u v rest : List Terminal} {f : FieldDecl} {fs : List FieldDecl} → IsField Body h ts f u → Ends u v → IsFields Body h v fs rest → IsFields Body h ts (f ∷ fs) rest

  -- FieldDecl = ( List(Name) Type | [ "*" ] TName ) [ StrLit ]
  pub data IsField (Body : ℕ → Rule BodyRange) : ℕ → List Terminal → FieldDecl → List Terminal → Type 0 where
    field_named : {h : ℕ} {ts u v rest : List Terminal} {ns : List Name} {t : Typ} {tag : Option (List ℕ)} → IsNames ts ns u → IsType Body h u t v → IsTag v tag rest → IsField Body h ts (field.Named ns t tag) rest
    field_embedded : {h : ℕ} {ts u rest : List Terminal} {q : QualifiedName} {tag : Option (List ℕ)} → IsTypeName ts q u → IsTag u tag rest → IsField Body h ts (field.Embedded false q tag) rest
    field_pointer : {h : ℕ} {ts u v rest : List Terminal} {q : QualifiedName} {tag : Option (List ℕ)} → Takes kind.Multiply ts u → IsTypeName u q v → IsTag v tag rest → IsField Body h ts (field.Embedded true q tag) rest

  -- { ( Name Sig | TName ) ";" }
  pub data IsInterfaceElems (Body : ℕ → Rule BodyRange) : ℕ → List Terminal → List InterfaceElem → List Terminal → Type 0 where
    elems_none : {h : ℕ} {ts : List Terminal} → IsInterfaceElems Body h ts [] ts
    elems_more : {h : ℕ} {ts u v rest : List Terminal} {e : InterfaceElem} {es : List InterfaceElem} → IsInterfaceElem Body h ts e u → Ends u v → IsInterfaceElems Body h v es rest → IsInterfaceElems Body h ts (e ∷ es) rest

  -- Name Sig | TName
  pub data IsInterfaceElem (Body : ℕ → Rule BodyRange) : ℕ → List Terminal → InterfaceElem → List Terminal → Type 0 where
    elem_method : {h : ℕ} {ts u rest : List Terminal} {n : Name} {s : Signature} → TakesName n ts u → IsSignature Body h u s rest → IsInterfaceElem Body h ts (elem.Method n s) rest
    elem_embedded : {h : ℕ} {ts rest : List Terminal} {q : QualifiedName} → IsTypeName ts q rest → IsInterfaceElem Body h ts (elem.Embedded q) rest

  -- Expr = And { "||" And }
  pub data IsExpr (Body : ℕ → Rule BodyRange) : Bool → ℕ → List Terminal → Expr → List Terminal → Type 0 where
    expr_or : {b : Bool} {h : ℕ} {ts u rest : List Terminal} {x : Expr} {xs : List Expr} → IsAnd Body b h ts x u → IsMoreOr Body b h u xs rest → IsExpr Body b h ts (or_of x xs) rest

  -- { "||" And }
  pub data IsMoreOr (Body : ℕ → Rule BodyRange) : Bool → ℕ → List Terminal → List Expr → List Terminal → Type 0 where
    or_none : {b : Bool} {h : ℕ} {ts : List Terminal} → IsMoreOr Body b h ts [] ts
    or_more : {b : Bool} {h : ℕ} {ts u v rest : List Terminal} {x : Expr} {xs : List Expr} → Takes kind.LogicalOr ts u → IsAnd Body b h u x v → IsMoreOr Body b h v xs rest → IsMoreOr Body b h ts (x ∷ xs) rest

  -- And = Cmp { "&&" Cmp }
  pub data IsAnd (Body : ℕ → Rule BodyRange) : Bool → ℕ → List Terminal → Expr → List Terminal → Type 0 where
    expr_and : {b : Bool} {h : ℕ} {ts u rest : List Terminal} {x : Expr} {xs : List Expr} → IsCompare Body b h ts x u → IsMoreAnd Body b h u xs rest → IsAnd Body b h ts (and_of x xs) rest

  -- { "&&" Cmp }
  pub data IsMoreAnd (Body : ℕ → Rule BodyRange) : Bool → ℕ → List Terminal → List Expr → List Terminal → Type 0 where
    and_none : {b : Bool} {h : ℕ} {ts : List Terminal} → IsMoreAnd Body b h ts [] ts
    and_more : {b : Bool} {h : ℕ} {ts u v rest : List Terminal} {x : Expr} {xs : List Expr} → Takes kind.LogicalAnd ts u → IsCompare Body b h u x v → IsMoreAnd Body b h v xs rest → IsMoreAnd Body b h ts (x ∷ xs) rest

  -- Cmp = Sum { comparison Sum }
  pub data IsCompare (Body : ℕ → Rule BodyRange) : Bool → ℕ → List Terminal → Expr → List Terminal → Type 0 where
    expr_compare : {b : Bool} {h : ℕ} {ts u rest : List Terminal} {x : Expr} {ops : List CompareOp} {xs : List Expr} → IsSum Body b h ts x u → IsMoreCompare Body b h u ops xs rest → IsCompare Body b h ts (compare_of x ops xs) rest

  -- { comparison Sum }
  pub data IsMoreCompare (Body : ℕ → Rule BodyRange) : Bool → ℕ → List Terminal → List CompareOp → List Expr → List Terminal → Type 0 where
    compare_none : {b : Bool} {h : ℕ} {ts : List Terminal} → IsMoreCompare Body b h ts [] [] ts
    compare_more : {b : Bool} {h : ℕ} {ts u v rest : List Terminal} {k : TokenKind} {op : CompareOp} {ops : List CompareOp} {x : Expr} {xs : List Expr} → Takes k ts u → comparison k ≡ Some op → IsSum Body b h u x v → IsMoreCompare Body b h v ops xs rest → IsMoreCompare Body b h ts (op ∷ ops) (x ∷ xs) rest

  -- Sum = Prod { operator Prod }
  pub data IsSum (Body : ℕ → Rule BodyRange) : Bool → ℕ → List Terminal → Expr → List Terminal → Type 0 where
    expr_sum : {b : Bool} {h : ℕ} {ts u rest : List Terminal} {x : Expr} {ops : List SumOperator} {xs : List Expr} → IsProduct Body b h ts x u → IsMoreSum Body b h u ops xs rest → IsSum Body b h ts (sum_of x ops xs) rest

  -- { operator Prod }
  pub data IsMoreSum (Body : ℕ → Rule BodyRange) : Bool → ℕ → List Terminal → List SumOperator → List Expr → List Terminal → Type 0 where
    sum_none : {b : Bool} {h : ℕ} {ts : List Terminal} → IsMoreSum Body b h ts [] [] ts
    sum_more : {b : Bool} {h : ℕ} {ts u v rest : List Terminal} {k : TokenKind} {op : SumOperator} {ops : List SumOperator} {x : Expr} {xs : List Expr} → Takes k ts u → sum_operator k ≡ Some op → IsProduct Body b h u x v → IsMoreSum Body b h v ops xs rest → IsMoreSum Body b h ts (op ∷ ops) (x ∷ xs) rest

  -- Prod = Un { operator Un }
  pub data IsProduct (Body : ℕ → Rule BodyRange) : Bool → ℕ → List Terminal → Expr → List Terminal → Type 0 where
    expr_product : {b : Bool} {h : ℕ} {ts u rest : List Terminal} {x : Expr} {ops : List ProductOperator} {xs : List Expr} → IsUnary Body b h ts x u → IsMoreProduct Body b h u ops xs rest → IsProduct Body b h ts (product_of x ops xs) rest

  -- { operator Un }
  pub data IsMoreProduct (Body : ℕ → Rule BodyRange) : Bool → ℕ → List Terminal → List ProductOperator → List Expr → List Terminal → Type 0 where
    product_none : {b : Bool} {h : ℕ} {ts : List Terminal} → IsMoreProduct Body b h ts [] [] ts
    product_more : {b : Bool} {h : ℕ} {ts u v rest : List Terminal} {k : TokenKind} {op : ProductOperator} {ops : List ProductOperator} {x : Expr} {xs : List Expr} → Takes k ts u → product_operator k ≡ Some op → IsUnary Body b h u x v → IsMoreProduct Body b h v ops xs rest → IsMoreProduct Body b h ts (op ∷ ops) (x ∷ xs) rest

  -- Un = operator Un | Prim; no `<-` of an expression stands directly before `chan`
  pub data IsUnary (Body : ℕ → Rule BodyRange) : Bool → ℕ → List Terminal → Expr → List Terminal → Type 0 where
    unary_prefix : {b : Bool} {h : ℕ} {ts u rest : List Terminal} {k : TokenKind} {op : PrefixOperator} {x : Expr} → Takes k ts u → prefix_operator k ≡ Some op → is_receive_type k u ≡ false → IsUnary Body b h u x rest → IsUnary Body b (suc h) ts (expr.Prefix op x) rest
    unary_primary : {b : Bool} {h : ℕ} {ts rest : List Terminal} {x : Expr} → IsPrimary Body b h ts x rest → IsUnary Body b h ts x rest

  -- Prim = Operand { Post }
  pub data IsPrimary (Body : ℕ → Rule BodyRange) : Bool → ℕ → List Terminal → Expr → List Terminal → Type 0 where
    primary : {b : Bool} {h : ℕ} {ts u rest : List Terminal} {x : Expr} {ps : List Post} → IsOperand Body b h ts x u → IsPosts Body h u ps rest → IsPrimary Body b h ts (primary_of x ps) rest

  -- { Post }
  pub data IsPosts (Body : ℕ → Rule BodyRange) : ℕ → List Terminal → List Post → List Terminal → Type 0 where
    posts_none : {h : ℕ} {ts : List Terminal} → IsPosts Body h ts [] ts
    posts_more : {h : ℕ} {ts u rest : List Terminal} {p : Post} {ps : List Post} → IsPost Body h ts p u → IsPosts Body h u ps rest → IsPosts Body h ts (p ∷ ps) rest

  -- Post
  pub data IsPost (Body : ℕ → Rule BodyRange) : ℕ → List Terminal → Post → List Terminal → Type 0 where
    post_selector : {h : ℕ} {ts u rest : List Terminal} {n : Name} → Takes kind.Period ts u → TakesName n u rest → IsPost Body h ts (post.Selector n) rest
    post_assertion : {h : ℕ} {ts u v w rest : List Terminal} {t : Typ} → Takes kind.Period ts u → Takes kind.LeftParen u v → IsType Body h v t w → Takes kind.RightParen w rest → IsPost Body (suc h) ts (post.TypeAssertion t) rest
    post_index : {h : ℕ} {ts u v rest : List Terminal} {x : Expr} → Takes kind.LeftBracket ts u → IsExpr Body true h u x v → Takes kind.RightBracket v rest → IsPost Body (suc h) ts (post.Index x) rest
    post_slice : {h : ℕ} {ts u v w y rest : List Terminal} {low high : Option Expr} → Takes kind.LeftBracket ts u → IsOptional Body true h u low v → Takes kind.Colon v w → IsOptional Body true h w high y → Takes kind.RightBracket y rest → IsPost Body (suc h) ts (post.Slice low high) rest
    post_full_slice : {h : ℕ} {ts u v w y z e rest : List Terminal} {low : Option Expr} {high max : Expr} → Takes kind.LeftBracket ts u → IsOptional Body true h u low v → Takes kind.Colon v w → IsExpr Body true h w high y → Takes kind.Colon y z → IsExpr Body true h z max e → Takes kind.RightBracket e rest → IsPost Body (suc h) ts (post.FullSlice low high max) rest
    post_call_none : {h : ℕ} {ts u rest : List Terminal} → Takes kind.LeftParen ts u → Takes kind.RightParen u rest → IsPost Body (suc h) ts (post.Call [] false) rest
    post_call : {h : ℕ} {ts u v w y rest : List Terminal} {xs : List Expr} {spread : Bool} → Takes kind.LeftParen ts u → IsExprs Body true h u xs v → Marks kind.Ellipsis v spread w → MayTake kind.Comma w y → Takes kind.RightParen y rest → IsPost Body (suc h) ts (post.Call xs spread) rest
    post_call_receive : {h : ℕ} {ts u v w y z e m rest : List Terminal} {t : Typ} {xs : List Expr} {spread : Bool} → Takes kind.LeftParen ts u → Takes kind.Arrow u v → Takes kind.ChanWord v w → IsType Body h w t y → IsMoreExprs Body true h y xs z → Marks kind.Ellipsis z spread e → MayTake kind.Comma e m → Takes kind.RightParen m rest → IsPost Body (suc h) ts (post.CallReceiveChan t xs spread) rest

  -- [ Expr ]
  pub data IsOptional (Body : ℕ → Rule BodyRange) : Bool → ℕ → List Terminal → Option Expr → List Terminal → Type 0 where
    optional_none : {b : Bool} {h : ℕ} {ts : List Terminal} → IsOptional Body b h ts None ts
    optional_some : {b : Bool} {h : ℕ} {ts rest : List Terminal} {x : Expr} → IsExpr Body b h ts x rest → IsOptional Body b h ts (Some x) rest

  -- List(Expr)
  pub data IsExprs (Body : ℕ → Rule BodyRange) : Bool → ℕ → List Terminal → List Expr → List Terminal → Type 0 where
    exprs : {b : Bool} {h : ℕ} {ts u rest : List Terminal} {x : Expr} {xs : List Expr} → IsExpr Body b h ts x u → IsMoreExprs Body b h u xs rest → IsExprs Body b h ts (x ∷ xs) rest

  -- { "," Expr }
  pub data IsMoreExprs (Body : ℕ → Rule BodyRange) : Bool → ℕ → List Terminal → List Expr → List Terminal → Type 0 where
    exprs_none : {b : Bool} {h : ℕ} {ts : List Terminal} → IsMoreExprs Body b h ts [] ts
    exprs_more : {b : Bool} {h : ℕ} {ts u v rest : List Terminal} {x : Expr} {xs : List Expr} → Takes kind.Comma ts u → IsExpr Body b h u x v → IsMoreExprs Body b h v xs rest → IsMoreExprs Body b h ts (x ∷ xs) rest

  -- Operand. `{` directly after a slice, an array, a map or a struct is a composite literal's, and after a function's
  -- signature a function literal's. No rule takes `{` after a name that is an operand.
  pub data IsOperand (Body : ℕ → Rule BodyRange) : Bool → ℕ → List Terminal → Expr → List Terminal → Type 0 where
    operand_literal : {b : Bool} {h : ℕ} {ts rest : List Terminal} {l : Literal} → TakesLiteral l ts rest → IsOperand Body b h ts (expr.Literal l) rest
    operand_name : {b : Bool} {h : ℕ} {ts rest : List Terminal} {n : Name} → TakesName n ts rest → IsOperand Body b h ts (expr.Name n) rest
    operand_func : {b : Bool} {h : ℕ} {ts u v rest : List Terminal} {s : Signature} {body : BodyRange} → Takes kind.FuncWord ts u → IsSignature Body h u s v → Body h v body rest → IsOperand Body b (suc h) ts (expr.FuncLit s body) rest
    operand_named_composite : {h : ℕ} {ts u rest : List Terminal} {q : QualifiedName} {es : List Element} → IsTypeName ts q u → IsLiteralValue Body h u es rest → IsOperand Body true (suc h) ts (expr.Composite (type.Named q) es) rest
    operand_composite : {b : Bool} {h : ℕ} {ts u rest : List Terminal} {t : Typ} {es : List Element} → IsCompositeType Body h ts t u → IsLiteralValue Body h u es rest → IsOperand Body b (suc h) ts (expr.Composite t es) rest
    operand_composite_array : {b : Bool} {h : ℕ} {ts u v w y rest : List Terminal} {t : Typ} {es : List Element} → Takes kind.LeftBracket ts u → Takes kind.Ellipsis u v → Takes kind.RightBracket v w → IsType Body h w t y → IsLiteralValue Body h y es rest → IsOperand Body b (suc h) ts (expr.CompositeArray t es) rest
    operand_composite_type : {b : Bool} {h : ℕ} {ts rest : List Terminal} {t : Typ} → IsCompositeType Body h ts t rest → begins kind.LeftBrace rest ≡ false → IsOperand Body b h ts (expr.Type t) rest
    operand_func_type : {b : Bool} {h : ℕ} {ts u rest : List Terminal} {s : Signature} → Takes kind.FuncWord ts u → IsSignature Body h u s rest → begins kind.LeftBrace rest ≡ false → IsOperand Body b (suc h) ts (expr.Type (type.Func s)) rest
    operand_other_type : {b : Bool} {h : ℕ} {ts rest : List Terminal} {t : Typ} → IsOtherType Body h ts t rest → IsOperand Body b h ts (expr.Type t) rest
    operand_paren : {b : Bool} {h : ℕ} {ts u v rest : List Terminal} {x : Expr} → Takes kind.LeftParen ts u → IsExpr Body true h u x v → Takes kind.RightParen v rest → IsOperand Body b (suc h) ts (expr.Paren x) rest
    operand_paren_receive : {b : Bool} {h : ℕ} {ts u v w y rest : List Terminal} {t : Typ} → Takes kind.LeftParen ts u → Takes kind.Arrow u v → Takes kind.ChanWord v w → IsType Body h w t y → Takes kind.RightParen y rest → IsOperand Body b (suc h) ts (expr.ParenReceiveChan t) rest

  -- Lit = "{" [ List(Elem) [ "," ] ] "}"
  pub data IsLiteralValue (Body : ℕ → Rule BodyRange) : ℕ → List Terminal → List Element → List Terminal → Type 0 where
    literal_none : {h : ℕ} {ts u rest : List Terminal} → Takes kind.LeftBrace ts u → Takes kind.RightBrace u rest → IsLiteralValue Body (suc h) ts [] rest
    literal_some : {h : ℕ} {ts u v w y rest : List Terminal} {e : Element} {es : List Element} → Takes kind.LeftBrace ts u → IsElement Body h u e v → IsMoreElements Body h v es w → MayTake kind.Comma w y → Takes kind.RightBrace y rest → IsLiteralValue Body (suc h) ts (e ∷ es) rest

  -- { "," Elem }
  pub data IsMoreElements (Body : ℕ → Rule BodyRange) : ℕ → List Terminal → List Element → List Terminal → Type 0 where
    elements_none : {h : ℕ} {ts : List Terminal} → IsMoreElements Body h ts [] ts
    elements_more : {h : ℕ} {ts u v rest : List Terminal} {e : Element} {es : List Element} → Takes kind.Comma ts u → IsElement Body h u e v → IsMoreElements Body h v es rest → IsMoreElements Body h ts (e ∷ es) rest

  -- Elem = [ ( Expr | Lit ) ":" ] ( Expr | Lit )
  pub data IsElement (Body : ℕ → Rule BodyRange) : ℕ → List Terminal → Element → List Terminal → Type 0 where
    element_alone : {h : ℕ} {ts rest : List Terminal} {v : ElementValue} → IsElementValue Body h ts v rest → IsElement Body h ts (element None v) rest
    element_keyed : {h : ℕ} {ts u w rest : List Terminal} {k v : ElementValue} → IsElementValue Body h ts k u → Takes kind.Colon u w → IsElementValue Body h w v rest → IsElement Body h ts (element (Some k) v) rest

  -- Expr | Lit
  pub data IsElementValue (Body : ℕ → Rule BodyRange) : ℕ → List Terminal → ElementValue → List Terminal → Type 0 where
    value_expr : {h : ℕ} {ts rest : List Terminal} {x : Expr} → IsExpr Body true h ts x rest → IsElementValue Body h ts (value.Value x) rest
    value_literal : {h : ℕ} {ts rest : List Terminal} {es : List Element} → IsLiteralValue Body h ts es rest → IsElementValue Body h ts (value.Literal es) rest
