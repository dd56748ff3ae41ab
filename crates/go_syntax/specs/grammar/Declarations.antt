-- The grammar of declarations, by cases, in the form of the types and expressions. Declarations and groups add nothing
-- to a height.
-- Public source: Go specification, "Declarations and scope", without type parameters.
use Rattle.std.specs.Prelude.{◌≡◌, ℕ, Bool, true, false, List, [], ◌∷◌, Option, Some, None}
use Rattle.go_syntax.specs.declared.declaration.ConstSpec.{ConstSpec}
use Rattle.go_syntax.specs.declared.declaration.Decl.{Decl}
use Rattle.go_syntax.specs.declared.declaration.Decl.TheVariants as decl
use Rattle.go_syntax.specs.declared.declaration.Func.{Func}
use Rattle.go_syntax.specs.declared.declaration.TypeSpec.{TypeSpec}
use Rattle.go_syntax.specs.declared.declaration.VarSpec.{VarSpec}
use Rattle.go_syntax.specs.declared.expression.Expr.{Expr}
use Rattle.go_syntax.specs.declared.name.Name.{Name}
use Rattle.go_syntax.specs.declared.body.BodyRange.{BodyRange}
use Rattle.go_syntax.specs.declared.types.ParameterDecl.{ParameterDecl, out-ParameterDecl}
use Rattle.go_syntax.specs.declared.types.Signature.{Signature}
use Rattle.go_syntax.specs.declared.types.«Type».{«Type» as Typ}
use Rattle.go_syntax.specs.declared.token.TokenKind.TheVariants as kind
use Rattle.go_syntax.specs.grammar.Grammar.{IsNames, IsType, IsExprs, IsParameters, IsSignature, is_variadic, at_most_one}
use Rattle.go_syntax.specs.grammar.Symbols.{Rule, Takes, TakesName, Ends}
use Rattle.go_syntax.specs.grammar.Terminals.{Terminal}

-- { X ";" } in round brackets
pub data IsSpecs {A : Type 0} (X : Rule A) : List Terminal → List A → List Terminal → Type 0 where
  specs_none : {ts : List Terminal} → IsSpecs X ts [] ts
  specs_more : {ts u v rest : List Terminal} {x : A} {xs : List A} → X ts x u → Ends u v → IsSpecs X v xs rest → IsSpecs X ts (x ∷ xs) rest

-- Group(X) = X | "(" { X ";" } ")"
pub data IsGroup {A : Type 0} (X : Rule A) : List Terminal → List A → List Terminal → Type 0 where
  group_one : {ts rest : List Terminal} {x : A} → X ts x rest → IsGroup X ts (x ∷ []) rest
  group_specs : {ts u v rest : List Terminal} {xs : List A} → Takes kind.LeftParen ts u → IsSpecs X u xs v → Takes kind.RightParen v rest → IsGroup X ts xs rest

abbrev pub constants : List Name → Option Typ → List Expr → ConstSpec
constants names type_ values = record { names = names; type_ = type_; values = values }

abbrev pub variables : List Name → Option Typ → List Expr → VarSpec
variables names type_ values = record { names = names; type_ = type_; values = values }

abbrev pub type_spec : Name → Bool → Typ → TypeSpec
type_spec name alias type_ = record { name = name; alias = alias; type_ = type_ }

abbrev pub function : Option ParameterDecl → Name → Signature → Option BodyRange → Func
function receiver name signature body = record { receiver = receiver; name = name; signature = signature; body = body }

-- ConstSpec = List(Name) [ [ Type ] "=" List(Expr) ]
pub data IsConstSpec (Body : ℕ → Rule BodyRange) (h : ℕ) : List Terminal → ConstSpec → List Terminal → Type 0 where
  const_names : {ts rest : List Terminal} {ns : List Name} → IsNames ts ns rest → IsConstSpec Body h ts (constants ns None []) rest
  const_values : {ts u v rest : List Terminal} {ns : List Name} {xs : List Expr} → IsNames ts ns u → Takes kind.Assign u v → IsExprs Body true h v xs rest → IsConstSpec Body h ts (constants ns None xs) rest
  const_typed : {ts u v w rest : List Terminal} {ns : List Name} {t : Typ} {xs : List Expr} → IsNames ts ns u → IsType Body h u t v → Takes kind.Assign v w → IsExprs Body true h w xs rest → IsConstSpec Body h ts (constants ns (Some t) xs) rest

-- VarSpec = List(Name) ( Type [ "=" List(Expr) ] | "=" List(Expr) )
pub data IsVarSpec (Body : ℕ → Rule BodyRange) (h : ℕ) : List Terminal → VarSpec → List Terminal → Type 0 where
  var_type : {ts u rest : List Terminal} {ns : List Name} {t : Typ} → IsNames ts ns u → IsType Body h u t rest → IsVarSpec Body h ts (variables ns (Some t) []) rest
  var_values : {ts u v rest : List Terminal} {ns : List Name} {xs : List Expr} → IsNames ts ns u → Takes kind.Assign u v → IsExprs Body true h v xs rest → IsVarSpec Body h ts (variables ns None xs) rest
  var_typed : {ts u v w rest : List Terminal} {ns : List Name} {t : Typ} {xs : List Expr} → IsNames ts ns u → IsType Body h u t v → Takes kind.Assign v w → IsExprs Body true h w xs rest → IsVarSpec Body h ts (variables ns (Some t) xs) rest

-- TypeSpec = Name [ "=" ] Type
pub data IsTypeSpec (Body : ℕ → Rule BodyRange) (h : ℕ) : List Terminal → TypeSpec → List Terminal → Type 0 where
  type_definition : {ts u rest : List Terminal} {n : Name} {t : Typ} → TakesName n ts u → IsType Body h u t rest → IsTypeSpec Body h ts (type_spec n false t) rest
  type_alias : {ts u v rest : List Terminal} {n : Name} {t : Typ} → TakesName n ts u → Takes kind.Assign u v → IsType Body h v t rest → IsTypeSpec Body h ts (type_spec n true t) rest

-- a receiver: exactly one parameter without `...`
pub data IsReceiver (Body : ℕ → Rule BodyRange) (h : ℕ) : List Terminal → Option ParameterDecl → List Terminal → Type 0 where
  receiver_none : {ts : List Terminal} → IsReceiver Body h ts None ts
  receiver_some : {ts rest : List Terminal} {d : ParameterDecl} → IsParameters Body h ts (d ∷ []) rest → at_most_one (out-ParameterDecl d).names ≡ true → is_variadic d ≡ false → IsReceiver Body h ts (Some d) rest

-- [ Body ]
pub data IsOptionalBody (Body : ℕ → Rule BodyRange) (h : ℕ) : List Terminal → Option BodyRange → List Terminal → Type 0 where
  body_none : {ts : List Terminal} → IsOptionalBody Body h ts None ts
  body_some : {ts rest : List Terminal} {b : BodyRange} → Body h ts b rest → IsOptionalBody Body h ts (Some b) rest

-- Func = "func" [ Params ] Name Sig [ Body ]
pub data IsFunc (Body : ℕ → Rule BodyRange) (h : ℕ) : List Terminal → Func → List Terminal → Type 0 where
  func : {ts u v w y rest : List Terminal} {receiver : Option ParameterDecl} {n : Name} {s : Signature} {b : Option BodyRange} → Takes kind.FuncWord ts u → IsReceiver Body h u receiver v → TakesName n v w → IsSignature Body h w s y → IsOptionalBody Body h y b rest → IsFunc Body h ts (function receiver n s b) rest

-- Decl
pub data IsDecl (Body : ℕ → Rule BodyRange) (h : ℕ) : List Terminal → Decl → List Terminal → Type 0 where
  decl_const : {ts u rest : List Terminal} {specs : List ConstSpec} → Takes kind.ConstWord ts u → IsGroup (IsConstSpec Body h) u specs rest → IsDecl Body h ts (decl.ConstGroup specs) rest
  decl_var : {ts u rest : List Terminal} {specs : List VarSpec} → Takes kind.VarWord ts u → IsGroup (IsVarSpec Body h) u specs rest → IsDecl Body h ts (decl.VarGroup specs) rest
  decl_type : {ts u rest : List Terminal} {specs : List TypeSpec} → Takes kind.TypeWord ts u → IsGroup (IsTypeSpec Body h) u specs rest → IsDecl Body h ts (decl.TypeGroup specs) rest
  decl_func : {ts rest : List Terminal} {f : Func} → IsFunc Body h ts f rest → IsDecl Body h ts (decl.FuncDecl f) rest
