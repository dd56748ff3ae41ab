-- The declarations of a package: the specs, functions and methods of its files, in order.
-- Public source: Go specification, "Declarations and scope", "Constant declarations", "Type declarations",
-- "Variable declarations", "Function declarations" and "Method declarations".
use Rattle.std.specs.Prelude.{ℕ, suc, Bool, ◌||◌, if◌then◌else◌, List, [], ◌∷◌, ◌++◌, map, Option, None, Some, codes}
use Rattle.std.specs.Option.{option_or}
use Rattle.std.specs.Str.{bytes_eq}
use Rattle.go_references.specs.go_base.Gathered.{gather}
use Rattle.go_rules.specs.Asks.{texts}
use Rattle.go_rules.specs.Expressions.{is_blank}
use Rattle.go_references.specs.go_syntax.declared.declaration.ConstSpec.{ConstSpec}
use Rattle.go_references.specs.go_syntax.declared.declaration.Decl.{Decl}
use Rattle.go_references.specs.go_syntax.declared.declaration.Decl.TheVariants as decl
use Rattle.go_references.specs.go_syntax.declared.declaration.Func.{Func}
use Rattle.go_references.specs.go_syntax.declared.declaration.TypeSpec.{TypeSpec}
use Rattle.go_references.specs.go_syntax.declared.declaration.VarSpec.{VarSpec}
use Rattle.go_references.specs.go_syntax.declared.expression.Expr.{Expr}
use Rattle.go_references.specs.go_syntax.declared.name.Name.{Name}
use Rattle.go_references.specs.go_syntax.declared.types.ParameterDecl.{ParameterDecl}
use Rattle.go_typings.specs.Sources.{SourceFile, PackageSource}

-- what is declared
pub data Form : Type 0 where
  -- constants, with the type and values that their spec has or repeats, and the place of the spec in its group
  constants : ConstSpec → ℕ → Form
  variables : VarSpec → Form
  -- an alias, that is a name for a type
  alias : TypeSpec → Form
  -- a defined type
  definition : TypeSpec → Form
  function : Func → Form
  -- a method, with its receiver
  method : ParameterDecl → Func → Form

-- a declaration, and the number of its file
pub record Declaration : Type 0 where
  pub file : ℕ
  pub form : Form

-- ---- the declarations of a package

abbrev pub repeats : ConstSpec → ConstSpec → List Expr → ConstSpec
repeats before spec [] = record { names = spec.names; type_ = before.type_; values = before.values }
repeats before spec (e ∷ es) = spec

-- a spec of constants without values has the type and the values of the one before
abbrev pub repeated : ConstSpec → ConstSpec → ConstSpec
repeated before spec = repeats before spec spec.values

-- before the first spec of a group there is nothing to repeat
abbrev pub no_spec : ConstSpec
no_spec = record { names = []; type_ = None; values = [] }

-- the specs of a group of constants, from one on
abbrev pub constants_from : ConstSpec → ℕ → List ConstSpec → List Form
constants_from before place [] = []
constants_from before place (s ∷ ss) = constants (repeated before s) place ∷ constants_from (repeated before s) (suc place) ss

abbrev pub type_form : TypeSpec → Form
type_form s = if s.alias then alias s else definition s

abbrev pub func_form : Option ParameterDecl → Func → Form
func_form None f = function f
func_form (Some receiver) f = method receiver f

abbrev pub forms : Decl → List Form
forms (decl.ConstGroup specs) = constants_from no_spec 0 specs
forms (decl.VarGroup specs) = map variables specs
forms (decl.TypeGroup specs) = map type_form specs
forms (decl.FuncDecl f) = func_form f.receiver f ∷ []

abbrev pub in_file : ℕ → Form → Declaration
in_file file form = record { file = file; form = form }

-- the declarations of a file, by its number
abbrev pub file_declarations : ℕ → SourceFile → List Declaration
file_declarations file f = map (in_file file) (gather forms f.declarations)

abbrev pub declarations_from : ℕ → List SourceFile → List Declaration
declarations_from file [] = []
declarations_from file (f ∷ fs) = file_declarations file f ++ declarations_from (suc file) fs

-- the declarations of a package, in the order of its files and then of their places
abbrev pub declarations : PackageSource → List Declaration
declarations u = declarations_from 0 u.files

-- ---- the names that they declare

-- a function of this name is no object: it is called where the package is initialized
abbrev pub is_init : List ℕ → Bool
is_init name = bytes_eq name (codes "init")

-- the names that a declaration declares in its package: a method's isn't one
abbrev pub names_of : Form → List Name
names_of (constants s place) = s.names
names_of (variables s) = s.names
names_of (alias s) = s.name ∷ []
names_of (definition s) = s.name ∷ []
names_of (function f) = f.name ∷ []
names_of (method receiver f) = []

-- where a name is declared: the number of the declaration, its form, and the place of the name in it
pub record Declared : Type 0 where
  pub number : ℕ
  pub form : Form
  pub place : ℕ

-- the place of a name among these, from one on
abbrev pub place_from : ℕ → List (List ℕ) → List ℕ → Option ℕ
place_from place [] name = None
place_from place (n ∷ ns) name = if bytes_eq n name then Some place else place_from (suc place) ns name

abbrev pub declared_by : ℕ → Form → Option ℕ → Option Declared
declared_by number form None = None
declared_by number form (Some place) = Some (record { number = number; form = form; place = place })

-- the first of the declarations that declares the name, from one on
abbrev pub declared_from : ℕ → List Declaration → List ℕ → Option Declared
declared_from number [] name = None
declared_from number (d ∷ ds) name = option_or (declared_by number d.form (place_from 0 (texts (names_of d.form)) name)) (declared_from (suc number) ds name)

-- where the package declares a name, that is neither blank nor `init`
abbrev pub declared : List Declaration → List ℕ → Option Declared
declared ds name = if is_blank name || is_init name then None else declared_from 0 ds name
