-- The features of the public packages of a world, by cases.
-- Public source: the lines that Go's cmd/api writes to its files api/go1.txt and later.
use Rattle.std.specs.Prelude.{◌≡◌, ◌≢◌, ℕ, Bool, true, false, List, [], ◌∷◌, ◌++◌, map, codes, None}
use Rattle.go_base.specs.Characters.{BeginsPassing, is_upper}
use Rattle.go_base.specs.Lists.{Has, Each}
use Rattle.go_model.specs.declared.types.names.Sel.{Sel}
use Rattle.go_model.specs.declared.types.package.Entity.{Entity}
use Rattle.go_model.specs.declared.types.package.Entity.TheVariants as entity
use Rattle.go_model.specs.declared.types.package.Object.{Object}
use Rattle.go_model.specs.declared.types.package.Package.{Package}
use Rattle.go_model.specs.declared.types.term.Term.{Term, Term-F, roll-Term}
use Rattle.go_model.specs.declared.types.term.Field.{Field, out-Field}
use Rattle.go_model.specs.declared.types.term.Method.{Method, out-Method}
use Rattle.go_model.specs.declared.types.term.Signature.{Signature}
use Rattle.go_model.specs.types.MethodSets.{InSet}
use Rattle.go_model.specs.types.Tables.{Table}
use Rattle.go_model.specs.types.Terms.{Layer, pointer_to}
use Rattle.go_model.specs.types.Underlying.{under}
use Rattle.go_model.specs.worlds.Worlds.{Packages, table_of}
use Rattle.api_lines.specs.declared.line.Line.{Line}
use Rattle.api_features.specs.ConstantTexts.{IsValueText}
use Rattle.api_features.specs.TypeTexts.{commas, constant_type, signature_text, type_text}

-- a field or method is exported where its selector is of no package
abbrev pub IsExported : Sel → Type 0
IsExported s = s.«package» ≡ []

abbrev pub IsUnexported : Sel → Type 0
IsUnexported s = s.«package» ≢ []

-- an interface type
abbrev pub is_interface : Layer → Bool
is_interface (Term-F.Interface ms) = true
is_interface l = false

-- a type that is neither a struct nor an interface
abbrev pub is_plain : Layer → Bool
is_plain (Term-F.Struct fs) = false
is_plain (Term-F.Interface ms) = false
is_plain l = true

-- the name of a type that a package of this path defines
abbrev pub defined_term : List ℕ → List ℕ → Term
defined_term path name = roll-Term (Term-F.Named (record { path = path; name = name }))

module _ (packages : List Package) (path name : List ℕ) where
  -- how the lines of a type begin
  abbrev pub type_start : List ℕ
  type_start = codes "type " ++ name

  -- a line of a type that the package defines, by what is underneath
  pub data IsTypeRest : Layer → List ℕ → Type 0 where
    struct_type : {fs : List Field} → IsTypeRest (Term-F.Struct fs) (type_start ++ codes " struct")
    struct_field : {fs : List Field} (f : Field) → Has fs f → IsExported (out-Field f).sel → (out-Field f).embedded ≡ false
        → IsTypeRest (Term-F.Struct fs) (type_start ++ codes " struct, " ++ (out-Field f).sel.name ++ codes " " ++ type_text packages path (out-Field f).term)
    struct_embedded : {fs : List Field} (f : Field) → Has fs f → IsExported (out-Field f).sel → (out-Field f).embedded ≡ true
        → IsTypeRest (Term-F.Struct fs) (type_start ++ codes " struct, embedded " ++ type_text packages path (out-Field f).term)
    interface_method : {ms : List Method} (m : Method) → Has ms m → IsExported (out-Method m).sel
        → IsTypeRest (Term-F.Interface ms) (type_start ++ codes " interface, " ++ (out-Method m).sel.name ++ signature_text packages path (out-Method m).signature)
    interface_unexported : {ms : List Method} (m : Method) → Has ms m → IsUnexported (out-Method m).sel
        → IsTypeRest (Term-F.Interface ms) (type_start ++ codes " interface, unexported methods")
    interface_exported : {m : Method} {ms : List Method} → Each (λ k. IsExported (out-Method k).sel) (m ∷ ms)
        → IsTypeRest (Term-F.Interface (m ∷ ms)) (type_start ++ codes " interface { " ++ commas (map (λ k. (out-Method k).sel.name) (m ∷ ms)) ++ codes " }")
    interface_empty : IsTypeRest (Term-F.Interface []) (type_start ++ codes " interface {}")
    plain_type : {l : Layer} → is_plain l ≡ true → IsTypeRest l (type_start ++ codes " " ++ type_text packages path (roll-Term l))

  -- a method that is declared or promoted, of the type or else of its pointer
  pub data IsMethodRest (T : Table) (t : Term) : List ℕ → Type 0 where
    method_of_type : {s : Sel} {g : Signature} → IsExported s → InSet T t s g
        → IsMethodRest T t (codes "method (" ++ name ++ codes ") " ++ s.name ++ signature_text packages path g)
    method_of_pointer : {s : Sel} {g : Signature} → IsExported s → InSet T (pointer_to t) s g → ((h : Signature) → InSet T t s h → ⊥)
        → IsMethodRest T t (codes "method (*" ++ name ++ codes ") " ++ s.name ++ signature_text packages path g)

  -- what follows the path in a line of what the name denotes in the package
  pub data IsRest : Entity → List ℕ → Type 0 where
    constant_value : {t : _} {v : _} {text : List ℕ} → IsValueText v text → IsRest (entity.Const t v) (codes "const " ++ name ++ codes " = " ++ text)
    constant_kind : {t : _} {v : _} → IsRest (entity.Const t v) (codes "const " ++ name ++ codes " " ++ constant_type packages path t)
    variable : {t : Term} → IsRest (entity.Var t) (codes "var " ++ name ++ codes " " ++ type_text packages path t)
    function : {g : Signature} → IsRest (entity.Function g) (codes "func " ++ name ++ signature_text packages path g)
    alias : {t : Term} → t ≢ defined_term path name → IsRest (entity.TypeOf t) (type_start ++ codes " = " ++ type_text packages path t)
    defined : {t : Term} {rest : List ℕ} → t ≡ defined_term path name → IsTypeRest (under (table_of packages) t) rest → IsRest (entity.TypeOf t) rest
    method : {t : Term} {rest : List ℕ} → t ≡ defined_term path name → is_interface (under (table_of packages) t) ≡ false → IsMethodRest (table_of packages) t rest → IsRest (entity.TypeOf t) rest

-- an exported object of a public package has the line
pub record IsFeature (world : Packages) (l : Line) : Type 0 where
  pub of : Package
  pub here : Has world.packages of
  pub public : Has world.publics of.path
  pub object : Object
  pub there : Has of.objects object
  pub exported : BeginsPassing is_upper object.name
  pub path : of.path ≡ l.path
  pub context : l.context ≡ None
  pub rest : IsRest world.packages of.path object.name object.entity l.rest

-- a feature of a package that has none of these paths
abbrev pub IsFeatureExcept : List (List ℕ) → Packages → Line → Type 0
IsFeatureExcept except world l = IsFeature world l × (Has except l.path → ⊥)
