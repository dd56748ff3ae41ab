-- What the loops over declarations, references and imports gather.
use Rattle.std.specs.Prelude.{◌≡◌, ◌⊎◌, ℕ, Option, Some, None, List}
use Rattle.go_base.specs.Lists.{Has}
use Rattle.go_base.specs.Growing.{Grows}
use Rattle.go_references.specs.go_syntax.declared.declaration.ConstSpec.{ConstSpec}
use Rattle.go_references.specs.go_syntax.declared.declaration.TypeSpec.{TypeSpec}
use Rattle.go_references.specs.go_syntax.declared.declaration.VarSpec.{VarSpec}
use Rattle.go_references.specs.declared.references.Reference.{Reference}
use Rattle.go_imports.specs.UsedImports.{IsConstName, IsVarName, IsTypeName, IsQualifier, IsScopeName, IsAssumed, IsScopeNameIn, IsAssumedIn, AreUsed, named_as}
use Rattle.go_imports.specs.declared.used_imports.Import.{Import}
use Rattle.go_imports.specs.declared.used_imports.NamedImport.{NamedImport}

-- a name of one of the specs
abbrev pub IsConstNameIn : List ConstSpec → List ℕ → Type 0
IsConstNameIn specs text = (s : ConstSpec) × Has specs s × IsConstName s text

abbrev pub IsVarNameIn : List VarSpec → List ℕ → Type 0
IsVarNameIn specs text = (s : VarSpec) × Has specs s × IsVarName s text

abbrev pub IsTypeNameIn : List TypeSpec → List ℕ → Type 0
IsTypeNameIn specs text = (s : TypeSpec) × Has specs s × IsTypeName s text

-- a qualifier that is one of the references
abbrev pub IsQualifierAmong : List (List ℕ) → List Reference → List ℕ → Type 0
IsQualifierAmong declared references text = (r : Reference) × Has references r × IsQualifier declared r text

-- whether a qualifier names an import by its name in the file's scope
abbrev pub ByName : List (List ℕ) → Import → Option NamedImport → Type 0
ByName qualifiers i (Some u) = (text : List ℕ) × IsScopeName i text × Has qualifiers text × (u ≡ named_as text i)
ByName qualifiers i None = (text : List ℕ) × IsScopeName i text × (Has qualifiers text → ⊥)

-- whether a qualifier names an import by its assumed name, where these names are taken
abbrev pub ByPath : List (List ℕ) → List (List ℕ) → List (List ℕ) → Import → Option NamedImport → Type 0
ByPath qualifiers taken taken2 i (Some u) = (text : List ℕ) × IsAssumed i text × Grows (λ x. text ≡ x) taken taken2 × (Has taken text → ⊥) × Has qualifiers text × (u ≡ named_as text i)
ByPath qualifiers taken taken2 i None = (text : List ℕ) × IsAssumed i text × Grows (λ x. text ≡ x) taken taken2 × (Has taken text ⊎ (Has qualifiers text → ⊥))

abbrev pub Uses : List (List ℕ) → List (List ℕ) → List (List ℕ) → Import → Option NamedImport → Type 0
Uses qualifiers taken taken2 i r = (ByName qualifiers i r × (taken2 ≡ taken)) ⊎ ByPath qualifiers taken taken2 i r

-- what is kept between two imports: those before are told, and the names that are taken are known
pub record Using (imports : List Import) (qualifiers : List (List ℕ)) (before : List Import) (taken : List (List ℕ)) (uses : List NamedImport) : Type 0 where
  pub told : AreUsed imports qualifiers before uses
  pub known : (text : List ℕ) → Has taken text → IsScopeNameIn imports text ⊎ IsAssumedIn before text
  pub scope : (text : List ℕ) → IsScopeNameIn imports text → Has taken text
  pub path : (text : List ℕ) → IsAssumedIn before text → Has taken text
