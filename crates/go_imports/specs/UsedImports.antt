-- The names that the files of a package declare, the qualifiers of a file, and the imports that these name.
-- Public source: Go specification, "Import declarations", "Qualified identifiers", "Declarations and scope" and "Blank identifier". Own: names count where they
-- stand outside of bodies; where an import has no name in the scope of its file, a qualifier names it by the assumed name of its path.
use Rattle.std.specs.Prelude.{◌≡◌, ◌≢◌, ◌⊎◌, ℕ, true, Option, Some, None, List, [], ◌∷◌, ◌++◌, codes}
use Rattle.go_base.specs.Lists.{Has}
use Rattle.go_references.specs.References.{is_selected, references_of}
use Rattle.go_references.specs.go_syntax.declared.declaration.ConstSpec.{ConstSpec}
use Rattle.go_references.specs.go_syntax.declared.declaration.Decl.{Decl}
use Rattle.go_references.specs.go_syntax.declared.declaration.Decl.TheVariants as decl
use Rattle.go_references.specs.go_syntax.declared.declaration.TypeSpec.{TypeSpec}
use Rattle.go_references.specs.go_syntax.declared.declaration.VarSpec.{VarSpec}
use Rattle.go_references.specs.go_syntax.declared.name.Name.{Name}
use Rattle.go_references.specs.declared.references.Reference.{Reference}
use Rattle.go_references.specs.go_syntax.declared.types.ParameterDecl.{ParameterDecl}
use Rattle.go_imports.specs.ImportPaths.{assumed_name}
use Rattle.go_imports.specs.declared.used_imports.Import.{Import}
use Rattle.go_imports.specs.declared.used_imports.NamedImport.{NamedImport}

-- one of these names
abbrev pub IsNameIn : List Name → List ℕ → Type 0
IsNameIn names text = (n : Name) × Has names n × (n.text ≡ text)

abbrev pub IsConstName : ConstSpec → List ℕ → Type 0
IsConstName spec text = IsNameIn spec.names text

abbrev pub IsVarName : VarSpec → List ℕ → Type 0
IsVarName spec text = IsNameIn spec.names text

abbrev pub IsTypeName : TypeSpec → List ℕ → Type 0
IsTypeName spec text = spec.name.text ≡ text

-- a function without a receiver: a method's name isn't declared in its package
abbrev pub IsFuncName : Option ParameterDecl → List ℕ → List ℕ → Type 0
IsFuncName None name text = name ≡ text
IsFuncName (Some receiver) name text = ⊥

-- a name that a declaration declares in its package
abbrev pub IsDeclaredBy : Decl → List ℕ → Type 0
IsDeclaredBy (decl.ConstGroup specs) text = (s : ConstSpec) × Has specs s × IsConstName s text
IsDeclaredBy (decl.VarGroup specs) text = (s : VarSpec) × Has specs s × IsVarName s text
IsDeclaredBy (decl.TypeGroup specs) text = (s : TypeSpec) × Has specs s × IsTypeName s text
IsDeclaredBy (decl.FuncDecl func) text = IsFuncName func.receiver func.name.text text

-- a name that one of the declarations declares
abbrev pub IsDeclaredIn : List Decl → List ℕ → Type 0
IsDeclaredIn decls text = (d : Decl) × Has decls d × IsDeclaredBy d text

-- a reference `name.X` whose name the package doesn't declare; the blank identifier is never one
pub record IsQualifier (declared : List (List ℕ)) (r : Reference) (text : List ℕ) : Type 0 where
  pub selects : is_selected r.selected ≡ true
  pub name : r.name.text ≡ text
  pub some : text ≢ codes "_"
  pub fresh : Has declared text → ⊥

abbrev pub IsQualifierOf : List (List ℕ) → Decl → List ℕ → Type 0
IsQualifierOf declared d text = (r : Reference) × Has (references_of d) r × IsQualifier declared r text

-- a qualifier in one of the declarations
abbrev pub IsQualifierIn : List (List ℕ) → List Decl → List ℕ → Type 0
IsQualifierIn declared decls text = (d : Decl) × Has decls d × IsQualifierOf declared d text

-- the name of an import in the scope of its file: the one that it writes, else the one in the package clause of what it names
abbrev pub scope_name_of : Option (List ℕ) → Option (List ℕ) → Option (List ℕ)
scope_name_of (Some written) package_name = Some written
scope_name_of None package_name = package_name

abbrev pub scope_name : Import → Option (List ℕ)
scope_name i = scope_name_of i.written i.package_name

-- an import without such a name, whose path has this assumed name
abbrev pub IsAssumed : Import → List ℕ → Type 0
IsAssumed i text = (scope_name i ≡ None) × (assumed_name i.path ≡ text)

abbrev pub IsScopeName : Import → List ℕ → Type 0
IsScopeName i text = scope_name i ≡ Some text

-- some import has the name in the file's scope
abbrev pub IsScopeNameIn : List Import → List ℕ → Type 0
IsScopeNameIn imports text = (i : Import) × Has imports i × IsScopeName i text

abbrev pub IsAssumedIn : List Import → List ℕ → Type 0
IsAssumedIn imports text = (i : Import) × Has imports i × IsAssumed i text

-- a qualifier names each import that has it as its name in the file's scope; where there is none, it names the first import that has it as its assumed name
abbrev pub IsNamed : List Import → List Import → Import → List ℕ → Type 0
IsNamed imports before i text = IsScopeName i text ⊎ (IsAssumed i text × (IsScopeNameIn imports text → ⊥) × (IsAssumedIn before text → ⊥))

-- a qualifier that names the import, behind these
abbrev pub IsUse : List Import → List (List ℕ) → List Import → Import → List ℕ → Type 0
IsUse imports qualifiers before i text = Has qualifiers text × IsNamed imports before i text

abbrev pub named_as : List ℕ → Import → NamedImport
named_as text i = record { name = text; path = i.path; place = i.place }

-- the used ones of some imports, in their order, each with the qualifier that names it
pub data AreUsed (imports : List Import) (qualifiers : List (List ℕ)) : List Import → List NamedImport → Type 0 where
  none : AreUsed imports qualifiers [] []
  used : {before : List Import} {uses : List NamedImport} (i : Import) (text : List ℕ) → AreUsed imports qualifiers before uses → IsUse imports qualifiers before i text → AreUsed imports qualifiers (before ++ i ∷ []) (uses ++ named_as text i ∷ [])
  unused : {before : List Import} {uses : List NamedImport} (i : Import) → AreUsed imports qualifiers before uses → ((text : List ℕ) → IsUse imports qualifiers before i text → ⊥) → AreUsed imports qualifiers (before ++ i ∷ []) uses
