-- The files of a folder have what they give to its package.
use Rattle.std.proofs.Common.{◌≡◌, ◌≢◌, ◌⊎◌, ℕ, Bool, true, List, [], ◌∷◌, ◌++◌, append_assoc, append-nil, Option, Some, None, refl, sym, subst, inl, inr}
use Rattle.go_base.specs.Growing.{Grows}
use Rattle.go_base.specs.Lists.{Has}
use Rattle.go_existence.specs.Existence.{AreFinite, NotNone}
use Rattle.go_existence.proofs.DoubleNegation.{decided, so, sure, bind}
use Rattle.go_existence.proofs.FiniteSets.{finite_image, finite_in, finite_less, finite_list, finite_over}
use Rattle.go_imports.specs.Gives.{Gives}
use Rattle.go_imports.specs.InternalUses.{IsFirstInternalImport, IsInternalImport}
use Rattle.go_imports.specs.PackageFiles.{HasC}
use Rattle.go_imports.specs.UsedImports.{AreUsed, IsDeclaredBy, IsDeclaredIn, IsFuncName, IsNameIn, IsQualifier, IsQualifierIn, IsQualifierOf, IsUse, named_as, none, unused, used}
use Rattle.go_imports.specs.declared.package_files.SourceFile.{SourceFile}
use Rattle.go_imports.specs.declared.used_imports.Import.{Import}
use Rattle.go_imports.specs.declared.used_imports.NamedImport.{NamedImport}
use Rattle.go_references.specs.References.{references_of}
use Rattle.go_references.specs.declared.references.Reference.{Reference}
use Rattle.go_syntax.specs.declared.declaration.ConstSpec.{ConstSpec}
use Rattle.go_syntax.specs.declared.declaration.Decl.{Decl}
use Rattle.go_syntax.specs.declared.declaration.Decl.TheVariants as decl
use Rattle.go_syntax.specs.declared.declaration.File.{File}
use Rattle.go_syntax.specs.declared.declaration.ImportSpec.{ImportSpec}
use Rattle.go_syntax.specs.declared.declaration.TypeSpec.{TypeSpec}
use Rattle.go_syntax.specs.declared.declaration.VarSpec.{VarSpec}
use Rattle.go_syntax.specs.declared.name.Name.{Name}
use Rattle.go_syntax.specs.declared.types.ParameterDecl.{ParameterDecl}
use Rattle.go_unit_outcomes.proofs.GivenLists.{given, grown}
use Rattle.go_units.specs.Folders.{IsImportedName, NamesFolder, folder_of}
use Rattle.go_units.specs.PackageUses.{AreFree, ArePackageFiles, GivesFile, GivesImport, IsDeclaredAmong, IsDeclaredByFile, IsFirstInternal, IsImportOf, UsesIn, text_of}
use Rattle.go_units.specs.declared.folder.Folder.{Folder}
use Rattle.go_units.specs.declared.package_uses.PackageFile.{PackageFile}

-- ---- names

names_finite : (names : List Name) → AreFinite (IsNameIn names)
names_finite names = finite_image (λ (n : Name). n.text) (Has names) (finite_list names)

func_finite : (o : Option ParameterDecl) (name : List ℕ) → AreFinite (IsFuncName o name)
func_finite None name = finite_in (IsFuncName None name) (name ∷ []) (λ x e. inl e)
func_finite (Some r) name = finite_in (IsFuncName (Some r) name) [] (λ x e. absurd e)

declared_finite : (d : Decl) → AreFinite (IsDeclaredBy d)
declared_finite (decl.ConstGroup specs) = finite_over (Has specs) (λ (s : ConstSpec). IsNameIn s.names) (finite_list specs) (λ s h. names_finite s.names)
declared_finite (decl.VarGroup specs) = finite_over (Has specs) (λ (s : VarSpec). IsNameIn s.names) (finite_list specs) (λ s h. names_finite s.names)
declared_finite (decl.TypeGroup specs) = finite_image (λ (s : TypeSpec). s.name.text) (Has specs) (finite_list specs)
declared_finite (decl.FuncDecl f) = func_finite f.receiver f.name.text

among_finite : (sources : List SourceFile) → AreFinite (IsDeclaredAmong sources)
among_finite sources =
    finite_over (Has sources) IsDeclaredByFile (finite_list sources) (λ s h.
    finite_less (IsDeclaredByFile s) (IsDeclaredIn s.outline.decls) (λ t k. k.1)
    (finite_over (Has s.outline.decls) IsDeclaredBy (finite_list s.outline.decls) (λ d k. declared_finite d)))

qualifiers_finite : (declared : List (List ℕ)) (decls : List Decl) → AreFinite (IsQualifierIn declared decls)
qualifiers_finite declared decls =
    finite_over (Has decls) (IsQualifierOf declared) (finite_list decls) (λ d h.
    finite_over (Has (references_of d)) (IsQualifier declared) (finite_list (references_of d)) (λ r k.
    finite_in (IsQualifier declared r) (r.name.text ∷ []) (λ t q. inl q.name)))

-- ---- imports

module _ (imports : List Import) (qualifiers : List (List ℕ)) where
  abbrev IsUsing : List Import → Type 0
  IsUsing before = (uses : List NamedImport) × AreUsed imports qualifiers before uses

  used_on : (before rest : List Import) → IsUsing before → NotNone (IsUsing (before ++ rest))
  used_on before [] u = sure (subst IsUsing (sym (append-nil before)) u)
  used_on before (i ∷ rest) u = bind (decided ((text : List ℕ) × IsUse imports qualifiers before i text)) (λ d.
      so (used_on (before ++ i ∷ []) rest (elim d [
        | inl t ↦ (u.0 ++ named_as t.0 i ∷ [], used i t.0 u.1 t.1)
        | inr never ↦ (u.0, unused i u.1 (λ text k. never (text, k)))
      ])) (subst IsUsing (append_assoc before (i ∷ []) rest)))

module _ (module_path : List ℕ) (folders : List Folder) (from_std : Bool) where
  said : (path : List ℕ) → NotNone ((o : Option (List ℕ)) × IsImportedName module_path folders from_std path o)
  said path = so (decided ((n : ℕ) × NamesFolder module_path folders from_std path n)) (λ d. elim d [
    | inl n ↦ ((folder_of folders n.0).package_name, inl (n.0, n.1, refl))
    | inr never ↦ (None, inr ((λ n k. never (n, k)), refl))
  ])

  import_of : (spec : ImportSpec) → NotNone ((r : Option Import) × GivesImport module_path folders from_std spec r)
  import_of spec = so (said spec.path) (λ o. (
    Some (record { written = text_of spec.name; package_name = o.0; path = spec.path; place = spec.place }),
    record { written = refl; package_name = o.1; path = refl; place = refl },
  ))

  uses_in : (declared : List (List ℕ)) (outline : File) → NotNone ((uses : List NamedImport) × UsesIn module_path folders from_std declared outline uses)
  uses_in declared outline =
      bind (given (GivesImport module_path folders from_std) outline.imports (λ spec h. import_of spec)) (λ all.
      bind (grown (IsQualifierIn declared outline.decls) (qualifiers_finite declared outline.decls)) (λ names.
      so (used_on all.0 names.0 [] all.0 ([], none)) (λ u. (u.0, record { all = all.0; given = all.1; names = names.0; qualify = names.1; used = u.1 }))))

  file_of : (declared : List (List ℕ)) (s : SourceFile) → NotNone ((r : Option PackageFile) × GivesFile module_path folders from_std declared s r)
  file_of declared s = bind (decided (HasC s.outline.imports)) (λ d. elim d [
    | inl c ↦ sure (None, c)
    | inr never ↦ so (uses_in declared s.outline) (λ u. (Some (record { path = s.path; outline = s.outline; uses = u.0 }), (never, refl, refl, u.1)))
  ])

  pub package_files : (sources : List SourceFile) → NotNone ((files : List PackageFile) × ArePackageFiles module_path folders from_std sources files)
  package_files sources =
      bind (grown (IsDeclaredAmong sources) (among_finite sources)) (λ names.
      so (given (GivesFile module_path folders from_std names.0) sources (λ s h. file_of names.0 s)) (λ g. (g.0, record { names = names.0; declared = names.1; given = g.1 })))

-- ---- imports of internal packages

module _ (path : List ℕ) (from_std : Bool) where
  first_import : (uses : List NamedImport) → NotNone ((r : Option ℕ) × IsFirstInternalImport path from_std uses r)
  first_import [] = sure (None, tt)
  first_import (u ∷ us) = bind (decided (IsInternalImport path from_std u)) (λ d. elim d [
    | inl k ↦ sure (Some u.place, inl (k, refl))
    | inr never ↦ so (first_import us) (λ r. later u us never r.0 r.1)
  ])
    where
      later : (u : NamedImport) (us : List NamedImport) → (IsInternalImport path from_std u → ⊥) → (r : Option ℕ) → IsFirstInternalImport path from_std us r → (q : Option ℕ) × IsFirstInternalImport path from_std (u ∷ us) q
      later u us never None h = (None, (never, h))
      later u us never (Some place) h = (Some place, inr (never, h))

  abbrev Internal : List PackageFile → Type 0
  Internal files = AreFree path from_std files ⊎ ((file : List ℕ) × (place : ℕ) × IsFirstInternal path from_std files file place)

  next_file : (f : PackageFile) (fs : List PackageFile) (r : Option ℕ) → IsFirstInternalImport path from_std f.uses r → Internal fs → Internal (f ∷ fs)
  next_file f fs (Some place) h rest = inr (f.path, place, inl (refl, h))
  next_file f fs None h (inl free) = inl (λ g k. elim k [ inl e ↦ subst (λ (x : PackageFile). IsFirstInternalImport path from_std x.uses None) e h | inr l ↦ free g l ])
  next_file f fs None h (inr i) = inr (i.0, i.1, inr (h, i.2))

  pub free_or_internal : (files : List PackageFile) → NotNone (AreFree path from_std files ⊎ ((file : List ℕ) × (place : ℕ) × IsFirstInternal path from_std files file place))
  free_or_internal [] = sure (inl (λ f h. absurd h))
  free_or_internal (f ∷ fs) = bind (first_import f.uses) (λ r. so (free_or_internal fs) (next_file f fs r.0 r.1))
