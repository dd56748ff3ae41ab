-- Two folders with the same files give the same files to their packages, where imports name the same packages.
use Rattle.std.proofs.Common.{◌≡◌, ℕ, Bool, Option, Some, None, List, [], refl, sym, ◌∙◌, subst, inl, inr}
use Rattle.go_base.specs.Growing.{Grows}
use Rattle.go_base.specs.Lists.{Has}
use Rattle.go_imports.specs.UsedImports.{AreUsed, IsQualifierIn}
use Rattle.go_imports.specs.declared.package_files.SourceFile.{SourceFile}
use Rattle.go_imports.specs.declared.used_imports.Import.{Import}
use Rattle.go_imports.specs.declared.used_imports.NamedImport.{NamedImport}
use Rattle.go_syntax.specs.declared.declaration.Decl.{Decl}
use Rattle.go_syntax.specs.declared.declaration.File.{File}
use Rattle.go_syntax.specs.declared.declaration.ImportSpec.{ImportSpec}
use Rattle.go_units.specs.Folders.{IsImportedName}
use Rattle.go_units.specs.PackageUses.{ArePackageFiles, GivesFile, GivesImport, IsDeclaredAmong, UsesIn}
use Rattle.go_units.specs.declared.folder.Folder.{Folder}
use Rattle.go_units.specs.declared.package_uses.PackageFile.{PackageFile}
use Rattle.go_std_worlds.proofs.GivenTwice.{gives_same, uses_same}

-- sets that grow from none to hold the same have the same members
grown : {A : Type 0} (P Q : A → Type 0) (xs ys : List A) → ((x : A) → P x → Q x) → Grows P [] xs → Grows Q [] ys → (x : A) → Has xs x → Has ys x
grown P Q xs ys f g h x i = elim (g.sound x i) [ inl o ↦ absurd o | inr p ↦ h.complete x (f x p) ]

-- a qualifier among fewer declared names is one among more that are the same
qualifier_as : (ps qs : List (List ℕ)) (decls : List Decl) (text : List ℕ) → ((t : List ℕ) → Has qs t → Has ps t) → IsQualifierIn ps decls text → IsQualifierIn qs decls text
qualifier_as ps qs decls text from (d, h, (r, i, q)) = (d, h, (r, i, record { selects = q.selects; name = q.name; some = q.some; fresh = λ k. q.fresh (from text k) }))

module _ (ma mb : List ℕ) (fa fb : List Folder) (from_std : Bool) (named : (path : List ℕ) (s t : Option (List ℕ)) → IsImportedName ma fa from_std path s → IsImportedName mb fb from_std path t → s ≡ t) where
  import_same : (spec : ImportSpec) (r s : Option Import) → GivesImport ma fa from_std spec r → GivesImport mb fb from_std spec s → r ≡ s
  import_same spec None s a b = absurd a
  import_same spec (Some i) None a b = absurd b
  import_same spec (Some i) (Some j) a b =
      let written : i.written ≡ j.written = a.written ∙ sym b.written in
      let name : i.package_name ≡ j.package_name = named spec.path i.package_name j.package_name a.package_name b.package_name in
      let path : i.path ≡ j.path = a.path ∙ sym b.path in
      let place : i.place ≡ j.place = a.place ∙ sym b.place in
      λ n. Some (record { written = written n; package_name = name n; path = path n; place = place n })

  module _ (ps qs : List (List ℕ)) (to : (text : List ℕ) → Has ps text → Has qs text) (from : (text : List ℕ) → Has qs text → Has ps text) where
    uses_in : (outline : File) (us vs : List NamedImport) → UsesIn ma fa from_std ps outline us → UsesIn mb fb from_std qs outline vs → us ≡ vs
    uses_in outline us vs a b =
        let all : a.all ≡ b.all = gives_same (GivesImport ma fa from_std) (GivesImport mb fb from_std) (λ spec r s h. import_same spec r s) a.given b.given in
        let forth = grown (IsQualifierIn ps outline.decls) (IsQualifierIn qs outline.decls) a.names b.names (λ t. qualifier_as ps qs outline.decls t from) a.qualify b.qualify in
        let back = grown (IsQualifierIn qs outline.decls) (IsQualifierIn ps outline.decls) b.names a.names (λ t. qualifier_as qs ps outline.decls t to) b.qualify a.qualify in
        uses_same b.all a.names b.names forth back (subst (λ (is : List Import). AreUsed is a.names is us) all a.used) b.used

    file_same : (s : SourceFile) (r q : Option PackageFile) → GivesFile ma fa from_std ps s r → GivesFile mb fb from_std qs s q → r ≡ q
    file_same s None None a b = refl
    file_same s None (Some g) a b = absurd (b.0 a)
    file_same s (Some f) None a b = absurd (a.0 b)
    file_same s (Some f) (Some g) a b =
        let path : f.path ≡ g.path = a.1 ∙ sym b.1 in
        let outline : f.outline ≡ g.outline = a.2 ∙ sym b.2 in
        let uses : f.uses ≡ g.uses = uses_in s.outline f.uses g.uses a.3 b.3 in
        λ n. Some (record { path = path n; outline = outline n; uses = uses n })

  -- the files of the one package are those of the other
  pub files_same : (sources : List SourceFile) (files others : List PackageFile) → ArePackageFiles ma fa from_std sources files → ArePackageFiles mb fb from_std sources others → files ≡ others
  files_same sources files others a b =
      let to = grown (IsDeclaredAmong sources) (IsDeclaredAmong sources) a.names b.names (λ t k. k) a.declared b.declared in
      let from = grown (IsDeclaredAmong sources) (IsDeclaredAmong sources) b.names a.names (λ t k. k) b.declared a.declared in
      gives_same (GivesFile ma fa from_std a.names) (GivesFile mb fb from_std b.names) (λ s r q h. file_same a.names b.names to from s r q) a.given b.given
