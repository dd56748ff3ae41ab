-- The files of a client's package are one list, and what a client is refused for is one thing.
use Rattle.std.proofs.Common.{◌≡◌, ◌≢◌, ℕ, false, Option, Some, None, List, map, Result, Ok, Err, refl, sym, ap, ◌∙◌, subst, inl, inr}
use Rattle.go_client_units.specs.go_client_files.ClientFiles.{AreClientFiles, AreOfOne, GivesClientFile, GivesNamed, GivesParsed, IsFirstFaulty, ReadsClient, UsesAllIn, client_files}
use Rattle.go_client_units.specs.go_client_files.declared.parsed.ParsedFile.{ParsedFile}
use Rattle.go_client_units.specs.go_client_files.declared.uses.ClientFile.{ClientFile}
use Rattle.go_client_units.specs.go_client_files.declared.uses.ClientFiles.{ClientFiles}
use Rattle.go_client_unit_laws.proofs.OneReading.{Below, all_parsed, one_faulty, parsed_or_faulty}
use Rattle.go_imports.specs.Gives.{Gives}
use Rattle.go_imports.specs.declared.used_imports.Import.{Import}
use Rattle.go_imports.specs.declared.used_imports.NamedImport.{NamedImport}
use Rattle.go_model.specs.declared.files.platform.Platform.{Platform}
use Rattle.go_model.specs.declared.files.tree.Tree.{Tree}
use Rattle.go_model.specs.types.Terms.{client_path}
use Rattle.go_syntax.specs.declared.declaration.File.{File}
use Rattle.go_syntax.specs.declared.declaration.ImportSpec.{ImportSpec}
use Rattle.go_unit_laws.proofs.OneFiles.{free_or_internal, one_place}
use Rattle.go_unit_laws.proofs.Snocs.{gives_both}
use Rattle.go_units.proofs.FolderLookups.{at_once}
use Rattle.go_units.specs.Folders.{AreOrdered, IsImportedName, folder_of}
use Rattle.go_units.specs.PackageUses.{AreFree, GivesImport, IsFirstInternal}
use Rattle.go_units.specs.declared.folder.Folder.{Folder}
use Rattle.go_units.specs.declared.reader.FileFault.{FileFault}
use Rattle.go_units.specs.declared.unit_error.UnitError.{UnitError}
use Rattle.go_units.specs.declared.unit_error.UnitError.TheVariants as error

one_named : (i : Import) (r s : Option NamedImport) → GivesNamed i r → GivesNamed i s → r ≡ s
one_named i None s a b = absurd a
one_named i (Some u) None a b = absurd b
one_named i (Some u) (Some v) a b = ap (λ (w : NamedImport). Some w) (a ∙ sym b)

module _ (module_path : List ℕ) (folders : List Folder) (ordered : AreOrdered folders) where
  -- ---- the imports of a file

  one_imported_name : (path : List ℕ) (a b : Option (List ℕ)) → IsImportedName module_path folders false path a → IsImportedName module_path folders false path b → a ≡ b
  one_imported_name path a b (inl p) (inl q) =
      let same : q.0 ≡ p.0 = at_once folders path p.0 q.0 ordered (p.1.within, p.1.same) (q.1.within, q.1.same) in
      sym p.2 ∙ ap (λ (n : ℕ). (folder_of folders n).package_name) (sym same) ∙ q.2
  one_imported_name path a b (inl p) (inr q) = absurd (q.0 p.0 p.1)
  one_imported_name path a b (inr p) (inl q) = absurd (p.0 q.0 q.1)
  one_imported_name path a b (inr p) (inr q) = p.1 ∙ sym q.1

  one_import : (spec : ImportSpec) (r s : Option Import) → GivesImport module_path folders false spec r → GivesImport module_path folders false spec s → r ≡ s
  one_import spec None s a b = absurd a
  one_import spec (Some i) None a b = absurd b
  one_import spec (Some i) (Some j) a b =
      let written : i.written ≡ j.written = a.written ∙ sym b.written in
      let package_name : i.package_name ≡ j.package_name = one_imported_name spec.path i.package_name j.package_name a.package_name b.package_name in
      let path : i.path ≡ j.path = a.path ∙ sym b.path in
      let place : i.place ≡ j.place = a.place ∙ sym b.place in
      (λ n. Some (record { written = written n; package_name = package_name n; path = path n; place = place n }))

  one_uses : (outline : File) (us vs : List NamedImport) → UsesAllIn module_path folders outline us → UsesAllIn module_path folders outline vs → us ≡ vs
  one_uses outline us vs a b =
      let all : a.all ≡ b.all = gives_both (GivesImport module_path folders false) (GivesImport module_path folders false) one_import outline.imports a.all b.all a.given b.given in
      gives_both GivesNamed GivesNamed one_named b.all us vs (subst (λ (is : List Import). Gives GivesNamed is us) all a.named) b.named

  -- ---- the files

  one_file : (x : ParsedFile) (r s : Option ClientFile) → GivesClientFile module_path folders x r → GivesClientFile module_path folders x s → r ≡ s
  one_file x None None a b = refl
  one_file x None (Some g) a b = absurd (b.0 a)
  one_file x (Some f) None a b = absurd (a.0 b)
  one_file x (Some f) (Some g) a b =
      let path : f.file.path ≡ g.file.path = a.1 ∙ sym b.1 in
      let outline : f.file.outline ≡ g.file.outline = a.2 ∙ sym b.2 in
      let blocks : f.blocks ≡ g.blocks = a.3 ∙ sym b.3 in
      let uses : f.file.uses ≡ g.file.uses = one_uses x.source.outline f.file.uses g.file.uses a.4 b.4 in
      (λ n. Some (record { file = record { path = path n; outline = outline n; uses = uses n }; blocks = blocks n }))

  one_list : (xs : List ParsedFile) (a b : ClientFiles) → AreClientFiles module_path folders xs a → AreClientFiles module_path folders xs b → a ≡ b
  one_list xs a b s t =
      let made : s.made ≡ t.made = gives_both (GivesClientFile module_path folders) (GivesClientFile module_path folders) one_file xs s.made t.made s.given t.given in
      let files : a.files ≡ b.files = s.files ∙ ap (map (λ (f : ClientFile). f.file)) made ∙ sym t.files in
      let blocks : a.blocks ≡ b.blocks = s.blocks ∙ ap (map (λ (f : ClientFile). f.blocks)) made ∙ sym t.blocks in
      (λ i. record { files = files i; blocks = blocks i })

  -- ---- what is answered

  module _ (below : Below) (p : Platform) (client : Tree) where
    abbrev Reads : Result ClientFiles UnitError → Type 0
    Reads r = ReadsClient module_path folders p client r

    parsed : (xs ys : List ParsedFile) → Gives (GivesParsed p) (client_files client) xs → Gives (GivesParsed p) (client_files client) ys → xs ≡ ys
    parsed xs ys g h = all_parsed below p (client_files client) xs ys g h

    not_faulty : (xs : List ParsedFile) (at : List ℕ) (f : FileFault) → Gives (GivesParsed p) (client_files client) xs → IsFirstFaulty p (client_files client) at f → ⊥
    not_faulty xs at f g r = parsed_or_faulty below p (client_files client) xs at f g r

    same_list : (xs ys : List ParsedFile) (a b : ClientFiles) → Gives (GivesParsed p) (client_files client) xs → Gives (GivesParsed p) (client_files client) ys → AreClientFiles module_path folders xs a → AreClientFiles module_path folders ys b → a ≡ b
    same_list xs ys a b g h s t = one_list ys a b (subst (λ (zs : List ParsedFile). AreClientFiles module_path folders zs a) (parsed xs ys g h) s) t

    pub one_files : (a b : ClientFiles) → Reads (Ok a) → Reads (Ok b) → a ≡ b
    one_files a b s t = same_list s.0 t.0 a b s.1.given t.1.given s.2 t.2

    pub files_or_error : (a : ClientFiles) (e : UnitError) → e ≢ error.NoMemory → Reads (Ok a) → Reads (Err e) → ⊥
    files_or_error a (error.File at f) n s t = not_faulty s.0 at.file f s.1.given t.1
    files_or_error a (error.MixedNames path) n s t = t.3 (subst AreOfOne (parsed s.0 t.1 s.1.given t.2) s.1.one)
    files_or_error a (error.InternalUse at place) n s t =
        let same : a ≡ t.3 = same_list s.0 t.1 a t.3 s.1.given t.2.given s.2 t.4 in
        free_or_internal client_path false t.3.files at.file place (subst (λ (l : ClientFiles). AreFree client_path false l.files) same s.3) t.5
    files_or_error a (error.Cycle path) n s t = absurd t
    files_or_error a error.NoMemory n s t = absurd (n refl)

    pub one_error : (d e : UnitError) → d ≢ error.NoMemory → e ≢ error.NoMemory → Reads (Err d) → Reads (Err e) → d ≡ e
    one_error (error.File at f) (error.File bt g) m n s t =
        let path : at.path ≡ bt.path = sym s.0 ∙ t.0 in
        let there = one_faulty below p (client_files client) at.file bt.file f g s.1 t.1 in
        (λ i. error.File (record { path = path i; file = there.0 i }) (there.1 i))
    one_error (error.File at f) (error.MixedNames path) m n s t = absurd (not_faulty t.1 at.file f t.2 s.1)
    one_error (error.File at f) (error.InternalUse bt place) m n s t = absurd (not_faulty t.1 at.file f t.2.given s.1)
    one_error (error.MixedNames path) (error.File bt g) m n s t = absurd (not_faulty s.1 bt.file g s.2 t.1)
    one_error (error.MixedNames path) (error.MixedNames other) m n s t = ap error.MixedNames (sym s.0 ∙ t.0)
    one_error (error.MixedNames path) (error.InternalUse bt place) m n s t = absurd (s.3 (subst AreOfOne (parsed t.1 s.1 t.2.given s.2) t.2.one))
    one_error (error.InternalUse at place) (error.File bt g) m n s t = absurd (not_faulty s.1 bt.file g s.2.given t.1)
    one_error (error.InternalUse at place) (error.MixedNames path) m n s t = absurd (t.3 (subst AreOfOne (parsed s.1 t.1 s.2.given t.2) s.2.one))
    one_error (error.InternalUse at place) (error.InternalUse bt other) m n s t =
        let path : at.path ≡ bt.path = sym s.0 ∙ t.0 in
        let same : s.3 ≡ t.3 = same_list s.1 t.1 s.3 t.3 s.2.given t.2.given s.4 t.4 in
        let there = one_place client_path false t.3.files at.file bt.file place other (subst (λ (l : ClientFiles). IsFirstInternal client_path false l.files at.file place) same s.5) t.5 in
        (λ i. error.InternalUse (record { path = path i; file = there.0 i }) (there.1 i))
    one_error (error.Cycle path) e m n s t = absurd s
    one_error d (error.Cycle path) m n s t = absurd t
    one_error error.NoMemory e m n s t = absurd (m refl)
    one_error d error.NoMemory m n s t = absurd (n refl)
