-- The files of a client's package that are made one after another.
use Rattle.std.proofs.Common.{◌≡◌, ℕ, ◌<◌, ◌≤◌, Option, Some, None, List, [], ◌∷◌, ◌++◌, length, map, reverse, refl, sym, ap, ◌∙◌, subst, arith}
use Rattle.std.proofs.lemmas.List.{append-nil}
use Rattle.go_base.specs.Lists.{Has}
use Rattle.go_client_files.specs.ClientFiles.{AreClientFiles, AreOfOne, AreRead, GivesClientFile, GivesParsed, client_files, root_files}
use Rattle.go_client_files.specs.declared.parsed.ParsedFile.{ParsedFile}
use Rattle.go_client_files.specs.declared.uses.ClientFile.{ClientFile}
use Rattle.go_client_files.specs.declared.uses.ClientFiles.{ClientFiles}
use Rattle.go_client_files.specs.inner.Making.{AddsFile}
use Rattle.go_client_files.proofs.RootFiles.{is_root}
use Rattle.go_imports.specs.Gives.{Gives, optional}
use Rattle.go_model.specs.declared.files.platform.Platform.{Platform}
use Rattle.go_model.specs.declared.files.tree.Tree.{Tree}
use Rattle.go_model.specs.files.Trees.{IsTree}
use Rattle.go_reading.proofs.FilesByName.{by_name_length}
use Rattle.go_reading.proofs.ListFacts.{kept_shorter, length_mapped, map_more, mapped_from}
use Rattle.go_syntax.specs.declared.statement.LiteralBlock.{LiteralBlock}
use Rattle.go_units.specs.declared.folder.Folder.{Folder}
use Rattle.go_units.specs.declared.package_uses.PackageFile.{PackageFile}
use Rattle.go_units.specs.inner.UnitMaking.{AreAlike}
use Rattle.go_units.proofs.Giving.{Popping, given_by, gives_fewer, popping_first, popping_last, popping_next}

abbrev file_in : ClientFile → PackageFile
file_in f = f.file

abbrev blocks_in : ClientFile → List LiteralBlock
blocks_in f = f.blocks

module _ (module_path : List ℕ) (folders : List Folder) where
  -- the files that are made so far, and those that are left
  pub record Making (all left : List ParsedFile) (list : ClientFiles) : Type 0 where
    pub made : List ClientFile
    pub popping : Popping (GivesClientFile module_path folders) all left made
    pub files : list.files ≡ map file_in made
    pub blocks : list.blocks ≡ map blocks_in made

  pub making_first : (all left : List ParsedFile) (list : ClientFiles) → left ≡ reverse all → list.files ≡ [] → list.blocks ≡ [] → Making all left list
  making_first all left list e f g = record { made = []; popping = popping_first (GivesClientFile module_path folders) all left [] e refl; files = f; blocks = g }

  more_files : (o : Option ClientFile) (made : List ClientFile) (old new : ClientFiles) → AddsFile o old new → old.files ≡ map file_in made → new.files ≡ map file_in (made ++ optional o)
  more_files None made old new a e = a.0 ∙ e ∙ ap (map file_in) (sym (append-nil made))
  more_files (Some f) made old new a e = a.0 ∙ ap (λ (w : List PackageFile). w ++ f.file ∷ []) e ∙ sym (map_more file_in made (f ∷ []))

  more_blocks : (o : Option ClientFile) (made : List ClientFile) (old new : ClientFiles) → AddsFile o old new → old.blocks ≡ map blocks_in made → new.blocks ≡ map blocks_in (made ++ optional o)
  more_blocks None made old new a e = a.1 ∙ e ∙ ap (map blocks_in) (sym (append-nil made))
  more_blocks (Some f) made old new a e = a.1 ∙ ap (λ (w : List (List LiteralBlock)). w ++ f.blocks ∷ []) e ∙ sym (map_more blocks_in made (f ∷ []))

  pub making_next : (all left more : List ParsedFile) (x : ParsedFile) (o : Option ClientFile) (old new : ClientFiles) → left ≡ more ++ x ∷ [] → GivesClientFile module_path folders x o → AddsFile o old new → Making all left old → Making all more new
  making_next all left more x o old new e k a m = record {
    made = m.made ++ optional o;
    popping = popping_next (GivesClientFile module_path folders) all left more x o m.made (m.made ++ optional o) e k refl m.popping;
    files = more_files o m.made old new a m.files;
    blocks = more_blocks o m.made old new a m.blocks;
  }

  pub making_last : (all left : List ParsedFile) (list : ClientFiles) → left ≡ [] → Making all left list → AreClientFiles module_path folders all list
  making_last all left list e m = record { made = m.made; given = popping_last (GivesClientFile module_path folders) all left m.made e m.popping; files = m.files; blocks = m.blocks }

  -- ---- what they are like

  named_by : (x : ParsedFile) (f : ClientFile) → GivesClientFile module_path folders x (Some f) → f.file.outline.«package».text ≡ x.source.outline.«package».text
  named_by x f k = ap (λ o. o.«package».text) k.2

  made_alike : (xs : List ParsedFile) (list : ClientFiles) → AreOfOne xs → (a : AreClientFiles module_path folders xs list) → AreAlike (map file_in a.made)
  made_alike xs list one a f g h k =
      let p = mapped_from file_in a.made f h in
      let q = mapped_from file_in a.made g k in
      let s = given_by (GivesClientFile module_path folders) a.given p.0 p.1 in
      let t = given_by (GivesClientFile module_path folders) a.given q.0 q.1 in
      ap (λ (z : PackageFile). z.outline.«package».text) (sym p.2) ∙ named_by s.0 p.0 s.2 ∙ one s.0 t.0 s.1 t.1 ∙ sym (named_by t.0 q.0 t.2) ∙ ap (λ (z : PackageFile). z.outline.«package».text) q.2

  pub files_alike : (xs : List ParsedFile) (list : ClientFiles) → AreOfOne xs → AreClientFiles module_path folders xs list → AreAlike list.files
  files_alike xs list one a = subst AreAlike (sym a.files) (made_alike xs list one a)

  pub files_few : (p : Platform) (tree : Tree) (xs : List ParsedFile) (list : ClientFiles) → IsTree tree → AreRead module_path folders p tree xs → AreClientFiles module_path folders xs list → length list.files < 4294967296
  files_few p tree xs list t r a =
      let made = gives_fewer (GivesClientFile module_path folders) a.given in
      let read = gives_fewer (GivesParsed p) r.given in
      let named = by_name_length (root_files tree.files) in
      let kept = kept_shorter is_root tree.files in
      let same = ap length a.files ∙ length_mapped file_in a.made in
      let few = t.few in
      omega (arith, made, read, named, kept, same, few)
