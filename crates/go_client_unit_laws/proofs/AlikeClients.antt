-- Where platforms choose the same files of the trees and of a client, the module has the same units with the client on both.
use Rattle.std.proofs.Common.{ℕ, Bool, true, false, Option, Some, None, List, [], ◌∷◌, ◌++◌, Result, Ok, Err, refl, sym, ◌∙◌, subst, inl, inr}
use Rattle.std.specs.List.{filter}
use Rattle.std.specs.Prelude.{bytes_eq}
use Rattle.go_base.specs.Lists.{Has}
use Rattle.go_client_units.specs.go_client_files.ClientFiles.{GivesParsed, IsFaultyFile, IsFirstFaulty, ReadsClient, client_files, root_files}
use Rattle.go_client_units.specs.go_client_files.declared.parsed.ParsedFile.{ParsedFile}
use Rattle.go_client_units.specs.go_client_files.declared.uses.ClientFiles.{ClientFiles}
use Rattle.go_client_units.proofs.MoreReadings.{answers_more}
use Rattle.go_client_units.specs.ClientUnits.{AnswersOfClient, AnswersWith, AreClientUnits}
use Rattle.go_client_units.specs.declared.units.ClientUnits.{ClientUnits}
use Rattle.go_file_choices.specs.AlikePlatforms.{AllChosenAlike, ChooseAlike}
use Rattle.go_imports.proofs.Members.{has_last, has_left}
use Rattle.go_imports.specs.Gives.{Gives, none, next}
use Rattle.go_model.specs.declared.files.platform.Platform.{Platform}
use Rattle.go_model.specs.declared.files.tree.Tree.{Tree}
use Rattle.go_model.specs.declared.files.tree.TreeFile.{TreeFile}
use Rattle.go_reading.proofs.ListFacts.{kept_from}
use Rattle.go_reading.specs.ChosenFiles.{IsAllowed, IsLeftOut}
use Rattle.go_reading.specs.FilesByName.{by_name}
use Rattle.go_reading.specs.TreeFolders.{AreTreeFolders, IsTreeFolder, ReadsFolder, files_at, files_of, import_path}
use Rattle.go_unit_laws.proofs.AlikeFiles.{alike_back, chosen, same_name, same_reading}
use Rattle.go_units.specs.Folders.{folder_of}
use Rattle.go_units.specs.declared.folder.Folder.{Folder}
use Rattle.go_units.specs.declared.reader.FileFault.{FileFault}
use Rattle.go_units.specs.declared.reader.FileFault.TheVariants as fault
use Rattle.go_units.specs.declared.reader.Reading.{Reading}
use Rattle.go_units.specs.declared.unit_error.UnitError.{UnitError}
use Rattle.go_units.specs.declared.unit_error.UnitError.TheVariants as error

-- ---- a file of a client

module _ (p q : Platform) (file : TreeFile) (a : ChooseAlike p q file) where
  allowed : IsAllowed p file → IsAllowed q file
  allowed h = sym a.named ∙ h

  left_out : IsLeftOut p file → IsLeftOut q file
  left_out (inl e) = inl (sym a.named ∙ e)
  left_out (inr h) = inr (h.0, h.1, sym (a.headed h.0 h.1) ∙ h.2)

  faulty : (f : FileFault) → IsFaultyFile p file f → IsFaultyFile q file f
  faulty fault.BadExpression h = (allowed h.0, h.1)
  faulty fault.Twice h = (allowed h.0, h.1)
  faulty fault.PlusBuild h = (allowed h.0, h.1)
  faulty (fault.BadToken offset) h = (chosen p q file a h.0, h.1)
  faulty fault.Syntax h = (chosen p q file a h.0, h.1)

  given : (r : Option ParsedFile) → GivesParsed p file r → GivesParsed q file r
  given None h = left_out h
  given (Some x) h = (chosen p q file a h.0, h.1)

-- ---- the files of a client

module _ (p q : Platform) where
  all_given : {files : List TreeFile} {xs : List ParsedFile} → AllChosenAlike files p q → Gives (GivesParsed p) files xs → Gives (GivesParsed q) files xs
  all_given a none = none
  all_given a (next {xs = files} file r g k) = next file r (all_given (λ f h. a f (has_left files (file ∷ []) f h)) g) (given p q file (a file (has_last files file)) r k)

  in_middle : (before after : List TreeFile) (file : TreeFile) → Has (before ++ file ∷ after) file
  in_middle [] after file = inl refl
  in_middle (f ∷ before) after file = inr (in_middle before after file)

  refused : (files : List TreeFile) (at : List ℕ) (f : FileFault) → AllChosenAlike files p q → IsFirstFaulty p files at f → IsFirstFaulty q files at f
  refused files at f a r =
      let there : AllChosenAlike (r.before ++ r.file ∷ r.after) p q = subst (λ (fs : List TreeFile). AllChosenAlike fs p q) r.parts a in
      record {
        before = r.before;
        file = r.file;
        after = r.after;
        parts = r.parts;
        earlier = r.earlier;
        read = all_given (λ g h. there g (has_left r.before (r.file ∷ r.after) g h)) r.read;
        place = r.place;
        refused = faulty p q r.file (there r.file (in_middle r.before r.after r.file)) f r.refused;
      }

module _ (sound : (files : List TreeFile) (f : TreeFile) → Has (by_name files) f → Has files f) where
  -- the files that stand in the root
  in_root : (p q : Platform) (client : Tree) → AllChosenAlike client.files p q → AllChosenAlike (client_files client) p q
  in_root p q client a f h = a f (kept_from (λ (g : TreeFile). bytes_eq g.folder []) client.files f (sound (root_files client.files) f h))

  reads : (p q : Platform) (module_path : List ℕ) (folders : List Folder) (client : Tree) → AllChosenAlike client.files p q → (r : Result ClientFiles UnitError) → ReadsClient module_path folders p client r → ReadsClient module_path folders q client r
  reads p q module_path folders client a (Ok list) h = (h.0, record { given = all_given p q (in_root p q client a) h.1.given; one = h.1.one }, h.2, h.3)
  reads p q module_path folders client a (Err (error.File at f)) h = (h.0, refused p q (client_files client) at.file f (in_root p q client a) h.1)
  reads p q module_path folders client a (Err (error.MixedNames path)) h = (h.0, h.1, all_given p q (in_root p q client a) h.2, h.3)
  reads p q module_path folders client a (Err (error.InternalUse at place)) h = (h.0, h.1, record { given = all_given p q (in_root p q client a) h.2.given; one = h.2.one }, h.3, h.4, h.5)
  reads p q module_path folders client a (Err (error.Cycle path)) h = h
  reads p q module_path folders client a (Err error.NoMemory) h = h

  module _ (barred : List (List ℕ)) (tree std_tree client : Tree) where
    -- platforms that choose the same files of all three
    record AreAlike (p q : Platform) : Type 0 where
      own : AllChosenAlike tree.files p q
      std : AllChosenAlike std_tree.files p q

    back : (p q : Platform) → AreAlike p q → AreAlike q p
    back p q a = record { own = λ f h. alike_back p q f (a.own f h); std = λ f h. alike_back p q f (a.std f h) }

    module _ (p q : Platform) (a : AreAlike p q) where
      of_tree : (from_std : Bool) → AllChosenAlike (files_of p barred tree std_tree from_std) p q
      of_tree true = a.std
      of_tree false = a.own

      at_path : (from_std : Bool) (path : List ℕ) → AllChosenAlike (files_at p barred tree std_tree from_std path) p q
      at_path from_std path f h =
          let here : TreeFile → Bool = λ g. bytes_eq (import_path tree.module from_std g.folder) path in
          of_tree from_std f (kept_from here (files_of p barred tree std_tree from_std) f (sound (filter here (files_of p barred tree std_tree from_std)) f h))

      reads_folder : (folders : List Folder) (n : ℕ) (r : Reading) → ReadsFolder p barred tree std_tree folders n r → ReadsFolder q barred tree std_tree folders n r
      reads_folder folders n r h = let f = folder_of folders n in same_reading p q (files_at p barred tree std_tree f.from_std f.path) r (at_path f.from_std f.path) h

    tree_folder : (p q : Platform) → AreAlike p q → (f : Folder) → IsTreeFolder p barred tree std_tree f → IsTreeFolder q barred tree std_tree f
    tree_folder p q a f h = record {
      some = h.some;
      package_name = same_name p q (files_at p barred tree std_tree f.from_std f.path) f.package_name (at_path p q a f.from_std f.path) h.package_name;
      counts = λ e. let k = h.counts e in record {
        kept = k.kept;
        says = λ n file m c. k.says n file m (chosen q p file (alike_back p q file (at_path p q a f.from_std f.path file m)) c);
      };
    }

    tree_folders : (p q : Platform) → AreAlike p q → (folders : List Folder) → AreTreeFolders p barred tree std_tree folders → AreTreeFolders q barred tree std_tree folders
    tree_folders p q a folders t = record {
      ordered = t.ordered;
      sound = λ f h. tree_folder p q a f (t.sound f h);
      complete = λ f k. t.complete f (tree_folder q p (back p q a) f k);
    }

    module _ (p q : Platform) (a : AreAlike p q) (own : AllChosenAlike client.files p q) where
      with_client : (folders : List Folder) (r : Result ClientUnits UnitError) → AnswersWith tree.module folders (ReadsFolder q barred tree std_tree folders) p client r → AnswersWith tree.module folders (ReadsFolder q barred tree std_tree folders) q client r
      with_client folders (Ok u) h = (h.0, reads p q tree.module folders client own (Ok h.0) h.1, h.2)
      with_client folders (Err e) (inl h) = inl h
      with_client folders (Err e) (inr (inl h)) = inr (inl (h.0, h.1, reads p q tree.module folders client own (Err e) h.2))
      with_client folders (Err e) (inr (inr h)) = inr (inr (h.0, reads p q tree.module folders client own (Ok h.0) h.1, h.2))

      answers : (r : Result ClientUnits UnitError) → AnswersOfClient p barred tree std_tree client r → AnswersOfClient q barred tree std_tree client r
      answers r h =
          let more = answers_more tree.module h.0 (ReadsFolder p barred tree std_tree h.0) (ReadsFolder q barred tree std_tree h.0) (λ n x l g. reads_folder p q a h.0 n x g) p client r h.2 in
          (h.0, tree_folders p q a h.0 h.1, with_client h.0 r more)

    pub same_units : (p q : Platform) (r : Result ClientUnits UnitError) → AllChosenAlike tree.files p q → AllChosenAlike std_tree.files p q → AllChosenAlike client.files p q
        → AreClientUnits p barred tree std_tree client r → AreClientUnits q barred tree std_tree client r
    same_units p q (Ok units) a b c h = answers p q (record { own = a; std = b }) c (Ok units) h
    same_units p q (Err (error.File at f)) a b c h = answers p q (record { own = a; std = b }) c (Err (error.File at f)) h
    same_units p q (Err (error.MixedNames path)) a b c h = answers p q (record { own = a; std = b }) c (Err (error.MixedNames path)) h
    same_units p q (Err (error.InternalUse at place)) a b c h = answers p q (record { own = a; std = b }) c (Err (error.InternalUse at place)) h
    same_units p q (Err (error.Cycle path)) a b c h = answers p q (record { own = a; std = b }) c (Err (error.Cycle path)) h
    same_units p q (Err error.NoMemory) a b c h = h
