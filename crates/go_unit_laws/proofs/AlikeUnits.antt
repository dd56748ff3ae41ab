-- Where platforms choose the same files of two trees, the trees have the same units on both.
use Rattle.std.proofs.Common.{ℕ, Bool, true, false, List, Result, Ok, Err}
use Rattle.std.specs.List.{filter}
use Rattle.std.specs.Prelude.{bytes_eq}
use Rattle.go_base.specs.Lists.{Has}
use Rattle.go_file_choices.specs.AlikePlatforms.{AllChosenAlike}
use Rattle.go_model.specs.declared.files.platform.Platform.{Platform}
use Rattle.go_model.specs.declared.files.tree.Tree.{Tree}
use Rattle.go_model.specs.declared.files.tree.TreeFile.{TreeFile}
use Rattle.go_reading.proofs.ListFacts.{kept_from}
use Rattle.go_reading.specs.FilesByName.{by_name}
use Rattle.go_reading.specs.TreeFolders.{AreTreeFolders, IsTreeFolder, ReadsFolder, files_at, files_of, import_path}
use Rattle.go_reading.specs.TreeUnits.{AnswersOfTrees, AreUnitsOfTrees}
use Rattle.go_unit_laws.proofs.AlikeAnswers.{same_answers}
use Rattle.go_unit_laws.proofs.AlikeFiles.{alike_back, chosen, same_name, same_reading}
use Rattle.go_units.specs.Folders.{folder_of}
use Rattle.go_units.specs.declared.folder.Folder.{Folder}
use Rattle.go_units.specs.declared.reader.Reading.{Reading}
use Rattle.go_units.specs.declared.unit_error.UnitError.{UnitError}
use Rattle.go_units.specs.declared.unit_error.UnitError.TheVariants as error
use Rattle.go_units.specs.declared.unit_list.Units.{Units}

module _ (sound : (files : List TreeFile) (f : TreeFile) → Has (by_name files) f → Has files f) (barred : List (List ℕ)) (tree std_tree : Tree) where
  -- platforms that choose the same files of both trees
  record AreAlike (p q : Platform) : Type 0 where
    own : AllChosenAlike tree.files p q
    std : AllChosenAlike std_tree.files p q

  back : (p q : Platform) → AreAlike p q → AreAlike q p
  back p q a = record { own = λ f h. alike_back p q f (a.own f h); std = λ f h. alike_back p q f (a.std f h) }

  module _ (p q : Platform) (a : AreAlike p q) where
    of_tree : (from_std : Bool) → AllChosenAlike (files_of p barred tree std_tree from_std) p q
    of_tree true = a.std
    of_tree false = a.own

    at_path : (from_std : Bool) (path : List ℕ) → AllChosenAlike (files_at p barred tree std_tree from_std path) p q
    at_path from_std path f h =
        let here : TreeFile → Bool = λ g. bytes_eq (import_path tree.module from_std g.folder) path in
        of_tree from_std f (kept_from here (files_of p barred tree std_tree from_std) f (sound (filter here (files_of p barred tree std_tree from_std)) f h))

    reads : (folders : List Folder) (n : ℕ) (r : Reading) → ReadsFolder p barred tree std_tree folders n r → ReadsFolder q barred tree std_tree folders n r
    reads folders n r h = let f = folder_of folders n in same_reading p q (files_at p barred tree std_tree f.from_std f.path) r (at_path f.from_std f.path) h

  tree_folder : (p q : Platform) → AreAlike p q → (f : Folder) → IsTreeFolder p barred tree std_tree f → IsTreeFolder q barred tree std_tree f
  tree_folder p q a f h = record {
    some = h.some;
    package_name = same_name p q (files_at p barred tree std_tree f.from_std f.path) f.package_name (at_path p q a f.from_std f.path) h.package_name;
    counts = λ e. let k = h.counts e in record {
      kept = k.kept;
      says = λ n file m c. k.says n file m (chosen q p file (alike_back p q file (at_path p q a f.from_std f.path file m)) c);
    };
  }

  tree_folders : (p q : Platform) → AreAlike p q → (folders : List Folder) → AreTreeFolders p barred tree std_tree folders → AreTreeFolders q barred tree std_tree folders
  tree_folders p q a folders t = record {
    ordered = t.ordered;
    sound = λ f h. tree_folder p q a f (t.sound f h);
    complete = λ f k. t.complete f (tree_folder q p (back p q a) f k);
  }

  answers : (p q : Platform) → AreAlike p q → (r : Result Units UnitError) → AnswersOfTrees p barred tree std_tree r → AnswersOfTrees q barred tree std_tree r
  answers p q a r h = (h.0, tree_folders p q a h.0 h.1, same_answers tree.module h.0 (ReadsFolder p barred tree std_tree h.0) (ReadsFolder q barred tree std_tree h.0) (reads p q a h.0) r h.2)

  pub same_units : (p q : Platform) (r : Result Units UnitError) → AllChosenAlike tree.files p q → AllChosenAlike std_tree.files p q → AreUnitsOfTrees p barred tree std_tree r → AreUnitsOfTrees q barred tree std_tree r
  same_units p q (Ok units) a b h = answers p q (record { own = a; std = b }) (Ok units) h
  same_units p q (Err (error.File at f)) a b h = answers p q (record { own = a; std = b }) (Err (error.File at f)) h
  same_units p q (Err (error.MixedNames path)) a b h = answers p q (record { own = a; std = b }) (Err (error.MixedNames path)) h
  same_units p q (Err (error.InternalUse at place)) a b h = answers p q (record { own = a; std = b }) (Err (error.InternalUse at place)) h
  same_units p q (Err (error.Cycle path)) a b h = answers p q (record { own = a; std = b }) (Err (error.Cycle path)) h
  same_units p q (Err error.NoMemory) a b h = h
