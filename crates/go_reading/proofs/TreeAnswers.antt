-- What is answered of folders whose files have heads is answered of the trees.
use Rattle.std.proofs.Common.{ℕ, ◌<◌, List, [], length, get_or, Result, Ok, Err}
use Rattle.go_model.specs.declared.files.platform.Platform.{Platform}
use Rattle.go_model.specs.declared.files.tree.Tree.{Tree}
use Rattle.go_reading.proofs.TreeReadings.{reads_folder}
use Rattle.go_reading.specs.TreeFolders.{AreTreeFolders, ReadsFolder}
use Rattle.go_reading.specs.TreeUnits.{AreUnitsOfTrees, AnswersOfTrees}
use Rattle.go_reading.specs.declared.heads.HeadedFile.{HeadedFile}
use Rattle.go_reading.specs.inner.Heads.{IsHeadedReading}
use Rattle.go_reading.specs.inner.Listing.{AreContents}
use Rattle.go_units.specs.Reached.{ReadFolders, Walked, start, next as next_read, IsRefusedFor, IsFirstRefusal, AllAreRead}
use Rattle.go_units.specs.UnitsOfModules.{Answers}
use Rattle.go_units.specs.declared.folder.Folder.{Folder}
use Rattle.go_units.specs.declared.reader.Reading.{Reading}
use Rattle.go_units.specs.declared.reader.Reading.TheVariants as reading
use Rattle.go_units.specs.declared.unit_error.UnitError.{UnitError}
use Rattle.go_units.specs.declared.unit_error.UnitError.TheVariants as error
use Rattle.go_units.specs.declared.unit_list.Units.{Units}

-- what is answered where folders give some readings is answered where they give these and more
module _ (module_path : List ℕ) (folders : List Folder) (some all : ℕ → Reading → Type 0) (more : (n : ℕ) (r : Reading) → n < length folders → some n r → all n r) where
  walked_more : {slots : ReadFolders} → Walked module_path folders some slots → Walked module_path folders all slots
  walked_more (start e f) = start e f
  walked_more (next_read {slots = slots} {n = n} {sources = sources} {files = files} w is g a) = next_read (walked_more w) is (more n (reading.Files sources) is.wanted.within g) a

  refused_more : (n : ℕ) (e : UnitError) → n < length folders → IsRefusedFor module_path folders some n e → IsRefusedFor module_path folders all n e
  refused_more n (error.File at f) l r = (r.0, more n (reading.Refused at.file f) l r.1)
  refused_more n (error.MixedNames path) l r = (r.0, more n (reading.Files r.0) l r.1, r.2)
  refused_more n (error.InternalUse at place) l r = (r.0, more n (reading.Files r.0) l r.1, r.2)
  refused_more n (error.Cycle path) l r = r
  refused_more n error.NoMemory l r = r

  first_more : (e : UnitError) → IsFirstRefusal module_path folders some e → IsFirstRefusal module_path folders all e
  first_more e r = (r.0, walked_more r.1, r.2, r.3, refused_more r.2 e r.3.wanted.within r.4)

  all_more : (slots : ReadFolders) → AllAreRead module_path folders some slots → AllAreRead module_path folders all slots
  all_more slots r = record { walked = walked_more r.walked; all = r.all }

  pub answers_more : (r : Result Units UnitError) → Answers module_path folders some r → Answers module_path folders all r
  answers_more (Ok units) a = (a.0, all_more a.0 a.1, a.2)
  answers_more (Err (error.File at f)) a = first_more (error.File at f) a
  answers_more (Err (error.MixedNames path)) a = first_more (error.MixedNames path) a
  answers_more (Err (error.InternalUse at place)) a = first_more (error.InternalUse at place) a
  answers_more (Err (error.Cycle path)) a = (a.0, all_more a.0 a.1, a.2)
  answers_more (Err error.NoMemory) a = a

module _ (p : Platform) (barred : List (List ℕ)) (tree std_tree : Tree) where
  of_trees : (r : Result Units UnitError) → AnswersOfTrees p barred tree std_tree r → AreUnitsOfTrees p barred tree std_tree r
  of_trees (Ok units) a = a
  of_trees (Err (error.File at f)) a = a
  of_trees (Err (error.MixedNames path)) a = a
  of_trees (Err (error.InternalUse at place)) a = a
  of_trees (Err (error.Cycle path)) a = a
  of_trees (Err error.NoMemory) a = tt

  -- what is answered where the files of each folder have their heads
  pub answered : (folders : List Folder) (contents : List (List HeadedFile)) (r : Result Units UnitError) → AreTreeFolders p barred tree std_tree folders → AreContents p barred tree std_tree folders contents
      → Answers tree.module folders (λ n x. IsHeadedReading (get_or contents n []) x) r → AreUnitsOfTrees p barred tree std_tree r
  answered folders contents r f c a =
      of_trees r (folders, f, answers_more tree.module folders (λ n x. IsHeadedReading (get_or contents n []) x) (ReadsFolder p barred tree std_tree folders) (reads_folder p barred tree std_tree folders contents c) r a)
