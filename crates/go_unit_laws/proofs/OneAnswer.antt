-- Trees have one answer.
use Rattle.std.proofs.Common.{◌≡◌, ◌≢◌, ℕ, List, map, Result, Ok, Err, refl, ap, subst}
use Rattle.go_model.specs.declared.files.platform.Platform.{Platform}
use Rattle.go_model.specs.declared.files.tree.Tree.{Tree}
use Rattle.go_reading.specs.FolderReadings.{IsReading}
use Rattle.go_model.specs.declared.files.tree.TreeFile.{TreeFile}
use Rattle.go_reading.specs.TreeFolders.{AreTreeFolders, ReadsFolder, files_at}
use Rattle.go_reading.specs.TreeUnits.{AreUnitsOfTrees, AnswersOfTrees}
use Rattle.go_unit_laws.proofs.Acyclic.{units_or_cycle}
use Rattle.go_unit_laws.proofs.OneList.{all_written, same_paths}
use Rattle.go_unit_laws.proofs.OneRefusal.{first_or_all, one_cycle, one_first, one_slots}
use Rattle.go_unit_laws.proofs.OneUnit.{counterpart, written_by_path}
use Rattle.go_unit_laws.specs.WrittenUnits.{written}
use Rattle.go_units.proofs.WalkedFiles.{walked_rows}
use Rattle.go_units.specs.Folders.{AreOrdered, folder_of}
use Rattle.go_units.specs.Reached.{AllAreRead, ReadFolders}
use Rattle.go_units.specs.UnitsOfModules.{Answers, AreUnits, IsCycle}
use Rattle.go_units.specs.declared.folder.Folder.{Folder}
use Rattle.go_units.specs.declared.reader.Reading.{Reading}
use Rattle.go_units.specs.declared.unit_error.UnitError.{UnitError}
use Rattle.go_units.specs.declared.unit_error.UnitError.TheVariants as error
use Rattle.go_units.specs.declared.unit_list.Units.{Units}

-- ---- over any reader of folders

module _ (module_path : List ℕ) (folders : List Folder) (ordered : AreOrdered folders) (gives : ℕ → Reading → Type 0) (one : (n : ℕ) (a b : Reading) → gives n a → gives n b → a ≡ b) where
  of_one : (slots : ReadFolders) (a b : Units) → AllAreRead module_path folders gives slots → AreUnits module_path folders slots a.packages → AreUnits module_path folders slots b.packages → map written a.packages ≡ map written b.packages
  of_one slots a b read all every =
      let rows = walked_rows module_path folders gives read.walked in
      all_written a.packages b.packages
      (same_paths a.packages b.packages
      (λ u h. counterpart module_path folders ordered slots rows b.packages a.packages every all u h)
      (λ v h. counterpart module_path folders ordered slots rows a.packages b.packages all every v h)
      a.ordered b.ordered)
      (λ u v h k e. let i = all.sound u h in let j = every.sound v k in written_by_path module_path folders ordered slots rows i.0 j.0 u v i.1 j.1 e)

  Says : Result Units UnitError → Type 0
  Says r = Answers module_path folders gives r

  one_units : (a b : Units) → Says (Ok a) → Says (Ok b) → map written a.packages ≡ map written b.packages
  unfolding Says
  one_units a b s t =
      let same : s.0 ≡ t.0 = one_slots module_path folders ordered gives one s.0 t.0 s.1 t.1 in
      of_one t.0 a b t.1 (subst (λ (w : ReadFolders). AreUnits module_path folders w a.packages) same s.2) t.2

  one_error : (d e : UnitError) → d ≢ error.NoMemory → e ≢ error.NoMemory → Says (Err d) → Says (Err e) → d ≡ e
  unfolding Says
  one_error error.NoMemory e s t a b = absurd (s refl)
  one_error d error.NoMemory s t a b = absurd (t refl)
  one_error (error.Cycle path) (error.Cycle other) s t a b =
      let same : a.0 ≡ b.0 = one_slots module_path folders ordered gives one a.0 b.0 a.1 b.1 in
      ap error.Cycle (one_cycle module_path folders ordered gives one b.0 path other (subst (λ (w : ReadFolders). IsCycle module_path folders w path) same a.2) b.2)
  one_error (error.Cycle path) (error.File at f) s t a b = absurd (first_or_all module_path folders ordered gives one (error.File at f) a.0 t b a.1)
  one_error (error.Cycle path) (error.MixedNames other) s t a b = absurd (first_or_all module_path folders ordered gives one (error.MixedNames other) a.0 t b a.1)
  one_error (error.Cycle path) (error.InternalUse at place) s t a b = absurd (first_or_all module_path folders ordered gives one (error.InternalUse at place) a.0 t b a.1)
  one_error (error.File at f) (error.Cycle path) s t a b = absurd (first_or_all module_path folders ordered gives one (error.File at f) b.0 s a b.1)
  one_error (error.MixedNames other) (error.Cycle path) s t a b = absurd (first_or_all module_path folders ordered gives one (error.MixedNames other) b.0 s a b.1)
  one_error (error.InternalUse at place) (error.Cycle path) s t a b = absurd (first_or_all module_path folders ordered gives one (error.InternalUse at place) b.0 s a b.1)
  one_error (error.File at f) (error.File bt g) s t a b = one_first module_path folders ordered gives one (error.File at f) (error.File bt g) s t a b
  one_error (error.File at f) (error.MixedNames q) s t a b = one_first module_path folders ordered gives one (error.File at f) (error.MixedNames q) s t a b
  one_error (error.File at f) (error.InternalUse bt q) s t a b = one_first module_path folders ordered gives one (error.File at f) (error.InternalUse bt q) s t a b
  one_error (error.MixedNames p) (error.File bt g) s t a b = one_first module_path folders ordered gives one (error.MixedNames p) (error.File bt g) s t a b
  one_error (error.MixedNames p) (error.MixedNames q) s t a b = one_first module_path folders ordered gives one (error.MixedNames p) (error.MixedNames q) s t a b
  one_error (error.MixedNames p) (error.InternalUse bt q) s t a b = one_first module_path folders ordered gives one (error.MixedNames p) (error.InternalUse bt q) s t a b
  one_error (error.InternalUse at p) (error.File bt g) s t a b = one_first module_path folders ordered gives one (error.InternalUse at p) (error.File bt g) s t a b
  one_error (error.InternalUse at p) (error.MixedNames q) s t a b = one_first module_path folders ordered gives one (error.InternalUse at p) (error.MixedNames q) s t a b
  one_error (error.InternalUse at p) (error.InternalUse bt q) s t a b = one_first module_path folders ordered gives one (error.InternalUse at p) (error.InternalUse bt q) s t a b

  units_or_error : (a : Units) (e : UnitError) → e ≢ error.NoMemory → Says (Ok a) → Says (Err e) → ⊥
  unfolding Says
  units_or_error a error.NoMemory t s b = t refl
  units_or_error a (error.File at f) t s b = first_or_all module_path folders ordered gives one (error.File at f) s.0 t b s.1
  units_or_error a (error.MixedNames path) t s b = first_or_all module_path folders ordered gives one (error.MixedNames path) s.0 t b s.1
  units_or_error a (error.InternalUse at place) t s b = first_or_all module_path folders ordered gives one (error.InternalUse at place) s.0 t b s.1
  units_or_error a (error.Cycle path) t s b =
      let same : b.0 ≡ s.0 = one_slots module_path folders ordered gives one b.0 s.0 b.1 s.1 in
      units_or_cycle module_path folders ordered s.0 (walked_rows module_path folders gives s.1.walked) a.packages path s.2 a.ordered (subst (λ (w : ReadFolders). IsCycle module_path folders w path) same b.2)

-- ---- of trees

module _ (one_list : (p : Platform) (barred : List (List ℕ)) (tree std_tree : Tree) (a b : List Folder) → AreTreeFolders p barred tree std_tree a → AreTreeFolders p barred tree std_tree b → a ≡ b)
    (one_reading : (p : Platform) (files : List TreeFile) (a b : Reading) → IsReading p files a → IsReading p files b → a ≡ b)
    (p : Platform) (barred : List (List ℕ)) (tree std_tree : Tree) where
  read_once : (folders : List Folder) (n : ℕ) (a b : Reading) → ReadsFolder p barred tree std_tree folders n a → ReadsFolder p barred tree std_tree folders n b → a ≡ b
  read_once folders n a b h k = one_reading p (files_at p barred tree std_tree (folder_of folders n).from_std (folder_of folders n).path) a b h k

  over : (r : Result Units UnitError) (folders : List Folder) (s : AnswersOfTrees p barred tree std_tree r) → s.0 ≡ folders → Answers tree.module folders (ReadsFolder p barred tree std_tree folders) r
  over r folders s e = subst (λ (w : List Folder). Answers tree.module w (ReadsFolder p barred tree std_tree w) r) e s.2

  pub one_units_of : (a b : Units) → AreUnitsOfTrees p barred tree std_tree (Ok a) → AreUnitsOfTrees p barred tree std_tree (Ok b) → map written a.packages ≡ map written b.packages
  unfolding Says
  one_units_of a b s t = one_units tree.module t.0 t.1.ordered (ReadsFolder p barred tree std_tree t.0) (read_once t.0) a b (over (Ok a) t.0 s (one_list p barred tree std_tree s.0 t.0 s.1 t.1)) t.2

  told : (e : UnitError) → e ≢ error.NoMemory → AreUnitsOfTrees p barred tree std_tree (Err e) → AnswersOfTrees p barred tree std_tree (Err e)
  told (error.File at f) s a = a
  told (error.MixedNames path) s a = a
  told (error.InternalUse at place) s a = a
  told (error.Cycle path) s a = a
  told error.NoMemory s a = absurd (s refl)

  pub one_error_of : (d e : UnitError) → d ≢ error.NoMemory → e ≢ error.NoMemory → AreUnitsOfTrees p barred tree std_tree (Err d) → AreUnitsOfTrees p barred tree std_tree (Err e) → d ≡ e
  unfolding Says
  one_error_of d e s t a b =
      let k = told d s a in
      let l = told e t b in
      one_error tree.module l.0 l.1.ordered (ReadsFolder p barred tree std_tree l.0) (read_once l.0) d e s t (over (Err d) l.0 k (one_list p barred tree std_tree k.0 l.0 k.1 l.1)) l.2

  pub apart_of : (a : Units) (e : UnitError) → e ≢ error.NoMemory → AreUnitsOfTrees p barred tree std_tree (Ok a) → AreUnitsOfTrees p barred tree std_tree (Err e) → ⊥
  unfolding Says
  apart_of a e t s b =
      let l = told e t b in
      units_or_error tree.module s.0 s.1.ordered (ReadsFolder p barred tree std_tree s.0) (read_once s.0) a e t s.2 (over (Err e) s.0 l (one_list p barred tree std_tree l.0 s.0 l.1 s.1))
