-- A client that is joined to what it and its module reach.
use Rattle.std.proofs.Common.{◌≡◌, ◌⊎◌, ◌<◌, ℕ, Bool, false, Some, List, [], length, Result, Ok, Err, sym, ap, ◌∙◌, subst, get_or, inl, inr, arith}
use Rattle.go_client_files.specs.ClientFiles.{ReadsClient}
use Rattle.go_client_files.specs.declared.uses.ClientFiles.{ClientFiles}
use Rattle.go_client_files.proofs.MadeFiles.{files_alike, files_few}
use Rattle.go_client_units.specs.ClientUnits.{AnswersWith, AreClientUnits, AnswersOfClient, IsRefusal}
use Rattle.go_client_units.specs.declared.units.ClientUnits.{ClientUnits}
use Rattle.go_client_units.specs.inner.Walks.{AreWalked, IsNamedAlike, Refuses}
use Rattle.go_client_units.proofs.MoreReadings.{answers_more}
use Rattle.go_client_walks.specs.ClientWalks.{IsOwnRefusal, ModuleAnswers, ModuleIsRead}
use Rattle.go_imports.specs.Gives.{Gives}
use Rattle.go_model.specs.declared.files.platform.Platform.{Platform}
use Rattle.go_model.specs.declared.files.tree.Tree.{Tree}
use Rattle.go_model.specs.files.Trees.{IsTree}
use Rattle.go_client_files.specs.go_reading.TreeFolders.{AreTreeFolders, ReadsFolder}
use Rattle.go_client_files.specs.go_reading.declared.heads.HeadedFile.{HeadedFile}
use Rattle.go_client_files.specs.go_reading.inner.Heads.{IsHeadedReading}
use Rattle.go_client_files.specs.go_reading.inner.Listing.{AreContents}
use Rattle.go_client_files.proofs.go_reading_proofs.TreeReadings.{reads_folder}
use Rattle.go_units.specs.Reached.{ReadFolders}
use Rattle.go_units.specs.UnitsOfModules.{GivesUnitFile}
use Rattle.go_units.specs.declared.folder.Folder.{Folder}
use Rattle.go_units.specs.declared.package_uses.PackageFile.{PackageFile}
use Rattle.go_units.specs.declared.reader.Reading.{Reading}
use Rattle.go_units.specs.declared.unit.UnitFile.{UnitFile}
use Rattle.go_units.specs.declared.unit_error.UnitError.{UnitError}
use Rattle.go_units.specs.declared.unit_error.UnitError.TheVariants as error
use Rattle.go_units.specs.inner.UnitMaking.{AreAlike}
use Rattle.go_units.proofs.Giving.{given_by, gives_fewer}

module _ (module_path : List ℕ) (folders : List Folder) (packages : List Bool) where
  named_by : (f : PackageFile) (g : UnitFile) → GivesUnitFile module_path folders packages false f (Some g) → g.outline.«package».text ≡ f.outline.«package».text
  named_by f g k = ap (λ o. o.«package».text) k.reads

  -- files that are given have the names of those that give them
  pub given_alike : (files : List PackageFile) (made : List UnitFile) → AreAlike files → Gives (GivesUnitFile module_path folders packages false) files made → IsNamedAlike made
  given_alike files made a g f h i j =
      let p = given_by (GivesUnitFile module_path folders packages false) g f i in
      let q = given_by (GivesUnitFile module_path folders packages false) g h j in
      named_by p.0 f p.2 ∙ a p.0 q.0 p.1 q.1 ∙ sym (named_by q.0 h q.2)

  pub given_few : (files : List PackageFile) (made : List UnitFile) → length files < 4294967296 → Gives (GivesUnitFile module_path folders packages false) files made → length made < 4294967296
  given_few files made l g = let f = gives_fewer (GivesUnitFile module_path folders packages false) g in omega (arith, l, f)

module _ (module_path : List ℕ) (folders : List Folder) (gives : ℕ → Reading → Type 0) where
  pub own_refused : (e r : UnitError) → ModuleAnswers module_path folders gives (Err r) → Refuses module_path folders gives e r
  own_refused e (error.File at f) k = inl k
  own_refused e (error.MixedNames path) k = inl k
  own_refused e (error.InternalUse at place) k = inl k
  own_refused e (error.Cycle path) k = absurd k
  own_refused e error.NoMemory k = tt

  pub other_refused : (e : UnitError) → (slots : ReadFolders) × ModuleIsRead module_path folders gives slots → Refuses module_path folders gives e e
  other_refused (error.File at f) k = inr (k, λ i. error.File at f)
  other_refused (error.MixedNames path) k = inr (k, λ i. error.MixedNames path)
  other_refused (error.InternalUse at place) k = inr (k, λ i. error.InternalUse at place)
  other_refused (error.Cycle path) k = inr (k, λ i. error.Cycle path)
  other_refused error.NoMemory k = tt

  module _ (p : Platform) (client : Tree) where
    with_units : (list : ClientFiles) (r : Result ClientUnits UnitError) → ReadsClient module_path folders p client (Ok list) → AreWalked module_path folders gives list r → AnswersWith module_path folders gives p client r
    with_units list (Ok u) k a = (list, k, a)
    with_units list (Err e) k a = inr (inr (list, k, a))

    with_refusal : (e r : UnitError) → ReadsClient module_path folders p client (Err e) → IsOwnRefusal module_path folders gives [] r ⊎ (((slots : ReadFolders) × ModuleIsRead module_path folders gives slots) × (e ≡ r)) → IsRefusal module_path folders gives p client r
    with_refusal e r k (inl o) = inl o
    with_refusal e r k (inr (m, i)) = inr (inl (m.0, m.1, subst (λ (z : UnitError). ReadsClient module_path folders p client (Err z)) i k))

-- a client whose files are read has few of them, and they are of one package
pub read_few : (module_path : List ℕ) (folders : List Folder) (p : Platform) (client : Tree) (list : ClientFiles) → IsTree client → ReadsClient module_path folders p client (Ok list) → length list.files < 4294967296
read_few module_path folders p client list t k = files_few module_path folders p client k.0 list t k.1 k.2

pub read_alike : (module_path : List ℕ) (folders : List Folder) (p : Platform) (client : Tree) (list : ClientFiles) → ReadsClient module_path folders p client (Ok list) → AreAlike list.files
read_alike module_path folders p client list k = files_alike module_path folders k.0 list k.1.one k.2

module _ (p : Platform) (barred : List (List ℕ)) (tree std_tree client : Tree) (folders : List Folder) (contents : List (List HeadedFile)) (f : AreTreeFolders p barred tree std_tree folders) (c : AreContents p barred tree std_tree folders contents) where
  abbrev some : ℕ → Reading → Type 0
  some n r = IsHeadedReading (get_or contents n []) r

  of_client : (r : Result ClientUnits UnitError) → AnswersOfClient p barred tree std_tree client r → AreClientUnits p barred tree std_tree client r
  of_client (Ok u) a = a
  of_client (Err (error.File at g)) a = a
  of_client (Err (error.MixedNames path)) a = a
  of_client (Err (error.InternalUse at place)) a = a
  of_client (Err (error.Cycle path)) a = a
  of_client (Err error.NoMemory) a = tt

  answered : (r : Result ClientUnits UnitError) → AnswersWith tree.module folders some p client r → AreClientUnits p barred tree std_tree client r
  answered r a = of_client r (folders, f, answers_more tree.module folders some (ReadsFolder p barred tree std_tree folders) (λ n x l g. reads_folder p barred tree std_tree folders contents c n x l g) p client r a)

  -- what is answered where the client's files are read
  pub read_answered : (list : ClientFiles) (r : Result ClientUnits UnitError) → ReadsClient tree.module folders p client (Ok list) → AreWalked tree.module folders some list r → AreClientUnits p barred tree std_tree client r
  read_answered list r k a = answered r (with_units tree.module folders some p client list r k a)

  -- and where they are refused
  pub refused_answered : (e r : UnitError) → ReadsClient tree.module folders p client (Err e) → Refuses tree.module folders some e r → AreClientUnits p barred tree std_tree client (Err r)
  refused_answered e (error.File at g) k a = answered (Err (error.File at g)) (with_refusal tree.module folders some p client e (error.File at g) k a)
  refused_answered e (error.MixedNames path) k a = answered (Err (error.MixedNames path)) (with_refusal tree.module folders some p client e (error.MixedNames path) k a)
  refused_answered e (error.InternalUse at place) k a = answered (Err (error.InternalUse at place)) (with_refusal tree.module folders some p client e (error.InternalUse at place) k a)
  refused_answered e (error.Cycle path) k a = answered (Err (error.Cycle path)) (with_refusal tree.module folders some p client e (error.Cycle path) k a)
  refused_answered e error.NoMemory k a = tt
