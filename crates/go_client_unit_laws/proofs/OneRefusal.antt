-- The packages of a module with a client are refused for one cause, in one folder.
use Rattle.std.proofs.Common.{◌≡◌, ◌≢◌, ℕ, List, subst}
use Rattle.go_client_unit_laws.proofs.OneCause.{not_both, one_cause}
use Rattle.go_client_unit_laws.proofs.OneWalk.{IsStuck, one_end, one_next}
use Rattle.go_client_walks.specs.ClientWalks.{AllAreRead, IsFirstRefusal, IsNextFolder}
use Rattle.go_units.specs.Folders.{AreOrdered}
use Rattle.go_units.specs.Reached.{AreAccepted, IsRefusedFor, ReadFolders}
use Rattle.go_units.specs.declared.folder.Folder.{Folder}
use Rattle.go_units.specs.declared.package_uses.PackageFile.{PackageFile}
use Rattle.go_units.specs.declared.reader.Reading.{Reading}
use Rattle.go_units.specs.declared.reader.Reading.TheVariants as reading
use Rattle.go_units.specs.declared.unit_error.UnitError.{UnitError}
use Rattle.go_units.specs.declared.unit_error.UnitError.TheVariants as error

module _ (client : List PackageFile) (module_path : List ℕ) (folders : List Folder) (ordered : AreOrdered folders) (gives : ℕ → Reading → Type 0) (one : (n : ℕ) (a b : Reading) → gives n a → gives n b → a ≡ b) where
  -- ---- the walk ends where a folder is refused, and where all are read

  pub stuck_refused : (slots : ReadFolders) (n : ℕ) (e : UnitError) → e ≢ error.NoMemory → IsNextFolder client module_path folders slots n → IsRefusedFor module_path folders gives n e → IsStuck client module_path folders ordered gives one slots
  stuck_refused slots n e s i r m files step =
      let same : m ≡ n = one_next client module_path folders ordered gives one slots m n step.is_next i in
      not_both module_path folders ordered gives one n e s r step.sources files
      (subst (λ (k : ℕ). gives k (reading.Files step.sources)) same step.read)
      (subst (λ (k : ℕ). AreAccepted module_path folders k step.sources files) same step.accepted)

  pub stuck_read : (slots : ReadFolders) → AllAreRead client module_path folders gives slots → IsStuck client module_path folders ordered gives one slots
  stuck_read slots all n files step = all.all n step.is_next.wanted step.is_next.fresh

  -- ---- refusals of folders

  pub one_first : (d e : UnitError) → d ≢ error.NoMemory → e ≢ error.NoMemory → IsFirstRefusal client module_path folders gives d → IsFirstRefusal client module_path folders gives e → d ≡ e
  one_first d e s t a b =
      let slots : a.0 ≡ b.0 = one_end client module_path folders ordered gives one a.0 b.0 a.1 b.1 (stuck_refused a.0 a.2 d s a.3 a.4) (stuck_refused b.0 b.2 e t b.3 b.4) in
      let number : a.2 ≡ b.2 = one_next client module_path folders ordered gives one b.0 a.2 b.2 (subst (λ (w : ReadFolders). IsNextFolder client module_path folders w a.2) slots a.3) b.3 in
      one_cause module_path folders ordered gives one b.2 d e s t (subst (λ (k : ℕ). IsRefusedFor module_path folders gives k d) number a.4) b.4

  pub first_or_all : (e : UnitError) (slots : ReadFolders) → e ≢ error.NoMemory → IsFirstRefusal client module_path folders gives e → AllAreRead client module_path folders gives slots → ⊥
  first_or_all e slots s a all =
      let same : a.0 ≡ slots = one_end client module_path folders ordered gives one a.0 slots a.1 all.walked (stuck_refused a.0 a.2 e s a.3 a.4) (stuck_read slots all) in
      let i : IsNextFolder client module_path folders slots a.2 = subst (λ (w : ReadFolders). IsNextFolder client module_path folders w a.2) same a.3 in
      all.all a.2 i.wanted i.fresh

  pub one_slots : (a b : ReadFolders) → AllAreRead client module_path folders gives a → AllAreRead client module_path folders gives b → a ≡ b
  one_slots a b all every = one_end client module_path folders ordered gives one a b all.walked every.walked (stuck_read a all) (stuck_read b every)
