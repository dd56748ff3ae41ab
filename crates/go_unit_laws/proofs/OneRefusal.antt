-- The packages of a module are refused for one cause, in one folder or on one cycle.
use Rattle.std.proofs.Common.{◌≡◌, ◌≢◌, ℕ, List, refl, sym, ap, ◌∙◌, subst, arith}
use Rattle.go_imports.specs.Orders.{LeadsTo, directly, through}
use Rattle.go_imports.specs.PackageFiles.{AreOfOnePackage}
use Rattle.go_imports.specs.declared.package_files.SourceFile.{SourceFile}
use Rattle.go_unit_laws.proofs.OneFiles.{free_or_internal, one_files, one_place}
use Rattle.go_unit_laws.proofs.OneWalk.{IsStuck, one_end, one_next, same_sources}
use Rattle.go_units.specs.Folders.{AreOrdered, folder_of}
use Rattle.go_units.specs.PackageUses.{AreFree, ArePackageFiles, IsFirstInternal}
use Rattle.go_units.specs.Reached.{AllAreRead, AreAccepted, IsFirstRefusal, IsNextFolder, IsRefusedFor, ReadFolders, is_std}
use Rattle.go_units.specs.UnitsOfModules.{AreNeeds, IsCycle}
use Rattle.go_units.specs.declared.folder.Folder.{Folder}
use Rattle.go_units.specs.declared.package_uses.PackageFile.{PackageFile}
use Rattle.go_units.specs.declared.reader.FileFault.{FileFault}
use Rattle.go_units.specs.declared.reader.Reading.{Reading}
use Rattle.go_units.specs.declared.reader.Reading.TheVariants as reading
use Rattle.go_units.specs.declared.unit_error.FileAt.{FileAt}
use Rattle.go_units.specs.declared.unit_error.UnitError.{UnitError}
use Rattle.go_units.specs.declared.unit_error.UnitError.TheVariants as error

files_or_refused : (ss : List SourceFile) (at : List ℕ) (f : FileFault) → reading.Files ss ≡ reading.Refused at f → ⊥
files_or_refused ss at f e = cc

same_path : (at bt : List ℕ) (f g : FileFault) → reading.Refused at f ≡ reading.Refused bt g → at ≡ bt
same_path at bt f g e = cc

same_fault : (at bt : List ℕ) (f g : FileFault) → reading.Refused at f ≡ reading.Refused bt g → f ≡ g
same_fault at bt f g e = cc

module _ (module_path : List ℕ) (folders : List Folder) (ordered : AreOrdered folders) (gives : ℕ → Reading → Type 0) (one : (n : ℕ) (a b : Reading) → gives n a → gives n b → a ≡ b) where
  module _ (n : ℕ) where
    IsRefused : UnitError → Type 0
    IsRefused e = IsRefusedFor module_path folders gives n e

    mixed : (path : List ℕ) → IsRefused (error.MixedNames path) → (sources : List SourceFile) × gives n (reading.Files sources) × ((folder_of folders n).path ≡ path) × (AreOfOnePackage sources → ⊥)
    unfolding IsRefused
    mixed path r = (r.0, r.1, r.2.0, r.2.1)

    internal : (at : FileAt) (place : ℕ) → IsRefused (error.InternalUse at place)
        → (sources : List SourceFile) × gives n (reading.Files sources) × ((folder_of folders n).path ≡ at.path) × AreOfOnePackage sources
        × (files : List PackageFile) × ArePackageFiles module_path folders (is_std folders n) sources files × IsFirstInternal (folder_of folders n).path (is_std folders n) files at.file place
    unfolding IsRefused
    internal at place r = (r.0, r.1, r.2.0, r.2.1, r.2.2, r.2.3, r.2.4)

    same_read : (ss ts : List SourceFile) → gives n (reading.Files ss) → gives n (reading.Files ts) → ss ≡ ts
    same_read ss ts g h = same_sources ss ts (one n (reading.Files ss) (reading.Files ts) g h)

    never_read : (ss : List SourceFile) (at : List ℕ) (f : FileFault) → gives n (reading.Files ss) → gives n (reading.Refused at f) → ⊥
    never_read ss at f g h = files_or_refused ss at f (one n (reading.Files ss) (reading.Refused at f) g h)

    -- what is accepted isn't refused
    not_both : (e : UnitError) → e ≢ error.NoMemory → IsRefused e → (sources : List SourceFile) (files : List PackageFile) → gives n (reading.Files sources) → AreAccepted module_path folders n sources files → ⊥
    unfolding IsRefused
    not_both (error.File at f) s r sources files g a = never_read sources at.file f g r.1
    not_both (error.MixedNames path) s r sources files g a =
        let k = mixed path r in
        k.3 (subst AreOfOnePackage (same_read sources k.0 g k.1) a.one)
    not_both (error.InternalUse at place) s r sources files g a =
        let k = internal at place r in
        let b : AreAccepted module_path folders n k.0 files = subst (λ (w : List SourceFile). AreAccepted module_path folders n w files) (same_read sources k.0 g k.1) a in
        let same : files ≡ k.4 = one_files module_path folders ordered (is_std folders n) k.0 files k.4 b.given k.5 in
        free_or_internal (folder_of folders n).path (is_std folders n) k.4 at.file place (subst (AreFree (folder_of folders n).path (is_std folders n)) same b.free) k.6
    not_both (error.Cycle path) s r sources files g a = absurd r
    not_both error.NoMemory s r sources files g a = absurd (s refl)

    -- a folder is refused for one cause
    one_cause : (d e : UnitError) → d ≢ error.NoMemory → e ≢ error.NoMemory → IsRefused d → IsRefused e → d ≡ e
    unfolding IsRefused
    one_cause (error.File at f) (error.File bt g) s t a b =
        let path : at.path ≡ bt.path = sym a.0 ∙ b.0 in
        let said : reading.Refused at.file f ≡ reading.Refused bt.file g = one n (reading.Refused at.file f) (reading.Refused bt.file g) a.1 b.1 in
        let file : at.file ≡ bt.file = same_path at.file bt.file f g said in
        let fault : f ≡ g = same_fault at.file bt.file f g said in
        (λ i. error.File (record { path = path i; file = file i }) (fault i))
    one_cause (error.File at f) (error.MixedNames path) s t a b = let k = mixed path b in absurd (never_read k.0 at.file f k.1 a.1)
    one_cause (error.File at f) (error.InternalUse bt place) s t a b = let k = internal bt place b in absurd (never_read k.0 at.file f k.1 a.1)
    one_cause (error.MixedNames path) (error.File bt g) s t a b = let k = mixed path a in absurd (never_read k.0 bt.file g k.1 b.1)
    one_cause (error.MixedNames path) (error.MixedNames other) s t a b = let k = mixed path a in let l = mixed other b in ap error.MixedNames (sym k.2 ∙ l.2)
    one_cause (error.MixedNames path) (error.InternalUse bt place) s t a b =
        let k = mixed path a in
        let l = internal bt place b in
        absurd (k.3 (subst AreOfOnePackage (same_read l.0 k.0 l.1 k.1) l.3))
    one_cause (error.InternalUse at place) (error.File bt g) s t a b = let k = internal at place a in absurd (never_read k.0 bt.file g k.1 b.1)
    one_cause (error.InternalUse at place) (error.MixedNames path) s t a b =
        let k = internal at place a in
        let l = mixed path b in
        absurd (l.3 (subst AreOfOnePackage (same_read k.0 l.0 k.1 l.1) k.3))
    one_cause (error.InternalUse at place) (error.InternalUse bt other) s t a b =
        let k = internal at place a in
        let l = internal bt other b in
        let path : at.path ≡ bt.path = sym k.2 ∙ l.2 in
        let read : k.0 ≡ l.0 = same_read k.0 l.0 k.1 l.1 in
        let files : k.4 ≡ l.4 = one_files module_path folders ordered (is_std folders n) l.0 k.4 l.4 (subst (λ (w : List SourceFile). ArePackageFiles module_path folders (is_std folders n) w k.4) read k.5) l.5 in
        let found = one_place (folder_of folders n).path (is_std folders n) l.4 at.file bt.file place other (subst (λ (w : List PackageFile). IsFirstInternal (folder_of folders n).path (is_std folders n) w at.file place) files k.6) l.6 in
        (λ i. error.InternalUse (record { path = path i; file = found.0 i }) (found.1 i))
    one_cause (error.Cycle path) e s t a b = absurd a
    one_cause d (error.Cycle path) s t a b = absurd b
    one_cause error.NoMemory e s t a b = absurd (s refl)
    one_cause d error.NoMemory s t a b = absurd (t refl)

  -- ---- the walk ends where a folder is refused, and where all are read

  pub stuck_refused : (slots : ReadFolders) (n : ℕ) (e : UnitError) → e ≢ error.NoMemory → IsNextFolder module_path folders slots n → IsRefusedFor module_path folders gives n e → IsStuck module_path folders ordered gives one slots
  unfolding IsRefused
  stuck_refused slots n e s i r m files step =
      let same : m ≡ n = one_next module_path folders ordered gives one slots m n step.is_next i in
      not_both n e s r step.sources files
      (subst (λ (k : ℕ). gives k (reading.Files step.sources)) same step.read)
      (subst (λ (k : ℕ). AreAccepted module_path folders k step.sources files) same step.accepted)

  pub stuck_read : (slots : ReadFolders) → AllAreRead module_path folders gives slots → IsStuck module_path folders ordered gives one slots
  stuck_read slots all n files step = all.all n step.is_next.wanted step.is_next.fresh

  -- ---- refusals of folders

  pub one_first : (d e : UnitError) → d ≢ error.NoMemory → e ≢ error.NoMemory → IsFirstRefusal module_path folders gives d → IsFirstRefusal module_path folders gives e → d ≡ e
  unfolding IsRefused
  one_first d e s t a b =
      let slots : a.0 ≡ b.0 = one_end module_path folders ordered gives one a.0 b.0 a.1 b.1 (stuck_refused a.0 a.2 d s a.3 a.4) (stuck_refused b.0 b.2 e t b.3 b.4) in
      let number : a.2 ≡ b.2 = one_next module_path folders ordered gives one b.0 a.2 b.2 (subst (λ (w : ReadFolders). IsNextFolder module_path folders w a.2) slots a.3) b.3 in
      one_cause b.2 d e s t (subst (λ (k : ℕ). IsRefusedFor module_path folders gives k d) number a.4) b.4

  pub first_or_all : (e : UnitError) (slots : ReadFolders) → e ≢ error.NoMemory → IsFirstRefusal module_path folders gives e → AllAreRead module_path folders gives slots → ⊥
  first_or_all e slots s a all =
      let same : a.0 ≡ slots = one_end module_path folders ordered gives one a.0 slots a.1 all.walked (stuck_refused a.0 a.2 e s a.3 a.4) (stuck_read slots all) in
      let i : IsNextFolder module_path folders slots a.2 = subst (λ (w : ReadFolders). IsNextFolder module_path folders w a.2) same a.3 in
      all.all a.2 i.wanted i.fresh

  pub one_slots : (a b : ReadFolders) → AllAreRead module_path folders gives a → AllAreRead module_path folders gives b → a ≡ b
  one_slots a b all every = one_end module_path folders ordered gives one a b all.walked every.walked (stuck_read a all) (stuck_read b every)

  -- ---- cycles

  leads_as : (slots : ReadFolders) (graph other : List (List ℕ)) → AreNeeds module_path folders slots graph → AreNeeds module_path folders slots other → {m n : ℕ} → LeadsTo graph m n → LeadsTo other m n
  leads_as slots graph other a b (directly {m = m} {n = n} h) = directly (b.complete m n (a.sound m n h))
  leads_as slots graph other a b (through {k = k} {m = m} h l) = through (b.complete k m (a.sound k m h)) (leads_as slots graph other a b l)

  pub one_cycle : (slots : ReadFolders) (path other : List ℕ) → IsCycle module_path folders slots path → IsCycle module_path folders slots other → path ≡ other
  one_cycle slots path other a b =
      let below = a.3.least b.2 (leads_as slots b.0 a.0 b.1 a.1 b.3.on) in
      let above = b.3.least a.2 (leads_as slots a.0 b.0 a.1 b.1 a.3.on) in
      let same : a.2 ≡ b.2 = omega (arith, below, above) in
      sym a.4 ∙ ap (λ (k : ℕ). (folder_of folders k).path) same ∙ b.4
