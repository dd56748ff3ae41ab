-- A folder is refused for one cause, and what is accepted isn't refused.
use Rattle.std.proofs.Common.{◌≡◌, ◌≢◌, ℕ, List, refl, sym, ap, ◌∙◌, subst}
use Rattle.go_imports.specs.PackageFiles.{AreOfOnePackage}
use Rattle.go_imports.specs.declared.package_files.SourceFile.{SourceFile}
use Rattle.go_unit_laws.proofs.OneFiles.{free_or_internal, one_files, one_place}
use Rattle.go_unit_laws.proofs.OneWalk.{same_sources}
use Rattle.go_units.specs.Folders.{AreOrdered, folder_of}
use Rattle.go_units.specs.PackageUses.{AreFree, ArePackageFiles, IsFirstInternal}
use Rattle.go_units.specs.Reached.{AreAccepted, IsRefusedFor, is_std}
use Rattle.go_units.specs.declared.folder.Folder.{Folder}
use Rattle.go_units.specs.declared.package_uses.PackageFile.{PackageFile}
use Rattle.go_units.specs.declared.reader.FileFault.{FileFault}
use Rattle.go_units.specs.declared.reader.Reading.{Reading}
use Rattle.go_units.specs.declared.reader.Reading.TheVariants as reading
use Rattle.go_units.specs.declared.unit_error.FileAt.{FileAt}
use Rattle.go_units.specs.declared.unit_error.UnitError.{UnitError}
use Rattle.go_units.specs.declared.unit_error.UnitError.TheVariants as error

files_or_refused : (ss : List SourceFile) (at : List ℕ) (f : FileFault) → reading.Files ss ≡ reading.Refused at f → ⊥
files_or_refused ss at f e = cc

same_path : (at bt : List ℕ) (f g : FileFault) → reading.Refused at f ≡ reading.Refused bt g → at ≡ bt
same_path at bt f g e = cc

same_fault : (at bt : List ℕ) (f g : FileFault) → reading.Refused at f ≡ reading.Refused bt g → f ≡ g
same_fault at bt f g e = cc

module _ (module_path : List ℕ) (folders : List Folder) (ordered : AreOrdered folders) (gives : ℕ → Reading → Type 0) (one : (n : ℕ) (a b : Reading) → gives n a → gives n b → a ≡ b) where
  module _ (n : ℕ) where
    abbrev IsRefused : UnitError → Type 0
    IsRefused e = IsRefusedFor module_path folders gives n e

    mixed : (path : List ℕ) → IsRefused (error.MixedNames path) → (sources : List SourceFile) × gives n (reading.Files sources) × ((folder_of folders n).path ≡ path) × (AreOfOnePackage sources → ⊥)
    mixed path r = (r.0, r.1, r.2.0, r.2.1)

    internal : (at : FileAt) (place : ℕ) → IsRefused (error.InternalUse at place)
        → (sources : List SourceFile) × gives n (reading.Files sources) × ((folder_of folders n).path ≡ at.path) × AreOfOnePackage sources
        × (files : List PackageFile) × ArePackageFiles module_path folders (is_std folders n) sources files × IsFirstInternal (folder_of folders n).path (is_std folders n) files at.file place
    internal at place r = (r.0, r.1, r.2.0, r.2.1, r.2.2, r.2.3, r.2.4)

    same_read : (ss ts : List SourceFile) → gives n (reading.Files ss) → gives n (reading.Files ts) → ss ≡ ts
    same_read ss ts g h = same_sources ss ts (one n (reading.Files ss) (reading.Files ts) g h)

    never_read : (ss : List SourceFile) (at : List ℕ) (f : FileFault) → gives n (reading.Files ss) → gives n (reading.Refused at f) → ⊥
    never_read ss at f g h = files_or_refused ss at f (one n (reading.Files ss) (reading.Refused at f) g h)

    -- what is accepted isn't refused
    pub not_both : (e : UnitError) → e ≢ error.NoMemory → IsRefused e → (sources : List SourceFile) (files : List PackageFile) → gives n (reading.Files sources) → AreAccepted module_path folders n sources files → ⊥
    not_both (error.File at f) s r sources files g a = never_read sources at.file f g r.1
    not_both (error.MixedNames path) s r sources files g a =
        let k = mixed path r in
        k.3 (subst AreOfOnePackage (same_read sources k.0 g k.1) a.one)
    not_both (error.InternalUse at place) s r sources files g a =
        let k = internal at place r in
        let b : AreAccepted module_path folders n k.0 files = subst (λ (w : List SourceFile). AreAccepted module_path folders n w files) (same_read sources k.0 g k.1) a in
        let same : files ≡ k.4 = one_files module_path folders ordered (is_std folders n) k.0 files k.4 b.given k.5 in
        free_or_internal (folder_of folders n).path (is_std folders n) k.4 at.file place (subst (AreFree (folder_of folders n).path (is_std folders n)) same b.free) k.6
    not_both (error.Cycle path) s r sources files g a = absurd r
    not_both error.NoMemory s r sources files g a = absurd (s refl)

    -- a folder is refused for one cause
    pub one_cause : (d e : UnitError) → d ≢ error.NoMemory → e ≢ error.NoMemory → IsRefused d → IsRefused e → d ≡ e
    one_cause (error.File at f) (error.File bt g) s t a b =
        let path : at.path ≡ bt.path = sym a.0 ∙ b.0 in
        let said : reading.Refused at.file f ≡ reading.Refused bt.file g = one n (reading.Refused at.file f) (reading.Refused bt.file g) a.1 b.1 in
        let file : at.file ≡ bt.file = same_path at.file bt.file f g said in
        let fault : f ≡ g = same_fault at.file bt.file f g said in
        (λ i. error.File (record { path = path i; file = file i }) (fault i))
    one_cause (error.File at f) (error.MixedNames path) s t a b = let k = mixed path b in absurd (never_read k.0 at.file f k.1 a.1)
    one_cause (error.File at f) (error.InternalUse bt place) s t a b = let k = internal bt place b in absurd (never_read k.0 at.file f k.1 a.1)
    one_cause (error.MixedNames path) (error.File bt g) s t a b = let k = mixed path a in absurd (never_read k.0 bt.file g k.1 b.1)
    one_cause (error.MixedNames path) (error.MixedNames other) s t a b = let k = mixed path a in let l = mixed other b in ap error.MixedNames (sym k.2 ∙ l.2)
    one_cause (error.MixedNames path) (error.InternalUse bt place) s t a b =
        let k = mixed path a in
        let l = internal bt place b in
        absurd (k.3 (subst AreOfOnePackage (same_read l.0 k.0 l.1 k.1) l.3))
    one_cause (error.InternalUse at place) (error.File bt g) s t a b = let k = internal at place a in absurd (never_read k.0 bt.file g k.1 b.1)
    one_cause (error.InternalUse at place) (error.MixedNames path) s t a b =
        let k = internal at place a in
        let l = mixed path b in
        absurd (l.3 (subst AreOfOnePackage (same_read k.0 l.0 k.1 l.1) k.3))
    one_cause (error.InternalUse at place) (error.InternalUse bt other) s t a b =
        let k = internal at place a in
        let l = internal bt other b in
        let path : at.path ≡ bt.path = sym k.2 ∙ l.2 in
        let read : k.0 ≡ l.0 = same_read k.0 l.0 k.1 l.1 in
        let files : k.4 ≡ l.4 = one_files module_path folders ordered (is_std folders n) l.0 k.4 l.4 (subst (λ (w : List SourceFile). ArePackageFiles module_path folders (is_std folders n) w k.4) read k.5) l.5 in
        let found = one_place (folder_of folders n).path (is_std folders n) l.4 at.file bt.file place other (subst (λ (w : List PackageFile). IsFirstInternal (folder_of folders n).path (is_std folders n) w at.file place) files k.6) l.6 in
        (λ i. error.InternalUse (record { path = path i; file = found.0 i }) (found.1 i))
    one_cause (error.Cycle path) e s t a b = absurd a
    one_cause d (error.Cycle path) s t a b = absurd b
    one_cause error.NoMemory e s t a b = absurd (s refl)
    one_cause d error.NoMemory s t a b = absurd (t refl)
