-- What is known of the files of packages that are read.
use Rattle.std.proofs.Common.{◌≡◌, ℕ, ◌<◌, Bool, Option, Some, None, List, length, set, sym, ap, ◌∙◌, subst, inl, inr, arith}
use Rattle.std.proofs.lemmas.List.{length-set}
use Rattle.go_imports.specs.declared.package_files.SourceFile.{SourceFile}
use Rattle.go_imports.proofs.Members.{same_or}
use Rattle.go_units.specs.PackageUses.{GivesFile}
use Rattle.go_client_walks.specs.ClientWalks.{Walked, start, next}
use Rattle.go_units.specs.Reached.{ReadFolders, slot, is_std, AreAccepted}
use Rattle.go_units.specs.inner.UnitMaking.{AreAlike}
use Rattle.go_units.specs.inner.UnitOrder.{AreReadable}
use Rattle.go_units.specs.declared.folder.Folder.{Folder}
use Rattle.go_units.specs.declared.package_uses.PackageFile.{PackageFile}
use Rattle.go_units.specs.declared.reader.Reading.{Reading}
use Rattle.go_units.specs.declared.reader.Reading.TheVariants as reading
use Rattle.go_units.proofs.Giving.{given_by, gives_fewer}
use Rattle.go_client_walks.proofs.ReachedFolders.{filled_here, filled_other}

some_same : {A : Type 0} (a b : A) → ◌≡◌ {A = Option A} (Some a) (Some b) → a ≡ b
some_same a b e = cc

none_some : {A : Type 0} (a : A) → ◌≡◌ {A = Option A} None (Some a) → ⊥
none_some a e = absurd (cc)

module _ (client : List PackageFile) (module_path : List ℕ) (folders : List Folder) (gives : ℕ → Reading → Type 0) where
  pub walked_rows : {slots : ReadFolders} → Walked client module_path folders gives slots → length slots ≡ length folders
  walked_rows (start rows fresh) = rows
  walked_rows (next {slots = slots} {n = n} {files = files} w is g s) = length-set slots n (Some files) ∙ walked_rows w

  abbrev IsRead : ℕ → List PackageFile → Type 0
  IsRead n files = (sources : List SourceFile) × gives n (reading.Files sources) × AreAccepted module_path folders n sources files

  -- the files of a package were read and are sound
  pub walked_read : {slots : ReadFolders} → Walked client module_path folders gives slots → (m : ℕ) (held : List PackageFile) → slot slots m ≡ Some held → IsRead m held
  walked_read (start {slots = slots} rows fresh) m held e = absurd (none_some held (sym (fresh m) ∙ e))
  walked_read (next {slots = slots} {n = n} {sources = sources} {files = files} w is g s) m held e = elim (same_or m n) [
    | inl same ↦
        let within : n < length slots = omega (arith, walked_rows w, is.wanted.within) in
        let files_same : files ≡ held = some_same files held (sym (filled_here slots n files within) ∙ ap (slot (set slots n (Some files))) (sym same) ∙ e) in
        subst (λ (q : ℕ × List PackageFile). IsRead q.0 q.1) (λ i. (sym same i, files_same i)) (sources, g, s)
    | inr other ↦ walked_read w m held (sym (filled_other slots n files m other) ∙ e)
  ]

  named_by : (from_std : Bool) (names : List (List ℕ)) (s : SourceFile) (f : PackageFile) → GivesFile module_path folders from_std names s (Some f) → f.outline.«package».text ≡ s.outline.«package».text
  named_by from_std names s f k = ap (λ o. o.«package».text) k.2

  alike : (n : ℕ) (files : List PackageFile) → IsRead n files → AreAlike files
  alike n files r f g h k =
      let given = r.2.given in
      let p = given_by (GivesFile module_path folders (is_std folders n) given.names) given.given f h in
      let q = given_by (GivesFile module_path folders (is_std folders n) given.names) given.given g k in
      named_by (is_std folders n) given.names p.0 f p.2 ∙ r.2.one p.0 q.0 p.1 q.1 ∙ sym (named_by (is_std folders n) given.names q.0 g q.2)

  -- packages that are read can make units
  pub readable : ((n : ℕ) (sources : List SourceFile) → gives n (reading.Files sources) → length sources < 4294967296) → {slots : ReadFolders} → Walked client module_path folders gives slots → AreReadable slots
  readable few w n files e =
      let r = walked_read w n files e in
      let many = few n r.0 r.1 in
      let fewer = gives_fewer (GivesFile module_path folders (is_std folders n) r.2.given.names) r.2.given.given in
      (omega (arith, many, fewer), alike n files r)
