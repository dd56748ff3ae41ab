-- What a module reads alone it reads with a client as well, and the units of both are written the same.
use Rattle.std.proofs.Common.{◌≡◌, ◌<◌, ℕ, Bool, Some, None, List, [], ◌∷◌, map, length, set, refl, sym, ap, ◌∙◌, subst, inl, inr, arith}
use Rattle.go_base.specs.Lists.{Has}
use Rattle.go_imports.proofs.Members.{same_or}
use Rattle.go_imports.specs.Gives.{Gives}
use Rattle.go_imports.specs.declared.used_imports.NamedImport.{NamedImport}
use Rattle.go_model.specs.declared.files.platform.Platform.{Platform}
use Rattle.go_model.specs.declared.files.tree.Tree.{Tree}
use Rattle.go_model.specs.declared.files.tree.TreeFile.{TreeFile}
use Rattle.go_reading.proofs.ListFacts.{has_mapped, mapped_from}
use Rattle.go_reading.specs.FolderReadings.{IsReading}
use Rattle.go_reading.specs.TreeFolders.{ReadsFolder}
use Rattle.go_sources.specs.UnitSources.{file_of, source_of}
use Rattle.go_std_worlds.specs.TwoModules.{sources_of}
use Rattle.go_typings.proofs.Cells.{either, none_some}
use Rattle.go_typings.specs.Sources.{PackageSource}
use Rattle.api_kept_clients.specs.go_unit_worlds.SharedSources.{HaveSame}
use Rattle.go_units.proofs.FolderLookups.{at_once}
use Rattle.go_units.proofs.Giving.{gives_as_many}
use Rattle.go_units.proofs.ReachedFolders.{filled_here, filled_other}
use Rattle.go_units.proofs.WalkedFiles.{holds_some, some_same, walked_rows}
use Rattle.go_units.specs.Folders.{IsFound}
use Rattle.go_units.specs.Reached.{ReadFolders, Walked, is_std, next, slot, start}
use Rattle.go_units.specs.UnitFacts.{UnitFilesAreNamed}
use Rattle.go_units.specs.UnitsOfModules.{GivesUnitFile, HoldsPackage, IsUnitOf, packages_in}
use Rattle.go_units.specs.declared.folder.Folder.{Folder}
use Rattle.go_units.specs.declared.package_uses.PackageFile.{PackageFile}
use Rattle.go_units.specs.declared.reader.Reading.{Reading}
use Rattle.go_units.specs.declared.unit.«Unit».{«Unit» as PackageUnit}
use Rattle.go_units.specs.declared.unit.UnitFile.{UnitFile}
use Rattle.api_preservation.proofs.FoundAlike.{AllAlike, files_alike}
use Rattle.api_preservation.proofs.Runs.{IsRead, Run, filled, held_there, holds_alike, read_once}
use Rattle.api_preservation.proofs.UnitRuns.{UnitRun, unit_within}

-- files of which there is one tell their package's name
pub named_by : (fs gs : List UnitFile) (a b : List ℕ) → 0 < length fs → fs ≡ gs → UnitFilesAreNamed fs a → UnitFilesAreNamed gs b → a ≡ b
named_by [] gs a b some e h k = absurd (omega (arith, some))
named_by (f ∷ fs) gs a b some e h k = sym (h f (inl refl)) ∙ k f (subst (λ (xs : List UnitFile). Has xs f) e (inl refl))

module _ (p : Platform) (barred : List (List ℕ)) (tree std_tree : Tree) (folders : List Folder) (one : (files : List TreeFile) (a b : Reading) → IsReading p files a → IsReading p files b → a ≡ b) where
  module _ (a b : Run p barred tree std_tree folders) where
    pub same_files : (n : ℕ) (files others : List PackageFile) → slot a.slots n ≡ Some files → slot b.slots n ≡ Some others → files ≡ others
    same_files n files others e f = read_once p barred tree std_tree folders one a.are n files others (a.read n files e) (b.read n others f)

    -- what is found in the one by a package that both read is found in the other
    pub found_too : (n : ℕ) (files : List PackageFile) → slot a.slots n ≡ Some files → (f : PackageFile) (u : NamedImport) → Has files f → Has f.uses u
        → (m : ℕ) → IsFound tree.module folders (packages_in b.slots) (is_std folders n) u.path m → IsFound tree.module folders (packages_in a.slots) (is_std folders n) u.path m
    found_too n files e f u h i m k =
        let here : (fs : List PackageFile) × (slot a.slots m ≡ Some fs) = elim (either (is_std folders m)) [
          | inl std ↦ filled a.slots m (a.asked m (n, files, e, (f, h, (u, i, record { names = k.names; side = std; permitted = k.permitted }))))
          | inr own ↦ filled a.slots m (a.own m k.names.within own)
        ] in
        let there = held_there b.slots m k.holds in
        let same : here.0 ≡ there.0 = same_files m here.0 there.0 here.1 there.1 in
        record {
          names = k.names;
          permitted = k.permitted;
          known = k.known;
          holds = holds_alike a.slots b.slots m m here.0 there.0 here.1 there.1 same k.holds;
        }

  module _ (a b : Run p barred tree std_tree folders) where
    pub all_alike : (n : ℕ) (files : List PackageFile) → slot a.slots n ≡ Some files → slot b.slots n ≡ Some files → AllAlike tree.module tree.module folders folders (packages_in a.slots) (packages_in b.slots) (is_std folders n) files
    all_alike n files e f g u h i = record {
      forth = λ m k. (m, found_too b a n files f g u h i m k);
      back = λ m k. (m, found_too a b n files e g u h i m k);
    }

    -- a package of both has one unit as it is written
    pub unit_once : (u v : PackageUnit) (n : ℕ) → IsUnitOf tree.module folders a.slots n u → IsUnitOf tree.module folders b.slots n v → source_of u ≡ source_of v
    unit_once u v n k l =
        let pa = packages_in a.slots in
        let pb = packages_in b.slots in
        let s = is_std folders n in
        let members : k.members ≡ l.members = same_files a b n k.members l.members k.held l.held in
        let here : Gives (GivesUnitFile tree.module folders pa s) l.members u.files = subst (λ (fs : List PackageFile). Gives (GivesUnitFile tree.module folders pa s) fs u.files) members k.given in
        let files : u.files ≡ v.files = files_alike tree.module tree.module folders folders pa pb s l.members u.files v.files (all_alike n l.members (k.held ∙ ap Some members) l.held) here l.given in
        let path : u.path ≡ v.path = k.path ∙ sym l.path in
        let name : u.name ≡ v.name = named_by u.files v.files u.name v.name k.some files u.named v.named in
        let side : u.from_std ≡ v.from_std = k.side ∙ sym l.side in
        λ i. record { path = path i; name = name i; from_std = side i; files = map file_of (files i) }

  -- ---- what one of them reads the other reads too

  module _ (b : Run p barred tree std_tree folders) where
    abbrev pub ReadToo : ReadFolders → Type 0
    ReadToo slots = (n : ℕ) (files : List PackageFile) → slot slots n ≡ Some files → slot b.slots n ≡ Some files

    read_too : (n : ℕ) (files : List PackageFile) → IsRead p barred tree std_tree folders n files → (others : List PackageFile) → slot b.slots n ≡ Some others → slot b.slots n ≡ Some files
    read_too n files r others e = e ∙ ap Some (read_once p barred tree std_tree folders one b.are n others files (b.read n others e) r)

    pub all_too : {slots : ReadFolders} → Walked tree.module folders (ReadsFolder p barred tree std_tree folders) slots → ReadToo slots
    all_too (start {slots = slots} rows fresh) n files e = none_some (slot slots n) files (fresh n) e
    all_too (next {slots = slots} {n = m} {sources = sources} {files = fs} w is g s) n files e = elim (same_or n m) [
      | inl same ↦
          let within : m < length slots = let rows = walked_rows tree.module folders (ReadsFolder p barred tree std_tree folders) w in let i = is.wanted.within in omega (arith, rows, i) in
          let files_same : fs ≡ files = some_same fs files (sym (filled_here slots m fs within) ∙ ap (slot (set slots m (Some fs))) (sym same) ∙ e) in
          let there : (gs : List PackageFile) × (slot b.slots m ≡ Some gs) = elim is.wanted.why [
            | inl own ↦ filled b.slots m (b.own m is.wanted.within own)
            | inr asked ↦ filled b.slots m (b.asked m (asked.0, asked.1, all_too w asked.0 asked.1 asked.2, asked.3))
          ] in
          ap (slot b.slots) same ∙ read_too m fs (sources, g, s) there.0 there.1 ∙ ap Some files_same
      | inr other ↦ all_too w n files (sym (filled_other slots m fs n other) ∙ e)
    ]

  -- ---- the units of both

  module _ (a b : UnitRun p barred tree std_tree folders) where
    pub have_same : HaveSame (sources_of a.units) (sources_of b.units)
    have_same u v h l path =
        let x = mapped_from source_of a.units.packages u h in
        let y = mapped_from source_of b.units.packages v l in
        let k = a.all.sound x.0 x.1 in
        let j = b.all.sound y.0 y.1 in
        let paths : x.0.path ≡ y.0.path = ap (λ (z : PackageSource). z.path) x.2 ∙ path ∙ sym (ap (λ (z : PackageSource). z.path) y.2) in
        let number : k.0 ≡ j.0 = number_at k.0 j.0 x.0 y.0 k.1 j.1 paths in
        sym x.2 ∙ unit_once a.run b.run x.0 y.0 j.0 (subst (λ (n : ℕ). IsUnitOf tree.module folders a.run.slots n x.0) number k.1) j.1 ∙ y.2
      where
        number_at : (n m : ℕ) (u v : PackageUnit) → IsUnitOf tree.module folders a.run.slots n u → IsUnitOf tree.module folders b.run.slots m v → u.path ≡ v.path → n ≡ m
        number_at n m u v k l path = at_once folders v.path m n a.run.are.ordered (unit_within p barred tree std_tree folders b v m l, sym l.path) (unit_within p barred tree std_tree folders a u n k, sym k.path ∙ path)

    never_none : (s : Bool) (f : PackageFile) → GivesUnitFile tree.module folders (packages_in a.run.slots) s f None → ⊥
    never_none s f k = k

    pub unit_holds : (u : PackageUnit) (n : ℕ) (k : IsUnitOf tree.module folders a.run.slots n u) → slot b.run.slots n ≡ Some k.members → HoldsPackage b.run.slots n
    unit_holds u n k e =
        let many : length u.files ≡ length k.members = gives_as_many (GivesUnitFile tree.module folders (packages_in a.run.slots) (is_std folders n)) (never_none (is_std folders n)) k.given in
        let some = k.some in
        holds_some b.run.slots n k.members e (omega (arith, many, some))

    -- where the other reads all that the one reads, each of its units is one of the other
    pub each_among : ReadToo b.run a.run.slots → (s : PackageSource) → Has (sources_of a.units) s → Has (sources_of b.units) s
    each_among too s h =
        let x = mapped_from source_of a.units.packages s h in
        let k = a.all.sound x.0 x.1 in
        let v = b.all.complete k.0 (unit_holds x.0 k.0 k.1 (too k.0 k.1.members k.1.held)) in
        subst (Has (sources_of b.units)) (sym (unit_once a.run b.run x.0 v.0 k.0 k.1 v.2) ∙ x.2) (has_mapped source_of b.units.packages v.0 v.1)
