-- Folders have units, or a first refusal.
use Rattle.std.proofs.Common.{◌≡◌, ◌⊎◌, ℕ, ◌<◌, ◌≤◌, List, length, Result, Ok, Err, refl, sym, inl, inr, arith}
use Rattle.go_existence.specs.Existence.{NotNone}
use Rattle.go_existence.proofs.DoubleNegation.{so, sure, bind}
use Rattle.go_imports.specs.declared.package_files.SourceFile.{SourceFile}
use Rattle.go_unit_outcomes.proofs.FolderReads.{folders_end}
use Rattle.go_unit_outcomes.proofs.MadeUnits.{units_made}
use Rattle.go_unit_outcomes.proofs.OrderedPackages.{needs_listed, order_or_cycle}
use Rattle.go_units.proofs.WalkedFiles.{readable, walked_rows}
use Rattle.go_units.specs.Folders.{AreOrdered, folder_of}
use Rattle.go_units.specs.Reached.{AllAreRead, IsFirstRefusal, ReadFolders}
use Rattle.go_units.specs.UnitsOfModules.{Answers}
use Rattle.go_units.specs.declared.folder.Folder.{Folder}
use Rattle.go_units.specs.declared.reader.Reading.{Reading}
use Rattle.go_units.specs.declared.reader.Reading.TheVariants as reading
use Rattle.go_units.specs.declared.unit_error.UnitError.{UnitError}
use Rattle.go_units.specs.declared.unit_error.UnitError.TheVariants as error
use Rattle.go_units.specs.declared.unit_list.Units.{Units}

module _ (module_path : List ℕ) (folders : List Folder) (ordered : AreOrdered folders) (few : length folders < 4294967296) (gives : ℕ → Reading → Type 0)
    (reads : (n : ℕ) → n < length folders → NotNone ((r : Reading) × gives n r)) (small : (n : ℕ) (sources : List SourceFile) → gives n (reading.Files sources) → length sources < 4294967296) where
  abbrev Says : Result Units UnitError → Type 0
  Says r = (r ≡ Err error.NoMemory → ⊥) × Answers module_path folders gives r

  refused : (e : UnitError) → (e ≡ error.NoMemory → ⊥) → IsFirstRefusal module_path folders gives e → Says (Err e)
  refused (error.File at fault) n h = ((λ k. cc), h)
  refused (error.MixedNames path) n h = ((λ k. cc), h)
  refused (error.InternalUse at place) n h = ((λ k. cc), h)
  refused (error.Cycle path) n h = absurd h.4
  refused error.NoMemory n h = absurd (n refl)

  all_read : (slots : ReadFolders) → AllAreRead module_path folders gives slots → NotNone ((r : Result Units UnitError) × Says r)
  all_read slots a =
      let rows = walked_rows module_path folders gives a.walked in
      bind (needs_listed module_path folders slots rows) (λ g. bind (order_or_cycle g.0 g.2) (λ k. elim k [
        | inr n ↦ sure (Err (error.Cycle (folder_of folders n.0).path), ((λ e. cc), (slots, a, (g.0, g.1, n.0, n.1, refl))))
        | inl order ↦ so (units_made module_path folders ordered slots rows (readable module_path folders gives small a.walked) g.0 g.1 order.0 order.1) (λ u. (
          Ok (record { packages = u.0; ordered = ∣ u.1.ordered ∣₁; few = (let l = u.1.few in omega (arith, l, few)) }),
          ((λ e. cc), (slots, a, u.1.all)),
        ))
      ]))

  pub units_end : NotNone ((r : Result Units UnitError) × (r ≡ Err error.NoMemory → ⊥) × Answers module_path folders gives r)
  units_end = bind (folders_end module_path folders gives reads) (λ k. elim k [
    | inl slots ↦ so (all_read slots.0 slots.1) (λ r. (r.0, r.1.0, r.1.1))
    | inr e ↦ sure (let r = refused e.0 e.1 e.2 in (Err e.0, r.0, r.1))
  ])
