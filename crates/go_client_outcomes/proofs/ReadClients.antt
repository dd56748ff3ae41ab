-- A client is read, or is refused.
use Rattle.std.proofs.Common.{◌≡◌, ℕ, false, List, map, Option, Some, None, Result, Ok, Err, refl, inl, inr}
use Rattle.go_client_units.specs.go_client_files.ClientFiles.{AreClientFiles, AreOfOne, GivesClientFile, GivesNamed, GivesParsed, ReadsClient, UsesAllIn, client_files, named_import}
use Rattle.go_client_units.specs.go_client_files.declared.parsed.ParsedFile.{ParsedFile}
use Rattle.go_client_units.specs.go_client_files.declared.uses.ClientFile.{ClientFile}
use Rattle.go_client_units.specs.go_client_files.declared.uses.ClientFiles.{ClientFiles}
use Rattle.go_client_outcomes.proofs.ParsedClients.{files_end}
use Rattle.go_existence.specs.Existence.{NotNone}
use Rattle.go_existence.proofs.DoubleNegation.{decided, so, sure, bind}
use Rattle.go_imports.specs.Gives.{Gives}
use Rattle.go_imports.specs.PackageFiles.{HasC}
use Rattle.go_imports.specs.declared.used_imports.Import.{Import}
use Rattle.go_imports.specs.declared.used_imports.NamedImport.{NamedImport}
use Rattle.go_model.specs.declared.files.platform.Platform.{Platform}
use Rattle.go_model.specs.declared.files.tree.Tree.{Tree}
use Rattle.go_model.specs.types.Terms.{client_path}
use Rattle.go_syntax.specs.declared.declaration.File.{File}
use Rattle.go_syntax.specs.declared.declaration.ImportSpec.{ImportSpec}
use Rattle.go_unit_outcomes.proofs.GivenLists.{given}
use Rattle.go_unit_outcomes.proofs.PackageUses.{free_or_internal}
use Rattle.go_units.specs.Folders.{IsImportedName, NamesFolder, folder_of}
use Rattle.go_units.specs.PackageUses.{GivesImport, text_of}
use Rattle.go_units.specs.declared.folder.Folder.{Folder}
use Rattle.go_units.specs.declared.unit_error.UnitError.{UnitError}
use Rattle.go_units.specs.declared.unit_error.UnitError.TheVariants as error

module _ (module_path : List ℕ) (folders : List Folder) where
  -- ---- the files

  said : (path : List ℕ) → NotNone ((o : Option (List ℕ)) × IsImportedName module_path folders false path o)
  said path = so (decided ((n : ℕ) × NamesFolder module_path folders false path n)) (λ d. elim d [
    | inl n ↦ ((folder_of folders n.0).package_name, inl (n.0, n.1, refl))
    | inr never ↦ (None, inr ((λ n k. never (n, k)), refl))
  ])

  import_of : (spec : ImportSpec) → NotNone ((r : Option Import) × GivesImport module_path folders false spec r)
  import_of spec = so (said spec.path) (λ o. (
    Some (record { written = text_of spec.name; package_name = o.0; path = spec.path; place = spec.place }),
    record { written = refl; package_name = o.1; path = refl; place = refl },
  ))

  uses_all : (outline : File) → NotNone ((uses : List NamedImport) × UsesAllIn module_path folders outline uses)
  uses_all outline =
      bind (given (GivesImport module_path folders false) outline.imports (λ spec h. import_of spec)) (λ all.
      so (given GivesNamed all.0 (λ i h. sure (Some (named_import i), refl))) (λ named. (named.0, record { all = all.0; given = all.1; named = named.1 })))

  file_of : (x : ParsedFile) → NotNone ((r : Option ClientFile) × GivesClientFile module_path folders x r)
  file_of x = bind (decided (HasC x.source.outline.imports)) (λ d. elim d [
    | inl c ↦ sure (None, c)
    | inr never ↦ so (uses_all x.source.outline) (λ u. (
      Some (record { file = record { path = x.source.path; outline = x.source.outline; uses = u.0 }; blocks = x.blocks }),
      (never, refl, refl, refl, u.1),
    ))
  ])

  files_of : (xs : List ParsedFile) → NotNone ((list : ClientFiles) × AreClientFiles module_path folders xs list)
  files_of xs = so (given (GivesClientFile module_path folders) xs (λ x h. file_of x)) (λ made. (
    record { files = map (λ (f : ClientFile). f.file) made.0; blocks = map (λ (f : ClientFile). f.blocks) made.0 },
    record { made = made.0; given = made.1; files = refl; blocks = refl },
  ))

  -- ---- what is answered

  module _ (p : Platform) (client : Tree) where
    abbrev Ends : Type 0
    Ends = (r : Result ClientFiles UnitError) × (r ≡ Err error.NoMemory → ⊥) × ReadsClient module_path folders p client r

    of_parsed : (xs : List ParsedFile) → Gives (GivesParsed p) (client_files client) xs → NotNone Ends
    of_parsed xs g = bind (decided (AreOfOne xs)) (λ d. elim d [
      | inr mixed ↦ sure (Err (error.MixedNames client_path), (λ e. cc), (refl, xs, g, mixed))
      | inl one ↦ bind (files_of xs) (λ list. so (free_or_internal client_path false list.0.files) (λ k. elim k [
        | inl free ↦ (Ok list.0, (λ e. cc), (xs, record { given = g; one = one }, list.1, free))
        | inr i ↦ (Err (error.InternalUse (record { path = client_path; file = i.0 }) i.1), (λ e. cc), (refl, xs, record { given = g; one = one }, list.0, list.1, i.2))
      ]))
    ])

    pub client_read : NotNone ((r : Result ClientFiles UnitError) × (r ≡ Err error.NoMemory → ⊥) × ReadsClient module_path folders p client r)
    client_read = bind (files_end p (client_files client)) (λ k. elim k [
      | inl xs ↦ of_parsed xs.0 xs.1
      | inr f ↦ sure (Err (error.File (record { path = client_path; file = f.0 }) f.1), (λ e. cc), (refl, f.2))
    ])
