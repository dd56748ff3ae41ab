use Rattle.std.proofs.Common.{List, sym, ap, ◌∙◌}
use Rattle.std.proofs.lemmas.List.Folds.{list_all-map}
use Rattle.std.specs.List.{list_all}
use Rattle.go_sources.specs.UnitSources.{import_of}
use Rattle.go_taken_packages.specs.ToldPackages.{is_missing_or_among}
use Rattle.go_units.specs.declared.unit.UsedImport.{UsedImport}
use Rattle.go_taken_units.proofs.taken_imports.is_file_taken.Goals as goal

pub returns : goal.returns
returns c =
    c.are_imports_taken.ensures ∙ ap (λ (is : List UsedImport). list_all (λ i. is_missing_or_among c.args.paths.now.keys (import_of i)) is) c.items.ensures
    ∙ sym (list_all-map (is_missing_or_among c.args.paths.now.keys) import_of c.args.file.now.imports)
