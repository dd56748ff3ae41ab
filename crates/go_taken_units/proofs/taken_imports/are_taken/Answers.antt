use Rattle.std.proofs.Common.{List, sym, ap, ◌∙◌}
use Rattle.std.specs.List.{list_all}
use Rattle.go_sources.specs.UnitSources.{file_of}
use Rattle.go_taken_packages.specs.ToldPackages.{imports_are_among}
use Rattle.go_units.specs.declared.unit.UnitFile.{UnitFile}
use Rattle.go_taken_units.proofs.ListedImports.{imports_among}
use Rattle.go_taken_units.proofs.taken_imports.are_taken.Goals as goal

pub returns : goal.returns
returns c = λ e.
    imports_among c.args.paths.now.keys c.args.«unit».now
    (sym (c.are_files_taken.ensures ∙ ap (λ (fs : List UnitFile). list_all (λ f. imports_are_among c.args.paths.now.keys (file_of f)) fs) c.items.ensures) ∙ e)
