-- Files that are written alike.
use Rattle.std.proofs.Common.{◌≡◌, List, map, sym, ap, ◌∙◌}
use Rattle.go_sources.specs.UnitSources.{file_of, import_of}
use Rattle.go_syntax.specs.declared.declaration.File.{File}
use Rattle.go_typings.specs.Sources.{SourceFile}
use Rattle.go_units.specs.declared.unit.UnitFile.{UnitFile}
use Rattle.go_units.specs.declared.unit.UsedImport.{UsedImport}

abbrev written : List UsedImport → File → SourceFile
written is o = record { imports = map import_of is; declarations = o.decls }

pub alike_files : (f g : UnitFile) → g.imports ≡ f.imports → f.outline ≡ g.outline → file_of g ≡ file_of f
alike_files f g same outlines = ap (λ (is : List UsedImport). written is g.outline) same ∙ ap (λ (o : File). written f.imports o) (sym outlines)
