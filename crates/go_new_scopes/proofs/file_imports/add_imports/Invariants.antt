use Rattle.std.proofs.Common.{◌≡◌, drop, map}
use Rattle.go_sources.specs.UnitSources.{import_of}
use Rattle.go_new_scopes.specs.inner.FileImports.{with_imports}
use Rattle.go_new_scopes.proofs.file_imports.add_imports.Given as goal

abbrev pub invariant-loop-import : goal.invariant-loop-import
invariant-loop-import l = record l.env { imports = with_imports l.file l.env.imports (map import_of (drop l.import-index l.imports)) } ≡ record l.fn.env { imports = with_imports l.file l.fn.env.imports (map import_of l.imports) }
