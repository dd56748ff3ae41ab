use Rattle.std.proofs.Common.{◌≡◌, drop, map}
use Rattle.go_sources.specs.UnitSources.{file_of}
use Rattle.go_new_scopes.specs.inner.FileImports.{with_files}
use Rattle.go_new_scopes.proofs.file_imports.add_files.Given as goal

abbrev pub invariant-loop-file : goal.invariant-loop-file
invariant-loop-file l = record {
  number : l.number ≡ l.file-index;
  added : record l.env { imports = with_files l.file-index l.env.imports (map file_of (drop l.file-index l.files)) } ≡ record l.fn.env { imports = with_files 0 l.fn.env.imports (map file_of l.files) };
}
