use Rattle.std.proofs.Common.{sym, arith}
use mathlib.Core.Bool.{true≢false}
use Rattle.go_references.specs.go_syntax.declared.declaration.ImportSpec.{ImportSpec}
use Rattle.go_imports.specs.PackageFiles.{IsC}
use Rattle.go_imports.proofs.Files.{each_more, each_whole, has_item}
use Rattle.go_imports.proofs.package_files.has_c.Goals as goal

pub returns-then-is_c : goal.returns-then-is_c
returns-then-is_c c = (
  λ e. (c.import-item.result, has_item c.args.imports.now c.loop-import.import-index c.import-item.result c.loop-import-test.true c.import-item.is, c.is_c.ensures.0 c.if-is_c.true),
  λ e. absurd (true≢false e),
)

pub loop-import-preserved : goal.loop-import-preserved
loop-import-preserved c =
    each_more (λ (i : ImportSpec). IsC i → ⊥) c.args.imports.now c.loop-import.import-index c.import-item.result c.loop-import-test.true c.import-item.is (c.is_c.ensures.1 c.if-is_c.false) c.loop-import.invariant

pub returns : goal.returns
returns c = (
  λ e. absurd (true≢false (sym e)),
  λ e p. each_whole (λ (i : ImportSpec). IsC i → ⊥) c.args.imports.now c.loop-import.import-index (omega arith) c.loop-import.invariant p.0 p.1 p.2,
)
