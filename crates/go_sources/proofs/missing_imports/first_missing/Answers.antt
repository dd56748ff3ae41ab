use Rattle.std.proofs.Common.{Some, None, arith}
use Rattle.go_sources.proofs.Missing.{import_found, import_missing, imports_past}
use Rattle.go_sources.proofs.missing_imports.first_missing.Goals as goal

pub returns-then-not-import : goal.returns-then-not-import
returns-then-not-import c =
    c.loop-import.invariant (Some _) (import_missing c.args.file c.args.imports.now c.loop-import.import-index c.import-item.result c.loop-import-test.true c.import-item.is c.if-not-import.true)

pub loop-import-preserved : goal.loop-import-preserved
loop-import-preserved c = λ r k.
    c.loop-import.invariant r (import_found c.args.file c.args.imports.now c.loop-import.import-index c.import-item.result c.loop-import-test.true c.import-item.is r c.if-not-import.false k)

pub returns : goal.returns
returns c = c.loop-import.invariant None (imports_past c.args.file c.args.imports.now c.loop-import.import-index (let h = c.loop-import-test.false in omega (arith, h)))
