use Rattle.std.proofs.Common.{Some}
use Rattle.go_imports.proofs.Files.{first_on, first_here}
use Rattle.go_imports.proofs.used_imports.first_internal.Goals as goal

pub returns-then-is_internal_import : goal.returns-then-is_internal_import
returns-then-is_internal_import c =
    c.loop-import.invariant (Some c.import-item.result.place)
    (first_here c.args.importer.now c.args.from_std c.args.uses.now c.loop-import.import-index c.import-item.result c.loop-import-test.true c.import-item.is (c.is_internal_import.ensures.0 c.if-is_internal_import.true))

pub loop-import-preserved : goal.loop-import-preserved
loop-import-preserved c = λ r k.
    c.loop-import.invariant r
    (first_on c.args.importer.now c.args.from_std c.args.uses.now c.loop-import.import-index c.import-item.result r c.loop-import-test.true c.import-item.is (c.is_internal_import.ensures.1 c.if-is_internal_import.false) k)
