use Rattle.std.proofs.Common.{Some, None, arith}
use Rattle.go_exposed.specs.Refusals.{IsNeeded}
use Rattle.go_import_uses.proofs.NeededImports.{import_needed, import_spared, imports_past}
use Rattle.go_import_uses.proofs.OneOf.{is_not, is_so}
use Rattle.go_sources.specs.UnitSources.{import_of, source_of}
use Rattle.go_import_uses.proofs.needed.needed_in.Goals as goal

pub returns-then-not-has_missing : goal.returns-then-not-has_missing
returns-then-not-has_missing c are = c.has_missing.ensures (source_of c.args.«unit».now) c.args.file c.if-not-has_missing.true

pub returns-then-found : goal.returns-then-found
returns-then-found c are =
    let u = source_of c.args.«unit».now in
    let i = c.import-item.result in
    c.loop-import.invariant are (Some _)
    (import_needed u c.args.file c.args.imports.now c.loop-import.import-index i c.loop-import-test.true c.import-item.is (is_so (IsNeeded u (c.args.file, import_of i)) c.in_ok-found.found c.if-found.true (c.in_ok-found.ensures are)))

pub loop-import-preserved : goal.loop-import-preserved
loop-import-preserved c = λ are r k.
    let u = source_of c.args.«unit».now in
    let i = c.import-item.result in
    c.loop-import.invariant are r
    (import_spared u c.args.file c.args.imports.now c.loop-import.import-index i c.loop-import-test.true c.import-item.is r (is_not (IsNeeded u (c.args.file, import_of i)) c.in_ok-found.found c.if-found.false (c.in_ok-found.ensures are)) k)

pub returns : goal.returns
returns c are = c.loop-import.invariant are None (imports_past (source_of c.args.«unit».now) c.args.file c.args.imports.now c.loop-import.import-index (let h = c.loop-import-test.false in omega (arith, h)))
