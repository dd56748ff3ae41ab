use Rattle.std.proofs.Common.{None, arith, sym, ◌∙◌}
use Rattle.go_graphs.proofs.Flagging.{apart}
use Rattle.go_import_uses.proofs.NeededImports.{import_spared, imports_past}
use Rattle.go_import_uses.proofs.needed.has_missing.Goals as goal

pub loop-import-preserved : goal.loop-import-preserved
loop-import-preserved c = λ u file r k.
    c.loop-import.invariant u file r
    (import_spared u file c.args.imports.now c.loop-import.import-index c.import-item.result c.loop-import-test.true c.import-item.is r (λ n. apart (sym c.if-not-import.false ∙ n.missing)) k)

pub returns : goal.returns
returns c = λ u file e. c.loop-import.invariant u file None (imports_past u file c.args.imports.now c.loop-import.import-index (let h = c.loop-import-test.false in omega (arith, h)))
