use Rattle.std.proofs.Common.{map, arith}
use Rattle.go_import_uses.proofs.OneOf.{all_left, here, left_more, is_not, none_left, is_so}
use Rattle.go_import_uses.specs.Selecting.{SelectsNone}
use Rattle.go_sources.specs.UnitSources.{import_of}
use Rattle.go_import_uses.proofs.missing.one_selects_none.Goals as goal

pub loop-reference-init : goal.loop-reference-init
loop-reference-init c = all_left (SelectsNone (map import_of c.args.imports.now)) c.args.references.now

pub returns-then-selects_none : goal.returns-then-selects_none
returns-then-selects_none c =
    let x = c.reference-item.result in
    let P = SelectsNone (map import_of c.args.imports.now) in
    record { reference = x; has = here P c.args.references.now c.loop-reference.reference-index x c.loop-reference-test.true c.reference-item.is; selects = is_so (P x) c.selects_none.result c.if-selects_none.true c.selects_none.ensures }

pub loop-reference-preserved : goal.loop-reference-preserved
loop-reference-preserved c =
    let x = c.reference-item.result in
    let P = SelectsNone (map import_of c.args.imports.now) in
    left_more P c.args.references.now c.loop-reference.reference-index x c.loop-reference-test.true c.reference-item.is (is_not (P x) c.selects_none.result c.if-selects_none.false c.selects_none.ensures) c.loop-reference.invariant

pub returns : goal.returns
returns c = λ k. none_left (SelectsNone (map import_of c.args.imports.now)) c.args.references.now c.loop-reference.reference-index (let h = c.loop-reference-test.false in omega (arith, h)) c.loop-reference.invariant k.reference k.has k.selects
