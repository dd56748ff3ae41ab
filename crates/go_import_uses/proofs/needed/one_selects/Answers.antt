use Rattle.std.proofs.Common.{map, arith}
use Rattle.go_import_uses.proofs.OneOf.{all_left, here, left_more, is_not, none_left, is_so}
use Rattle.go_import_uses.specs.Selecting.{Selects}
use Rattle.go_references.specs.declared.references.Reference.{Reference}
use Rattle.go_sources.specs.UnitSources.{import_of}
use Rattle.go_import_uses.proofs.needed.one_selects.Goals as goal

pub loop-reference-init : goal.loop-reference-init
loop-reference-init c = all_left (λ (r : Reference). Selects (map import_of c.args.imports.now) r (import_of c.args.«import».now)) c.args.references.now

pub returns-then-selects : goal.returns-then-selects
returns-then-selects c =
    let x = c.reference-item.result in
    let P : Reference → Type 0 = λ r. Selects (map import_of c.args.imports.now) r (import_of c.args.«import».now) in
    record { reference = x; has = here P c.args.references.now c.loop-reference.reference-index x c.loop-reference-test.true c.reference-item.is; selects = is_so (P x) c.selects.result c.if-selects.true c.selects.ensures }

pub loop-reference-preserved : goal.loop-reference-preserved
loop-reference-preserved c =
    let x = c.reference-item.result in
    let P : Reference → Type 0 = λ r. Selects (map import_of c.args.imports.now) r (import_of c.args.«import».now) in
    left_more P c.args.references.now c.loop-reference.reference-index x c.loop-reference-test.true c.reference-item.is (is_not (P x) c.selects.result c.if-selects.false c.selects.ensures) c.loop-reference.invariant

pub returns : goal.returns
returns c =
    let P : Reference → Type 0 = λ r. Selects (map import_of c.args.imports.now) r (import_of c.args.«import».now) in
    λ k. none_left P c.args.references.now c.loop-reference.reference-index (let h = c.loop-reference-test.false in omega (arith, h)) c.loop-reference.invariant k.reference k.has k.selects
