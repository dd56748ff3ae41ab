use Rattle.std.proofs.Common.{◌+◌, drop, sym, ◌∙◌, arith}
use Rattle.std.specs.List.{list_any}
use Rattle.go_exposed.specs.ExposedDeclarations.{is_exported_name}
use Rattle.go_seen.proofs.OfferedFlags.{any_next, first_fails, first_passes, none_behind}
use Rattle.go_seen.proofs.offered.has_exported.Goals as goal

pub returns-then-is_exported_name : goal.returns-then-is_exported_name
returns-then-is_exported_name c =
    let xs = c.args.names.now in
    let i = c.loop-name.name-index in
    let x = c.name-item.result in
    sym (first_passes (is_exported_name x) (list_any is_exported_name (drop (i + 1) xs)) (list_any is_exported_name xs) (sym c.loop-name.invariant ∙ any_next is_exported_name xs i x c.loop-name-test.true c.name-item.is) (sym c.is_exported_name.ensures ∙ c.if-is_exported_name.true))

pub loop-name-preserved : goal.loop-name-preserved
loop-name-preserved c =
    let xs = c.args.names.now in
    let i = c.loop-name.name-index in
    let x = c.name-item.result in
    first_fails (is_exported_name x) (list_any is_exported_name (drop (i + 1) xs)) (list_any is_exported_name xs) (sym c.loop-name.invariant ∙ any_next is_exported_name xs i x c.loop-name-test.true c.name-item.is) (sym c.is_exported_name.ensures ∙ c.if-is_exported_name.false)

pub returns : goal.returns
returns c = sym (none_behind is_exported_name c.args.names.now c.loop-name.name-index (let h = c.loop-name-test.false in omega (arith, h))) ∙ c.loop-name.invariant
