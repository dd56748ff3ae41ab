use Rattle.std.proofs.Common.{List, IfOk, subst, ap, ◌≡◌, ◌∙◌, arith}
use Rattle.api_refusals.specs.SkippedTexts.{skipped_texts}
use Rattle.api_worlds.proofs.ListedPackages.{lines_done, lines_next}
use Rattle.api_worlds.specs.LeftOut.{all_lines, with_lines}
use Rattle.api_worlds.specs.declared.left_out.PackageLines.{PackageLines}
use Rattle.go_exposed.specs.SkippedValues.{all_skipped}
use Rattle.go_exposed.specs.declared.skipped.Skipped.{Skipped}
use Rattle.api_worlds.proofs.left_out.left_out_of.Goals as goal

pub loop-at-preserved : goal.loop-at-preserved
loop-at-preserved c =
    let lines = ap (λ (xs : List Skipped). with_lines c.index-units-at.result.path (skipped_texts c.args.tree.now c.args.std_tree.now c.index-units-at.result (all_skipped xs)) c.loop-at.packages.items) c.items.ensures in
    lines_next c.args.tree.now c.args.std_tree.now c.args.units.now c.args.skipped.now c.loop-at.at c.index-units-at.result c.index-skipped-at.result c.loop-at.packages.items c.add_unit.new.packages.items (omega (arith, c.loop-at-test.true, c.min-many.ensures)) (omega (arith, c.loop-at-test.true, c.min-many.ensures))
    c.index-units-at.is c.index-skipped-at.is (c.in_ok-add_unit.ensures ∙ lines) c.loop-at.invariant

pub returns : goal.returns
returns c =
    subst (λ (w : List PackageLines). IfOk c.joined.result (λ lines. lines ≡ all_lines w)) (lines_done c.args.tree.now c.args.std_tree.now c.args.units.now c.args.skipped.now c.loop-at.at c.loop-at.packages.items (omega (arith, c.loop-at-test.false, c.min-many.ensures)) c.loop-at.invariant)
    c.joined.ensures
