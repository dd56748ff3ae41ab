use Rattle.std.proofs.Common.{List, IfOk, subst, ap, ◌≡◌, ◌∙◌}
use Rattle.api_refusals.specs.SkippedTexts.{skipped_texts}
use Rattle.api_worlds.proofs.KeptPackages.{kept_done, kept_next}
use Rattle.api_worlds.specs.LeftOut.{all_lines, with_lines}
use Rattle.api_worlds.specs.declared.left_out.PackageLines.{PackageLines}
use Rattle.go_exposed.specs.SkippedValues.{all_skipped}
use Rattle.go_exposed.specs.declared.skipped.Skipped.{Skipped}
use Rattle.api_worlds.proofs.left_out.left_out.Goals as goal

pub loop-unit-preserved : goal.loop-unit-preserved
loop-unit-preserved c =
    let lines = ap (λ (xs : List Skipped). with_lines c.unit-item.result.«unit».path (skipped_texts c.args.tree.now c.args.std_tree.now c.unit-item.result.«unit» (all_skipped xs)) c.loop-unit.packages.items) c.items.ensures in
    kept_next c.args.tree.now c.args.std_tree.now c.args.kept.now c.loop-unit.unit-index c.unit-item.result c.loop-unit.packages.items c.add_unit.new.packages.items c.loop-unit-test.true c.unit-item.is (c.in_ok-add_unit.ensures ∙ lines)
    c.loop-unit.invariant

pub returns : goal.returns
returns c =
    subst (λ (w : List PackageLines). IfOk c.joined.result (λ lines. lines ≡ all_lines w)) (kept_done c.args.tree.now c.args.std_tree.now c.args.kept.now c.loop-unit.unit-index c.loop-unit.packages.items c.loop-unit-test.false c.loop-unit.invariant)
    c.joined.ensures
