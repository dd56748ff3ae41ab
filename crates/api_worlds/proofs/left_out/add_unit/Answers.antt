use Rattle.std.proofs.Common.{◌≡◌, ◌∙◌, List, subst}
use Rattle.std.specs.Prelude.{OnOk}
use Rattle.api_worlds.specs.LeftOut.{with_lines}
use Rattle.api_worlds.specs.declared.left_out.PackageLines.{PackageLines}
use Rattle.api_worlds.proofs.left_out.add_unit.Goals as goal

pub returns : goal.returns
returns c =
    subst (λ (w : List PackageLines). OnOk c.add_package.result (c.add_package.new.packages.items ≡ w)) (λ i. with_lines (c.in_ok-path.ensures i) (c.in_ok-lines.ensures i) c.args.packages.now.items) c.add_package.ensures
