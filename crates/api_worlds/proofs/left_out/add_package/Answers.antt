use Rattle.std.proofs.Common.{◌≡◌, ◌==◌, ◌∙◌, ℕ, List, ap, length, subst, sym}
use Rattle.std.specs.Prelude.{OnOk}
use Rattle.api_worlds.specs.declared.left_out.PackageLines.{PackageLines}
use Rattle.api_worlds.proofs.KeptPackages.{some_lines}
use Rattle.api_worlds.proofs.left_out.add_package.Goals as goal

pub returns : goal.returns
returns c =
    subst (λ (w : List PackageLines). OnOk c.put.result (c.put.new.packages.items ≡ w))
    (some_lines c.args.path c.args.lines c.args.packages.now.items (ap (λ (ls : List (List ℕ)). length ls == 0) (sym c.items.ensures) ∙ sym c.is_empty.ensures ∙ c.if-is_empty.false)) c.put.ensures
