use Rattle.std.proofs.Common.{List, ℕ, subst}
use Rattle.go_imports.specs.Gives.{Gives}
use Rattle.go_units.specs.PackageUses.{ArePackageFiles, GivesFile}
use Rattle.go_units.specs.UndeclaredUses.{AreUndeclared}
use Rattle.go_units.proofs.Results.{if_ok_as}
use Rattle.go_units.proofs.UndeclaredUses.{are_files}
use Rattle.go_units.proofs.package_uses.package_files.Goals as goal

pub returns : goal.returns
returns c =
    if_ok_as (AreUndeclared c.in_ok-files.files) (ArePackageFiles c.args.module_path.now c.args.folders.now c.args.from_std c.args.sources)
    (are_files c.args.module_path.now c.args.folders.now c.args.from_std c.args.sources c.in_ok-files.files
    (subst (λ (names : List (List ℕ)). Gives (GivesFile c.args.module_path.now c.args.folders.now c.args.from_std names) c.args.sources c.in_ok-files.files) c.new-none.ensures.empty c.in_ok-files.ensures))
    c.undeclared_uses.result c.undeclared_uses.ensures
