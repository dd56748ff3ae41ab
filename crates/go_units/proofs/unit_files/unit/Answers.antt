use Rattle.std.proofs.Common.{◌≡◌, ◌∙◌, List, length, sym, ap, subst, arith, rules}
use Rattle.go_base.specs.Lists.{Has}
use Rattle.go_imports.specs.go_syntax.declared.declaration.File.{File}
use Rattle.go_units.specs.UnitFacts.{needed_by}
use Rattle.go_units.specs.UnitsOfModules.{GivesUnitFile}
use Rattle.go_units.specs.declared.package_uses.PackageFile.{PackageFile}
use Rattle.go_units.proofs.Giving.{given_by, gives_as_many}
use Rattle.go_units.proofs.unit_files.unit.Goals as goal

pub invariant_of-result : goal.invariant_of-result
invariant_of-result c =
    let many : length c.in_ok-files.files ≡ length c.args.files =
    gives_as_many (GivesUnitFile c.args.module_path.now c.args.folders.now c.args.packages.now c.folder_at-folder.result.now.from_std) (λ f k. k) c.in_ok-files.ensures in
    record {
      few = omega (arith, many, c.requires.few);
      named = λ f h. (
          let p = given_by (GivesUnitFile c.args.module_path.now c.args.folders.now c.args.packages.now c.folder_at-folder.result.now.from_std) c.in_ok-files.ensures f h in
          ap (λ (o : File). o.«package».text) p.2.reads ∙ c.in_ok-name.ensures p.0 (subst (λ (fs : List PackageFile). Has fs p.0) (sym c.items.ensures) p.1)
          );
      needed = c.in_ok-needs.ensures ∙ ap needed_by c.items-2.ensures;
    }

pub returns : goal.returns
returns c =
    let many : length c.in_ok-files.files ≡ length c.args.files =
    gives_as_many (GivesUnitFile c.args.module_path.now c.args.folders.now c.args.packages.now c.folder_at-folder.result.now.from_std) (λ f k. k) c.in_ok-files.ensures in
    record { path = search rules; side = search rules; given = search rules; some = omega (arith, many, c.requires.some) }
