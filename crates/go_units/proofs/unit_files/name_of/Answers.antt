use Rattle.std.proofs.Common.{◌≡◌, ◌∙◌, List, ℕ, sym, ap}
use Rattle.go_imports.proofs.Files.{has_item}
use Rattle.go_imports.specs.go_syntax.declared.declaration.File.{File}
use Rattle.go_units.specs.declared.package_uses.PackageFile.{PackageFile}
use Rattle.go_units.specs.inner.UnitMaking.{PackageFilesAreNamed}
use Rattle.go_units.proofs.Results.{if_ok_as}
use Rattle.go_units.proofs.unit_files.name_of.Goals as goal

pub returns : goal.returns
returns c =
    if_ok_as (λ (text : List ℕ). text ≡ c.value.result.now.«package».text) (PackageFilesAreNamed c.args.files.now)
    (λ text e f h. c.requires.alike f c.index-files-0.result h (has_item c.args.files.now 0 c.index-files-0.result c.requires.some c.index-files-0.is) ∙ ap (λ (g : PackageFile). g.outline.«package».text) c.index-files-0.is ∙ sym (ap (λ (g : File). g.«package».text) c.value.ensures) ∙ sym e)
    c.copy.result c.copy.ensures
