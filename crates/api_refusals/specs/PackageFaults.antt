-- The refusals of packages that fault lines tell.
-- Own: this project's reports and exit statuses.
use Rattle.go_typings.specs.Refusals.{Refusal, redeclared, missing_import, unsound}
use Rattle.api_refusals.specs.declared.refusals.PackageFault.{PackageFault}
use Rattle.api_refusals.specs.declared.refusals.PackageFault.TheVariants as fault

abbrev pub refusal_of : PackageFault → Refusal
refusal_of (fault.Redeclared place) = redeclared place
refusal_of (fault.MissingImport place) = missing_import place
refusal_of (fault.Unsound place) = unsound place
