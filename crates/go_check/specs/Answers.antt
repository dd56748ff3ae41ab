-- What the check of a package answers.
-- Own: words of the contracts.
use Rattle.std.specs.Prelude.{ℕ, Bool, Option, None, Some, Result, Ok, Err}
use Rattle.go_check.specs.declared.checked.CheckedPackage.{CheckedPackage}
use Rattle.go_check.specs.declared.error.CheckError.{CheckError}
use Rattle.go_check.specs.declared.error.CheckError.TheVariants as error
use Rattle.go_exposed.specs.OfferedPackages.{IsOfferedAs}
use Rattle.go_exposed.specs.Refusals.{IsRefused}
use Rattle.go_model.specs.declared.types.package.Package.{Package}
use Rattle.go_model.specs.worlds.Worlds.{Packages}
use Rattle.go_typings.specs.Refusals as whole
use Rattle.go_typings.specs.Refusals.{Refusal, redeclared, missing_import, unsound}
use Rattle.go_typings.specs.Sources.{PackageSource, Setting}
use Rattle.go_typings.specs.TypedPackages.{IsTypedAs}

-- the refusal that an error is, unless no memory was left
abbrev pub refusal_of : CheckError → Option Refusal
refusal_of (error.Redeclared p) = Some (redeclared p)
refusal_of (error.MissingImport p) = Some (missing_import p)
refusal_of (error.Unsound p) = Some (unsound p)
refusal_of error.NoMemory = None

abbrev pub IsRefusedAs : Setting → PackageSource → Option Refusal → Type 0
IsRefusedAs s u None = Unit {0}
IsRefusedAs s u (Some r) = IsRefused s u r

-- the package as which it is offered, or for what it is refused; want of memory may come at any time
abbrev pub Answers : Setting → PackageSource → Result CheckedPackage CheckError → Type 0
Answers s u (Ok c) = IsOfferedAs s u c.«package»
Answers s u (Err e) = IsRefusedAs s u (refusal_of e)

-- ---- where nothing may be left out

abbrev pub IsWhollyRefusedAs : Setting → PackageSource → Option Refusal → Type 0
IsWhollyRefusedAs s u None = Unit {0}
IsWhollyRefusedAs s u (Some r) = whole.IsRefused s u r

-- the package as which it is typed, or for what it is refused; want of memory may come at any time
abbrev pub WholeAnswers : Setting → PackageSource → Result Package CheckError → Type 0
WholeAnswers s u (Ok p) = IsTypedAs s u p
WholeAnswers s u (Err e) = IsWhollyRefusedAs s u (refusal_of e)

-- ---- settings

-- the setting of a package over these imports
abbrev pub setting : Packages → ℕ → Bool → Setting
setting world bits profile = record { world = world; bits = bits; profile = profile }
