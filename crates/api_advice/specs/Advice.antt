-- The versions that may follow a version, and the least of them.
-- Public source: Semantic Versioning 2.0.0, clauses 4, 6, 7, 8 and 11; that below 1.0.0 a break raises the minor number, and all
-- else the patch number, is own.
use Rattle.std.specs.Prelude.{◌≡◌, ◌<◌, ◌≤◌, ◌⊎◌, ℕ, zero, suc, [], Option, Some, None, Result, Ok, Err}
use Rattle.semver.specs.declared.Version.{Version}
use Rattle.semver.specs.Identifiers.{pre_text, build_text}
use Rattle.api_advice.specs.declared.advice.Number.{Number}
use Rattle.api_advice.specs.declared.advice.Number.TheVariants as number
use Rattle.api_advice.specs.declared.release.Release.{Release}
use Rattle.api_advice.specs.declared.advice.AdviceError.{AdviceError}
use Rattle.api_advice.specs.declared.advice.AdviceError.TheVariants as refused
use Rattle.api_advice.specs.declared.class.Class.{Class}
use Rattle.api_advice.specs.declared.class.Class.TheVariants as class

-- the number that a change of this class raises, by the major number of the version
abbrev pub raised : ℕ → Class → Number
raised zero class.Major = number.Minor
raised zero class.Minor = number.Patch
raised zero class.Patch = number.Patch
raised (suc n) class.Major = number.Major
raised (suc n) class.Minor = number.Minor
raised (suc n) class.Patch = number.Patch

abbrev pub number_of : Number → Release → ℕ
number_of number.Major r = r.major
number_of number.Minor r = r.minor
number_of number.Patch r = r.patch

-- the second release has the numbers of the first before this one, and here a greater one
abbrev pub Raises : Number → Release → Release → Type 0
Raises number.Major r next = r.major < next.major
Raises number.Minor r next = (next.major ≡ r.major) × (r.minor < next.minor)
Raises number.Patch r next = (next.major ≡ r.major) × (next.minor ≡ r.minor) × (r.patch < next.patch)

-- a release may follow another after a change of this class
abbrev pub MayFollow : Release → Class → Release → Type 0
MayFollow r c next = Raises (raised r.major c) r next

-- the precedence of the first release isn't higher: their numbers are compared from the left
abbrev pub IsNotAfter : Release → Release → Type 0
IsNotAfter a b = (a.major < b.major) ⊎ ((a.major ≡ b.major) × ((a.minor < b.minor) ⊎ ((a.minor ≡ b.minor) × (a.patch ≤ b.patch))))

-- the least release that may follow
pub record IsLeast (r : Release) (c : Class) (next : Release) : Type 0 where
  pub allowed : MayFollow r c next
  pub least : (other : Release) → MayFollow r c other → IsNotAfter next other

-- the greatest number that a version has room for
abbrev pub last_number : ℕ
last_number = 18446744073709551615

-- the number that the class raises
abbrev pub number_to_raise : Release → Class → ℕ
number_to_raise r c = number_of (raised r.major c) r

-- the release that follows: the least that may, and none where the number to raise is the last one
abbrev pub IsNext : Release → Class → Option Release → Type 0
IsNext r c (Some next) = (number_to_raise r c < last_number) × IsLeast r c next
IsNext r c None = number_to_raise r c ≡ last_number

abbrev pub numbers_of : Version → Release
numbers_of v = record { major = v.major; minor = v.minor; patch = v.patch }

-- the version has neither a pre-release nor build metadata
pub record IsRelease (v : Version) : Type 0 where
  pub no_pre : pre_text v.pre ≡ []
  pub no_build : build_text v.build ≡ []

-- what is advised: the least release that may follow a release, unless there is none
abbrev pub Advises : Version → Class → Result Release AdviceError → Type 0
Advises v c (Ok next) = IsRelease v × IsNext (numbers_of v) c (Some next)
Advises v c (Err refused.NotRelease) = IsRelease v → ⊥
Advises v c (Err refused.NoVersion) = IsRelease v × IsNext (numbers_of v) c None
