-- A release with one number raised.
-- Own: words of the contracts inside this crate.
use Rattle.std.specs.Prelude.{◌≡◌, ◌<◌, ◌+◌, Option, None, Some}
use Rattle.api_advice.specs.declared.advice.Number.{Number}
use Rattle.api_advice.specs.declared.advice.Number.TheVariants as number
use Rattle.api_advice.specs.declared.release.Release.{Release}
use Rattle.api_advice.specs.Advice.{number_of, last_number}

-- the number one greater, and zeros behind it
abbrev pub with_raised : Number → Release → Release
with_raised number.Major r = record { major = r.major + 1; minor = 0; patch = 0 }
with_raised number.Minor r = record { major = r.major; minor = r.minor + 1; patch = 0 }
with_raised number.Patch r = record { major = r.major; minor = r.minor; patch = r.patch + 1 }

-- the number is raised, unless it is the last one
abbrev pub RaisesNumber : Release → Number → Option Release → Type 0
RaisesNumber r n None = number_of n r ≡ last_number
RaisesNumber r n (Some next) = (number_of n r < last_number) × (next ≡ with_raised n r)
