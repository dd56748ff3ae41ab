-- What is written of a unit: its path, whether it is of the standard library, and its files.
-- Own: words of the laws.
use Rattle.std.specs.Prelude.{ℕ, Bool, List}
use Rattle.go_units.specs.declared.unit.«Unit».{«Unit» as PackageUnit}
use Rattle.go_units.specs.declared.unit.UnitFile.{UnitFile}

pub record Written : Type 0 where
  pub path : List ℕ
  pub name : List ℕ
  pub from_std : Bool
  pub files : List UnitFile

abbrev pub written : PackageUnit → Written
written u = record { path = u.path; name = u.name; from_std = u.from_std; files = u.files }
