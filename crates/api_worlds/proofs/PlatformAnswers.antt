-- The world of a platform, or its first refusal, by what is answered of its packages.
use Rattle.std.proofs.Common.{◌≡◌, ◌+◌, ◌≤◌, ℕ, List, [], length, Ok, Err, IfOk, sym, subst, arith}
use Rattle.std.specs.Prelude.{Result}
use Rattle.api_texts.specs.declared.lines.Side.{Side}
use Rattle.api_worlds.specs.PlatformWorlds.{AnswersNext, AnswersWorld, AreUnitsOn, CountsAtMost, no_package, all_packages, IsErrorOn, IsRefusedOn, packages_refused, package_refused, sources_of}
use Rattle.api_worlds.specs.LeftOut.{AreLeftOutOn}
use Rattle.api_worlds.specs.Refused.{IsUnitRefusal}
use Rattle.api_worlds.specs.declared.next_world.NextWorld.{NextWorld}
use Rattle.api_worlds.specs.declared.platform_world.PlatformWorld.{PlatformWorld}
use Rattle.api_worlds.specs.declared.error.PlatformError.{PlatformError}
use Rattle.api_worlds.specs.declared.error.PlatformError.TheVariants as error
use Rattle.api_worlds.specs.inner.PlatformSteps.{AnswersNextUnits, AnswersOfUnits, AreLinesOf, IsErrorOfUnits}
use Rattle.go_exposed.specs.OfferedWorlds.{IsWorldOf}
use Rattle.go_model.specs.declared.files.platform.Platform.{Platform}
use Rattle.go_model.specs.declared.files.tree.Tree.{Tree}
use Rattle.go_model.specs.files.Platforms.{bits_of}
use Rattle.go_model.specs.worlds.Worlds.{Packages}
use Rattle.go_reading.specs.TreeUnits.{AreUnitsOfTrees}
use Rattle.go_units.specs.declared.unit_error.UnitError.{UnitError}
use Rattle.go_units.specs.declared.unit_list.Units.{Units}

-- the world of these units is that of the platform
pub world_kept : (p : Platform) (units : Units) (bits : ℕ) (w v : Packages) → bits ≡ bits_of p → v ≡ w → IsWorldOf bits (sources_of units) w → IsWorldOf (bits_of p) (sources_of units) v
world_kept p units bits w v b e i = subst (λ (n : ℕ). IsWorldOf n (sources_of units) v) b (subst (IsWorldOf bits (sources_of units)) (sym e) i)

module _ (barred : List (List ℕ)) (tree std_tree : Tree) (s : Side) (p : Platform) where
  pub units_error : (e : UnitError) (x : PlatformError) → AreUnitsOfTrees p barred tree std_tree (Err e) → IsUnitRefusal tree std_tree [] s p e x → IsErrorOn barred tree std_tree s p x
  units_error e (error.Refused line) a h = subst (IsRefusedOn barred tree std_tree s p) (sym h.1) (packages_refused e h.0 a)
  units_error e error.NoMemory a h = tt

  package_error : (units : Units) (e : PlatformError) → AreUnitsOn barred tree std_tree p units → IsErrorOfUnits tree std_tree s p units e → IsErrorOn barred tree std_tree s p e
  package_error units (error.Refused line) a h = subst (IsRefusedOn barred tree std_tree s p) (sym h.3) (package_refused units h.0 h.1 a h.2)
  package_error units error.NoMemory a h = tt

  pub units_answer : (units : Units) (r : Result PlatformWorld PlatformError) → AreUnitsOn barred tree std_tree p units → AnswersOfUnits tree std_tree s p units r → AnswersWorld barred tree std_tree s p r
  units_answer units (Ok w) a h = (units, a, h)
  units_answer units (Err e) a h = package_error units e a h

  pub next_answer : (units : Units) (r : Result NextWorld PlatformError) → AreUnitsOn barred tree std_tree p units → AnswersNextUnits tree std_tree s p units r → AnswersNext barred tree std_tree s p r
  next_answer units (Ok w) a h = (units, a, h)
  next_answer units (Err e) a h = package_error units e a h

  units_left_out : (units : Units) (lines : List (List ℕ)) → AreUnitsOn barred tree std_tree p units → AreLinesOf tree std_tree p units lines → AreLeftOutOn barred tree std_tree p lines
  units_left_out units lines a l = record { units = units; are = a; skipped = l.skipped; skips = l.skips; «is» = l.«is» }

  pub lines_answer : (units : Units) (r : Result PlatformWorld PlatformError) → AreUnitsOn barred tree std_tree p units → IfOk r (λ w. AreLinesOf tree std_tree p units w.left_out) → IfOk r (λ w. AreLeftOutOn barred tree std_tree p w.left_out)
  lines_answer units (Ok w) a h = units_left_out units w.left_out a h
  lines_answer units (Err e) a h = tt

  pub next_lines : (units : Units) (r : Result NextWorld PlatformError) → AreUnitsOn barred tree std_tree p units → IfOk r (λ w. AreLinesOf tree std_tree p units w.left_out) → IfOk r (λ w. AreLeftOutOn barred tree std_tree p w.left_out)
  next_lines units (Ok w) a h = units_left_out units w.left_out a h
  next_lines units (Err e) a h = tt

  pub no_count : (before : ℕ) → CountsAtMost barred tree std_tree p before before
  no_count before = (0, no_package, omega arith)

  pub units_count : (units : Units) (before now : ℕ) → AreUnitsOn barred tree std_tree p units → now ≤ before + length units.packages → CountsAtMost barred tree std_tree p before now
  units_count units before now a h = (length units.packages, all_packages units a, h)
