-- What the steps to the world of a platform answer.
use Rattle.std.specs.Prelude.{◌≡◌, ℕ, List, [], Result, Ok, Err}
use Rattle.api_refusals.specs.Refusals.{package_text, refusal_line}
use Rattle.api_texts.specs.declared.lines.Side.{Side}
use Rattle.api_worlds.specs.PlatformWorlds.{sources_of}
use Rattle.api_worlds.specs.declared.error.PlatformError.{PlatformError}
use Rattle.api_worlds.specs.declared.error.PlatformError.TheVariants as error
use Rattle.api_worlds.specs.LeftOut.{all_lines, lines_with}
use Rattle.api_worlds.specs.declared.next_world.NextWorld.{NextWorld}
use Rattle.api_worlds.specs.declared.platform_world.PlatformWorld.{PlatformWorld}
use Rattle.go_exposed.specs.OfferedWorlds.{IsFirstRefused, IsWorldOf}
use Rattle.go_exposed.specs.SkippedDeclarations.{Skipped}
use Rattle.go_exposed.specs.SkippedWorlds.{AreSkipped}
use Rattle.go_model.specs.declared.files.platform.Platform.{Platform}
use Rattle.go_model.specs.declared.files.tree.Tree.{Tree}
use Rattle.go_model.specs.files.Platforms.{bits_of}
use Rattle.go_typings.specs.Refusals.{Refusal}
use Rattle.go_units.specs.declared.unit_list.Units.{Units}

-- the lines of what is left out of these units
pub record AreLinesOf (tree std_tree : Tree) (p : Platform) (units : Units) (lines : List (List ℕ)) : Type 0 where
  pub skipped : List (List Skipped)
  pub skips : AreSkipped (bits_of p) (sources_of units) skipped
  pub «is» : lines ≡ all_lines (lines_with tree std_tree [] units.packages skipped)

module _ (tree std_tree : Tree) (s : Side) (p : Platform) where
  -- the fault line of the first of these units that is refused; want of memory may come at any time
  abbrev pub IsErrorOfUnits : Units → PlatformError → Type 0
  IsErrorOfUnits units (error.Refused line) = (n : ℕ) × (r : Refusal) × IsFirstRefused (bits_of p) (sources_of units) n r × (line ≡ refusal_line s p (package_text tree std_tree [] units.packages n r))
  IsErrorOfUnits units error.NoMemory = Unit {0}

  -- the world of these units, or that
  abbrev pub AnswersOfUnits : Units → Result PlatformWorld PlatformError → Type 0
  AnswersOfUnits units (Ok w) = IsWorldOf (bits_of p) (sources_of units) w.world
  AnswersOfUnits units (Err e) = IsErrorOfUnits units e

  -- the same, where they are kept
  abbrev pub AnswersNextUnits : Units → Result NextWorld PlatformError → Type 0
  AnswersNextUnits units (Ok w) = IsWorldOf (bits_of p) (sources_of units) w.typed.world
  AnswersNextUnits units (Err e) = IsErrorOfUnits units e
