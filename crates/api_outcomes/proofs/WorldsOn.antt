-- Trees have a world on a platform, or a fault line.
use Rattle.std.proofs.Common.{◌≡◌, ◌≢◌, ◌⊎◌, ℕ, List, [], Result, Ok, Err, refl, sym, subst, inl, inr}
use Rattle.api_refusals.specs.Refusals.{package_text, refusal_line, unit_text}
use Rattle.api_texts.specs.declared.lines.Side.{Side}
use Rattle.api_worlds.specs.LeftOut.{AreLeftOutOn, all_lines, lines_with}
use Rattle.api_worlds.specs.PlatformWorlds.{IsRefusedOn, IsWorldOn, package_refused, packages_refused, sources_of}
use Rattle.go_base.specs.Lists.{Has}
use Rattle.go_existence.specs.Existence.{NotNone}
use Rattle.go_existence.proofs.DoubleNegation.{bind, so, sure}
use Rattle.go_exposed.specs.OfferedWorlds.{IsFirstRefused, IsWorldOf}
use Rattle.go_exposed.specs.SkippedDeclarations.{Skipped}
use Rattle.go_exposed.specs.SkippedWorlds.{AreSkipped}
use Rattle.go_model.specs.declared.files.platform.Platform.{Platform}
use Rattle.go_model.specs.declared.files.tree.Tree.{Tree}
use Rattle.go_model.specs.files.Platforms.{bits_of}
use Rattle.go_model.specs.files.Trees.{IsTree}
use Rattle.go_model.specs.types.Terms.{client_path}
use Rattle.go_model.specs.worlds.Worlds.{Packages}
use Rattle.go_reading.specs.TreeUnits.{AreUnitsOfTrees}
use Rattle.go_typings.specs.Refusals.{Refusal}
use Rattle.go_typings.specs.Sources.{PackageSource}
use Rattle.go_units.specs.declared.unit.«Unit».{«Unit» as PackageUnit}
use Rattle.go_units.specs.declared.unit_error.UnitError.{UnitError}
use Rattle.go_units.specs.declared.unit_error.UnitError.TheVariants as unit
use Rattle.go_units.specs.declared.unit_list.Units.{Units}
use Rattle.go_work.specs.Answers.{sources}
use Rattle.go_work.specs.Paths.{AreOfPackages}

-- the laws of the layers below
pub record Below : Type 0 where
  pub units : (p : Platform) (barred : List (List ℕ)) (tree std_tree : Tree) → Has barred tree.«module» → IsTree tree → IsTree std_tree
      → NotNone ((r : Result Units UnitError) × (r ≢ Err unit.NoMemory) × AreUnitsOfTrees p barred tree std_tree r)
  pub paths : (p : Platform) (barred : List (List ℕ)) (tree std_tree : Tree) (units : Units) → IsTree tree → IsTree std_tree → tree.«module» ≢ [] → AreUnitsOfTrees p barred tree std_tree (Ok units)
      → AreOfPackages units.packages
  pub worlds : (bits : ℕ) (units : Units) → AreOfPackages units.packages
      → NotNone (((w : Packages) × IsWorldOf bits (sources units.packages) w) ⊎ ((n : ℕ) × (r : Refusal) × IsFirstRefused bits (sources units.packages) n r))
  pub skips : (bits : ℕ) (us : List PackageSource) (w : Packages) → IsWorldOf bits us w → NotNone ((xss : List (List Skipped)) × AreSkipped bits us xss)

-- a tree as a run has it
pub record IsRead (barred : List (List ℕ)) (tree : Tree) : Type 0 where
  pub is : IsTree tree
  pub named : tree.«module» ≢ []
  pub bars : Has barred tree.«module»

module _ (below : Below) (barred : List (List ℕ)) (tree std_tree : Tree) (read : IsRead barred tree) (std : IsTree std_tree) (p : Platform) where
  abbrev pub WorldEnds : Type 0
  WorldEnds = ((w : Packages) × IsWorldOn barred tree std_tree p w) ⊎ ((s : Side) → (line : List ℕ) × IsRefusedOn barred tree std_tree s p line)

  of_answer : (r : Result Units UnitError) → (r ≢ Err unit.NoMemory) → AreUnitsOfTrees p barred tree std_tree r → NotNone WorldEnds
  of_answer (Err e) n a = sure (inr (λ s. (refusal_line s p (unit_text tree std_tree [] e), packages_refused e (λ k. n (λ i. Err (k i))) a)))
  of_answer (Ok units) n a = so (below.worlds (bits_of p) units (below.paths p barred tree std_tree units read.is std read.named a)) (λ k. elim k [
    | inl w ↦ inl (w.0, (units, a, w.1))
    | inr r ↦ inr (λ s. (refusal_line s p (package_text tree std_tree [] units.packages r.0 r.1), package_refused units r.0 r.1 a r.2))
  ])

  pub left_out_there : (w : Packages) → IsWorldOn barred tree std_tree p w → NotNone ((lines : List (List ℕ)) × AreLeftOutOn barred tree std_tree p lines)
  left_out_there w i = so (below.skips (bits_of p) (sources_of i.0) w i.2) (λ k.
      (all_lines (lines_with tree std_tree [] i.0.packages k.0), record { units = i.0; are = i.1; skipped = k.0; skips = k.1; «is» = refl }))

  pub world_ends : NotNone WorldEnds
  world_ends = bind (below.units p barred tree std_tree read.bars read.is std) (λ r. of_answer r.0 r.1 r.2)
