-- What is found on a platform is found on one that is alike.
use Rattle.std.proofs.Common.{◌≡◌, ℕ, Option, List, [], ◌∷◌, ◌++◌, Result, Ok, subst}
use Rattle.api_findings.proofs.Alike.{of_old, of_std, of_tree}
use Rattle.api_findings.specs.Findings.{Finds, features_alone, with_verdict}
use Rattle.api_findings.specs.inner.Found.{IsAdded, IsFoundAlike, listed}
use Rattle.api_judge.specs.declared.verdict.Verdict.{Verdict}
use Rattle.api_lines.specs.declared.line.Line.{Line}
use Rattle.api_worlds.specs.PlatformWorlds.{IsWorldOn, sources_of}
use Rattle.go_file_choices.specs.AlikePlatforms.{AllChosenAlike, AreAlike, files_of}
use Rattle.go_model.specs.declared.files.platform.Platform.{Platform}
use Rattle.go_model.specs.declared.files.tree.Tree.{Tree}
use Rattle.go_model.specs.worlds.Worlds.{Packages}
use Rattle.go_reading.specs.TreeUnits.{AreUnitsOfTrees}
use Rattle.go_exposed.specs.OfferedWorlds.{IsWorldOf}
use Rattle.go_units.specs.declared.unit_error.UnitError.{UnitError}
use Rattle.go_units.specs.declared.unit_list.Units.{Units}

module _ (units : (p q : Platform) (barred : List (List ℕ)) (tree std_tree : Tree) (r : Result Units UnitError) → AllChosenAlike tree.files p q → AllChosenAlike std_tree.files p q → AreUnitsOfTrees p barred tree std_tree r → AreUnitsOfTrees q barred tree std_tree r)
    (barred : List (List ℕ)) (old : Option Tree) (tree std_tree : Tree) where
  module _ (p q : Platform) (a : AreAlike (files_of old tree std_tree) p q) where
    same_world : (t : Tree) (w : Packages) → AllChosenAlike t.files p q → IsWorldOn barred t std_tree p w → IsWorldOn barred t std_tree q w
    same_world t w b i = (i.0, units p q barred t std_tree (Ok i.0) b (of_std old tree std_tree p q a) i.1, subst (λ (n : ℕ). IsWorldOf n (sources_of i.0) w) a.bits i.2)

    same_findings : (lines : List Line) (vs : List Verdict) → Finds barred old tree std_tree p lines vs → Finds barred old tree std_tree q lines vs
    same_findings lines vs (features_alone w e i f) = features_alone w e (same_world tree w (of_tree old tree std_tree p q a) i) f
    same_findings lines vs (with_verdict o before now e i j f k) = with_verdict o before now e (same_world o before (of_old old tree std_tree p q a o e) i) (same_world tree now (of_tree old tree std_tree p q a) j) f k

  -- and so it is added there
  pub added_again : (q : Platform) (lists : List (List Line)) (vs : List Verdict) (new_lists : List (List Line)) (new_vs : List Verdict) (lines : List Line) (verdict : Option Verdict) → new_lists ≡ lists ++ lines ∷ [] → new_vs ≡ vs ++ listed verdict
      → IsFoundAlike barred old tree std_tree q lines verdict → IsAdded barred old tree std_tree q lists vs new_lists new_vs
  added_again q lists vs new_lists new_vs lines verdict e f k = record {
    lines = lines;
    verdict = verdict;
    features = e;
    verdicts = f;
    found = same_findings k.earlier q k.alike lines (listed verdict) k.found;
  }
