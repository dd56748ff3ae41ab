-- What is found of a tree alone, where its packages are kept or memory lacks.
use Rattle.std.proofs.Common.{◌≡◌, ℕ, List, None, refl, sym, subst}
use Rattle.std.specs.Prelude.{IfErr, IfOk, Result, Ok, Err}
use Rattle.api_features.specs.Features.{IsFeature}
use Rattle.api_findings.proofs.FoundOn.{alone_found}
use Rattle.api_findings.proofs.LeftOutPlatforms.{alone_left_out}
use Rattle.api_findings.specs.Findings.{IsLeftOut}
use Rattle.api_findings.specs.declared.found.Found.{Found}
use Rattle.api_findings.specs.declared.next_found.ListedUnits.{ListedUnits}
use Rattle.api_findings.specs.inner.Found.{AnswersFound, left_out_alone}
use Rattle.api_findings.specs.inner.Sides.{IsListedOn}
use Rattle.api_lines.specs.Lines.{IsListing}
use Rattle.api_worlds.specs.declared.error.PlatformError.{PlatformError}
use Rattle.api_worlds.specs.declared.error.PlatformError.TheVariants as error
use Rattle.go_model.specs.declared.files.platform.Platform.{Platform}
use Rattle.go_model.specs.declared.files.tree.Tree.{Tree}

module _ (barred : List (List ℕ)) (tree std_tree : Tree) (p : Platform) (l : ListedUnits) where
  pub kept_answer : (r : Result Found PlatformError) → IsListedOn barred tree std_tree p l.typed.world l.listed → IfOk r (λ found. found.verdict ≡ None) → IfOk r (λ found. found.lines ≡ l.listed.lines) → IfErr r (λ e. e ≡ error.NoMemory)
      → AnswersFound barred None tree std_tree p r
  kept_answer (Ok found) on verdict lines none = alone_found barred tree std_tree p l.typed.world found on.world verdict (subst (IsListing (IsFeature l.typed.world)) (sym lines) on.lines)
  kept_answer (Err e) on verdict lines none = subst (λ (x : PlatformError). AnswersFound barred None tree std_tree p (Err x)) (sym none) tt

  pub kept_left_out : (r : Result Found PlatformError) → IsListedOn barred tree std_tree p l.typed.world l.listed → IfOk r (λ found. found.left_out ≡ left_out_alone l.listed.left_out) → IfOk r (λ found. IsLeftOut barred std_tree None tree p found.left_out)
  kept_left_out (Ok found) on left_out = alone_left_out barred std_tree None tree p l.listed.left_out found.left_out refl on.left_out left_out
  kept_left_out (Err e) on left_out = tt
