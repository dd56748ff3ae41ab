-- What is listed of a world on a platform, put together of its parts.
use Rattle.std.proofs.Common.{◌≡◌, ℕ, List, sym, subst}
use Rattle.api_features.specs.Features.{IsFeature}
use Rattle.api_findings.specs.declared.listed.Listed.{Listed}
use Rattle.api_findings.specs.inner.Sides.{IsListedOn}
use Rattle.api_lines.specs.Lines.{IsListing}
use Rattle.api_lines.specs.declared.line.Line.{Line}
use Rattle.api_worlds.specs.LeftOut.{AreLeftOutOn}
use Rattle.api_worlds.specs.PlatformWorlds.{IsWorldOn}
use Rattle.go_model.specs.declared.files.platform.Platform.{Platform}
use Rattle.go_model.specs.declared.files.tree.Tree.{Tree}
use Rattle.go_model.specs.worlds.Worlds.{Packages}

module _ (barred : List (List ℕ)) (tree std_tree : Tree) (p : Platform) (w : Packages) (lines : List Line) (left_out : List (List ℕ)) (world : IsWorldOn barred tree std_tree p w) (omitted : AreLeftOutOn barred tree std_tree p left_out)
    (features : IsListing (IsFeature w) lines) where
  pub listed_of : (v : Packages) (l : Listed) → v ≡ w → l.lines ≡ lines → l.left_out ≡ left_out → IsListedOn barred tree std_tree p v l
  listed_of v l e f h = record {
    world = subst (IsWorldOn barred tree std_tree p) (sym e) world;
    left_out = subst (AreLeftOutOn barred tree std_tree p) (sym h) omitted;
    lines = subst (λ (u : Packages). IsListing (IsFeature u) l.lines) (sym e) (subst (IsListing (IsFeature w)) (sym f) features);
  }
