-- What one tree has on a platform, with what is listed of it.
use Rattle.std.specs.Prelude.{◌≢◌, ℕ, List, [], Result, Ok, Err}
use Rattle.go_base.specs.Lists.{Has}
use Rattle.api_features.specs.Features.{IsFeature}
use Rattle.api_findings.specs.declared.listed.Listed.{Listed}
use Rattle.api_findings.specs.declared.next_found.ListedUnits.{ListedUnits}
use Rattle.api_findings.specs.declared.sides.ListedWorld.{ListedWorld}
use Rattle.api_lines.specs.Lines.{IsListing}
use Rattle.api_texts.specs.declared.lines.Side.{Side}
use Rattle.api_worlds.specs.LeftOut.{AreLeftOutOn}
use Rattle.api_worlds.specs.PlatformWorlds.{IsErrorOn, IsWorldOn}
use Rattle.api_worlds.specs.declared.error.PlatformError.{PlatformError}
use Rattle.go_model.specs.declared.files.platform.Platform.{Platform}
use Rattle.go_model.specs.declared.files.tree.Tree.{Tree}
use Rattle.go_model.specs.files.Trees.{IsTree}
use Rattle.go_model.specs.worlds.Worlds.{Packages}
use Rattle.api_worlds.specs.go_work.TypedUnits.{AreTypedUnits}

module _ (barred : List (List ℕ)) (tree std_tree : Tree) where
  -- a module's tree over the standard library's, whose path is barred
  pub record AreTrees : Type 0 where
    pub is_tree : IsTree tree
    pub is_std : IsTree std_tree
    pub is_named : tree.module ≢ []
    pub is_barred : Has barred tree.module

  -- the world on a platform, what is left out of it, and its features
  pub record IsListedOn (p : Platform) (w : Packages) (l : Listed) : Type 0 where
    pub world : IsWorldOn barred tree std_tree p w
    pub left_out : AreLeftOutOn barred tree std_tree p l.left_out
    pub lines : IsListing (IsFeature w) l.lines

  -- that, or why there is no world
  abbrev pub AnswersListed : Side → Platform → Result ListedWorld PlatformError → Type 0
  AnswersListed s p (Ok l) = IsListedOn p l.world l.listed
  AnswersListed s p (Err e) = IsErrorOn barred tree std_tree s p e

  -- the same, where the packages are kept as they were typed
  abbrev pub AnswersNextListed : Side → Platform → Result ListedUnits PlatformError → Type 0
  AnswersNextListed s p (Ok l) = IsListedOn p l.typed.world l.listed × AreTypedUnits l.typed
  AnswersNextListed s p (Err e) = IsErrorOn barred tree std_tree s p e
