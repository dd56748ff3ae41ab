-- The trees of a judgement: an old and a new one of a module, over one tree of the standard library in which the paths of both modules are barred.
-- Own: this project's judge.
use Rattle.std.specs.Prelude.{◌≢◌, ℕ, List, []}
use Rattle.go_base.specs.Lists.{Has}
use Rattle.go_model.specs.declared.files.tree.Tree.{Tree}
use Rattle.go_model.specs.files.Trees.{IsTree}

-- each is as trees are that were read. The module's path may be another in the new one
pub record AreJudged (barred : List (List ℕ)) (old new std_tree : Tree) : Type 0 where
  pub old_tree : IsTree old
  pub new_tree : IsTree new
  pub std : IsTree std_tree
  pub old_named : old.module ≢ []
  pub new_named : new.module ≢ []
  pub old_barred : Has barred old.module
  pub new_barred : Has barred new.module
