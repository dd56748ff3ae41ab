-- The files of each tree of a run are chosen alike where all are.
use Rattle.std.proofs.Common.{◌≡◌, Option, Some, List, [], ◌∷◌, ◌++◌, sym, subst, inr}
use Rattle.go_base.specs.Lists.{Has}
use Rattle.go_file_choices.specs.AlikePlatforms.{AllChosenAlike, AreAlike, files_of, old_files}
use Rattle.go_imports.proofs.Members.{has_left}
use Rattle.go_model.specs.declared.files.platform.Platform.{Platform}
use Rattle.go_model.specs.declared.files.tree.Tree.{Tree}

has_right : {A : Type 0} (xs ys : List A) (x : A) → Has ys x → Has (xs ++ ys) x
has_right [] ys x h = h
has_right (y ∷ xs) ys x h = inr (has_right xs ys x h)

module _ (old : Option Tree) (tree std_tree : Tree) (p q : Platform) (a : AreAlike (files_of old tree std_tree) p q) where
  pub of_std : AllChosenAlike std_tree.files p q
  of_std f h = a.chosen f (has_right (old_files old) (tree.files ++ std_tree.files) f (has_right tree.files std_tree.files f h))

  pub of_tree : AllChosenAlike tree.files p q
  of_tree f h = a.chosen f (has_right (old_files old) (tree.files ++ std_tree.files) f (has_left tree.files std_tree.files f h))

  pub of_old : (o : Tree) → old ≡ Some o → AllChosenAlike o.files p q
  of_old o e f h = a.chosen f (has_left (old_files old) (tree.files ++ std_tree.files) f (subst (λ (t : Option Tree). Has (old_files t) f) (sym e) h))
