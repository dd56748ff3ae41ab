-- The files of a folder by their names.
-- Own: the order in which the files of a folder are read. A tree that was loaded holds one file of a name; of several, the earlier one stays in front.
use Rattle.std.specs.Prelude.{ℕ, List, [], ◌∷◌}
use Rattle.go_base.specs.Keys.{placed}
use Rattle.go_base.specs.Lists.{Each, Before}
use Rattle.go_model.specs.declared.files.tree.TreeFile.{TreeFile}

abbrev pub name_of : TreeFile → List ℕ
name_of f = f.name

-- files that come to others one after another, each in its place by its name
abbrev pub with_files : List TreeFile → List TreeFile → List TreeFile
with_files others [] = others
with_files others (f ∷ fs) = with_files (placed name_of f others) fs

abbrev pub by_name : List TreeFile → List TreeFile
by_name files = with_files [] files

-- no file has a name before that of one in front of it
abbrev pub AreByName : List TreeFile → Type 0
AreByName [] = Unit {0}
AreByName (f ∷ fs) = Each (λ (g : TreeFile). Before g.name f.name → ⊥) fs × AreByName fs
