-- Trees that are borrowed, as the nodes of the rules of typing, and names that are borrowed, as bytes.
-- Own: words of the contracts.
use Rattle.std.specs.Prelude.{◌≡◌, ℕ, List, [], ◌∷◌, ◌++◌, map, Option, None, Some}
use denote.Ref.{Bor}
use Rattle.go_rules.specs.Nodes.{Node, expression, post, value, type, signature}
use Rattle.go_nodes.specs.declared.tree.Tree.{Tree}
use Rattle.go_nodes.specs.declared.tree.Tree.TheVariants as tree
use Rattle.go_nodes.specs.declared.trees.Trees.{Trees}

-- the tree that was borrowed
abbrev pub node_of : Tree → Node
node_of (tree.Expr e) = expression e.now
node_of (tree.Post p) = post p.now
node_of (tree.Value v) = value v.now
node_of (tree.Type t) = type t.now
node_of (tree.Signature g) = signature g.now

-- the trees in turn
abbrev pub nodes_in : Trees → List Node
nodes_in ts = map node_of ts.items.items

-- the last tree was taken, where there was one
abbrev pub Pops : List Node → List Node → Option Tree → Type 0
Pops old new None = old ≡ []
Pops old new (Some t) = old ≡ new ++ node_of t ∷ []

abbrev pub text_of : Bor (List ℕ) → List ℕ
text_of name = name.now

-- the names that were borrowed
abbrev pub texts_of : List (Bor (List ℕ)) → List (List ℕ)
texts_of names = map text_of names
