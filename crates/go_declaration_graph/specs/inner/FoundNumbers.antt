-- The numbers of the methods that selectors find, by tables.
-- Own: words of the contracts inside this crate.
use Rattle.std.specs.Prelude.{ℕ, if◌then◌else◌, List, []}
use Rattle.std.specs.Str.{bytes_eq}
use Rattle.go_base.specs.Lists.{Has}
use Rattle.go_declared.specs.declared.names.NamePlace.{NamePlace}
use Rattle.go_leads.specs.Methods.{found_in}
use Rattle.go_leads.specs.declared.methods.FoundMethod.{FoundMethod}
use Rattle.go_nodes.specs.Trees.{node_of}
use Rattle.go_nodes.specs.declared.tree.Tree.{Tree}
use Rattle.go_rules.specs.Environments.{Env}
use Rattle.go_rules.specs.Names.{Named}
use Rattle.go_rules.specs.Nodes.{Node}
use Rattle.go_declaration_graph.specs.inner.MethodNumbers.{Numbered, numbers_at}

-- the methods of the package of this path that are found so
abbrev pub found : List ℕ → Named NamePlace → List Numbered → FoundMethod → List ℕ
found path names tables m = if bytes_eq m.owner.path path then numbers_at tables names m.owner.name m.sel.name else []

-- the number is that of a method of the package that is found in the tree
abbrev pub FindsNumber : Env → Named NamePlace → List Numbered → Node → ℕ → Type 0
FindsNumber E names tables at n = (m : FoundMethod) × found_in E at m × Has (found E.path names tables m) n

abbrev pub FindsNumberIn : Env → Named NamePlace → List Numbered → Tree → ℕ → Type 0
FindsNumberIn E names tables t n = FindsNumber E names tables (node_of t) n
