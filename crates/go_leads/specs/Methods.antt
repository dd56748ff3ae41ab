-- Methods that selectors find in a tree.
-- Public source: Go specification, "Selectors" and "Method expressions".
use Rattle.go_rules.specs.Environments.{Env}
use Rattle.go_rules.specs.Nodes.{Node}
use Rattle.go_typings.specs.References.{Finds}
use Rattle.go_leads.specs.declared.methods.FoundMethod.{FoundMethod}

-- a selector in the tree finds the method
abbrev pub found_in : Env → Node → FoundMethod → Type 0
found_in E at m = Finds E at m.owner m.sel
