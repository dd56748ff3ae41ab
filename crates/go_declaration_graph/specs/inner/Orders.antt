-- Rows of one kind, and rows of the declarations that are reached.
-- Own: words of the contracts inside this crate.
use Rattle.std.specs.Prelude.{ℕ, List}
use Rattle.go_declared.specs.declared.names.NamePlace.{NamePlace}
use Rattle.go_rules.specs.Environments.{Env}
use Rattle.go_rules.specs.Names.{Named}
use Rattle.go_rules.specs.Scopes.{Scopes}
use Rattle.go_typings.specs.Declarations.{Declaration, Form}
use Rattle.go_declaration_graph.specs.declared.order.Reach.{Reach}
use Rattle.go_declaration_graph.specs.declared.references.Kind.{Kind}
use Rattle.go_declaration_graph.specs.inner.MethodNumbers.{Numbered}
use Rattle.go_declaration_graph.specs.inner.Rows.{HasRowsAmong, LeadsIn, NamesIn, picked}

-- the row has the declarations that the references of a kind name
abbrev pub IsKindRow : Named NamePlace → Kind → Env → Form → List ℕ → Type 0
IsKindRow names kind E f row = NamesIn names E f (picked kind f) row

-- the rows that are told are those of the steps from their declarations
abbrev pub HasReach : Named NamePlace → List Numbered → Scopes → List Declaration → Reach → Type 0
HasReach names tables c ds reach = HasRowsAmong (LeadsIn names tables) c ds reach.flags.items reach.rows.items
