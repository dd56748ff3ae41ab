-- Statements that are borrowed, as a list.
-- Own: words of the contracts.
use Rattle.std.specs.Prelude.{List, [], ◌∷◌}
use Rattle.go_syntax.specs.declared.statement.Stmt.{Stmt}
use Rattle.go_walks.specs.declared.inner.Inner.{Inner}
use Rattle.go_walks.specs.declared.inner.Inner.TheVariants as inner

abbrev pub statements_in : Inner → List Stmt
statements_in (inner.All ss) = ss.now
statements_in (inner.One x) = x.now ∷ []
