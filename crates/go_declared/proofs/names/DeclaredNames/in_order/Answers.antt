use Rattle.std.proofs.Common.{subst}
use Rattle.std.proofs.lemmas.Result.{IfOk-weaker}
use Rattle.go_base.specs.Lists.{Ascending}
use Rattle.go_rules.specs.Names.{Named}
use Rattle.go_declared.proofs.NamesInOrder.{ascending}
use Rattle.go_declared.specs.NameTables.{names_in}
use Rattle.go_declared.specs.declared.names.NamePlace.{NamePlace}
use Rattle.go_declared.specs.inner.EntryOrder.{Rise}
use Rattle.go_declared.proofs.names.DeclaredNames.in_order.Goals as goal

pub returns-clause-ordered : goal.returns-clause-ordered
returns-clause-ordered c = IfOk-weaker c.listed.result _ (λ _. Ascending (names_in c.args.self.now)) (λ _ _. ascending (names_in c.args.self.now) (subst (λ (t : Named NamePlace). Rise t) c.self.view_is c.self.invariant)) c.listed.ensures
