use Rattle.go_declarations.specs.Listings.{declarations_of}
use Rattle.go_declared.proofs.ToldMethods.{table_methods}
use Rattle.go_declared.proofs.methods.DeclaredMethods.of.Goals as goal

pub returns : goal.returns
returns c = table_methods (declarations_of c.args.declarations.now) c.new-methods.result c.fill.new.table c.new-methods.ensures c.in_ok-fill.ensures
