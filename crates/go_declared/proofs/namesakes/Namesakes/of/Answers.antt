use Rattle.go_declarations.specs.Listings.{declarations_of}
use Rattle.go_declared.proofs.ToldNamesakes.{table_namesakes}
use Rattle.go_declared.proofs.namesakes.Namesakes.of.Goals as goal

pub returns : goal.returns
returns c = table_namesakes (declarations_of c.args.declarations.now) c.new-namesakes.result c.fill.new.table c.new-namesakes.ensures c.in_ok-fill.ensures
