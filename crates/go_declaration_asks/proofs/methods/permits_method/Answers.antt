use Rattle.go_model.specs.declared.types.term.Term.{out-Term}
use Rattle.go_declaration_asks.proofs.MethodFacts.{barred, permitted}
use Rattle.go_declaration_asks.proofs.methods.permits_method.Goals as goal

pub returns-then-bars_methods : goal.returns-then-bars_methods
returns-then-bars_methods c = barred c.args.base.now (out-Term c.args.level.now) c.args.name.now c.bars_methods.result c.if-bars_methods.true c.bars_methods.ensures

pub returns : goal.returns
returns c = permitted c.args.base.now (out-Term c.args.level.now) c.args.name.now c.bars_methods.result c.if-bars_methods.false c.bars_methods.ensures c.is_free_in.result c.is_free_in.ensures
