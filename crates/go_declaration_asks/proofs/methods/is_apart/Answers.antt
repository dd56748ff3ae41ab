use Rattle.go_model.specs.declared.types.term.Term.{out-Term}
use Rattle.go_declaration_asks.proofs.Apart.{apart_by}
use Rattle.go_declaration_asks.proofs.methods.is_apart.Goals as goal

pub returns : goal.returns
returns c = apart_by (out-Term c.args.level.now) c.fields_in.result.now c.args.name.now c.fields_in.ensures c.are_apart.result c.are_apart.ensures
