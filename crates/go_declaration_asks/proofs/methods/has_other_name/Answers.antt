use Rattle.go_model.specs.declared.types.term.Field.{out-Field}
use Rattle.go_declaration_asks.proofs.Apart.{other_text}
use Rattle.go_declaration_asks.proofs.methods.has_other_name.Goals as goal

pub returns : goal.returns
returns c = other_text (out-Field c.args.field.now).sel.name c.args.name.now c.ne.result c.ne.ensures
