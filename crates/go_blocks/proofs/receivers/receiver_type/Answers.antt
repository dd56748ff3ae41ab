use Rattle.go_rules.specs.Expressions.{OfType}
use Rattle.go_syntax.specs.declared.types.ParameterDecl.{out-ParameterDecl}
use Rattle.go_switch_statements.proofs.go_walks_proofs.Told.{asked_found}
use Rattle.go_blocks.proofs.receivers.receiver_type.Goals as goal

pub returns : goal.returns
returns c = asked_found (λ F. OfType F (out-ParameterDecl c.args.decl.now).type_) c.new-context.result.env.now c.args.env.now c.new-context.ensures c.type_of.result c.found.result c.found.ensures c.type_of.ensures
