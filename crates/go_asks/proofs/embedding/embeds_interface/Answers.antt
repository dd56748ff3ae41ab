use Rattle.go_type_terms.specs.Answers.{env_in}
use Rattle.go_asks.proofs.EmbeddedTypes.{none_told, interface_decided, interface_unnamed}
use Rattle.go_asks.specs.inner.Embedding.{NameDenotes}
use Rattle.go_asks.proofs.embedding.embeds_interface.Goals as goal

pub returns-in-Ok : goal.returns-in-Ok
returns-in-Ok c = interface_decided (env_in c.args.context.now) c.args.name.now c.in-Ok.operand c.in-Ok.ensures c.is_interface_type.result c.is_interface_type.ensures

pub returns-in-Err-Untyped : goal.returns-in-Err-Untyped
returns-in-Err-Untyped c = interface_unnamed (env_in c.args.context.now) c.args.name.now (none_told (NameDenotes (env_in c.args.context.now) c.args.name.now) c.in-Err-Untyped.field-0 c.in-Err-Untyped.field-0-is c.in-Err-Untyped.ensures)
