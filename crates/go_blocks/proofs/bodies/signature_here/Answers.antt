use Rattle.go_rules.specs.Expressions.{OfSignature}
use Rattle.go_syntax.specs.declared.types.Signature.{out-Signature}
use Rattle.go_switch_statements.proofs.go_walks_proofs.Told.{asked_found}
use Rattle.go_blocks.proofs.bodies.signature_here.Goals as goal

pub returns : goal.returns
returns c = asked_found (λ F. OfSignature F (out-Signature c.args.signature.now).parameters (out-Signature c.args.signature.now).result) c.new-context.result.env.now c.args.env.now c.new-context.ensures c.signature_of.result c.found.result c.found.ensures c.signature_of.ensures
