use Rattle.go_rules.specs.Expressions.{OfType}
use Rattle.go_type_terms.specs.Answers.{env_in}
use Rattle.go_asks.proofs.EmbeddedTypes.{none_told}
use Rattle.go_asks.proofs.MapKeys.{key_decided, key_untyped}
use Rattle.go_asks.proofs.keys.key_compares.Goals as goal

pub returns-in_ok-answer-in-Ok : goal.returns-in_ok-answer-in-Ok
returns-in_ok-answer-in-Ok c = key_decided (env_in c.args.context.now) c.args.key.now c.in-Ok.term c.in-Ok.ensures c.in_ok-answer-in-Ok.answer c.in_ok-answer-in-Ok.ensures

pub returns-in-Err-Untyped : goal.returns-in-Err-Untyped
returns-in-Err-Untyped c = key_untyped (env_in c.args.context.now) c.args.key.now (none_told (OfType (env_in c.args.context.now) c.args.key.now) c.in-Err-Untyped.field-0 c.in-Err-Untyped.field-0-is c.in-Err-Untyped.ensures)
