use Rattle.go_rules.specs.Scopes.{env_of}
use Rattle.go_usability.proofs.Finds.{implements_decides}
use Rattle.go_usability.proofs.implementing.implements.Goals as goal

pub returns-in_ok-answer-in-Interface : goal.returns-in_ok-answer-in-Interface
returns-in_ok-answer-in-Interface c = implements_decides (env_of c.args.context.now.env.now) c.args.term.now c.args.interface.now c.under.result.now _ c.items.result.now c.in_ok-answer-in-Interface.answer c.under.ensures c.in-Interface.is c.items.ensures c.in_ok-answer-in-Interface.ensures
