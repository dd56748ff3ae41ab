use Rattle.go_rules.specs.Scopes.{env_of}
use Rattle.go_elements.proofs.Indexing.{base_gives}
use Rattle.go_elements.proofs.elements.element_of_base.Goals as goal

pub returns-in_ok-answer-in-Array : goal.returns-in_ok-answer-in-Array
returns-in_ok-answer-in-Array c = base_gives (env_of c.args.context.now.env.now) c.args.index.now c.args.under.now _ _ _ c.in_ok-answer-in-Array.answer c.in-Array.is c.value.ensures c.in_ok-answer-in-Array.ensures
