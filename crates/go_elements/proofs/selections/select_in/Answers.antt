use Rattle.go_rules.specs.Scopes.{env_of}
use Rattle.go_elements.proofs.Selecting.{field_some, method_gives}
use Rattle.go_elements.proofs.selections.select_in.Goals as goal

pub returns-in-Some : goal.returns-in-Some
returns-in-Some c = field_some (env_of c.args.context.now.env.now) c.args.sel.now c.args.addressable c.args.term.now _ c.in_ok-answer.answer _ c.in-Some.ensures c.in_ok-answer.ensures c.in_ok-value.ensures

pub returns : goal.returns
returns c = method_gives (env_of c.args.context.now.env.now) c.args.sel.now c.args.addressable c.args.term.now c.in_ok-answer.answer c.in_ok-method.method c.in_ok-answer.ensures c.in_default.ensures c.in_ok-method.ensures
