use Rattle.go_rules.specs.Environments.{HasMethod}
use Rattle.go_rules.specs.Scopes.{env_of}
use Rattle.go_operators.proofs.Answers.{found_some, found_none}
use Rattle.go_elements.proofs.Selecting.{method_none, method_some}
use Rattle.go_elements.proofs.selections.select_method.Goals as goal

pub returns-in-Some : goal.returns-in-Some
returns-in-Some c = method_some (env_of c.args.context.now.env.now) c.args.sel.now c.args.addressable c.args.term.now _ _ (found_some (HasMethod (env_of c.args.context.now.env.now) c.args.addressable c.args.term.now c.args.sel.now) _ _ c.in-Some.is c.in_ok-signature.ensures) c.function_value.ensures

pub returns-in-None : goal.returns-in-None
returns-in-None c = method_none (env_of c.args.context.now.env.now) c.args.sel.now c.args.addressable c.args.term.now (found_none (HasMethod (env_of c.args.context.now.env.now) c.args.addressable c.args.term.now c.args.sel.now) _ c.in-None.is c.in_ok-signature.ensures)
