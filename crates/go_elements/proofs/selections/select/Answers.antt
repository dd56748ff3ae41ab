use Rattle.std.proofs.Common.{sym}
use Rattle.go_rules.specs.Scopes.{env_of}
use Rattle.go_elements.proofs.Selecting.{select_type, select_value, select_nothing}
use Rattle.go_elements.proofs.selections.select.Goals as goal

pub returns-in-Some : goal.returns-in-Some
returns-in-Some c = select_type (env_of c.args.context.now.env.now) c.args.name.now c.args.operand.now _ c.in_ok-sel.sel c.in_ok-function.function (sym c.if-is_blank.ensures) c.in-Some.ensures c.in_ok-sel.ensures c.in_ok-function.ensures

pub returns-in-Some-type_of : goal.returns-in-Some-type_of
returns-in-Some-type_of c = select_value (env_of c.args.context.now.env.now) c.args.name.now c.args.operand.now _ c.in_ok-sel.sel c.is_variable.result c.in_ok-answer-in-Some-type_of.answer (sym c.if-is_blank.ensures) c.in-Some-type_of.ensures c.in_ok-sel.ensures c.is_variable.ensures c.in_ok-answer-in-Some-type_of.ensures

pub returns : goal.returns
returns c = select_nothing (env_of c.args.context.now.env.now) c.args.name.now c.args.operand.now c.in_default.ensures c.in-None.ensures
