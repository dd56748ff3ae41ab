use Rattle.go_calls.proofs.Rules.{call_arguments, call_of_rule, rule_of_call}
use Rattle.go_calls.proofs.laws.call_rule.Goals as goal

pub returns-clause-arguments : goal.returns-clause-arguments
returns-clause-arguments c = λ E l es dots o r k h. call_arguments E k h

pub returns-clause-calls : goal.returns-clause-calls
returns-clause-calls c = λ E l es os loud dots o r k a t h. call_of_rule E k a t h

pub returns-clause-rule : goal.returns-clause-rule
returns-clause-rule c = λ E l es os loud dots o r k a t h. rule_of_call E k a t h
