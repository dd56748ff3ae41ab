use Rattle.std.proofs.Common.{subst}
use Rattle.go_selectors.specs.Answers.{Decides}
use Rattle.go_model.specs.types.MethodSets.{method_sel}
use Rattle.api_correspond.specs.Publics.{IsExported}
use Rattle.api_correspond.proofs.Leading.{method_pushed}
use Rattle.api_correspond.proofs.members.push_method.Goals as goal

pub returns-in_ok-push_functions-in-Some : goal.returns-in_ok-push_functions-in-Some
returns-in_ok-push_functions-in-Some c = method_pushed c.args.callable.now c.args.method.now c.in-Some.after.now c.args.pairs.now.items c.push_functions.new.pairs.items (subst (λ b. Decides b (IsExported (method_sel c.args.method.now))) c.if-not-is_exported.false c.is_exported.ensures) c.in-Some.ensures c.in_ok-push_functions-in-Some.ensures
