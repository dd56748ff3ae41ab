use Rattle.go_rules.specs.Scopes.{env_of}
use Rattle.go_calls.specs.Builtins.{Copies}
use Rattle.go_elements.proofs.go_operators_proofs.Answers.{same_answer}
use Rattle.go_calls.proofs.Appending.{copy_no_type, copy_no_slice, copy_gives}
use Rattle.go_calls.proofs.append.copy.Goals as goal

pub returns-in-None : goal.returns-in-None
returns-in-None c = copy_no_type (env_of c.args.context.now.env.now) c.args.to.now c.args.from.now c.in-None.ensures

pub returns-in-None-slice_under : goal.returns-in-None-slice_under
returns-in-None-slice_under c = copy_no_slice (env_of c.args.context.now.env.now) c.args.to.now c.args.from.now _ c.in-Some.ensures c.in-None-slice_under.ensures

pub returns-in-Some-slice_under : goal.returns-in-Some-slice_under
returns-in-Some-slice_under c = same_answer (Copies (env_of c.args.context.now.env.now) c.args.to.now c.args.from.now) _ _ c.int_where.ensures (copy_gives (env_of c.args.context.now.env.now) c.args.to.now c.args.from.now _ _ c.may_copy.result c.in-Some.ensures c.in-Some-slice_under.ensures c.may_copy.ensures)
