use Rattle.go_rules.specs.Scopes.{env_of}
use Rattle.go_calls.specs.Builtins.{Appends}
use Rattle.std.proofs.Common.{◌∷◌}
use Rattle.go_elements.proofs.go_operators_proofs.Answers.{same_answer}
use Rattle.go_calls.proofs.Appending.{append_no_type, append_no_slice, append_gives}
use Rattle.go_calls.proofs.append.append_to.Goals as goal

pub returns-in-None : goal.returns-in-None
returns-in-None c = append_no_type (env_of c.args.context.now.env.now) c.args.operand.now c.args.operands.now c.args.dots c.in-None.ensures

pub returns-in-None-slice_under : goal.returns-in-None-slice_under
returns-in-None-slice_under c = append_no_slice (env_of c.args.context.now.env.now) c.args.operand.now c.args.operands.now c.args.dots _ c.in-Some.ensures c.in-None-slice_under.ensures

pub returns : goal.returns
returns c = same_answer (Appends (env_of c.args.context.now.env.now) (c.args.operand.now ∷ c.args.operands.now) c.args.dots) _ _ c.in_ok-answer.ensures (append_gives (env_of c.args.context.now.env.now) c.args.operand.now c.args.operands.now c.args.dots _ _ c.in_ok-may.may c.in-Some.ensures c.in-Some-slice_under.ensures c.in_ok-may.ensures)
