use Rattle.std.proofs.Common.{sym}
use Rattle.go_rules.specs.Scopes.{env_of}
use Rattle.go_rules.specs.Expressions.{Computes}
use Rattle.go_rules.specs.Usability.{Match}
use Rattle.go_operators.proofs.Answers.{same_answer, found_some}
use Rattle.go_operators.proofs.Computing.{compute_no_kind, computed_constants, computed_values}
use Rattle.go_operators.proofs.arithmetic.binary.Goals as goal

pub returns-in-None-kind_of : goal.returns-in-None-kind_of
returns-in-None-kind_of c = compute_no_kind (env_of c.args.context.now.env.now) c.args.op c.args.left.now c.args.right.now _ (found_some (Match (env_of c.args.context.now.env.now) c.args.left.now c.args.right.now) _ _ c.in-Some.is c.in_ok-term.ensures) c.in-None-kind_of.ensures

pub returns-then-are_constant : goal.returns-then-are_constant
returns-then-are_constant c = same_answer (Computes (env_of c.args.context.now.env.now) c.args.op c.args.left.now c.args.right.now) _ _ c.constant_with.ensures (computed_constants (env_of c.args.context.now.env.now) c.args.op c.args.left.now c.args.right.now _ c.in-Some-kind_of.kind c.bits.result c.in_ok-value.value (found_some (Match (env_of c.args.context.now.env.now) c.args.left.now c.args.right.now) _ _ c.in-Some.is c.in_ok-term.ensures) c.in-Some-kind_of.ensures c.bits.ensures.bits (sym c.if-are_constant.ensures) c.in_ok-value.ensures)

pub returns : goal.returns
returns c = same_answer (Computes (env_of c.args.context.now.env.now) c.args.op c.args.left.now c.args.right.now) _ _ c.in_ok-answer.ensures (computed_values (env_of c.args.context.now.env.now) c.args.op c.args.left.now c.args.right.now _ c.in-Some-kind_of.kind c.may_compute.result (found_some (Match (env_of c.args.context.now.env.now) c.args.left.now c.args.right.now) _ _ c.in-Some.is c.in_ok-term.ensures) c.in-Some-kind_of.ensures (sym c.if-are_constant.ensures) c.may_compute.ensures)
