use Rattle.std.proofs.Common.{true}
use Rattle.go_base.specs.Keys.{item_of}
use Rattle.go_rules.specs.Expressions.{Slices}
use Rattle.go_rules.specs.Scopes.{env_of}
use Rattle.go_operators.proofs.Answers.{found_some, found_none}
use Rattle.go_elements.proofs.Bounds.{simple_some, simple_none, simple_no_slice}
use Rattle.go_elements.proofs.Slicing.{Pair}
use Rattle.go_elements.proofs.slices.slice.Goals as goal

pub returns-then-two_ascend : goal.returns-then-two_ascend
returns-then-two_ascend c = simple_some (env_of c.args.context.now.env.now) c.args.operand.now (item_of c.args.low) (item_of c.args.high) _ _ _ _ (found_some (λ (p : Pair). Slices (env_of c.args.context.now.env.now) true c.args.operand.now p.0 p.1) _ _ c.in-Some-2.is c.in_ok-length.ensures) c.in-Some.ensures c.in-Some-optional_index.ensures c.if-two_ascend.ensures

pub returns-else-two_ascend : goal.returns-else-two_ascend
returns-else-two_ascend c = simple_none (env_of c.args.context.now.env.now) c.args.operand.now (item_of c.args.low) (item_of c.args.high) _ _ _ _ (found_some (λ (p : Pair). Slices (env_of c.args.context.now.env.now) true c.args.operand.now p.0 p.1) _ _ c.in-Some-2.is c.in_ok-length.ensures) c.in-Some.ensures c.in-Some-optional_index.ensures c.if-two_ascend.ensures

pub returns-in-None-2 : goal.returns-in-None-2
returns-in-None-2 c = simple_no_slice (env_of c.args.context.now.env.now) c.args.operand.now (item_of c.args.low) (item_of c.args.high) (found_none (λ (p : Pair). Slices (env_of c.args.context.now.env.now) true c.args.operand.now p.0 p.1) _ c.in-None-2.is c.in_ok-length.ensures)
