use Rattle.std.proofs.Common.{false}
use Rattle.go_base.specs.Keys.{item_of}
use Rattle.go_rules.specs.Expressions.{Slices}
use Rattle.go_rules.specs.Scopes.{env_of}
use Rattle.go_operators.proofs.Answers.{found_some, found_none}
use Rattle.go_elements.proofs.Bounds.{full_some, full_none, full_no_bound, full_no_slice}
use Rattle.go_elements.proofs.Slicing.{Pair}
use Rattle.go_elements.proofs.slices.full_slice.Goals as goal

pub returns-in-None-index_of-2 : goal.returns-in-None-index_of-2
returns-in-None-index_of-2 c = full_no_bound (env_of c.args.context.now.env.now) c.args.operand.now (item_of c.args.low) c.args.high.now c.args.bound.now c.in-None-index_of-2.ensures

pub returns-then-three_ascend : goal.returns-then-three_ascend
returns-then-three_ascend c = full_some (env_of c.args.context.now.env.now) c.args.operand.now (item_of c.args.low) c.args.high.now c.args.bound.now _ _ _ _ _ (found_some (λ (p : Pair). Slices (env_of c.args.context.now.env.now) false c.args.operand.now p.0 p.1) _ _ c.in-Some-2.is c.in_ok-length.ensures) c.in-Some.ensures c.in-Some-index_of.ensures c.in-Some-index_of-2.ensures c.if-three_ascend.ensures

pub returns-else-three_ascend : goal.returns-else-three_ascend
returns-else-three_ascend c = full_none (env_of c.args.context.now.env.now) c.args.operand.now (item_of c.args.low) c.args.high.now c.args.bound.now _ _ _ _ _ (found_some (λ (p : Pair). Slices (env_of c.args.context.now.env.now) false c.args.operand.now p.0 p.1) _ _ c.in-Some-2.is c.in_ok-length.ensures) c.in-Some.ensures c.in-Some-index_of.ensures c.in-Some-index_of-2.ensures c.if-three_ascend.ensures

pub returns-in-None-2 : goal.returns-in-None-2
returns-in-None-2 c = full_no_slice (env_of c.args.context.now.env.now) c.args.operand.now (item_of c.args.low) c.args.high.now c.args.bound.now (found_none (λ (p : Pair). Slices (env_of c.args.context.now.env.now) false c.args.operand.now p.0 p.1) _ c.in-None-2.is c.in_ok-length.ensures)
