use Rattle.go_rules.specs.Scopes.{env_of}
use Rattle.go_rules.specs.Usability.{Compares, UsableAs}
use Rattle.go_operators.proofs.Answers.{decided_true, decided_false}
use Rattle.go_operators.proofs.Comparing.{types_no_left, types_no_right, types_decide, types_forth}
use Rattle.go_operators.proofs.comparisons.equates_types.Goals as goal

pub returns-then-not-left_compares : goal.returns-then-not-left_compares
returns-then-not-left_compares c = types_no_left (env_of c.args.context.now.env.now) c.args.left.now c.args.right.now c.args.term.now c.args.other.now c.requires.left c.requires.right (decided_false (Compares (env_of c.args.context.now.env.now) c.args.term.now) _ c.if-not-left_compares.true c.in_ok-left_compares.ensures)

pub returns-then-not-right_compares : goal.returns-then-not-right_compares
returns-then-not-right_compares c = types_no_right (env_of c.args.context.now.env.now) c.args.left.now c.args.right.now c.args.term.now c.args.other.now c.requires.left c.requires.right (decided_false (Compares (env_of c.args.context.now.env.now) c.args.other.now) _ c.if-not-right_compares.true c.in_ok-right_compares.ensures)

pub returns-then-forth : goal.returns-then-forth
returns-then-forth c = types_forth (env_of c.args.context.now.env.now) c.args.left.now c.args.right.now c.args.term.now c.args.other.now c.requires.left c.requires.right (decided_true (Compares (env_of c.args.context.now.env.now) c.args.term.now) _ c.if-not-left_compares.false c.in_ok-left_compares.ensures) (decided_true (Compares (env_of c.args.context.now.env.now) c.args.other.now) _ c.if-not-right_compares.false c.in_ok-right_compares.ensures) (decided_true (UsableAs (env_of c.args.context.now.env.now) c.args.left.now c.args.other.now) _ c.if-forth.true c.in_ok-forth.ensures)

pub returns : goal.returns
returns c = types_decide (env_of c.args.context.now.env.now) c.args.left.now c.args.right.now c.args.term.now c.args.other.now c.requires.left c.requires.right c.in_ok-back.back (decided_true (Compares (env_of c.args.context.now.env.now) c.args.term.now) _ c.if-not-left_compares.false c.in_ok-left_compares.ensures) (decided_true (Compares (env_of c.args.context.now.env.now) c.args.other.now) _ c.if-not-right_compares.false c.in_ok-right_compares.ensures) (decided_false (UsableAs (env_of c.args.context.now.env.now) c.args.left.now c.args.other.now) _ c.if-forth.false c.in_ok-forth.ensures) c.in_ok-back.ensures
