use Rattle.go_rules.specs.Scopes.{env_of}
use Rattle.go_rules.specs.Operands.{constant_of}
use Rattle.go_operators.specs.Prefixes.{Changes}
use Rattle.go_operators.proofs.Answers.{same_answer, same_ok}
use Rattle.go_operators.proofs.Changing.{changed_constant}
use Rattle.go_operators.proofs.prefixes.change_constant.Goals as goal

pub returns : goal.returns
returns c = same_answer (Changes (env_of c.args.context.now.env.now) c.args.op (constant_of c.args.term.now c.args.value.now)) _ _ c.in_ok-answer.ensures (changed_constant (env_of c.args.context.now.env.now) c.args.op c.args.term.now c.args.value.now c.in-Some.kind c.bits.result c.in_ok-changed.changed c.in-Some.ensures c.bits.ensures.bits (same_ok c.in_ok-changed.ensures))
