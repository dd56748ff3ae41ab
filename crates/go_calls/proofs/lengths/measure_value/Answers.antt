use Rattle.go_rules.specs.Scopes.{env_of}
use Rattle.std.proofs.Common.{sym}
use Rattle.go_calls.specs.inner.Lengths.{MeasuresValue}
use Rattle.go_elements.proofs.go_operators_proofs.Answers.{same_answer}
use Rattle.go_calls.proofs.Measuring.{value_of_constant, value_gives}
use Rattle.go_calls.proofs.lengths.measure_value.Goals as goal

pub returns-then-is_constant : goal.returns-then-is_constant
returns-then-is_constant c = value_of_constant (env_of c.args.context.now.env.now) c.args.function c.args.operand.now.mode c.args.term.now (sym c.if-is_constant.ensures)

pub returns : goal.returns
returns c = same_answer (MeasuresValue (env_of c.args.context.now.env.now) c.args.function c.args.operand.now.mode c.args.term.now) _ _ c.int_where.ensures (value_gives (env_of c.args.context.now.env.now) c.args.function c.args.operand.now.mode c.args.term.now _ c.measures.result (sym c.if-is_constant.ensures) c.under.ensures c.measures.ensures)
