use Rattle.go_rules.specs.Scopes.{env_of}
use Rattle.go_elements.proofs.Slicing.{slice_gives, slice_no_type}
use Rattle.go_elements.proofs.slices.sliced.Goals as goal

pub returns-in_ok-answer-in-Some : goal.returns-in_ok-answer-in-Some
returns-in_ok-answer-in-Some c = slice_gives (env_of c.args.context.now.env.now) c.args.simple c.args.operand.now _ _ c.in_ok-answer-in-Some.answer c.in-Some.ensures c.under-under.ensures c.in_ok-answer-in-Some.ensures

pub returns-in-None : goal.returns-in-None
returns-in-None c = slice_no_type (env_of c.args.context.now.env.now) c.args.simple c.args.operand.now c.slice_untyped.result c.in-None.ensures c.slice_untyped.ensures
