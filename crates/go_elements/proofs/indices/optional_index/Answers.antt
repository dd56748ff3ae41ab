use Rattle.std.proofs.Common.{ap}
use Rattle.go_base.specs.Keys.{item_of}
use Rattle.go_rules.specs.Scopes.{env_of}
use Rattle.go_elements.proofs.IndexValues.{optional_given, optional_left_out}
use Rattle.go_elements.proofs.indices.optional_index.Goals as goal

pub returns-in-Some : goal.returns-in-Some
returns-in-Some c = optional_given (env_of c.args.context.now.env.now) (item_of c.args.operand) _ c.index_of.result (ap item_of c.in-Some.is) c.index_of.ensures

pub returns-in-None : goal.returns-in-None
returns-in-None c = optional_left_out (env_of c.args.context.now.env.now) (item_of c.args.operand) (ap item_of c.in-None.is)
