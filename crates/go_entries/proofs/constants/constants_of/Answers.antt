use Rattle.std.proofs.Common.{ap}
use Rattle.go_base.specs.Keys.{item_of}
use Rattle.go_type_terms.specs.Answers.{env_in}
use Rattle.go_entries.proofs.ConstantSpecs.{all_own}
use Rattle.go_entries.proofs.constants.constants_of.Goals as goal

pub returns-in-None : goal.returns-in-None
returns-in-None c = all_own (env_in c.args.context.now) c.args.values.now c.each_constant.result (item_of c.args.form) (ap item_of c.in-None.is) c.each_constant.ensures
