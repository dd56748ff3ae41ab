use Rattle.std.proofs.Common.{drop}
use Rattle.go_base.specs.Keys.{item_of}
use Rattle.go_type_terms.specs.Answers.{env_in}
use Rattle.go_entries.specs.inner.Constants.{IsConstant}
use Rattle.go_entries.proofs.Zipped.{Zipped}
use Rattle.go_entries.proofs.constants.each_constant.Given as goal

abbrev pub invariant-loop-value : goal.invariant-loop-value
invariant-loop-value l = Zipped (IsConstant (env_in l.context) (item_of l.given)) l.values (drop l.value-index l.values) l.constants
