use Rattle.std.proofs.Common.{drop}
use Rattle.go_operations.specs.go_type_terms.Answers.{env_in}
use Rattle.go_literals.specs.Elements.{Takes}
use Rattle.go_literals.proofs.fields.takes.Given as goal

abbrev pub invariant-loop-field : goal.invariant-loop-field
invariant-loop-field l = Takes (env_in l.context) l.fields l.sel l.operand → Takes (env_in l.context) (drop l.field-index l.fields) l.sel l.operand
