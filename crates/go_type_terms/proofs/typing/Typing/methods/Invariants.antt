use Rattle.std.proofs.Common.{drop}
use Rattle.go_type_terms.specs.Answers.{env_in}
use Rattle.go_type_terms.proofs.InterfaceTypes.{Gathering}
use Rattle.go_type_terms.proofs.typing.Typing.methods.Given as goal

abbrev pub invariant-loop-element : goal.invariant-loop-element
invariant-loop-element g l = Gathering (env_in l.self.context.now) l.elements (drop l.element-index l.elements) l.embedded.keys l.noted.entries l.loud
