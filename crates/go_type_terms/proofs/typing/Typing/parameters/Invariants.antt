use Rattle.std.proofs.Common.{drop}
use Rattle.go_type_terms.specs.Answers.{env_in}
use Rattle.go_type_terms.proofs.Passed.{Passed}
use Rattle.go_type_terms.proofs.typing.Typing.parameters.Given as goal

abbrev pub invariant-loop-decl : goal.invariant-loop-decl
invariant-loop-decl g l = Passed (env_in l.self.context.now) l.decls (drop l.decl-index l.decls) l.terms l.variadic l.loud
