use Rattle.std.proofs.Common.{drop}
use Rattle.go_rules.specs.Expressions.{OfFields}
use Rattle.go_rules.specs.Nodes.{fields_parts}
use Rattle.go_type_terms.specs.Answers.{env_in}
use Rattle.go_type_terms.proofs.Gone.{Gone}
use Rattle.go_type_terms.proofs.typing.Typing.fields.Given as goal

abbrev pub invariant-loop-decl : goal.invariant-loop-decl
invariant-loop-decl g l = Gone (env_in l.self.context.now) fields_parts (OfFields (env_in l.self.context.now)) l.decls (drop l.decl-index l.decls) l.fields l.loud
