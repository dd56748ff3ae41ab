use Rattle.std.proofs.Common.{drop}
use Rattle.go_nodes.proofs.EachItems.{EachFrom}
use Rattle.go_rules.specs.Asks.{FieldMeets}
use Rattle.go_syntax.specs.declared.types.FieldDecl.{FieldDecl, out-FieldDecl}
use Rattle.go_type_terms.specs.Answers.{env_in}
use Rattle.go_asks.proofs.members.fields_meet.Given as goal

abbrev pub invariant-loop-decl : goal.invariant-loop-decl
invariant-loop-decl l = EachFrom (λ (x : FieldDecl). FieldMeets (env_in l.context) (out-FieldDecl x)) (drop l.decl-index l.decls) l.decls
