use Rattle.std.proofs.Common.{arith}
use Rattle.go_nodes.proofs.EachItems.{each_done, each_next, each_not}
use Rattle.go_rules.specs.Asks.{FieldMeets}
use Rattle.go_syntax.specs.declared.types.FieldDecl.{FieldDecl, out-FieldDecl}
use Rattle.go_type_terms.specs.Answers.{env_in}
use Rattle.go_asks.proofs.members.fields_meet.Goals as goal

pub returns-then-not-branch : goal.returns-then-not-branch
returns-then-not-branch c = each_not (λ (x : FieldDecl). FieldMeets (env_in c.args.context.now) (out-FieldDecl x)) c.args.decls.now c.loop-decl.decl-index c.decl-item.result c.loop-decl-test.true c.decl-item.is c.loop-decl.invariant c.in_ok-field_meets.field-0 c.if-not-branch.true c.in_ok-field_meets.ensures

pub loop-decl-preserved : goal.loop-decl-preserved
loop-decl-preserved c = each_next (λ (x : FieldDecl). FieldMeets (env_in c.args.context.now) (out-FieldDecl x)) c.args.decls.now c.loop-decl.decl-index c.decl-item.result c.loop-decl-test.true c.decl-item.is c.loop-decl.invariant c.in_ok-field_meets.field-0 c.if-not-branch.false c.in_ok-field_meets.ensures

pub returns : goal.returns
returns c = each_done (λ (x : FieldDecl). FieldMeets (env_in c.args.context.now) (out-FieldDecl x)) c.args.decls.now c.loop-decl.decl-index (omega arith) c.loop-decl.invariant
