use Rattle.std.proofs.Common.{refl}
use Rattle.go_rules.specs.Expressions.{OfFields, fields_none}
use Rattle.go_rules.specs.Nodes.{field_parts, fields_parts}
use Rattle.go_syntax.specs.declared.types.FieldDecl.{out-FieldDecl}
use Rattle.go_type_terms.specs.Answers.{env_in}
use Rattle.go_type_terms.specs.Members.{OfField}
use Rattle.go_type_terms.proofs.Fields.{first_fields, joined_fields, later_fields}
use Rattle.go_type_terms.proofs.Gone.{gone_begins, gone_ends, gone_none, gone_on}
use Rattle.go_type_terms.proofs.Handed.{handed}
use Rattle.go_type_terms.proofs.LoudTrees.{none_loud}
use Rattle.go_type_terms.proofs.typing.Typing.fields.Goals as goal

pub loop-decl-init : goal.loop-decl-init
loop-decl-init g c = let E = env_in c.args.self.now.context.now in gone_begins E fields_parts (OfFields E) c.args.decls.now c.new-fields.result c.new-fields.ensures

pub loop-decl-preserved : goal.loop-decl-preserved
loop-decl-preserved g c =
    let E = env_in c.args.self.now.context.now in
    let d = c.decl-item.result in
    gone_on E fields_parts (OfFields E) c.args.decls.now c.loop-decl.decl-index d c.loop-decl.fields c.in_ok-more.more c.push_all.new.items c.loop-decl.loud c.in_ok-more.louder c.either-loud.result (field_parts (out-FieldDecl d)) c.loop-decl-test.true c.decl-item.is c.in_ok-push_all.ensures c.either-loud.ensures
    (λ rest. refl) c.in_ok-more.ensures.1 (λ rest more h. joined_fields d rest c.in_ok-more.more more c.in_ok-more.ensures.0 h) (λ rest all h. later_fields d rest all h) c.loop-decl.invariant

pub returns-in_err-more : goal.returns-in_err-more
returns-in_err-more g c =
    let E = env_in c.args.self.now.context.now in
    let d = c.decl-item.result in
    handed E (OfField E (out-FieldDecl d)) (OfFields E c.args.decls.now) (field_parts (out-FieldDecl d)) (fields_parts c.args.decls.now) c.in_err-more.field-0.0 c.from_residual.result c.from_residual.ensures.1 c.in_err-more.ensures
    (gone_none E fields_parts (OfFields E) c.args.decls.now c.loop-decl.decl-index d c.loop-decl.fields c.loop-decl.loud (OfField E (out-FieldDecl d)) c.loop-decl-test.true c.decl-item.is (λ rest all h. first_fields d rest all h) c.loop-decl.invariant)

pub returns : goal.returns
returns g c = let E = env_in c.args.self.now.context.now in gone_ends E fields_parts (OfFields E) c.args.decls.now c.loop-decl.decl-index c.loop-decl.fields c.loop-decl.loud c.loop-decl-test.false fields_none (none_loud E) c.loop-decl.invariant
