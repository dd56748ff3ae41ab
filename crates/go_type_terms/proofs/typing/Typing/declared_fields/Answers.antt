use Rattle.std.proofs.Common.{List, [], ap, ◌∙◌, sym}
use Rattle.go_syntax.specs.declared.name.Name.{Name}
use Rattle.go_syntax.specs.declared.types.FieldDecl.{FieldDecl-F, out-FieldDecl}
use Rattle.go_syntax.specs.declared.types.FieldDecl.TheVariants.{outs-Embedded, outs-Named}
use Rattle.go_type_terms.specs.Answers.{env_in}
use Rattle.go_type_terms.specs.Members.{OfField}
use Rattle.go_type_terms.proofs.Fields.{by_field}
use Rattle.go_type_terms.proofs.Handed.{handed_told}
use Rattle.go_type_terms.proofs.typing.Typing.declared_fields.Goals as goal

pub returns-in-Named : goal.returns-in-Named
returns-in-Named g c =
    let E = env_in c.args.self.now.context.now in
    let t = c.in-Named.form in
    let tag = c.in-Named.tag in
    by_field E (out-FieldDecl c.args.decl.now) (FieldDecl-F.«FieldDecl::Named» c.items.result.now t tag) c.named_fields.result
    (ap out-FieldDecl c.in-Named.is ∙ outs-Named c.in-Named.names t tag ∙ ap (λ (ns : List Name). FieldDecl-F.«FieldDecl::Named» ns t tag) (sym c.items.ensures)) c.named_fields.ensures

pub returns-in_err-fields-in-Embedded : goal.returns-in_err-fields-in-Embedded
returns-in_err-fields-in-Embedded g c =
    let E = env_in c.args.self.now.context.now in
    let star = c.in-Embedded.star in
    let q = c.in-Embedded.name in
    let tag = c.in-Embedded.tag in
    let form = OfField E (FieldDecl-F.«FieldDecl::Embedded» star q tag) in
    by_field E (out-FieldDecl c.args.decl.now) (FieldDecl-F.«FieldDecl::Embedded» star q tag) c.from_residual.result (ap out-FieldDecl c.in-Embedded.is ∙ outs-Embedded star q tag)
    (handed_told E form form [] c.in_err-fields-in-Embedded.field-0.0 c.from_residual.result c.from_residual.ensures.1 c.in_err-fields-in-Embedded.ensures (λ fs o. (fs, o)))
