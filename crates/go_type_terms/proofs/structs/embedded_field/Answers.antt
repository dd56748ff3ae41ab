use Rattle.go_rules.specs.Expressions.{IsTypeName}
use Rattle.go_syntax.specs.declared.types.FieldDecl.{FieldDecl-F}
use Rattle.go_type_terms.specs.Answers.{env_in}
use Rattle.go_type_terms.specs.Members.{OfField}
use Rattle.go_type_terms.proofs.Handed.{told_told}
use Rattle.go_type_terms.proofs.structs.embedded_field.Goals as goal

pub returns-in_err-term : goal.returns-in_err-term
returns-in_err-term c =
    let E = env_in c.args.context.now in
    told_told (IsTypeName E c.args.name.now) (OfField E (FieldDecl-F.«FieldDecl::Embedded» c.args.star c.args.name.now c.args.tag.now)) c.in_err-term.field-0.0 c.from_residual.result c.from_residual.ensures.1 c.in_err-term.ensures (λ fs o. (o.0, o.1))

pub returns : goal.returns
returns c = (c.in_ok-term.term, c.in_ok-term.ensures, c.in_ok-fields.ensures)
