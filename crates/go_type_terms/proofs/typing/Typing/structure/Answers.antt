use Rattle.go_rules.specs.Expressions.{OfFields, OfForm}
use Rattle.go_rules.specs.Nodes.{fields_parts}
use Rattle.go_syntax.specs.declared.types.«Type».{«Type-F» as Typ-F}
use Rattle.go_type_terms.specs.Answers.{env_in}
use Rattle.go_type_terms.proofs.Forms.{in_struct, to_struct}
use Rattle.go_type_terms.proofs.Handed.{handed}
use Rattle.go_type_terms.proofs.typing.Typing.structure.Goals as goal

pub returns-in_err-fields : goal.returns-in_err-fields
returns-in_err-fields g c =
    let E = env_in c.args.self.now.context.now in
    let ds = c.args.decls.now in
    handed E (OfFields E ds) (OfForm E (Typ-F.Struct ds)) (fields_parts ds) (fields_parts ds) c.in_err-fields.field-0.0 c.from_residual.result c.from_residual.ensures.1 c.in_err-fields.ensures (λ u h. in_struct h)

pub returns : goal.returns
returns g c = (to_struct c.in_ok-fields.fields c.in_ok-fields.ensures.0, c.in_ok-fields.ensures.1)
