use Rattle.std.proofs.Common.{[], ◌∷◌}
use Rattle.go_rules.specs.Expressions.{OfType}
use Rattle.go_rules.specs.Nodes.{type as type_node}
use Rattle.go_syntax.specs.declared.types.ParameterDecl.{out-ParameterDecl}
use Rattle.go_type_terms.specs.Answers.{env_in}
use Rattle.go_type_terms.specs.inner.Parameters.{GivesTerms, OfParameter}
use Rattle.go_type_terms.proofs.Handed.{handed, handed_told}
use Rattle.go_type_terms.proofs.Passed.{in_parameter}
use Rattle.go_type_terms.proofs.typing.Typing.parameter.Goals as goal

pub returns-in_err-term : goal.returns-in_err-term
returns-in_err-term g c =
    let E = env_in c.args.self.now.context.now in
    let d = out-ParameterDecl c.args.decl.now in
    handed E (OfType E d.type_) (OfParameter E c.args.decl.now) (type_node d.type_ ∷ []) (type_node d.type_ ∷ []) c.in_err-term.field-0.0 c.from_residual.result c.from_residual.ensures.1 c.in_err-term.ensures (λ us o. (o.0, o.1))

pub returns-in_err-terms : goal.returns-in_err-terms
returns-in_err-terms g c =
    let E = env_in c.args.self.now.context.now in
    let d = out-ParameterDecl c.args.decl.now in
    handed_told E (GivesTerms d.variadic d.names c.in_ok-term.term) (OfParameter E c.args.decl.now) (type_node d.type_ ∷ []) c.in_err-terms.field-0.0 c.from_residual-in_err-terms.result c.from_residual-in_err-terms.ensures.1 c.in_err-terms.ensures (λ us o. (us, in_parameter E c.args.decl.now c.in_ok-term.term c.in_ok-term.ensures.0 us o))

pub returns : goal.returns
returns g c = ((c.in_ok-term.term, c.in_ok-term.ensures.0, c.in_ok-terms.ensures), c.in_ok-term.ensures.1)
