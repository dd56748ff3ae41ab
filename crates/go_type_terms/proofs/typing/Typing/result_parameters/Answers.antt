use Rattle.std.proofs.Common.{Bool, false, subst}
use Rattle.go_rules.specs.Expressions.{OfParameters}
use Rattle.go_rules.specs.Nodes.{parameter_parts}
use Rattle.go_type_terms.specs.Answers.{env_in}
use Rattle.go_type_terms.specs.declared.signatures.Parameters.{Parameters}
use Rattle.go_type_terms.proofs.Handed.{handed}
use Rattle.go_type_terms.proofs.Parameters.{not_results}
use Rattle.go_type_terms.proofs.typing.Typing.result_parameters.Goals as goal

pub returns-in_err-parameters : goal.returns-in_err-parameters
returns-in_err-parameters g c =
    let E = env_in c.args.self.now.context.now in
    let ds = c.args.decls.now in
    handed E (λ (p : Parameters). OfParameters E ds p.terms p.variadic) (λ us. OfParameters E ds us false) (parameter_parts ds) (parameter_parts ds) c.in_err-parameters.field-0.0 c.from_residual.result c.from_residual.ensures.1 c.in_err-parameters.ensures (λ us h. (record { terms = us; variadic = false }, h))

pub returns-then-parameters : goal.returns-then-parameters
returns-then-parameters g c = not_results c.args.decls.now c.in_ok-parameters.parameters.terms c.in_ok-parameters.parameters.variadic c.in_ok-parameters.ensures.0 c.if-parameters.true

pub returns : goal.returns
returns g c = (subst (λ (v : Bool). OfParameters (env_in c.args.self.now.context.now) c.args.decls.now c.in_ok-parameters.parameters.terms v) c.if-parameters.false c.in_ok-parameters.ensures.0, c.in_ok-parameters.ensures.1)
