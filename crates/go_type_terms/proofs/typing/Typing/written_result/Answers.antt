use Rattle.std.proofs.Common.{ap, ◌∙◌, sym, false}
use Rattle.go_rules.specs.Expressions.{OfParameters, OfResult}
use Rattle.go_rules.specs.Nodes.{parameter_parts}
use Rattle.go_syntax.specs.declared.types.FuncResult.{FuncResult-F, out-FuncResult}
use Rattle.go_syntax.specs.declared.types.FuncResult.TheVariants.{outs-Parameters, outs-Type}
use Rattle.go_type_terms.specs.Answers.{env_in}
use Rattle.go_type_terms.proofs.Handed.{same_types}
use Rattle.go_type_terms.proofs.Parameters.{by_result, in_result, to_result}
use Rattle.go_type_terms.proofs.typing.Typing.written_result.Goals as goal

pub returns-in-Parameters : goal.returns-in-Parameters
returns-in-Parameters g c =
    let E = env_in c.args.self.now.context.now in
    let ds = c.items.result.now in
    by_result E (out-FuncResult c.args.written.now) (FuncResult-F.Parameters ds) c.result_parameters.result (ap out-FuncResult c.in-Parameters.is ∙ outs-Parameters c.in-Parameters.decls ∙ ap FuncResult-F.Parameters (sym c.items.ensures))
    (same_types E (λ us. OfParameters E ds us false) (OfResult E (FuncResult-F.Parameters ds)) (parameter_parts ds) c.result_parameters.result (λ us h. to_result h) (λ us h. in_result h) c.result_parameters.ensures)

pub returns-in-Type : goal.returns-in-Type
returns-in-Type g c =
    let E = env_in c.args.self.now.context.now in
    by_result E (out-FuncResult c.args.written.now) (FuncResult-F.«FuncResult::Type» c.in-Type.form) c.result_type.result (ap out-FuncResult c.in-Type.is ∙ outs-Type c.in-Type.form) c.result_type.ensures
