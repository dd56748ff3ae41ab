use Rattle.std.proofs.Common.{Some, sym, ◌∙◌}
use Rattle.go_type_terms.specs.Answers.{env_in}
use Rattle.go_type_terms.proofs.Handed.{told_told}
use Rattle.go_typings.specs.DeclarationRules.{AreConstants}
use Rattle.go_entries.specs.inner.Constants.{IsTypeOfConstants}
use Rattle.go_entries.proofs.ConstantSpecs.{all_typed, no_values, some_values, type_first}
use Rattle.go_entries.proofs.constants.typed_constants.Goals as goal

pub returns-then-is_empty : goal.returns-then-is_empty
returns-then-is_empty c = no_values (env_in c.args.context.now) (Some c.args.form.now) c.args.values.now c.new.result (sym c.is_empty.ensures ∙ c.if-is_empty.true) c.new.ensures

pub returns-in_err-term : goal.returns-in_err-term
returns-in_err-term c =
    let E = env_in c.args.context.now in
    let t = c.args.form.now in
    let es = c.args.values.now in
    told_told (IsTypeOfConstants E t) (AreConstants E (Some t) es) c.in_err-term.field-0.0 c.from_residual.result c.from_residual.ensures.1 c.in_err-term.ensures
    (λ xs h. type_first E t es xs (some_values E es (sym c.is_empty.ensures ∙ c.if-is_empty.false)) h)

pub returns : goal.returns
returns c = all_typed (env_in c.args.context.now) c.args.values.now c.each_constant.result c.args.form.now c.in_ok-term.term c.in_ok-term.ensures c.each_constant.ensures
