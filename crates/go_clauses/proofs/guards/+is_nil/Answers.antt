use Rattle.std.proofs.Common.{ap, ◌∙◌}
use Rattle.go_syntax.specs.declared.types.«Type».{«out-Type» as out-Typ}
use Rattle.go_syntax.specs.declared.types.«Type».TheVariants.{outs-Named, outs-Paren}
use Rattle.go_type_terms.specs.Answers.{env_in}
use Rattle.go_clauses.proofs.Guarding.{named_decided, other_form, paren_decided}
use Rattle.go_clauses.proofs.guards.+is_nil.Goals as goal

pub returns-in-Named : goal.returns-in-Named
returns-in-Named t c = named_decided (env_in c.args.context.now) c.args.form.now c.in-Named.name c.is_nil_name.result (ap out-Typ c.in-Named.is ∙ outs-Named c.in-Named.name) c.is_nil_name.ensures

pub returns-in-Paren : goal.returns-in-Paren
returns-in-Paren t c =
    paren_decided (env_in c.args.context.now) c.args.form.now c.in-Paren.inner c.value.result.now c.is_nil.result (ap out-Typ c.in-Paren.is ∙ outs-Paren c.in-Paren.inner) c.value.ensures c.is_nil.ensures

pub returns-in_default : goal.returns-in_default
returns-in_default t c = other_form (env_in c.args.context.now) c.args.form.now c.in_default.not-Named c.in_default.not-Paren
