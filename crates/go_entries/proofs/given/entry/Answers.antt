use Rattle.std.proofs.Common.{ap}
use Rattle.go_declarations.specs.Forms.{form_of, spec_of}
use Rattle.go_type_terms.specs.Answers.{env_in}
use Rattle.go_entries.proofs.GivenEntries.{told_alias, told_constants, told_definition, told_function, told_method, told_variables}
use Rattle.go_entries.proofs.given.entry.Goals as goal

pub returns-in-Constants : goal.returns-in-Constants
returns-in-Constants c =
    told_constants (env_in c.args.context.now) c.args.qualified c.objects.result (form_of c.args.form.now) c.constants.result c.objects.ensures (spec_of c.in-Constants.spec) c.in-Constants.spec.place (ap form_of c.in-Constants.is) c.constants.ensures

pub returns-in-Variables : goal.returns-in-Variables
returns-in-Variables c =
    told_variables (env_in c.args.context.now) c.args.qualified c.objects-in-Variables.result (form_of c.args.form.now) c.variables.result c.objects-in-Variables.ensures c.in-Variables.spec.now (ap form_of c.in-Variables.is) c.variables.ensures

pub returns-in-Alias : goal.returns-in-Alias
returns-in-Alias c =
    told_alias (env_in c.args.context.now) c.args.qualified c.objects-in-Alias.result (form_of c.args.form.now) c.alias.result c.objects-in-Alias.ensures c.in-Alias.spec.now (ap form_of c.in-Alias.is) c.alias.ensures

pub returns-in-Definition : goal.returns-in-Definition
returns-in-Definition c =
    told_definition (env_in c.args.context.now) c.args.qualified c.underlying.result (form_of c.args.form.now) c.definition.result c.underlying.ensures c.in-Definition.spec.now (ap form_of c.in-Definition.is) c.definition.ensures

pub returns-in-Function : goal.returns-in-Function
returns-in-Function c =
    told_function (env_in c.args.context.now) c.args.qualified c.objects-in-Function.result (form_of c.args.form.now) c.function.result c.objects-in-Function.ensures c.in-Function.func.now (ap form_of c.in-Function.is) c.function.ensures

pub returns-in-Method : goal.returns-in-Method
returns-in-Method c =
    told_method (env_in c.args.context.now) c.args.qualified c.signed.result (form_of c.args.form.now) c.signature.result c.signed.ensures c.in-Method.field-0.now c.in-Method.func.now (ap form_of c.in-Method.is) c.signature.ensures
