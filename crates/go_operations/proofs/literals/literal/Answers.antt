use Rattle.std.proofs.Common.{rules, ap, ◌∙◌, pos, FitsSigned, to_z-of_z}
use Rattle.std.specs.Int.{w128}
use Rattle.go_model.specs.declared.constants.value.Untyped.TheVariants as untyped
use Rattle.go_model.specs.declared.constants.value.Value.TheVariants as value
use Rattle.go_model.specs.declared.types.package.ConstTerm.TheVariants as constant
use Rattle.go_rules.specs.Operands.{constant_of}
use Rattle.go_operations.proofs.LiteralForms.{int_form, rune_form, text_form}
use Rattle.go_operations.proofs.literals.literal.Goals as goal

pub returns-in-Int : goal.returns-in-Int
returns-in-Int c =
    let fits : FitsSigned w128 c.in-Int.number = search rules in
    λ E. int_form E c.args.literal.now c.in-Int.number c.untyped.result c.in-Int.is (c.untyped.ensures ∙ ap (λ x. constant_of (constant.OfKind untyped.IntKind) (value.Int x)) (to_z-of_z fits))

pub returns-in-Rune : goal.returns-in-Rune
returns-in-Rune c =
    let fits : FitsSigned w128 c.from.result = search rules in
    λ E. rune_form E c.args.literal.now c.in-Rune.character c.untyped-in-Rune.result c.in-Rune.is (c.untyped-in-Rune.ensures ∙ ap (λ x. constant_of (constant.OfKind untyped.RuneKind) (value.Int x)) (to_z-of_z fits ∙ c.from.ensures))

pub returns-in-Str : goal.returns-in-Str
returns-in-Str c = λ E. text_form E c.args.literal.now c.in-Str.content c.in-Str.is c.text.result c.text.ensures
