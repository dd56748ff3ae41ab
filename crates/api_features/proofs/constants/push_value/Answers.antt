use Rattle.std.proofs.Common.{rules, sym, ap, ◌∙◌, subst, FitsSigned, to_z-of_z}
use Rattle.std.specs.Fmt.{signed_decimal}
use Rattle.std.specs.Int.{w128}
use Rattle.go_model.specs.declared.constants.value.Value.{Value}
use Rattle.go_model.specs.declared.constants.value.Value.TheVariants as value
use Rattle.api_features.specs.ConstantTexts.{AppendsValue}
use Rattle.api_features.proofs.QuotedPieces.{number_appended, string_appended, truth_appended}
use Rattle.api_features.proofs.constants.push_value.Goals as goal

pub returns-in_ok-extend_from_slice-in-Int : goal.returns-in_ok-extend_from_slice-in-Int
returns-in_ok-extend_from_slice-in-Int c =
    let fits : FitsSigned w128 c.in-Int.number = search rules in
    number_appended c.args.value.now c.in-Int.number c.as_bytes.result.now c.args.out.now.items c.extend_from_slice.new.self.items c.in-Int.is (c.as_bytes.ensures.value ∙ c.format.ensures.text ∙ ap signed_decimal (to_z-of_z fits)) c.in_ok-extend_from_slice-in-Int.ensures.items

pub returns-in_ok-extend_from_slice-in-Truth : goal.returns-in_ok-extend_from_slice-in-Truth
returns-in_ok-extend_from_slice-in-Truth c =
    truth_appended c.args.value.now c.in-Truth.truth c.truth_text.result.now c.args.out.now.items c.extend_from_slice-in-Truth.new.self.items c.in-Truth.is c.truth_text.ensures c.in_ok-extend_from_slice-in-Truth.ensures.items

pub returns-in_ok-push-in-Str-2 : goal.returns-in_ok-push-in-Str-2
returns-in_ok-push-in-Str-2 c =
    subst (λ (v : Value). AppendsValue v c.args.out.now.items c.push-in-Str.new.self.items) (sym (c.in-Str.is ∙ ap value.Str (sym c.bytes.ensures)))
    (string_appended c.bytes.result.now c.args.out.now.items c.push.new.self.items c.push_quoted.new.out.items c.push-in-Str.new.self.items c.in_ok-push-in-Str.ensures.items c.in_ok-push_quoted-in-Str.ensures c.in_ok-push-in-Str-2.ensures.items)
