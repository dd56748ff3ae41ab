use Rattle.std.proofs.Common.{◌≡◌, ◌+◌, ◌-◌, ℕ, Bool, List, [], ◌++◌, length, map, sym, ap, ◌∙◌, arith, codes}
use Rattle.api_features.specs.TypeTexts.{as_parameter, commas, parameter_texts, result_text}
use Rattle.api_subjects.specs.TypeTexts.{shown_type, type_text}
use Rattle.api_subjects.specs.inner.Appended.{method_of, separated}
use Rattle.api_subjects.specs.inner.Quoting.{quoted}
use Rattle.api_features.proofs.TypeParts.{four_pieces, three_pieces}
use Rattle.api_subjects.proofs.TypeParts.{interface_some, parameters_next, signature_is}
use Rattle.api_subjects.proofs.types.+types.Goals as goal

pub push_interface-returns : goal.push_interface-returns
push_interface-returns t c =
    three_pieces (codes "interface{ ") (commas (map method_of c.args.methods.now)) (codes " }") c.args.out.now.items c.extend_from_slice-2.new.self.items c.push_methods.new.out.items c.extend_from_slice-3.new.self.items c.in_ok-extend_from_slice-2.ensures.items c.in_ok-push_methods.ensures c.in_ok-extend_from_slice-3.ensures.items
    ∙ ap (λ (w : List ℕ). c.args.out.now.items ++ w) (interface_some c.args.methods.now (sym c.is_empty.ensures ∙ c.if-is_empty.false))

pub push_parameters-loop-term-preserved : goal.push_parameters-loop-term-preserved
push_parameters-loop-term-preserved t c =
    let long : c.loop-term.left - 1 + (c.loop-term.term-index + 1) ≡ length c.args.terms.now = omega (arith, c.loop-term.invariant.left) in
    record {
      left = long;
      so_far = parameters_next c.args.terms.now c.args.variadic c.loop-term.term-index (c.loop-term.left - 1) c.term-item.result c.loop-term.separator.now
          (as_parameter c.is_last_of.result (shown_type quoted c.term-item.result)) c.loop-term.out.items c.extend_from_slice.new.self.items c.push_parameter.new.out.items
          (c.args.out.now.items ++ separated (codes ", ") [] (parameter_texts (map (shown_type quoted) c.args.terms.now) c.args.variadic)) c.loop-term-test.true c.term-item.is long
          (ap (λ (b : Bool). as_parameter b (shown_type quoted c.term-item.result)) c.is_last_of.ensures) c.in_ok-extend_from_slice.ensures.items c.in_ok-push_parameter.ensures c.loop-term.invariant.so_far;
    }

pub push_signature-returns : goal.push_signature-returns
push_signature-returns t c =
    four_pieces (codes "(") (commas (parameter_texts (map (shown_type quoted) c.items.result.now) c.args.signature.now.variadic)) (codes ")") (result_text (map (type_text quoted) c.items-2.result.now))
    c.args.out.now.items c.push.new.self.items c.push_parameters.new.out.items c.push-2.new.self.items c.push_results.new.out.items c.in_ok-push.ensures.items c.in_ok-push_parameters.ensures c.in_ok-push-2.ensures.items c.in_ok-push_results.ensures
    ∙ ap (λ (w : List ℕ). c.args.out.now.items ++ w) (signature_is c.args.signature.now c.items.result.now c.items-2.result.now c.items.ensures c.items-2.ensures)
