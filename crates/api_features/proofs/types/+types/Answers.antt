use Rattle.std.proofs.Common.{◌≡◌, ◌+◌, ◌-◌, ℕ, Bool, List, ◌++◌, length, map, ap, ◌∙◌, arith, codes}
use Rattle.api_features.specs.TypeTexts.{as_parameter, commas, parameter_texts, result_text, shown_type, type_text}
use Rattle.api_features.proofs.TypeParts.{four_pieces, interface_is, parameters_next, signature_is}
use Rattle.api_features.proofs.types.+types.Goals as goal

pub push_parameters-loop-term-preserved : goal.push_parameters-loop-term-preserved
push_parameters-loop-term-preserved t c =
    let long : c.loop-term.left - 1 + (c.loop-term.term-index + 1) ≡ length c.args.terms.now = omega (arith, c.loop-term.invariant.left) in
    record {
      left = long;
      so_far = parameters_next c.args.world.now.packages c.args.path.now c.args.terms.now c.args.variadic c.loop-term.term-index (c.loop-term.left - 1) c.term-item.result c.loop-term.separator.now
          (as_parameter c.is_last_of.result (shown_type c.args.world.now.packages c.args.path.now c.term-item.result)) c.loop-term.out.items c.extend_from_slice.new.self.items c.push_parameter.new.out.items
          (c.args.out.now.items ++ commas (parameter_texts (map (shown_type c.args.world.now.packages c.args.path.now) c.args.terms.now) c.args.variadic)) c.loop-term-test.true c.term-item.is long
          (ap (λ (b : Bool). as_parameter b (shown_type c.args.world.now.packages c.args.path.now c.term-item.result)) c.is_last_of.ensures) c.in_ok-extend_from_slice.ensures.items c.in_ok-push_parameter.ensures c.loop-term.invariant.so_far;
    }

pub push_signature-returns : goal.push_signature-returns
push_signature-returns t c =
    four_pieces (codes "(") (commas (parameter_texts (map (shown_type c.args.world.now.packages c.args.path.now) c.items.result.now) c.args.signature.now.variadic)) (codes ")") (result_text (map (type_text c.args.world.now.packages c.args.path.now) c.items-2.result.now))
    c.args.out.now.items c.push.new.self.items c.push_parameters.new.out.items c.push-2.new.self.items c.push_results.new.out.items c.in_ok-push.ensures.items c.in_ok-push_parameters.ensures c.in_ok-push-2.ensures.items c.in_ok-push_results.ensures
    ∙ ap (λ (w : List ℕ). c.args.out.now.items ++ w) (signature_is c.args.world.now.packages c.args.path.now c.args.signature.now c.items.result.now c.items-2.result.now c.items.ensures c.items-2.ensures)

pub push_type-returns-in_ok-push_interface-in-Interface : goal.push_type-returns-in_ok-push_interface-in-Interface
push_type-returns-in_ok-push_interface-in-Interface t c =
    c.in_ok-push_interface-in-Interface.ensures ∙ ap (λ (w : List ℕ). c.args.out.now.items ++ w) (interface_is c.args.world.now.packages c.args.path.now c.args.term.now c.in-Interface.methods c.items.result.now c.in-Interface.is c.items.ensures)
