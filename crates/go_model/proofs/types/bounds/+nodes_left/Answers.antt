use Rattle.std.proofs.Common.{None, Some, map, sum, refl, subst, sym}
use Rattle.go_model.specs.types.Bounds.{above, height, height_of_field, height_of_method, height_of_signature, Leaves, nodes, nodes_of_field, nodes_of_method, nodes_of_signature}
use Rattle.go_model.proofs.Sizes.{counted_more, counted_none, counted_all, field_as, signature_both, signature_none}
use Rattle.go_model.proofs.types.bounds.+nodes_left.Goals as goal

pub left_by_terms-returns-in_err-left : goal.left_by_terms-returns-in_err-left
left_by_terms-returns-in_err-left t c = subst (Leaves c.args.room c.args.limit (sum (map nodes c.args.terms.now)) (above (map height c.args.terms.now))) (sym c.from_residual.ensures) (counted_none nodes height c.args.terms.now c.args.room c.args.limit c.loop-term.left c.loop-term.term-index c.term-item.result c.loop-term-test.true c.term-item.is c.in_err-left.ensures c.loop-term.invariant)

pub left_by_terms-loop-term-preserved : goal.left_by_terms-loop-term-preserved
left_by_terms-loop-term-preserved t c = counted_more nodes height c.args.terms.now c.args.room c.args.limit c.loop-term.left c.loop-term.term-index c.term-item.result c.loop-term-test.true c.term-item.is c.in_ok-left.left c.in_ok-left.ensures c.loop-term.invariant

pub left_by_terms-returns : goal.left_by_terms-returns
left_by_terms-returns t c = counted_all nodes height c.args.terms.now c.args.room c.args.limit c.loop-term.left c.loop-term.term-index c.loop-term-test.false c.loop-term.invariant

pub left_by_fields-returns-in_err-left : goal.left_by_fields-returns-in_err-left
left_by_fields-returns-in_err-left t c = subst (Leaves c.args.room c.args.limit (sum (map nodes_of_field c.args.fields.now)) (above (map height_of_field c.args.fields.now))) (sym c.from_residual.ensures) (counted_none nodes_of_field height_of_field c.args.fields.now c.args.room c.args.limit c.loop-field.left c.loop-field.field-index c.field-item.result c.loop-field-test.true c.field-item.is (field_as c.field-item.result c.loop-field.left c.args.limit None c.in_err-left.ensures) c.loop-field.invariant)

pub left_by_fields-loop-field-preserved : goal.left_by_fields-loop-field-preserved
left_by_fields-loop-field-preserved t c = counted_more nodes_of_field height_of_field c.args.fields.now c.args.room c.args.limit c.loop-field.left c.loop-field.field-index c.field-item.result c.loop-field-test.true c.field-item.is c.in_ok-left.left (field_as c.field-item.result c.loop-field.left c.args.limit (Some c.in_ok-left.left) c.in_ok-left.ensures) c.loop-field.invariant

pub left_by_fields-returns : goal.left_by_fields-returns
left_by_fields-returns t c = counted_all nodes_of_field height_of_field c.args.fields.now c.args.room c.args.limit c.loop-field.left c.loop-field.field-index c.loop-field-test.false c.loop-field.invariant

pub left_by_methods-returns-in_err-left : goal.left_by_methods-returns-in_err-left
left_by_methods-returns-in_err-left t c = subst (Leaves c.args.room c.args.limit (sum (map nodes_of_method c.args.methods.now)) (above (map height_of_method c.args.methods.now))) (sym c.from_residual.ensures) (counted_none nodes_of_method height_of_method c.args.methods.now c.args.room c.args.limit c.loop-method.left c.loop-method.method-index c.method-item.result c.loop-method-test.true c.method-item.is c.in_err-left.ensures c.loop-method.invariant)

pub left_by_methods-loop-method-preserved : goal.left_by_methods-loop-method-preserved
left_by_methods-loop-method-preserved t c = counted_more nodes_of_method height_of_method c.args.methods.now c.args.room c.args.limit c.loop-method.left c.loop-method.method-index c.method-item.result c.loop-method-test.true c.method-item.is c.in_ok-left.left c.in_ok-left.ensures c.loop-method.invariant

pub left_by_methods-returns : goal.left_by_methods-returns
left_by_methods-returns t c = counted_all nodes_of_method height_of_method c.args.methods.now c.args.room c.args.limit c.loop-method.left c.loop-method.method-index c.loop-method-test.false c.loop-method.invariant

pub left_by_signature-returns-in_err-left-2 : goal.left_by_signature-returns-in_err-left-2
left_by_signature-returns-in_err-left-2 t c = subst (Leaves c.args.room c.args.limit (nodes_of_signature c.args.signature.now) (height_of_signature c.args.signature.now)) (sym c.from_residual-in_err-left-2.ensures) (signature_none c.args.signature.now c.items.result.now _ c.items.ensures refl c.args.room c.in_ok-left.left c.args.limit c.in_ok-left.ensures.some c.in_err-left-2.ensures)

pub left_by_signature-returns : goal.left_by_signature-returns
left_by_signature-returns t c = signature_both c.args.signature.now c.items.result.now c.items-2.result.now c.items.ensures c.items-2.ensures c.args.room c.in_ok-left.left c.args.limit c.in_ok-left.ensures.some c.in_ok-left-2.left c.left_by_terms-2.result c.in_ok-left-2.ensures c.left_by_terms-2.ensures
