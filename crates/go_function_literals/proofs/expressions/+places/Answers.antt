use Rattle.std.proofs.Common.{arith, ap, ◌∙◌, ◌++◌}
use Rattle.go_function_literals.specs.Places.{signature_places, type_places}
use Rattle.go_function_literals.proofs.Depths.{and_below, compare_below, or_below, primary_below, product_below, sum_below}
use Rattle.go_function_literals.proofs.Joins.{and_is, chain_added, compare_is, composite_added, composite_array_is, composite_is, func_added, func_is, or_is, primary_added, primary_is, product_is, sum_is}
use Rattle.go_function_literals.proofs.expressions.+places.Goals as goal

pub add_expr-add_exprs-requires : goal.add_expr-add_exprs-requires
add_expr-add_exprs-requires t c =
    (omega (arith, c.decreases, or_below c.args.expr.now c.in-Or.first c.in-Or.others c.items.result.now c.in-Or.is c.items.ensures), tt {0})

pub add_expr-add_exprs-requires-in-And : goal.add_expr-add_exprs-requires-in-And
add_expr-add_exprs-requires-in-And t c =
    (omega (arith, c.decreases, and_below c.args.expr.now c.in-And.first c.in-And.others c.items-in-And.result.now c.in-And.is c.items-in-And.ensures), tt {0})

pub add_expr-add_exprs-requires-in-Compare : goal.add_expr-add_exprs-requires-in-Compare
add_expr-add_exprs-requires-in-Compare t c =
    (omega (arith, c.decreases, compare_below c.args.expr.now c.in-Compare.first c.in-Compare.field-1 c.in-Compare.others c.items-in-Compare.result.now c.in-Compare.is c.items-in-Compare.ensures), tt {0})

pub add_expr-add_exprs-requires-in-Sum : goal.add_expr-add_exprs-requires-in-Sum
add_expr-add_exprs-requires-in-Sum t c =
    (omega (arith, c.decreases, sum_below c.args.expr.now c.in-Sum.first c.in-Sum.field-1 c.in-Sum.others c.items-in-Sum.result.now c.in-Sum.is c.items-in-Sum.ensures), tt {0})

pub add_expr-add_exprs-requires-in-Product : goal.add_expr-add_exprs-requires-in-Product
add_expr-add_exprs-requires-in-Product t c =
    (omega (arith, c.decreases, product_below c.args.expr.now c.in-Product.first c.in-Product.field-1 c.in-Product.others c.items-in-Product.result.now c.in-Product.is c.items-in-Product.ensures), tt {0})

pub add_expr-add_posts-requires : goal.add_expr-add_posts-requires
add_expr-add_posts-requires t c =
    (omega (arith, c.decreases, primary_below c.args.expr.now c.in-Primary.operand c.in-Primary.posts c.items-in-Primary.result.now c.in-Primary.is c.items-in-Primary.ensures), tt {0})

pub add_expr-returns-in_ok-add_expr-in-Or : goal.add_expr-returns-in_ok-add_expr-in-Or
add_expr-returns-in_ok-add_expr-in-Or t c =
    chain_added c.args.expr.now c.in-Or.first c.value.result.now c.in-Or.others c.items.result.now c.args.height c.args.found.now c.add_expr.new.found c.add_exprs.new.found c.add_exprs.result
    (or_is c.args.expr.now c.in-Or.first c.in-Or.others c.args.height c.in-Or.is) c.value.ensures c.items.ensures c.in_ok-add_expr-in-Or.ensures c.add_exprs.ensures

pub add_expr-returns-in_ok-add_expr-in-And : goal.add_expr-returns-in_ok-add_expr-in-And
add_expr-returns-in_ok-add_expr-in-And t c =
    chain_added c.args.expr.now c.in-And.first c.value-in-And.result.now c.in-And.others c.items-in-And.result.now c.args.height c.args.found.now c.add_expr-in-And.new.found c.add_exprs-in-And.new.found c.add_exprs-in-And.result
    (and_is c.args.expr.now c.in-And.first c.in-And.others c.args.height c.in-And.is) c.value-in-And.ensures c.items-in-And.ensures c.in_ok-add_expr-in-And.ensures c.add_exprs-in-And.ensures

pub add_expr-returns-in_ok-add_expr-in-Compare : goal.add_expr-returns-in_ok-add_expr-in-Compare
add_expr-returns-in_ok-add_expr-in-Compare t c =
    chain_added c.args.expr.now c.in-Compare.first c.value-in-Compare.result.now c.in-Compare.others c.items-in-Compare.result.now c.args.height c.args.found.now c.add_expr-in-Compare.new.found c.add_exprs-in-Compare.new.found c.add_exprs-in-Compare.result
    (compare_is c.args.expr.now c.in-Compare.first c.in-Compare.field-1 c.in-Compare.others c.args.height c.in-Compare.is) c.value-in-Compare.ensures c.items-in-Compare.ensures c.in_ok-add_expr-in-Compare.ensures c.add_exprs-in-Compare.ensures

pub add_expr-returns-in_ok-add_expr-in-Sum : goal.add_expr-returns-in_ok-add_expr-in-Sum
add_expr-returns-in_ok-add_expr-in-Sum t c =
    chain_added c.args.expr.now c.in-Sum.first c.value-in-Sum.result.now c.in-Sum.others c.items-in-Sum.result.now c.args.height c.args.found.now c.add_expr-in-Sum.new.found c.add_exprs-in-Sum.new.found c.add_exprs-in-Sum.result
    (sum_is c.args.expr.now c.in-Sum.first c.in-Sum.field-1 c.in-Sum.others c.args.height c.in-Sum.is) c.value-in-Sum.ensures c.items-in-Sum.ensures c.in_ok-add_expr-in-Sum.ensures c.add_exprs-in-Sum.ensures

pub add_expr-returns-in_ok-add_expr-in-Product : goal.add_expr-returns-in_ok-add_expr-in-Product
add_expr-returns-in_ok-add_expr-in-Product t c =
    chain_added c.args.expr.now c.in-Product.first c.value-in-Product.result.now c.in-Product.others c.items-in-Product.result.now c.args.height c.args.found.now c.add_expr-in-Product.new.found c.add_exprs-in-Product.new.found c.add_exprs-in-Product.result
    (product_is c.args.expr.now c.in-Product.first c.in-Product.field-1 c.in-Product.others c.args.height c.in-Product.is) c.value-in-Product.ensures c.items-in-Product.ensures c.in_ok-add_expr-in-Product.ensures c.add_exprs-in-Product.ensures

pub add_expr-returns-in_ok-add_expr-in-Primary : goal.add_expr-returns-in_ok-add_expr-in-Primary
add_expr-returns-in_ok-add_expr-in-Primary t c =
    primary_added c.args.expr.now c.in-Primary.operand c.value-in-Primary.result.now c.in-Primary.posts c.items-in-Primary.result.now c.args.height c.args.found.now c.add_expr-in-Primary.new.found c.add_posts.new.found c.add_posts.result
    (primary_is c.args.expr.now c.in-Primary.operand c.in-Primary.posts c.args.height c.in-Primary.is) c.value-in-Primary.ensures c.items-in-Primary.ensures c.in_ok-add_expr-in-Primary.ensures c.add_posts.ensures

pub add_expr-returns-in_ok-add_signature-in-FuncLit : goal.add_expr-returns-in_ok-add_signature-in-FuncLit
add_expr-returns-in_ok-add_signature-in-FuncLit t c =
    func_added c.args.expr.now c.in-FuncLit.signature c.in-FuncLit.body c.args.height c.below-in-FuncLit.result c.below-in-FuncLit-2.result c.args.found.now c.add_signature.new.found c.add_literal.new.found c.add_literal.result
    (func_is c.args.expr.now c.in-FuncLit.signature c.in-FuncLit.body c.args.height c.in-FuncLit.is) c.below-in-FuncLit.ensures c.below-in-FuncLit-2.ensures (c.in_ok-add_signature-in-FuncLit.ensures ∙ ap (λ y. c.args.found.now ++ signature_places y c.below-in-FuncLit.result) c.value-in-FuncLit.ensures) c.add_literal.ensures

pub add_expr-returns-in_ok-add_type-in-Composite : goal.add_expr-returns-in_ok-add_type-in-Composite
add_expr-returns-in_ok-add_type-in-Composite t c =
    composite_added c.args.expr.now c.in-Composite.type_ c.in-Composite.elements c.items-in-Composite.result.now c.args.height c.below-in-Composite.result c.below-in-Composite-2.result c.below-in-Composite-3.result c.args.found.now c.add_type.new.found c.add_elements.new.found c.add_elements.result
    (composite_is c.args.expr.now c.in-Composite.type_ c.in-Composite.elements c.args.height c.in-Composite.is) c.items-in-Composite.ensures c.below-in-Composite.ensures c.below-in-Composite-2.ensures c.below-in-Composite-3.ensures (c.in_ok-add_type-in-Composite.ensures ∙ ap (λ y. c.args.found.now ++ type_places y c.below-in-Composite.result) c.value-in-Composite.ensures) c.add_elements.ensures

pub add_expr-returns-in_ok-add_type-in-CompositeArray : goal.add_expr-returns-in_ok-add_type-in-CompositeArray
add_expr-returns-in_ok-add_type-in-CompositeArray t c =
    composite_added c.args.expr.now c.in-CompositeArray.type_ c.in-CompositeArray.elements c.items-in-CompositeArray.result.now c.args.height c.below-in-CompositeArray.result c.below-in-CompositeArray-2.result c.below-in-CompositeArray-3.result c.args.found.now c.add_type-in-CompositeArray.new.found c.add_elements-in-CompositeArray.new.found c.add_elements-in-CompositeArray.result
    (composite_array_is c.args.expr.now c.in-CompositeArray.type_ c.in-CompositeArray.elements c.args.height c.in-CompositeArray.is) c.items-in-CompositeArray.ensures c.below-in-CompositeArray.ensures c.below-in-CompositeArray-2.ensures c.below-in-CompositeArray-3.ensures (c.in_ok-add_type-in-CompositeArray.ensures ∙ ap (λ y. c.args.found.now ++ type_places y c.below-in-CompositeArray.result) c.value-in-CompositeArray.ensures) c.add_elements-in-CompositeArray.ensures
