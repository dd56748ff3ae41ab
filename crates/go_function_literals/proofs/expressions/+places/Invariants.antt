use Rattle.std.proofs.Common.{◌≡◌, ◌++◌, map, drop}
use Rattle.go_function_literals.specs.Places.{element_places, exprs_places, field_places, interface_places, joined, parameter_places, post_places}
use Rattle.go_function_literals.proofs.expressions.+places.Given as goal

abbrev pub invariant-add_exprs-loop-expr : goal.invariant-add_exprs-loop-expr
invariant-add_exprs-loop-expr l = l.found ++ exprs_places (drop l.expr-index l.exprs) l.height ≡ l.initial.found ++ exprs_places l.exprs l.height

abbrev pub invariant-add_posts-loop-post : goal.invariant-add_posts-loop-post
invariant-add_posts-loop-post l = l.found ++ joined (map post_places (drop l.post-index l.posts)) l.height ≡ l.initial.found ++ joined (map post_places l.posts) l.height

abbrev pub invariant-add_elements-loop-element : goal.invariant-add_elements-loop-element
invariant-add_elements-loop-element l = l.found ++ joined (map element_places (drop l.element-index l.elements)) l.height ≡ l.initial.found ++ joined (map element_places l.elements) l.height

abbrev pub invariant-add_parameters-loop-parameter : goal.invariant-add_parameters-loop-parameter
invariant-add_parameters-loop-parameter l = l.found ++ joined (map parameter_places (drop l.parameter-index l.parameters)) l.height ≡ l.initial.found ++ joined (map parameter_places l.parameters) l.height

abbrev pub invariant-add_fields-loop-field : goal.invariant-add_fields-loop-field
invariant-add_fields-loop-field l = l.found ++ joined (map field_places (drop l.field-index l.fields)) l.height ≡ l.initial.found ++ joined (map field_places l.fields) l.height

abbrev pub invariant-add_interface-loop-element : goal.invariant-add_interface-loop-element
invariant-add_interface-loop-element l = l.found ++ joined (map interface_places (drop l.element-index l.elements)) l.height ≡ l.initial.found ++ joined (map interface_places l.elements) l.height
