use Rattle.std.proofs.Common.{ℕ, Option, map, sum, drop}
use Rattle.go_model.specs.types.Bounds.{above, height, height_of_field, height_of_method, nodes, nodes_of_field, nodes_of_method, Leaves}
use Rattle.go_model.proofs.types.bounds.+nodes_left.Given as goal

abbrev pub invariant-left_by_terms-loop-term : goal.invariant-left_by_terms-loop-term
invariant-left_by_terms-loop-term l = (r : Option ℕ) → Leaves l.left l.limit (sum (map nodes (drop l.term-index l.terms))) (above (map height (drop l.term-index l.terms))) r → Leaves l.room l.limit (sum (map nodes l.terms)) (above (map height l.terms)) r

abbrev pub invariant-left_by_fields-loop-field : goal.invariant-left_by_fields-loop-field
invariant-left_by_fields-loop-field l = (r : Option ℕ) → Leaves l.left l.limit (sum (map nodes_of_field (drop l.field-index l.fields))) (above (map height_of_field (drop l.field-index l.fields))) r → Leaves l.room l.limit (sum (map nodes_of_field l.fields)) (above (map height_of_field l.fields)) r

abbrev pub invariant-left_by_methods-loop-method : goal.invariant-left_by_methods-loop-method
invariant-left_by_methods-loop-method l = (r : Option ℕ) → Leaves l.left l.limit (sum (map nodes_of_method (drop l.method-index l.methods))) (above (map height_of_method (drop l.method-index l.methods))) r → Leaves l.room l.limit (sum (map nodes_of_method l.methods)) (above (map height_of_method l.methods)) r
