use Rattle.std.proofs.Common.{◌≡◌, ◌++◌, map, drop}
use Rattle.go_references.specs.References.{joined, exprs_refs, post_refs, post_refs_of, element_refs, parameter_refs, field_refs, interface_refs}
use Rattle.go_references.proofs.references.+references.Given as goal

abbrev pub invariant-add_exprs-loop-expr : goal.invariant-add_exprs-loop-expr
invariant-add_exprs-loop-expr l = l.refs ++ exprs_refs (drop l.expr-index l.exprs) l.at ≡ l.initial.refs ++ exprs_refs l.exprs l.at

abbrev pub invariant-add_posts-loop-post : goal.invariant-add_posts-loop-post
invariant-add_posts-loop-post l = l.refs ++ joined (map post_refs_of (map post_refs (drop l.post-index l.posts))) l.at ≡ l.initial.refs ++ joined (map post_refs_of (map post_refs l.posts)) l.at

abbrev pub invariant-add_elements-loop-element : goal.invariant-add_elements-loop-element
invariant-add_elements-loop-element l = l.refs ++ joined (map element_refs (drop l.element-index l.elements)) l.at ≡ l.initial.refs ++ joined (map element_refs l.elements) l.at

abbrev pub invariant-add_parameters-loop-parameter : goal.invariant-add_parameters-loop-parameter
invariant-add_parameters-loop-parameter l = l.refs ++ joined (map parameter_refs (drop l.parameter-index l.parameters)) l.at ≡ l.initial.refs ++ joined (map parameter_refs l.parameters) l.at

abbrev pub invariant-add_fields-loop-field : goal.invariant-add_fields-loop-field
invariant-add_fields-loop-field l = l.refs ++ joined (map field_refs (drop l.field-index l.fields)) l.at ≡ l.initial.refs ++ joined (map field_refs l.fields) l.at

abbrev pub invariant-add_interface-loop-element : goal.invariant-add_interface-loop-element
invariant-add_interface-loop-element l = l.refs ++ joined (map interface_refs (drop l.element-index l.elements)) l.at ≡ l.initial.refs ++ joined (map interface_refs l.elements) l.at
