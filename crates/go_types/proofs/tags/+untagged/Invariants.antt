use Rattle.std.proofs.Common.{◌≡◌, take, map}
use Rattle.go_model.specs.types.Tags.{untagged, untagged_field, untagged_method}
use Rattle.go_types.proofs.tags.+untagged.Given as goal

abbrev pub invariant-of_terms-loop-term : goal.invariant-of_terms-loop-term
invariant-of_terms-loop-term l = l.bare ≡ map untagged (take l.term-index l.terms)

abbrev pub invariant-of_fields-loop-field : goal.invariant-of_fields-loop-field
invariant-of_fields-loop-field l = l.bare ≡ map untagged_field (take l.field-index l.fields)

abbrev pub invariant-of_methods-loop-method : goal.invariant-of_methods-loop-method
invariant-of_methods-loop-method l = l.bare ≡ map untagged_method (take l.method-index l.methods)
