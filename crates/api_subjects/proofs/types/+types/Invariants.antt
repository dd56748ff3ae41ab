use Rattle.std.proofs.Common.{◌≡◌, ◌+◌, [], ◌++◌, drop, length, map, codes}
use Rattle.api_features.specs.TypeTexts.{parameter_texts}
use Rattle.api_subjects.specs.TypeTexts.{shown_type, type_text}
use Rattle.api_subjects.specs.inner.Appended.{field_of, method_of, separated}
use Rattle.api_subjects.specs.inner.Quoting.{quoted}
use Rattle.api_subjects.proofs.types.+types.Given as goal

abbrev pub invariant-push_fields-loop-field : goal.invariant-push_fields-loop-field
invariant-push_fields-loop-field l = l.out.items ++ separated (codes "; ") l.separator (map field_of (drop l.field-index l.fields)) ≡ l.fn.out.items ++ separated (codes "; ") [] (map field_of l.fields)

abbrev pub invariant-push_methods-loop-method : goal.invariant-push_methods-loop-method
invariant-push_methods-loop-method l = l.out.items ++ separated (codes ", ") l.separator (map method_of (drop l.method-index l.methods)) ≡ l.fn.out.items ++ separated (codes ", ") [] (map method_of l.methods)

abbrev pub invariant-push_parameters-loop-term : goal.invariant-push_parameters-loop-term
invariant-push_parameters-loop-term l = record {
  left : l.left + l.term-index ≡ length l.terms;
  so_far : l.out.items ++ separated (codes ", ") l.separator (parameter_texts (map (shown_type quoted) (drop l.term-index l.terms)) l.variadic) ≡ l.fn.out.items ++ separated (codes ", ") [] (parameter_texts (map (shown_type quoted) l.terms) l.variadic);
}

abbrev pub invariant-push_types-loop-term : goal.invariant-push_types-loop-term
invariant-push_types-loop-term l = l.out.items ++ separated (codes ", ") l.separator (map (type_text quoted) (drop l.term-index l.terms)) ≡ l.fn.out.items ++ separated (codes ", ") [] (map (type_text quoted) l.terms)
