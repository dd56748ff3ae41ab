use Rattle.std.proofs.Common.{◌≡◌, ◌++◌, drop, map}
use Rattle.go_type_codes.specs.Codes.{code, code_of_field, code_of_method, code_of_list}
use Rattle.go_type_codes.proofs.codes.+codes.Given as goal

abbrev pub invariant-put_terms-loop-term : goal.invariant-put_terms-loop-term
invariant-put_terms-loop-term l = l.out.items ++ code_of_list (map code (drop l.term-index l.terms)) ≡ l.fn.out.items ++ code_of_list (map code l.terms)

abbrev pub invariant-put_fields-loop-field : goal.invariant-put_fields-loop-field
invariant-put_fields-loop-field l = l.out.items ++ code_of_list (map code_of_field (drop l.field-index l.fields)) ≡ l.fn.out.items ++ code_of_list (map code_of_field l.fields)

abbrev pub invariant-put_methods-loop-method : goal.invariant-put_methods-loop-method
invariant-put_methods-loop-method l = l.out.items ++ code_of_list (map code_of_method (drop l.method-index l.methods)) ≡ l.fn.out.items ++ code_of_list (map code_of_method l.methods)
