use Rattle.go_rules.specs.Nodes.{optional_result_parts, parameter_parts, signature as at_signature}
use Rattle.go_rules.specs.Asks.{Meets}
use Rattle.go_rules.proofs.LocalParts.{each_left, each_right}
use Rattle.go_syntax.specs.declared.types.Signature.{out-Signature as out-Sig}
use Rattle.go_client_types.proofs.TypeForms.{meets_parts}
use Rattle.go_client_expressions.proofs.Asked.{meets_kept}
use Rattle.go_client_expressions.proofs.Expressions.{element_kept, has_kept, names_grow, signature_kept, type_kept}
use Rattle.go_client_expressions.proofs.laws.kept_expressions.Goals as goal

pub returns-clause-expression : goal.returns-clause-expression
returns-clause-expression c = λ E F G r pairs std is_open K grows barred e o h m. has_kept E F G r pairs std is_open K (names_grow E G grows) barred h m

pub returns-clause-of_type : goal.returns-clause-of_type
returns-clause-of_type c = λ E F G r pairs std is_open K grows barred t u h m. type_kept E F G r pairs std is_open K (names_grow E G grows) barred h m

pub returns-clause-of_signature : goal.returns-clause-of_signature
returns-clause-of_signature c = λ E F G r pairs std is_open K grows barred g s h m.
    let p = meets_parts G (at_signature g) m in
    signature_kept E F G r pairs std is_open K (names_grow E G grows) barred h (each_left (Meets G) (parameter_parts (out-Sig g).parameters) (optional_result_parts (out-Sig g).result) p) (each_right (Meets G) (parameter_parts (out-Sig g).parameters) (optional_result_parts (out-Sig g).result) p)

pub returns-clause-element : goal.returns-clause-element
returns-clause-element c = λ E F G r pairs std is_open K grows barred t v h k m. element_kept E F G r pairs std is_open K (names_grow E G grows) barred h k m

pub returns-clause-meets : goal.returns-clause-meets
returns-clause-meets c = λ E F r pairs std is_open K at m. meets_kept E F r pairs std is_open K at m
