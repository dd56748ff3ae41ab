use Rattle.go_model.proofs.WorldTypes.{struct_sound, interface_sound}
use Rattle.go_model.proofs.MethodOrder.{once_in_order}
use Rattle.go_model.proofs.laws.well_formed_types.Goals as goal

pub returns-clause-struct_fields : goal.returns-clause-struct_fields
returns-clause-struct_fields c = struct_sound

pub returns-clause-interface_methods : goal.returns-clause-interface_methods
returns-clause-interface_methods c = interface_sound

pub returns-clause-once : goal.returns-clause-once
returns-clause-once c = λ ss h. once_in_order ss h.ordered
