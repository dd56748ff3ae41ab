-- What is permitted in a client of the profile is permitted elsewhere.
use Rattle.std.proofs.Common.{true, false, refl}
use Rattle.go_model.specs.types.Tables.{Table}
use Rattle.go_model.specs.declared.types.term.Term.{Term}
use Rattle.go_model.specs.types.Assignability.{Assignable, assign_identical, assign_underlying, assign_interface, assign_channel}
use Rattle.go_model.specs.types.Conversions.{UnderlyingConverts, Convertible, convert_assignable, convert_underlying, convert_pointer, convert_basic}

pub assigns_elsewhere : (T : Table) (from to : Term) → Assignable T true from to → Assignable T false from to
assigns_elsewhere T from to (assign_identical e) = assign_identical e
assigns_elsewhere T from to (assign_underlying u) = assign_underlying (record { same = u.same; unnamed = u.unnamed; permitted = refl })
assigns_elsewhere T from to (assign_interface i) = assign_interface i
assigns_elsewhere T from to (assign_channel c) = assign_channel c

underlying_elsewhere : (T : Table) (from to : Term) → UnderlyingConverts T true from to → UnderlyingConverts T false from to
underlying_elsewhere T from to u = record { same = u.same; permitted = refl }

pub converts_elsewhere : (T : Table) (from to : Term) → Convertible T true from to → Convertible T false from to
converts_elsewhere T from to (convert_assignable a) = convert_assignable (assigns_elsewhere T from to a)
converts_elsewhere T from to (convert_underlying u) = convert_underlying (underlying_elsewhere T from to u)
converts_elsewhere T from to (convert_pointer p) = convert_pointer (record { base = p.base; other = p.other; from_is = p.from_is; to_is = p.to_is; converts = underlying_elsewhere T p.base p.other p.converts })
converts_elsewhere T from to (convert_basic b) = convert_basic b
