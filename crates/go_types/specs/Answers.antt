-- What a search answers for a method that is asked about.
-- Own: words of the contracts inside this crate.
use Rattle.std.specs.Prelude.{◌≡◌}
use Rattle.go_model.specs.declared.types.found.Found.{Found}
use Rattle.go_model.specs.declared.types.found.Found.TheVariants as found
use Rattle.go_model.specs.declared.types.term.Signature.{Signature}
use Rattle.go_model.specs.types.MethodSets.{Reaches}

-- what was found is a method with this signature, and callable on the type itself
abbrev pub IsCalled : Signature → Found → Type 0
IsCalled g (found.MethodAt m) = (m.signature ≡ g) × Reaches m.pointer_receiver m.through_pointer
IsCalled g (found.FieldAt f) = ⊥
IsCalled g found.Ambiguous = ⊥
IsCalled g found.Nothing = ⊥
