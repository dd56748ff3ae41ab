-- What a selector of a client finds on the old side, and what it finds then on the new one.
-- Own: words on what is found.
use Rattle.std.specs.Prelude.{◌≡◌, Bool, true, List, Option}
use Rattle.go_model.specs.declared.types.names.Sel.{Sel}
use Rattle.go_model.specs.declared.types.names.TypeName.{TypeName}
use Rattle.go_model.specs.declared.types.term.Signature.{Signature}
use Rattle.go_model.specs.declared.types.term.Term.{Term}
use Rattle.go_model.specs.types.MethodSets.{Reaches}
use Rattle.go_model.specs.types.Selectors.{Ending, Target, field, method}
use Rattle.go_type_images.specs.Images.{Naming, image, image_of_signature, same_sels}
use Rattle.go_type_images.specs.Parts.{function_type}
use Rattle.go_type_images.specs.declared.pair.TypePair.{TypePair}
use Rattle.go_client_types.specs.Reached.{IsReached}

abbrev pub end_at : Bool → Target → Ending
end_at through target = record { through = through; target = target }

-- the image, through a pointer where it was, and a method can be called on a value that isn't addressable where it could
pub data IsKeptEnding (r : Naming) : Ending → Ending → Type 0 where
  kept_field : {q k : Bool} {t : Term} → (q ≡ true → k ≡ true) → IsKeptEnding r (end_at q (field t)) (end_at k (field (image r same_sels t)))
  kept_method : {q k a c : Bool} {o m : Option TypeName} {g : Signature} → (Reaches a q → Reaches c k) → IsKeptEnding r (end_at q (method o a g)) (end_at k (method m c (image_of_signature r same_sels g)))

-- of a type that the client reaches
abbrev pub TargetReached : List TypePair → (TypeName → Bool) → (Sel → Bool) → Target → Type 0
TargetReached pairs std is_open (field t) = IsReached pairs std is_open t
TargetReached pairs std is_open (method o p g) = IsReached pairs std is_open (function_type g)
