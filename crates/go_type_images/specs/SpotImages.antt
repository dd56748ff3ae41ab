-- Images of where selectors search, and of what they find there.
-- Own: what a client of the old packages has in the new ones.
use Rattle.std.specs.Prelude.{Bool}
use Rattle.go_model.specs.declared.types.term.Term.{Term}
use Rattle.go_model.specs.types.Selectors.{Ending, Spot, Target, field, method}
use Rattle.go_type_images.specs.Images.{Naming, image, image_of_signature, same_sels}

-- a type where a search goes on, and whether the way to it goes through a pointer
abbrev pub at_spot : Bool → Term → Spot
at_spot b t = record { through = b; term = t }

abbrev pub target_to : Naming → Target → Target
target_to r (field t) = field (image r same_sels t)
target_to r (method o p g) = method o p (image_of_signature r same_sels g)

abbrev pub ending_to : Naming → Ending → Ending
ending_to r e = record { through = e.through; target = target_to r e.target }

abbrev pub spot_to : Naming → Spot → Spot
spot_to r x = record { through = x.through; term = image r same_sels x.term }
