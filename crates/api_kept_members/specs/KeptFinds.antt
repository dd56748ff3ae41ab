-- What selectors find from a type of the old world, and in the new one from the new type of the pair.
-- Own: words on what is found.
use Rattle.std.specs.Prelude.{◌≡◌, ℕ, Bool, true, List, Option}
use Rattle.go_base.specs.Lists.{Has}
use Rattle.go_model.specs.declared.types.names.Sel.{Sel}
use Rattle.go_model.specs.declared.types.names.TypeName.{TypeName}
use Rattle.go_model.specs.declared.types.term.Signature.{Signature}
use Rattle.go_model.specs.declared.types.term.Term.{Term}
use Rattle.go_model.specs.types.MethodSets.{Reaches}
use Rattle.go_model.specs.types.Selectors.{IsOnly, Ending, Target, field, method}
use Rattle.go_model.specs.worlds.Worlds.{Packages}
use Rattle.go_type_images.specs.Images.{image, image_of_signature, same_sels}
use Rattle.go_type_images.specs.NewNames.{new_name}
use Rattle.go_type_images.specs.Parts.{function_type}
use Rattle.go_type_images.specs.SpotImages.{at_spot}
use Rattle.go_type_images.specs.declared.pair.TypePair.{TypePair}
use Rattle.api_correspond.specs.Outermost.{pair}
use Rattle.api_correspond.specs.Publics.{types_of}

abbrev pub end_at : Bool → Target → Ending
end_at through target = record { through = through; target = target }

-- a field of the image is found, through a pointer where the old one was, and both types are a pair
abbrev pub FindsField : Packages → List TypePair → Sel → Bool → Term → Bool → Term → Type 0
FindsField new pairs s b t through v =
    (depth : ℕ) × (behind : Bool) × IsOnly (types_of new) s (at_spot b t) depth (end_at behind (field (image (new_name pairs) same_sels v))) × (through ≡ true → behind ≡ true) × Has pairs (pair v (image (new_name pairs) same_sels v))

-- a method of the image is found, callable on a value that isn't addressable where the old one was, and both function types are a pair
abbrev pub FindsMethod : Packages → List TypePair → Sel → Bool → Term → Bool → Bool → Signature → Type 0
FindsMethod new pairs s b t pointer through g =
    (depth : ℕ) × (behind : Bool) × (owner : Option TypeName) × (by_pointer : Bool) × IsOnly (types_of new) s (at_spot b t) depth (end_at behind (method owner by_pointer (image_of_signature (new_name pairs) same_sels g)))
    × (Reaches pointer through → Reaches by_pointer behind) × Has pairs (pair (function_type g) (function_type (image_of_signature (new_name pairs) same_sels g)))

-- so is a method of an unexported selector of the standard library, with its own signature
abbrev pub FindsStdMethod : Packages → Sel → Bool → Term → Bool → Bool → Signature → Type 0
FindsStdMethod new s b t pointer through g =
    (depth : ℕ) × (behind : Bool) × (owner : Option TypeName) × (by_pointer : Bool) × IsOnly (types_of new) s (at_spot b t) depth (end_at behind (method owner by_pointer g)) × (Reaches pointer through → Reaches by_pointer behind)
