-- The type that a part stands for.
-- Own: words of the contracts inside this crate.
use Rattle.go_model.specs.declared.types.term.Term.{Term}
use Rattle.api_correspond.specs.declared.parts.Part.{Part}
use Rattle.api_correspond.specs.declared.parts.Part.TheVariants as part
use Rattle.go_type_images.specs.Parts.{function_type}

abbrev pub type_of : Part → Term
type_of (part.Type t) = t.now
type_of (part.Function g) = function_type g.now
