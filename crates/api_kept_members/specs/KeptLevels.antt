-- What is underneath a type, in an old world and in a new one.
-- Own: words on levels.
use Rattle.std.specs.Prelude.{◌≡◌, false, List}
use Rattle.go_base.specs.Lists.{Has}
use Rattle.go_model.specs.declared.types.term.Field.{Field}
use Rattle.go_model.specs.declared.types.term.Method.{Method}
use Rattle.go_model.specs.declared.types.term.Term.{Term, Term-F}
use Rattle.go_model.specs.types.Terms.{Layer}
use Rattle.go_type_images.specs.Images.{Naming, image, image_of_layer, same_sels}
use Rattle.go_type_images.specs.Levels.{is_structured}
use Rattle.go_type_images.specs.Parts.{parts}
use Rattle.go_type_images.specs.declared.pair.TypePair.{TypePair}
use Rattle.api_correspond.specs.Outermost.{pair}

-- of the same form: a struct in both, an interface in both, or the image, of types that are in pairs with their images
pub data Kept (r : Naming) (pairs : List TypePair) (k l : Layer) : Type 0 where
  kept_struct : {fs gs : List Field} → k ≡ Term-F.Struct fs → l ≡ Term-F.Struct gs → Kept r pairs k l
  kept_interface : {ms ns : List Method} → k ≡ Term-F.Interface ms → l ≡ Term-F.Interface ns → Kept r pairs k l
  kept_image : is_structured k ≡ false → l ≡ image_of_layer r same_sels k → ((t : Term) → Has (parts k) t → Has pairs (pair t (image r same_sels t))) → Kept r pairs k l
