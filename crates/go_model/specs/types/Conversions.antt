-- Which types are convertible to which, for values that aren't constants, also in a client of the profile.
-- Public source: Go specification, "Conversions"; what is barred in the profile is own.
use Rattle.std.specs.Prelude.{◌≡◌, ◌&&◌, ◌||◌, Bool, true, false}
use Rattle.go_model.specs.constants.Classes.{class_of_basic, is_string}
use Rattle.go_model.specs.types.Tables.{Table}
use Rattle.go_model.specs.declared.constants.class.Class.{Class}
use Rattle.go_model.specs.declared.constants.class.Class.TheVariants as c
use Rattle.go_model.specs.declared.constants.value.Basic.TheVariants as basic
use Rattle.go_model.specs.declared.types.term.Term.{Term, Term-F, out-Term}
use Rattle.go_model.specs.types.Terms.{Layer}
use Rattle.go_model.specs.types.Underlying.{under}
use Rattle.go_model.specs.types.Tags.{bare}
use Rattle.go_model.specs.types.Imports.{is_imported_open}
use Rattle.go_model.specs.types.Assignability.{Assignable}

-- types of these classes convert: integers and floats, complex types, and an integer to a string
abbrev pub class_converts : Class → Class → Bool
class_converts c.Integer c.Integer = true
class_converts c.Integer c.Float = true
class_converts c.Integer c.Str = true
class_converts c.Float c.Integer = true
class_converts c.Float c.Float = true
class_converts c.Complex c.Complex = true
class_converts c d = false

abbrev pub both_basic : Layer → Layer → Bool
both_basic (Term-F.Plain a) (Term-F.Plain b) = class_converts (class_of_basic a) (class_of_basic b)
both_basic k l = false

-- `string`
abbrev pub is_text : Layer → Bool
is_text (Term-F.Plain b) = is_string (class_of_basic b)
is_text l = false

-- `byte` or `rune`
abbrev pub is_character : Layer → Bool
is_character (Term-F.Plain basic.Uint8) = true
is_character (Term-F.Plain basic.Int32) = true
is_character l = false

-- a slice of bytes or runes
abbrev pub is_characters : Table → Layer → Bool
is_characters T (Term-F.Slice e) = is_character (under T e)
is_characters T l = false

-- by the basic types underneath, or between a string and a slice of bytes or runes
abbrev pub basics_convert : Table → Term → Term → Bool
basics_convert T from to = both_basic (under T from) (under T to) || (is_text (under T from) && is_characters T (under T to)) || (is_characters T (under T from) && is_text (under T to))

-- both have identical underlying types but for tags; in the profile neither is a defined struct or interface of another package
pub record UnderlyingConverts (T : Table) (profile : Bool) (from to : Term) : Type 0 where
  pub same : bare T from ≡ bare T to
  pub permitted : (profile && (is_imported_open T from || is_imported_open T to)) ≡ false

-- two pointers that aren't defined types, to such bases
pub record PointerConverts (T : Table) (profile : Bool) (from to : Term) : Type 0 where
  pub base : Term
  pub other : Term
  pub from_is : out-Term from ≡ Term-F.Pointer base
  pub to_is : out-Term to ≡ Term-F.Pointer other
  pub converts : UnderlyingConverts T profile base other

-- a value of the one type is convertible to the other; the flag says whether in a client of the profile
pub data Convertible (T : Table) (profile : Bool) (from to : Term) : Type 0 where
  convert_assignable : Assignable T profile from to → Convertible T profile from to
  convert_underlying : UnderlyingConverts T profile from to → Convertible T profile from to
  convert_pointer : PointerConverts T profile from to → Convertible T profile from to
  convert_basic : basics_convert T from to ≡ true → Convertible T profile from to
