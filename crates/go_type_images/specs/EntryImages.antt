-- Images of what names mean: of a defined type with its methods, and of an object.
-- Own: what a client of the old packages has in the new ones.
use Rattle.std.specs.Prelude.{map, Option, Some, None}
use Rattle.go_model.specs.declared.types.package.ConstTerm.{ConstTerm}
use Rattle.go_model.specs.declared.types.package.ConstTerm.TheVariants as constant
use Rattle.go_model.specs.declared.types.package.Defined.{Defined}
use Rattle.go_model.specs.declared.types.package.Entity.{Entity}
use Rattle.go_model.specs.declared.types.package.Entity.TheVariants as entity
use Rattle.go_model.specs.declared.types.package.MethodOf.{MethodOf}
use Rattle.go_type_images.specs.Images.{Naming, image, image_of_signature, same_sels}

abbrev pub method_to : Naming → MethodOf → MethodOf
method_to r m = record { sel = m.sel; pointer = m.pointer; signature = image_of_signature r same_sels m.signature }

abbrev pub defined_to : Naming → Defined → Defined
defined_to r d = record { name = d.name; underlying = image r same_sels d.underlying; methods = map (method_to r) d.methods }

abbrev pub entry_to : Naming → Option Defined → Option Defined
entry_to r None = None
entry_to r (Some d) = Some (defined_to r d)

-- the type of a constant, or the kind of an untyped one
abbrev pub const_to : Naming → ConstTerm → ConstTerm
const_to r (constant.OfTerm t) = constant.OfTerm (image r same_sels t)
const_to r (constant.OfKind k) = constant.OfKind k

abbrev pub entity_to : Naming → Entity → Entity
entity_to r (entity.Const c v) = entity.Const (const_to r c) v
entity_to r (entity.Var t) = entity.Var (image r same_sels t)
entity_to r (entity.Function g) = entity.Function (image_of_signature r same_sels g)
entity_to r (entity.TypeOf t) = entity.TypeOf (image r same_sels t)
