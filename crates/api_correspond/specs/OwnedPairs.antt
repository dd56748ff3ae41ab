-- Pairs of an old and a new type that have to correspond, each with the exported object that it is reported for.
-- Public source: README of golang.org/x/exp/apidiff, "Correspondence"; that pairs have owners, and that fields and methods are
-- followed through embedded fields, is own.
use Rattle.std.specs.Prelude.{◌≡◌, ◌≤◌, ◌&&◌, ◌||◌, ℕ, Bool, true, false, List, Option, None, Some}
use Rattle.go_base.specs.Lists.{Has, Once}
use Rattle.go_model.specs.types.Tables.{Table}
use Rattle.go_model.specs.types.Terms.{Layer, pointer_to}
use Rattle.go_model.specs.types.Underlying.{under, fields_of}
use Rattle.go_model.specs.types.Selectors.{Finds}
use Rattle.go_model.specs.types.MethodSets.{InSet}
use Rattle.go_model.specs.types.Members.{field_sel}
use Rattle.go_model.specs.worlds.Worlds.{Packages}
use Rattle.go_model.specs.declared.types.names.Sel.{Sel}
use Rattle.go_model.specs.declared.types.package.Object.{Object}
use Rattle.go_model.specs.declared.types.package.Entity.{Entity}
use Rattle.go_model.specs.declared.types.package.Entity.TheVariants as entity
use Rattle.go_model.specs.declared.types.package.ConstTerm.TheVariants as constant
use Rattle.go_model.specs.declared.types.found.Found.TheVariants.{FieldAt}
use Rattle.go_model.specs.declared.types.found.FieldFound.{FieldFound}
use Rattle.go_model.specs.declared.types.term.Term.{Term, Term-F, out-Term}
use Rattle.go_model.specs.declared.types.term.Field.{Field}
use Rattle.go_model.specs.declared.types.term.Signature.{Signature}
use Rattle.go_type_images.specs.declared.pair.TypePair.{TypePair}
use Rattle.api_correspond.specs.declared.pair.OwnedPair.{OwnedPair}
use Rattle.api_correspond.specs.Publics.{types_of, is_of_module, IsExported, Exports, IsOwner, qualified}
use Rattle.api_correspond.specs.Outermost.{SameOutermost, pair, side_by_side}
use Rattle.go_type_images.specs.Levels.{struct_layer, is_structured}
use Rattle.go_type_images.specs.Parts.{function_type, field_type, parts}

-- the types of an old and a new object, where the kinds are the same, or a function became a variable; a function has its
-- function type, and untyped constants have none
abbrev pub types_of_entities : Entity → Entity → Option TypePair
types_of_entities (entity.Const (constant.OfTerm s) v) (entity.Const (constant.OfTerm t) w) = Some (pair s t)
types_of_entities (entity.Var s) (entity.Var t) = Some (pair s t)
types_of_entities (entity.Function g) (entity.Function h) = Some (pair (function_type g) (function_type h))
types_of_entities (entity.Function g) (entity.Var t) = Some (pair (function_type g) t)
types_of_entities (entity.TypeOf s) (entity.TypeOf t) = Some (pair s t)
types_of_entities a b = None

-- an exported object of an old public package, whose name with its path is given, and the new one of its name give a pair of types
pub record FromObject (old new : Packages) (name : List ℕ) (p : TypePair) : Type 0 where
  pub path : List ℕ
  pub before : Object
  pub after : Object
  pub exported : Exports old path before
  pub kept : Exports new path after
  pub same : after.name ≡ before.name
  pub named : name ≡ qualified path before.name
  pub types : types_of_entities before.entity after.entity ≡ Some p

-- both types are defined types of the module
abbrev pub are_of_module : Packages → Packages → TypePair → Bool
are_of_module old new p = is_of_module old p.old && is_of_module new p.new

-- both types are struct types, and no defined ones
abbrev pub are_structs : TypePair → Bool
are_structs p = struct_layer (out-Term p.old) && struct_layer (out-Term p.new)

-- the fields and methods of both types are followed
abbrev pub have_members : Packages → Packages → TypePair → Bool
have_members old new p = are_of_module old new p || are_structs p

-- the type whose method set counts: an interface itself, and the pointer to any other type
abbrev pub receiver_layer : Term → Layer → Term
receiver_layer t (Term-F.Interface ms) = t
receiver_layer t l = pointer_to t

abbrev pub receiver : Table → Term → Term
receiver T t = receiver_layer t (under T t)

-- a pair of types leads to another
pub data Leads (old new : Packages) (p : TypePair) : TypePair → Type 0 where
  -- to the parts, where the outermost constructors match
  to_part : {q : TypePair} → SameOutermost old new (out-Term p.old) (out-Term p.new) → Has (side_by_side (parts (out-Term p.old)) (parts (out-Term p.new))) q → Leads old new p q
  -- from types of the module to the parts of what is underneath, where that matches and is neither a struct nor an interface
  to_part_underneath : {q : TypePair} → are_of_module old new p ≡ true → SameOutermost old new (under (types_of old) p.old) (under (types_of new) p.new) → is_structured (under (types_of old) p.old) ≡ false → Has (side_by_side (parts (under (types_of old) p.old)) (parts (under (types_of new) p.new))) q → Leads old new p q
  -- from types of the module to the types of an exported field that stands in both
  to_field : (f g : Field) → are_of_module old new p ≡ true → Has (fields_of (under (types_of old) p.old)) f → Has (fields_of (under (types_of new) p.new)) g → IsExported (field_sel f) → field_sel g ≡ field_sel f → Leads old new p (pair (field_type f) (field_type g))
  -- to the types of an exported field that is found below the top level in the old type, and at any depth in the new
  to_promoted_field : (s : Sel) (f g : FieldFound) → have_members old new p ≡ true → IsExported s → Finds (types_of old) s p.old (FieldAt f) → 1 ≤ f.depth → Finds (types_of new) s p.new (FieldAt g) → Leads old new p (pair f.term g.term)
  -- to the types of an exported method of both
  to_method : (s : Sel) (g h : Signature) → have_members old new p ≡ true → IsExported s → InSet (types_of old) (receiver (types_of old) p.old) s g → InSet (types_of new) (receiver (types_of new) p.new) s h → Leads old new p (pair (function_type g) (function_type h))

-- a pair of types that an exported object owns
pub data Owned (old new : Packages) : List ℕ → TypePair → Type 0 where
  from_object : {name owner : List ℕ} {p : TypePair} → FromObject old new name p → IsOwner old name p.old owner → Owned old new owner p
  led_to : {leader owner : List ℕ} {p q : TypePair} → Owned old new leader p → Leads old new p q → IsOwner old leader q.old owner → Owned old new owner q

-- a pair that some object owns
abbrev pub IsOwned : Packages → Packages → TypePair → Type 0
IsOwned old new p = (owner : List ℕ) × Owned old new owner p

-- a list of owned pairs, among them those of the exported objects and those to which its pairs lead; so it holds all
pub record HoldsOwned (old new : Packages) (pairs : List TypePair) : Type 0 where
  pub owned : (p : TypePair) → Has pairs p → IsOwned old new p
  pub begun : (name : List ℕ) (p : TypePair) → FromObject old new name p → Has pairs p
  pub followed : (p q : TypePair) → Has pairs p → Leads old new p q → Has pairs q

abbrev pub pair_of : OwnedPair → TypePair
pair_of r = pair r.old r.new

-- exactly the owned pairs, each once
pub record AreOwnedPairs (old new : Packages) (rs : List OwnedPair) : Type 0 where
  pub once : Once rs
  pub sound : (r : OwnedPair) → Has rs r → Owned old new r.owner (pair_of r)
  pub complete : (r : OwnedPair) → Owned old new r.owner (pair_of r) → Has rs r
