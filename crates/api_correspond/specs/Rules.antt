-- What a new world keeps of an old one. Of each rule one definition says what it covers, and one what is kept of that.
-- Public source: README of golang.org/x/exp/apidiff, "Compatibility, Types and Names"; what is stricter is own: the new fields that
-- make a type incomparable, members that are promoted, types that aren't exported, and interfaces with unexported methods.
use Rattle.std.specs.Prelude.{◌≡◌, ◌≤◌, ◌⊎◌, ◌&&◌, ◌||◌, ℕ, not, Bool, true, List, Some}
use Rattle.go_base.specs.Lists.{Has}
use Rattle.go_model.specs.types.Terms.{pointer_to}
use Rattle.go_model.specs.types.Underlying.{under, fields_of, methods_of}
use Rattle.go_model.specs.types.Selectors.{Finds}
use Rattle.go_model.specs.types.MethodSets.{InSet, Implements, method_sel}
use Rattle.go_model.specs.types.Members.{field_sel}
use Rattle.go_model.specs.types.Comparison.{Comparable}
use Rattle.go_model.specs.worlds.Worlds.{Packages}
use Rattle.go_model.specs.declared.types.names.Sel.{Sel}
use Rattle.go_model.specs.declared.types.package.Package.{Package}
use Rattle.go_model.specs.declared.types.package.Object.{Object}
use Rattle.go_model.specs.declared.types.package.Entity.{Entity}
use Rattle.go_model.specs.declared.types.package.Entity.TheVariants as entity
use Rattle.go_model.specs.declared.types.package.ConstTerm.TheVariants as constant
use Rattle.go_model.specs.declared.types.found.Found.TheVariants.{FieldAt}
use Rattle.go_model.specs.declared.types.found.FieldFound.{FieldFound}
use Rattle.go_model.specs.declared.types.term.Term.{Term, out-Term}
use Rattle.go_model.specs.declared.types.term.Field.{Field}
use Rattle.go_model.specs.declared.types.term.Method.{Method}
use Rattle.go_model.specs.declared.types.term.Signature.{Signature}
use Rattle.go_type_images.specs.declared.pair.TypePair.{TypePair}
use Rattle.api_correspond.specs.Publics.{types_of, package_at, of_module, of_std, IsPublic, IsExported, Exports}
use Rattle.api_correspond.specs.Outermost.{SameOutermost}
use Rattle.api_correspond.specs.OwnedPairs.{IsOwned, are_of_module, are_structs}
use Rattle.go_type_images.specs.Levels.{struct_layer, interface_layer}

-- `package`: a public package stays public
abbrev pub CoversPackage : Packages → List ℕ → Type 0
CoversPackage old path = IsPublic old path

abbrev pub KeepsPackage : Packages → List ℕ → Type 0
KeepsPackage new path = IsPublic new path

-- `name`: a package that is public in both keeps its name
pub record CoversName (old new : Packages) (path : List ℕ) (p q : Package) : Type 0 where
  pub shown : IsPublic old path
  pub still : IsPublic new path
  pub before : package_at old path ≡ Some p
  pub after : package_at new path ≡ Some q

abbrev pub KeepsName : Package → Package → Type 0
KeepsName p q = q.name ≡ p.name

-- `removed`: an exported object has a new exported object of its name, where its package stays public
pub record CoversObject (old new : Packages) (path : List ℕ) (a : Object) : Type 0 where
  pub exported : Exports old path a
  pub still : IsPublic new path

abbrev pub KeepsObject : Packages → List ℕ → Object → Type 0
KeepsObject new path a = (b : Object) × Exports new path b × (b.name ≡ a.name)

-- `kind` and `constant`: an exported object of each world, of one name
pub record CoversObjects (old new : Packages) (path : List ℕ) (a b : Object) : Type 0 where
  pub before : Exports old path a
  pub after : Exports new path b
  pub same : b.name ≡ a.name

-- `kind`: a constant stays a constant, a variable a variable, a type a type, and a function a function or becomes a variable
abbrev pub KeepsKind : Entity → Entity → Type 0
KeepsKind (entity.Const t v) (entity.Const u w) = Unit {0}
KeepsKind (entity.Var t) (entity.Var u) = Unit {0}
KeepsKind (entity.Function g) (entity.Function h) = Unit {0}
KeepsKind (entity.Function g) (entity.Var u) = Unit {0}
KeepsKind (entity.TypeOf t) (entity.TypeOf u) = Unit {0}
KeepsKind a b = ⊥

-- `constant`: a constant has its value, and a type on both sides or the same untyped kind
abbrev pub KeepsConstant : Entity → Entity → Type 0
KeepsConstant (entity.Const (constant.OfTerm t) v) (entity.Const (constant.OfTerm u) w) = w ≡ v
KeepsConstant (entity.Const (constant.OfKind k) v) (entity.Const (constant.OfKind l) w) = (l ≡ k) × (w ≡ v)
KeepsConstant (entity.Const t v) (entity.Const u w) = ⊥
KeepsConstant a b = Unit {0}

-- `type`: the types of each pair have the same outermost constructor
abbrev pub KeepsType : Packages → Packages → TypePair → Type 0
KeepsType old new p = SameOutermost old new (out-Term p.old) (out-Term p.new)

-- `underlying`: so has what is underneath types of the module, or both have a struct, or both an interface
abbrev pub CoversUnderlying : Packages → Packages → TypePair → Type 0
CoversUnderlying old new p = are_of_module old new p ≡ true

abbrev pub have_structs : Packages → Packages → TypePair → Bool
have_structs old new p = struct_layer (under (types_of old) p.old) && struct_layer (under (types_of new) p.new)

abbrev pub have_interfaces : Packages → Packages → TypePair → Bool
have_interfaces old new p = interface_layer (under (types_of old) p.old) && interface_layer (under (types_of new) p.new)

abbrev pub KeepsUnderlying : Packages → Packages → TypePair → Type 0
KeepsUnderlying old new p = SameOutermost old new (under (types_of old) p.old) (under (types_of new) p.new) ⊎ (have_structs old new p || have_interfaces old new p) ≡ true

-- `fields`: of types of the module with structs, each exported field is a field of the new one
pub record CoversField (old new : Packages) (p : TypePair) (f : Field) : Type 0 where
  pub structs : (are_of_module old new p && have_structs old new p) ≡ true
  pub there : Has (fields_of (under (types_of old) p.old)) f
  pub exported : IsExported (field_sel f)

abbrev pub KeepsField : Packages → TypePair → Field → Type 0
KeepsField new p f = (g : Field) × Has (fields_of (under (types_of new) p.new)) g × (field_sel g ≡ field_sel f)

-- `selectable`: an exported selector that finds a field of a struct below the top level finds one in the new struct, through a
-- pointer where it did
pub record CoversSelectable (old new : Packages) (p : TypePair) (s : Sel) (f : FieldFound) : Type 0 where
  pub structs : have_structs old new p ≡ true
  pub exported : IsExported s
  pub found : Finds (types_of old) s p.old (FieldAt f)
  pub deep : 1 ≤ f.depth

abbrev pub KeepsSelectable : Packages → TypePair → Sel → FieldFound → Type 0
KeepsSelectable new p s f = (g : FieldFound) × Finds (types_of new) s p.new (FieldAt g) × (f.through_pointer ≡ true → g.through_pointer ≡ true)

-- `comparable`: where the outermost constructor is the same, a comparable type stays comparable
pub record CoversComparable (old new : Packages) (p : TypePair) : Type 0 where
  pub alike : SameOutermost old new (out-Term p.old) (out-Term p.new)
  pub before : Comparable (types_of old) p.old

abbrev pub KeepsComparable : Packages → TypePair → Type 0
KeepsComparable new p = Comparable (types_of new) p.new

-- a method that no other package can declare: an unexported one of a package of the module
abbrev pub is_sealing : Packages → Sel → Bool
is_sealing w s = of_module (package_at w s.«package»)

-- an unexported method of a package of the standard library
abbrev pub is_std_sel : Packages → Sel → Bool
is_std_sel w s = of_std (package_at w s.«package»)

-- a method that counts by itself: an exported one, or an unexported one of std
abbrev pub Counts : Packages → Sel → Type 0
Counts w s = IsExported s ⊎ (is_std_sel w s ≡ true)

-- an interface is sealed by an unexported method of the module, and open without one: code elsewhere can implement it
abbrev pub IsSealed : Packages → Term → Type 0
IsSealed w t = (m : Method) × Has (methods_of (under (types_of w) t)) m × (is_sealing w (method_sel m) ≡ true)

abbrev pub IsOpen : Packages → Term → Type 0
IsOpen w t = IsSealed w t → ⊥

-- `interface-methods`: of types of the module with interfaces, both are sealed or both open
abbrev pub CoversInterfaces : Packages → Packages → TypePair → Type 0
CoversInterfaces old new p = (are_of_module old new p && have_interfaces old new p) ≡ true

pub record KeepsSealing (old new : Packages) (p : TypePair) : Type 0 where
  pub kept : IsSealed old p.old → IsSealed new p.new
  pub not_new : IsSealed new p.new → IsSealed old p.old

-- each method that counts is one of the new interface; an unexported one of std has an identical signature
pub record CoversInterfaceMethod (old new : Packages) (p : TypePair) (m : Method) : Type 0 where
  pub interfaces : CoversInterfaces old new p
  pub there : Has (methods_of (under (types_of old) p.old)) m
  pub counts : Counts old (method_sel m)

abbrev pub KeepsInterfaceMethod : Packages → Packages → TypePair → Method → Type 0
KeepsInterfaceMethod old new p m = (n : Method) × Has (methods_of (under (types_of new) p.new)) n × (method_sel n ≡ method_sel m) × (is_std_sel old (method_sel m) ≡ true → n ≡ m)

-- and a method of an open interface that stays open isn't new
pub record CoversOpen (old new : Packages) (p : TypePair) (n : Method) : Type 0 where
  pub interfaces : CoversInterfaces old new p
  pub before : IsOpen old p.old
  pub after : IsOpen new p.new
  pub there : Has (methods_of (under (types_of new) p.new)) n

abbrev pub KeepsOpen : Packages → TypePair → Method → Type 0
KeepsOpen old p n = (m : Method) × Has (methods_of (under (types_of old) p.old)) m × (method_sel m ≡ method_sel n)

-- types of the module that aren't interfaces, or two structs that aren't defined types: their method sets are compared
abbrev pub have_method_sets : Packages → Packages → TypePair → Bool
have_method_sets old new p = (are_of_module old new p && not (interface_layer (under (types_of old) p.old)) && not (interface_layer (under (types_of new) p.new))) || are_structs p

-- `method-set`: a method of the set of a type of the pair, or of the pointer to it, is one of the new set; an unexported one of std
-- has an identical signature
pub record CoversInSet (old new : Packages) (p : TypePair) (t : Term) (s : Sel) (g : Signature) : Type 0 where
  pub sets : have_method_sets old new p ≡ true
  pub counts : Counts old s
  pub there : InSet (types_of old) t s g

abbrev pub KeepsInSet : Packages → Packages → Term → Sel → Signature → Type 0
KeepsInSet old new u s g = (h : Signature) × InSet (types_of new) u s h × (is_std_sel old s ≡ true → h ≡ g)

-- an owned sealed interface, to which a new interface corresponds
pub record IsSealedPair (old new : Packages) (i : TypePair) : Type 0 where
  pub owned : IsOwned old new i
  pub sealed : IsSealed old i.old
  pub still : interface_layer (under (types_of new) i.new) ≡ true

-- `implements`: an old type of a pair that implements such an interface, or the pointer to it, implements the new one
pub record CoversImplementing (old new : Packages) (t : Term) (i : TypePair) : Type 0 where
  pub sealed : IsSealedPair old new i
  pub before : Implements (types_of old) t i.old

abbrev pub KeepsImplementing : Packages → Term → TypePair → Type 0
KeepsImplementing new u i = Implements (types_of new) u i.new

-- `one-to-one`: of types of the module, the old one corresponds to no other new type, and the new one to no other old type
pub record CoversApart (old new : Packages) (p q : TypePair) : Type 0 where
  pub in_module : are_of_module old new p ≡ true
  pub owned : IsOwned old new q

pub record KeepsApart (p q : TypePair) : Type 0 where
  pub same_old : q.old ≡ p.old → q.new ≡ p.new
  pub same_new : q.new ≡ p.new → q.old ≡ p.old

-- what a path keeps: its package, the name and the objects of that
pub record KeepsPath (old new : Packages) (path : List ℕ) : Type 0 where
  pub package_kept : CoversPackage old path → KeepsPackage new path
  pub name_kept : (p q : Package) → CoversName old new path p q → KeepsName p q
  pub objects : (a : Object) → CoversObject old new path a → KeepsObject new path a
  pub kinds : (a b : Object) → CoversObjects old new path a b → KeepsKind a.entity b.entity
  pub constants : (a b : Object) → CoversObjects old new path a b → KeepsConstant a.entity b.entity

-- what a pair of types keeps, by the rules on one pair
pub record KeepsPair (old new : Packages) (p : TypePair) : Type 0 where
  pub types : KeepsType old new p
  pub underlying : CoversUnderlying old new p → KeepsUnderlying old new p
  pub fields : (f : Field) → CoversField old new p f → KeepsField new p f
  pub selectable : (s : Sel) (f : FieldFound) → CoversSelectable old new p s f → KeepsSelectable new p s f
  pub comparable : CoversComparable old new p → KeepsComparable new p
  pub sealing : CoversInterfaces old new p → KeepsSealing old new p
  pub interface_methods : (m : Method) → CoversInterfaceMethod old new p m → KeepsInterfaceMethod old new p m
  pub open_interfaces : (n : Method) → CoversOpen old new p n → KeepsOpen old p n
  pub method_sets : (s : Sel) (g : Signature) → CoversInSet old new p p.old s g → KeepsInSet old new p.new s g
  pub pointer_sets : (s : Sel) (g : Signature) → CoversInSet old new p (pointer_to p.old) s g → KeepsInSet old new (pointer_to p.new) s g

-- what it keeps, by the rules on it and another pair
pub record KeepsAmong (old new : Packages) (p : TypePair) : Type 0 where
  pub implements : (i : TypePair) → CoversImplementing old new p.old i → KeepsImplementing new p.new i
  pub pointer_implements : (i : TypePair) → CoversImplementing old new (pointer_to p.old) i → KeepsImplementing new (pointer_to p.new) i
  pub one_to_one : (q : TypePair) → CoversApart old new p q → KeepsApart p q

-- nothing of the old world is lost
pub record Compatible (old new : Packages) : Type 0 where
  pub paths : (path : List ℕ) → KeepsPath old new path
  pub pairs : (p : TypePair) → IsOwned old new p → KeepsPair old new p × KeepsAmong old new p
