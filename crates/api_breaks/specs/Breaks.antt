-- What is broken: each rule that a new world doesn't keep, with the package or the object that it is reported for.
-- Public source: README of golang.org/x/exp/apidiff, "Compatibility, Types and Names"; the words for what is lost are own.
use Rattle.std.specs.Prelude.{◌≡◌, ℕ, List}
use Rattle.go_model.specs.types.Members.{field_sel}
use Rattle.go_model.specs.types.Underlying.{under}
use Rattle.go_model.specs.types.MethodSets.{method_sel}
use Rattle.go_model.specs.declared.types.found.FieldFound.{FieldFound}
use Rattle.go_model.specs.types.Terms.{pointer_to}
use Rattle.go_model.specs.worlds.Worlds.{Packages}
use Rattle.go_model.specs.declared.types.package.Package.{Package}
use Rattle.go_model.specs.declared.types.package.Object.{Object}
use Rattle.go_model.specs.declared.types.package.Entity.{Entity}
use Rattle.go_model.specs.declared.types.package.Entity.TheVariants as entity
use Rattle.go_type_images.specs.declared.pair.TypePair.{TypePair}
use Rattle.go_model.specs.declared.types.term.Term.{roll-Term}
use Rattle.go_model.specs.declared.types.term.Field.{Field}
use Rattle.go_model.specs.declared.types.names.Sel.{Sel}
use Rattle.go_model.specs.declared.types.term.Method.{Method}
use Rattle.go_model.specs.declared.types.term.Signature.{Signature}
use Rattle.api_correspond.specs.Publics.{types_of, qualified}
use Rattle.api_correspond.specs.OwnedPairs.{Owned}
use Rattle.api_correspond.specs.Rules.{CoversPackage, KeepsPackage, CoversName, KeepsName, CoversObject, KeepsObject, CoversObjects, KeepsKind, KeepsConstant, KeepsType, CoversUnderlying, KeepsUnderlying, CoversField, KeepsField, CoversSelectable, KeepsSelectable, CoversComparable, KeepsComparable, CoversInterfaces, KeepsSealing, CoversInterfaceMethod, KeepsInterfaceMethod, CoversOpen, KeepsOpen, CoversInSet, KeepsInSet, CoversImplementing, KeepsImplementing, CoversApart, KeepsApart}
use Rattle.api_breaks.specs.declared.broken.Sort.{Sort}
use Rattle.api_breaks.specs.declared.broken.Sort.TheVariants as sort
use Rattle.api_breaks.specs.declared.broken.Lost.{Lost}
use Rattle.api_breaks.specs.declared.broken.Lost.TheVariants as lost
use Rattle.api_breaks.specs.declared.broken.Break.{Break}

abbrev pub sort_of : Entity → Sort
sort_of (entity.Const t v) = sort.Constant
sort_of (entity.Var t) = sort.Variable
sort_of (entity.Function g) = sort.Function
sort_of (entity.TypeOf t) = sort.Type

abbrev pub broken : List ℕ → Lost → Break
broken owner what = record { owner = owner; lost = what }

-- what packages and their objects lose: what a rule covers isn't kept
pub data IsPackageBreak (old new : Packages) (b : Break) : Type 0 where
  package_gone : (path : List ℕ) → CoversPackage old path → (KeepsPackage new path → ⊥) → broken path lost.Package ≡ b → IsPackageBreak old new b
  package_renamed : (path : List ℕ) (p q : Package) → CoversName old new path p q → (KeepsName p q → ⊥) → broken path (lost.Name q.name) ≡ b → IsPackageBreak old new b
  object_gone : (path : List ℕ) (a : Object) → CoversObject old new path a → (KeepsObject new path a → ⊥) → broken (qualified path a.name) lost.Removed ≡ b → IsPackageBreak old new b
  object_of_other_kind : (path : List ℕ) (a c : Object) → CoversObjects old new path a c → (KeepsKind a.entity c.entity → ⊥) → broken (qualified path a.name) (lost.Kind (sort_of a.entity) (sort_of c.entity)) ≡ b → IsPackageBreak old new b
  constant_apart : (path : List ℕ) (a c : Object) → CoversObjects old new path a c → (KeepsConstant a.entity c.entity → ⊥) → broken (qualified path a.name) (lost.Constant path a.entity c.entity) ≡ b → IsPackageBreak old new b

-- what a pair of types loses, by the rules on one pair
pub data IsLoss (old new : Packages) (p : TypePair) (l : Lost) : Type 0 where
  types_apart : (KeepsType old new p → ⊥) → lost.Type p.old p.new ≡ l → IsLoss old new p l
  underlying_apart : CoversUnderlying old new p → (KeepsUnderlying old new p → ⊥) → lost.Underlying (roll-Term (under (types_of old) p.old)) (roll-Term (under (types_of new) p.new)) ≡ l → IsLoss old new p l
  field_gone : (f : Field) → CoversField old new p f → (KeepsField new p f → ⊥) → lost.Field (field_sel f).name ≡ l → IsLoss old new p l
  not_selectable : (s : Sel) (f : FieldFound) → CoversSelectable old new p s f → (KeepsSelectable new p s f → ⊥) → lost.Selectable s.name ≡ l → IsLoss old new p l
  not_comparable : CoversComparable old new p → (KeepsComparable new p → ⊥) → lost.Comparable ≡ l → IsLoss old new p l
  sealing_apart : CoversInterfaces old new p → (KeepsSealing old new p → ⊥) → lost.Sealing ≡ l → IsLoss old new p l
  interface_method_gone : (m : Method) → CoversInterfaceMethod old new p m → (KeepsInterfaceMethod old new p m → ⊥) → lost.InterfaceMethod (method_sel m) ≡ l → IsLoss old new p l
  interface_method_new : (n : Method) → CoversOpen old new p n → (KeepsOpen old p n → ⊥) → lost.InterfaceMethod (method_sel n) ≡ l → IsLoss old new p l
  method_gone : (s : Sel) (g : Signature) → CoversInSet old new p p.old s g → (KeepsInSet old new p.new s g → ⊥) → lost.Method s ≡ l → IsLoss old new p l
  pointer_method_gone : (s : Sel) (g : Signature) → CoversInSet old new p (pointer_to p.old) s g → (KeepsInSet old new (pointer_to p.new) s g → ⊥) → lost.Method s ≡ l → IsLoss old new p l

-- what it loses by the rules on it and another pair
pub data IsLossAmong (old new : Packages) (p : TypePair) (l : Lost) : Type 0 where
  not_implementing : (i : TypePair) → CoversImplementing old new p.old i → (KeepsImplementing new p.new i → ⊥) → lost.Implements i.old ≡ l → IsLossAmong old new p l
  pointer_not_implementing : (i : TypePair) → CoversImplementing old new (pointer_to p.old) i → (KeepsImplementing new (pointer_to p.new) i → ⊥) → lost.Implements i.old ≡ l → IsLossAmong old new p l
  not_apart : (q : TypePair) → CoversApart old new p q → (KeepsApart p q → ⊥) → lost.OneToOne p.old p.new ≡ l → IsLossAmong old new p l

-- what is broken, by all rules
pub data IsBreak (old new : Packages) (b : Break) : Type 0 where
  of_packages : IsPackageBreak old new b → IsBreak old new b
  of_pair : (owner : List ℕ) (p : TypePair) (l : Lost) → Owned old new owner p → IsLoss old new p l → broken owner l ≡ b → IsBreak old new b
  of_pairs : (owner : List ℕ) (p : TypePair) (l : Lost) → Owned old new owner p → IsLossAmong old new p l → broken owner l ≡ b → IsBreak old new b
