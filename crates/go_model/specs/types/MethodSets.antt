-- Method sets, and the types that implement an interface.
-- Public source: Go specification, "Method sets" and "Implementing an interface".
use Rattle.std.specs.Prelude.{◌≡◌, ◌⊎◌, ℕ, List, map, Option, Bool, true, false}
use Rattle.std.specs.List.Sorted.{IsStrictlySortedBy}
use Rattle.std.specs.Ordering.{nat_cmp, ordering_then}
use Rattle.std.specs.declared.cmp.Ordering.{Ordering}
use Rattle.std.specs.Cmp.Lexicographic.{slice_cmp}
use Rattle.go_base.specs.Lists.{Has}
use Rattle.go_model.specs.types.Tables.{Table}
use Rattle.go_model.specs.types.Underlying.{under}
use Rattle.go_model.specs.types.Selectors.{method, start, IsOnly, is_defined_pointer}
use Rattle.go_model.specs.declared.types.names.Sel.{Sel}
use Rattle.go_model.specs.declared.types.names.TypeName.{TypeName}
use Rattle.go_model.specs.declared.types.term.Term.{Term, Term-F}
use Rattle.go_model.specs.declared.types.term.Method.{Method, out-Method}
use Rattle.go_model.specs.declared.types.term.Signature.{Signature}

-- a method can be called on a value that isn't addressable: its receiver is no pointer, or the way to it goes through one
abbrev pub Reaches : Bool → Bool → Type 0
Reaches pointer through = (pointer ≡ false) ⊎ (through ≡ true)

-- the method with this selector and signature is in the method set of the type
pub record InSet (T : Table) (t : Term) (s : Sel) (g : Signature) : Type 0 where
  pub depth : ℕ
  pub through : Bool
  pub owner : Option TypeName
  pub pointer : Bool
  pub only : IsOnly T s (start T t) depth (record { through = through; target = method owner pointer g })
  pub counts : is_defined_pointer T t ≡ false
  pub reaches : Reaches pointer through

-- a method of an interface stands with an identical signature in the method set of the type
abbrev pub HasMethod : Table → Term → Method → Type 0
HasMethod T t m = InSet T t (out-Method m).sel (out-Method m).signature

abbrev pub HasMethods : Table → Term → List Method → Type 0
HasMethods T t ms = (m : Method) → Has ms m → HasMethod T t m

-- the type implements the interface
abbrev pub Implements : Table → Term → Term → Type 0
Implements T t interface = (ms : List Method) × (under T interface ≡ Term-F.Interface ms) × HasMethods T t ms

abbrev pub method_sel : Method → Sel
method_sel m = (out-Method m).sel

-- selectors in order, by name and then by package
abbrev pub sel_order : Sel → Sel → Ordering
sel_order a b = ordering_then (slice_cmp nat_cmp a.name b.name) (slice_cmp nat_cmp a.«package» b.«package»)

-- exactly the methods of the method set, in order, each once
pub record IsMethodSet (T : Table) (t : Term) (ms : List Method) : Type 0 where
  pub ordered : IsStrictlySortedBy sel_order (map method_sel ms)
  pub sound : (m : Method) → Has ms m → HasMethod T t m
  pub complete : (m : Method) → HasMethod T t m → Has ms m
