-- The methods of a defined type that are had, and their order.
-- Own: words of the contracts inside this crate.
use Rattle.std.specs.Prelude.{ℕ, Bool, List, [], if◌then◌else◌}
use Rattle.std.specs.List.Sorted.{IsPermutation, IsSortedBy}
use Rattle.std.specs.Ordering.{is_lt}
use Rattle.go_declared.specs.MethodTables.{method_name}
use Rattle.go_declared.specs.declared.methods.MethodRow.{MethodRow}
use Rattle.go_model.specs.declared.types.package.MethodOf.{MethodOf}
use Rattle.go_model.specs.types.MethodSets.{sel_order}
use Rattle.go_typings.specs.Declarations.{Declaration}
use Rattle.go_typings.specs.PackageEnvironments.{Entries, had, had_of, signature_of}
use Rattle.go_typings.specs.Receivers.{DeclaredMethod, is_selectable, methods, selector}
use Rattle.go_typings.specs.Sources.{PackageSource}

-- the method that a row is, in the package of this path with these declarations
abbrev pub method_at : List ℕ → List Declaration → MethodRow → DeclaredMethod
method_at path ds r = record { number = r.number; sel = selector path (method_name ds r.number); pointer = r.pointer }

-- the method, where a selector can find it and its signature is had
abbrev pub had_by : Entries → DeclaredMethod → List MethodOf
had_by a m = if is_selectable m then had_of m (signature_of (a m.number)) else []

-- the methods of the defined type of a name that are had, in the order of their declarations
abbrev pub had_methods : PackageSource → Entries → List ℕ → List MethodOf
had_methods u a name = had a (methods u name)

-- the selector of the one method comes before that of the other
abbrev pub comes_first : MethodOf → MethodOf → Bool
comes_first m n = is_lt (sel_order m.sel n.sel)

-- the methods are these in the order of their selectors
pub record AreSorted (had ms : List MethodOf) : Type 0 where
  pub same : IsPermutation had ms
  pub sorted : IsSortedBy comes_first ms
