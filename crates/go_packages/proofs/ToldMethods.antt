-- The methods of a type by the rows of a table.
use Rattle.std.proofs.Common.{◌≡◌, ℕ, Bool, true, false, cond, List, [], ◌∷◌, ◌++◌, map, refl, sym, ap, ◌∙◌}
use Rattle.std.specs.Prelude.{filter, if◌then◌else◌}
use Rattle.go_base.specs.Gathered.{gather}
use Rattle.go_declared.specs.MethodTables.{AreMethods}
use Rattle.go_declared.specs.declared.methods.MethodRow.{MethodRow}
use Rattle.go_model.specs.declared.types.package.MethodOf.{MethodOf}
use Rattle.go_rules.specs.Names.{Named, items_at}
use Rattle.go_typings.specs.Declarations.{declarations, Declaration}
use Rattle.go_typings.specs.PackageEnvironments.{Entries, had, had_of, signature_of}
use Rattle.go_typings.specs.Receivers.{DeclaredMethod, declared_methods, is_selectable}
use Rattle.go_typings.specs.Sources.{PackageSource}
use Rattle.go_packages.specs.inner.HadMethods.{had_by, had_methods, method_at}

had_filtered : (a : Entries) (ms : List DeclaredMethod) → gather (had_by a) ms ≡ had a (filter is_selectable ms)
had_filtered a [] = refl
had_filtered a (m ∷ ms) = by (is_selectable m) (had_filtered a ms)
  where
    by : (b : Bool) → gather (had_by a) ms ≡ had a (filter is_selectable ms)
        → (if b then had_of m (signature_of (a m.number)) else []) ++ gather (had_by a) ms ≡ had a (cond b (m ∷ filter is_selectable ms) (filter is_selectable ms))
    by true e = ap (λ (xs : List MethodOf). had_of m (signature_of (a m.number)) ++ xs) e
    by false e = e

-- the methods of the rows that a table has of a type
pub methods_told : (u : PackageSource) (a : Entries) (ds : List Declaration) (t : Named (List MethodRow)) (name : List ℕ) → ds ≡ declarations u → AreMethods ds t
    → gather (had_by a) (map (method_at u.path ds) (items_at t name)) ≡ had_methods u a name
methods_told u a ds t name e are =
    ap (λ (xs : List Declaration). gather (had_by a) (map (method_at u.path xs) (items_at t name))) e
    ∙ ap (gather (had_by a)) (are u (sym e) name)
    ∙ had_filtered a (declared_methods u name)
