-- A typing of some declarations is that of some package.
use Rattle.std.proofs.Common.{◌≡◌, ℕ, Bool, List, [], ◌∷◌, Option, Some, refl, sym, ap, subst, inl, inr}
use Rattle.std.specs.List.{IsDistinct}
use Rattle.go_exposed.proofs.WholePackages.{all_package}
use Rattle.go_exposed.specs.OfferedPackages.{IsPackageOf, kept_at, kept_entity}
use Rattle.go_model.specs.declared.types.package.Defined.{Defined}
use Rattle.go_model.specs.declared.types.package.Package.{Package}
use Rattle.go_packages.proofs.NamedDefined.{defined_ascend, defined_found}
use Rattle.go_packages.proofs.NamedObjects.{object_found, objects_ascend}
use Rattle.go_packages.proofs.OnceNamed.{had_once}
use Rattle.go_packages.proofs.OwnDefined.{own_parts}
use Rattle.go_packages.proofs.SelectorOrder.{in_order, is_same, same_members}
use Rattle.go_packages.specs.inner.DefinedTypes.{AreDefined, IsSorted, defined_none, defined_without, defined_more}
use Rattle.go_packages.specs.inner.HadMethods.{had_methods}
use Rattle.go_packages.specs.inner.NamedObjects.{objects_named}
use Rattle.go_typings.proofs.Cells.{maybe}
use Rattle.go_typings.specs.Assignments.{all_of}
use Rattle.go_typings.specs.Declarations.{declarations}
use Rattle.go_typings.specs.PackageEnvironments.{Entries, defined_at, own_defined}
use Rattle.go_typings.specs.Sources.{PackageSource, Setting}
use Rattle.go_typings.specs.TypedPackages.{IsOrdered, IsPackageOf as IsWholePackageOf}
use Rattle.go_typings.specs.Typings.{IsTyping, Typing}
use Rattle.go_world_outcomes.proofs.DeclaredNames.{declared_names, names_ascend, others_undeclared}
use Rattle.go_world_outcomes.proofs.SortedMethods.{sorted_methods}

-- a defined type with its methods in order
with_order : (had : Defined) → (d : Defined) × IsSorted had d
with_order had = let k = sorted_methods had.methods in (record { name = had.name; underlying = had.underlying; methods = k.0 }, record { name = refl; underlying = refl; methods = k.1 })

defined_types : (own : List ℕ → Option Defined) (ns : List (List ℕ)) → (ds : List Defined) × AreDefined own ns ds
defined_types own [] = ([], defined_none)
defined_types own (n ∷ ns) = let rest = defined_types own ns in elim (maybe (own n)) [
  | inl had ↦ let d = with_order had.0 in (d.0 ∷ rest.0, defined_more had.1 d.1 rest.1)
  | inr e ↦ (rest.0, defined_without e rest.1)
]

-- where each defined type has its methods once, these entries are those of a package
module _ (u : PackageSource) (a : Entries) (once : (name : List ℕ) (had : Defined) → own_defined u a name ≡ Some had → IsDistinct is_same (had_methods u a name)) where
  abbrev names : List (List ℕ)
  names = declared_names (declarations u)

  ordered : (name : List ℕ) (had d : Defined) → own_defined u a name ≡ Some had → IsSorted had d → IsOrdered d had
  ordered name had d e k = record {
    name = k.name;
    underlying = k.underlying;
    ordered = in_order had.methods d.methods k.methods (subst (IsDistinct is_same) (sym (own_parts u a name had e).1) (once name had e));
    same = same_members had.methods d.methods k.methods;
  }

  package_with : (p : Package) × IsPackageOf u a p
  package_with =
      let ds = defined_types (own_defined u a) names in (
        record { path = u.path; name = u.name; from_std = u.from_std; objects = objects_named (kept_entity u a) names; defined = ds.0 },
        record {
          path = refl;
          name = refl;
          from_std = refl;
          objects_ordered = objects_ascend (kept_entity u a) names (names_ascend (declarations u));
          objects = λ name. object_found (kept_entity u a) name names (λ h. ap (kept_at u.path a) (others_undeclared (declarations u) name h));
          defined_ordered = defined_ascend (own_defined u a) (λ n d i. (own_parts u a n d i).0) names ds.0 ds.1 (names_ascend (declarations u));
          defined = λ name. defined_found (own_defined u a) (λ n d i. (own_parts u a n d i).0) name (ordered name) names ds.0 ds.1 (λ h. ap (defined_at u a name) (others_undeclared (declarations u) name h));
        },
      )

-- the entries of a typing of some declarations are those of a package
pub kept_package : (s : Setting) (u : PackageSource) (S : ℕ → Bool) (a : Entries) → Typing s u S a → (p : Package) × IsPackageOf u a p
kept_package s u S a t = package_with u a (λ name had e. had_once u name s S a t)

pub package_of : (s : Setting) (u : PackageSource) (a : Entries) → IsTyping s u a → (p : Package) × IsWholePackageOf u a p
package_of s u a t = let k = kept_package s u (all_of (declarations u)) a t in (k.0, all_package s u a t k.0 k.1)
