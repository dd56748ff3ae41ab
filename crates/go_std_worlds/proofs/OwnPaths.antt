-- Units in canonical order have paths of their own.
use Rattle.std.proofs.Common.{◌≡◌, ℕ, List, [], ◌∷◌, ◌++◌, map, refl, sym, ap, subst, inl, inr}
use Rattle.std.proofs.Math.Logic.{∥∥₁_elim}
use Rattle.go_base.specs.Lists.{Has, Once}
use Rattle.go_imports.proofs.Members.{has_back}
use Rattle.go_reading.proofs.ListFacts.{map_more, mapped_from}
use Rattle.go_sources.specs.UnitSources.{source_of}
use Rattle.go_units.specs.UnitOrders.{InOrder, none, next}
use Rattle.go_units.specs.declared.unit.«Unit».{«Unit» as PackageUnit}
use Rattle.go_units.specs.declared.unit_list.Units.{Units}
use Rattle.go_std_worlds.specs.StdSources.{HaveOwnPaths, source_path}
use Rattle.go_std_worlds.specs.TwoModules.{sources_of}

never : {X : Type 0} (f g : X → ⊥) → f ≡ g
never f g i x = let e : f x ≡ g x = absurd (f x) in e i

module _ {A : Type 0} where
  once_last : (xs : List A) (x : A) → Once xs → (Has xs x → ⊥) → Once (xs ++ x ∷ [])
  once_last [] x o fresh = ((λ h. h), tt)
  once_last (y ∷ xs) x o fresh = ((λ h. elim (has_back xs x y h) [ inl k ↦ o.0 k | inr e ↦ fresh (inl (sym e)) ]), once_last xs x o.1 (λ h. fresh (inr h)))

  once_once : (xs : List A) (a b : Once xs) → a ≡ b
  once_once [] a b = refl
  once_once (x ∷ xs) a b = let e = never a.0 b.0 in let f = once_once xs a.1 b.1 in λ i. (e i, f i)

abbrev pub unit_path : PackageUnit → List ℕ
unit_path u = u.path

pub in_order : (among : PackageUnit → Type 0) {units : List PackageUnit} → InOrder among units → Once (map unit_path units)
in_order among none = tt
in_order among (next {standing = s} {u = u} o n) =
    subst Once (sym (map_more unit_path s (u ∷ []))) (once_last (map unit_path s) (unit_path u) (in_order among o) (λ h. let q = mapped_from unit_path s (unit_path u) h in n.fresh (q.0, q.1, q.2)))

same_paths : (units : List PackageUnit) → map source_path (map source_of units) ≡ map unit_path units
same_paths [] = refl
same_paths (u ∷ us) = ap (λ ps. u.path ∷ ps) (same_paths us)

pub own_paths : (units : Units) → HaveOwnPaths (sources_of units)
own_paths units = subst Once (sym (same_paths units.packages)) (∥∥₁_elim units.ordered (once_once (map unit_path units.packages)) (λ o. in_order (λ u. Has units.packages u) o))
