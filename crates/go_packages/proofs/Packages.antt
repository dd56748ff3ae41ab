-- The package of entries that are a typing of some declarations.
use Rattle.std.proofs.Common.{◌≡◌, ℕ, Bool, true, false, cond, List, [], ◌∷◌, map, Some, None, refl, sym, ap, ◌∙◌, subst, inl, inr}
use Rattle.std.specs.List.{IsDistinct}
use Rattle.std.specs.Map.{lookup}
use Rattle.std.specs.Cmp.Lexicographic.{bytes_decides}
use Rattle.std.specs.Str.{bytes_eq}
use Rattle.go_base.specs.Keys.{first_with}
use Rattle.go_base.specs.Lists.{Ascending, Has}
use Rattle.go_declared.proofs.Stands.{not_declared}
use Rattle.go_declared.specs.NameTables.{AreDeclared, names_in}
use Rattle.go_declared.specs.declared.names.NamePlace.{NamePlace}
use Rattle.go_exposed.specs.OfferedPackages.{IsPackageOf, kept_at, kept_entity}
use Rattle.go_model.specs.declared.types.package.Defined.{Defined}
use Rattle.go_model.specs.declared.types.package.Object.{Object}
use Rattle.go_model.specs.worlds.Worlds.{object_name}
use Rattle.go_rules.specs.Names.{Named, value_at}
use Rattle.go_rules.specs.Scopes.{entity_of}
use Rattle.go_typings.specs.Declarations.{declarations, declared}
use Rattle.go_typings.specs.PackageEnvironments.{Entries, defined_at, own_defined}
use Rattle.go_typings.specs.Sources.{PackageSource, Setting}
use Rattle.go_typings.specs.TypedPackages.{IsOrdered}
use Rattle.go_typings.specs.Typings.{Typing}
use Rattle.go_packages.specs.inner.DefinedTypes.{AreDefined, IsSorted}
use Rattle.go_packages.specs.inner.NamedObjects.{denoted, objects_named}
use Rattle.go_packages.proofs.NamedDefined.{defined_ascend, defined_found}
use Rattle.go_packages.proofs.NamedObjects.{object_found, objects_ascend}
use Rattle.go_packages.proofs.OnceNamed.{had_once}
use Rattle.go_packages.proofs.OwnDefined.{own_parts}
use Rattle.go_packages.proofs.SelectorOrder.{in_order, is_same, same_members}

absent : {A : Type 0} (t : Named A) (name : List ℕ) → (Has (names_in t) name → ⊥) → value_at t name ≡ None
absent [] name h = refl
absent (e ∷ t) name h = ap (λ b. cond b (Some e.1) (lookup (bytes_eq name) t)) (by (bytes_eq name e.0) refl) ∙ absent t name (λ k. h (inr k))
  where
    by : (b : Bool) → bytes_eq name e.0 ≡ b → b ≡ false
    by true i = absurd (h (inl (sym ((bytes_decides name e.0).0 i))))
    by false i = refl

-- in a typing a type whose methods were sorted has them in order
ordered : (s : Setting) (u : PackageSource) (within : ℕ → Bool) (a : Entries) → Typing s u within a → (name : List ℕ) (had d : Defined) → own_defined u a name ≡ Some had → IsSorted had d → IsOrdered d had
ordered s u within a t name had d e k = record {
  name = k.name;
  underlying = k.underlying;
  ordered = in_order had.methods d.methods k.methods (subst (IsDistinct is_same) (sym (own_parts u a name had e).1) (had_once u name s within a t));
  same = same_members had.methods d.methods k.methods;
}

module _ (s : Setting) (u : PackageSource) (within : ℕ → Bool) (a : Entries) (t : Typing s u within a) (names : Named NamePlace) (declares : AreDeclared (declarations u) names) (rising : Ascending (names_in names)) where
  undeclared : (name : List ℕ) → (Has (names_in names) name → ⊥) → declared (declarations u) name ≡ None
  undeclared name h = not_declared (declarations u) names name declares (absent names name h)

  pub package_of : (path name : List ℕ) (os : List Object) (ds : List Defined) → path ≡ u.path → name ≡ u.name → os ≡ objects_named (denoted u.path a (declarations u)) (names_in names) → AreDefined (own_defined u a) (names_in names) ds
      → IsPackageOf u a (record { path = path; name = name; from_std = u.from_std; objects = os; defined = ds })
  package_of path name os ds p n e k = record {
    path = p;
    name = n;
    from_std = refl;
    objects_ordered = subst (λ (xs : List Object). Ascending (map object_name xs)) (sym e) (objects_ascend (kept_entity u a) (names_in names) rising);
    objects = λ name. ap (λ (xs : List Object). entity_of (first_with object_name xs name)) e ∙ object_found (kept_entity u a) name (names_in names) (λ h. ap (kept_at u.path a) (undeclared name h));
    defined_ordered = defined_ascend (own_defined u a) (λ n d i. (own_parts u a n d i).0) (names_in names) ds k rising;
    defined = λ name. defined_found (own_defined u a) (λ n d i. (own_parts u a n d i).0) name (ordered s u within a t name) (names_in names) ds k (λ h. ap (defined_at u a name) (undeclared name h));
  }
