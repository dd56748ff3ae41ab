-- The entries of types of the standard library, in a world where it stands alone.
use Rattle.std.proofs.Common.{◌≡◌, inl, inr, ℕ, Bool, true, false, List, ◌++◌, refl, sym, ap, ◌∙◌, subst, Option, Some, None}
use Rattle.go_base.specs.Gathered.{gather}
use Rattle.go_base.specs.Lists.{Has, Passes}
use Rattle.go_selectors.proofs.Lists.{has-left, has-right}
use Rattle.go_model.specs.declared.types.names.Sel.{Sel}
use Rattle.go_model.specs.declared.types.names.TypeName.{TypeName}
use Rattle.go_model.specs.declared.types.package.Defined.{Defined}
use Rattle.go_model.specs.declared.types.package.MethodOf.{MethodOf}
use Rattle.go_model.specs.declared.types.package.Package.{Package}
use Rattle.go_model.specs.types.TypeNames.{Names, names, signature_names}
use Rattle.go_model.specs.types.TypeSelectors.{Sels, selectors}
use Rattle.go_model.specs.worlds.PackageTypes.{declared_selectors, defined_names, defined_selectors, object_names, object_selectors, package_names, package_selectors}
use Rattle.go_model.specs.worlds.Worlds.{Packages, defined_in, name_of}
use Rattle.go_type_images.specs.Parts.{function_type}
use Rattle.go_shared_types.proofs.Items.{in_gather, passes, passing}
use Rattle.go_shared_types.proofs.PartNames.{names_of_function, selectors_of_function}
use Rattle.api_correspond.specs.Publics.{of_std, package_at, types_of}
use Rattle.api_kept_relations.specs.StdTypes.{IsOfStd, StdStandsAlone, is_open_sel, is_std_name}
use Rattle.api_kept_relations.proofs.Labels.{first_stands}
use Rattle.api_kept_relations.proofs.Names.{no_option}

module _ (w : Packages) (A : StdStandsAlone w) where
  pub record IsStdEntry (d : Defined) : Type 0 where
    pub names : (n : TypeName) → Has (defined_names d) n → is_std_name w n ≡ true
    pub selectors : (s : Sel) → Has (defined_selectors d) s → is_open_sel w s ≡ true

  by_package : (n : TypeName) (d : Defined) (o : Option Package) → package_at w n.path ≡ o → of_std o ≡ true → defined_in o n.name ≡ Some d → IsStdEntry d
  by_package n d None e s f = absurd (no_option d f)
  by_package n d (Some p) e s f =
      let h = first_stands name_of p.defined n.name d f in
      record {
        names = λ x k. passing (is_std_name w) (package_names p) x (A.names n.path p e s) (has-right (gather object_names p.objects) (gather defined_names p.defined) x (in_gather defined_names p.defined d x h k));
        selectors = λ x k. passing (is_open_sel w) (package_selectors p) x (A.selectors n.path p e s) (has-right (gather object_selectors p.objects) (gather defined_selectors p.defined) x (in_gather defined_selectors p.defined d x h k));
      }

  std_entry : (n : TypeName) (d : Defined) → of_std (package_at w n.path) ≡ true → types_of w n ≡ Some d → IsStdEntry d
  std_entry n d s e = by_package n d (package_at w n.path) refl s e

  pub beneath : (n : TypeName) (d : Defined) → of_std (package_at w n.path) ≡ true → types_of w n ≡ Some d → IsOfStd w d.underlying
  beneath n d s e =
      let h = std_entry n d s e in (
        passes (is_std_name w) (names d.underlying) (λ x k. h.names x (has-left (names d.underlying) (gather (λ m. signature_names m.signature) d.methods) x k)),
        passes (is_open_sel w) (selectors d.underlying) (λ x k. h.selectors x (has-left (selectors d.underlying) (gather declared_selectors d.methods) x k)),
      )

  pub declared : (n : TypeName) (d : Defined) (m : MethodOf) → of_std (package_at w n.path) ≡ true → types_of w n ≡ Some d → Has d.methods m → IsOfStd w (function_type m.signature) × (is_open_sel w m.sel ≡ true)
  declared n d m s e k =
      let h = std_entry n d s e in
      let own : (x : Sel) → Has (declared_selectors m) x → is_open_sel w x ≡ true = λ x j. h.selectors x (has-right (selectors d.underlying) (gather declared_selectors d.methods) x (in_gather declared_selectors d.methods m x k j)) in (
        (
          passes (is_std_name w) (names (function_type m.signature)) (λ x j. h.names x (has-right (names d.underlying) (gather (λ (y : MethodOf). signature_names y.signature) d.methods) x (in_gather (λ (y : MethodOf). signature_names y.signature) d.methods m x k (subst (λ (xs : Names). Has xs x) (names_of_function m.signature) j)))),
          passes (is_open_sel w) (selectors (function_type m.signature)) (λ x j. own x (inr (subst (λ (xs : Sels). Has xs x) (selectors_of_function m.signature) j))),
        ),
        own m.sel (inl refl),
      )
