-- Any two tables share the predeclared types.
use Rattle.std.proofs.Common.{◌≡◌, ◌≢◌, ◌⊎◌, inl, inr, Bool, true, false, List, [], ◌∷◌, ◌++◌, map, refl, sym, ap, ◌∙◌, subst, Option, Some}
use Rattle.std.specs.Prelude.{bytes_eq, codes}
use Rattle.std.specs.Cmp.{first_so}
use Rattle.std.specs.Cmp.Lexicographic.{bytes_decides}
use Rattle.go_base.specs.Lists.{Has, Once}
use Rattle.go_model.specs.declared.types.names.Sel.{Sel}
use Rattle.go_model.specs.declared.types.names.TypeName.{TypeName}
use Rattle.go_model.specs.declared.types.package.Defined.{Defined}
use Rattle.go_model.specs.declared.types.term.Method.{Method}
use Rattle.go_model.specs.declared.types.term.Term.{Term, Term-F, out-Term, out-roll-Term}
use Rattle.go_model.specs.types.MethodSets.{method_sel}
use Rattle.go_model.specs.types.Tables.{Table}
use Rattle.go_model.specs.types.Terms.{Layer, client_path, error_method, error_type, is_error}
use Rattle.go_model.specs.types.TypeNames.{names}
use Rattle.go_model.specs.types.TypeSelectors.{selectors}
use Rattle.go_model.specs.types.Underlying.{entry}
use Rattle.go_model.specs.worlds.PackageTypes.{defined_selectors}
use Rattle.go_model.proofs.Paths.{client_some}
use Rattle.go_selectors.proofs.Lists.{has-split}
use Rattle.go_shared_types.specs.Sharing.{IsShared, is_exported_sel}
use Rattle.go_shared_types.proofs.Items.{either, passes}
use Rattle.go_shared_types.proofs.PartNames.{error_names, error_selectors}
use Rattle.go_shared_types.proofs.Scopes.{error_entry, some_some}

one_interface : {ms ns : List Method} → ◌≡◌ {A = Layer} (Term-F.Interface ms) (Term-F.Interface ns) → ms ≡ ns
one_interface e = cc

exported : (s : Sel) → is_exported_sel s ≡ true → s.«package» ≡ []
exported s e = (bytes_decides s.«package» []).0 e

is_exported : (s : Sel) → s.«package» ≡ [] → is_exported_sel s ≡ true
is_exported s e = (bytes_decides s.«package» []).1 e

error_once : (ms : List Method) → error_method ∷ [] ≡ ms → Once (map method_sel ms)
error_once ms e = subst (λ xs. Once (map method_sel xs)) e ((λ h. h), tt)

module _ (T U : Table) where
  is_that : (n : TypeName) (d : Defined) → is_error n ≡ true → entry T n ≡ Some d → error_type ≡ d
  is_that n d h e = some_some (sym (error_entry T n h) ∙ e)

  of_error : (s : Sel) → Has (selectors error_type.underlying ++ []) s → is_exported_sel s ≡ true
  of_error s k = either (has-split (selectors error_type.underlying) [] s k) (λ q. is_exported s (error_selectors s q)) (λ q. absurd q)

  pub predeclared : IsShared T U is_error is_exported_sel
  predeclared = record {
    entered = λ n h. (error_type, error_entry T n h);
    agree = λ n h. error_entry T n h ∙ sym (error_entry U n h);
    closed = λ n d h e. record {
      underneath = λ m k. absurd (error_names m (subst (λ (x : Defined). Has (names x.underlying) m) (sym (is_that n d h e)) k));
      signatures = λ m k. absurd (subst (λ (x : Defined). Has x.methods m) (sym (is_that n d h e)) k);
    };
    labels = λ n d h e. passes is_exported_sel (defined_selectors d) (λ s k. of_error s (subst (λ (x : Defined). Has (defined_selectors x) s) (sym (is_that n d h e)) k));
    bare = λ n d ms h e u.
        let x = is_that n d h e in
        (error_once ms (one_interface (sym (out-roll-Term (Term-F.Interface (error_method ∷ []))) ∙ subst (λ (y : Defined). out-Term y.underlying ≡ Term-F.Interface ms) (sym x) u)), sym (ap (λ (y : Defined). y.methods) x));
    foreign = λ n h f. client_some (sym f ∙ (bytes_decides n.path []).0 (first_so (bytes_eq n.path []) (bytes_eq n.name (codes "error")) h));
    strange = λ s h f. client_some (sym f ∙ exported s h);
    exported = is_exported;
  }
