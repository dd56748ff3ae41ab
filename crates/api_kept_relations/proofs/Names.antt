-- The types of a world whose names have entries, and the packages of these names.
use Rattle.std.proofs.Common.{◌≡◌, ◌≢◌, ◌⊎◌, inl, inr, ℕ, Bool, true, false, List, [], ◌∷◌, refl, sym, ap, ◌∙◌, subst, Option, Some, None}
use Rattle.std.specs.Prelude.{if◌then◌else◌, is_some, bytes_eq, codes}
use Rattle.std.specs.Cmp.{first_so}
use Rattle.std.specs.Cmp.Lexicographic.{bytes_decides}
use Rattle.go_base.specs.Lists.{Has}
use Rattle.go_base.proofs.Ordered.{each_first, first_key}
use Rattle.go_model.specs.declared.types.names.Sel.{Sel}
use Rattle.go_model.specs.declared.types.names.TypeName.{TypeName}
use Rattle.go_model.specs.declared.types.package.Defined.{Defined}
use Rattle.go_model.specs.declared.types.package.Package.{Package}
use Rattle.go_model.specs.declared.types.term.Signature.{Signature}
use Rattle.go_model.specs.declared.types.term.Term.{Term, Term-F, out-Term}
use Rattle.go_model.specs.types.Tables.{Table}
use Rattle.go_model.specs.types.Terms.{client_path, error_type, is_error}
use Rattle.go_model.specs.types.TypeNames.{names}
use Rattle.go_model.specs.types.Underlying.{entry}
use Rattle.go_model.specs.worlds.Worlds.{IsPackage, IsWorld, Packages, defined_in, path_of, table_of}
use Rattle.go_model.proofs.Paths.{client_some}
use Rattle.go_types.specs.Regions.{Within}
use Rattle.go_type_images.specs.Leaves.{Leaves}
use Rattle.go_type_images.specs.Parts.{function_type}
use Rattle.go_client_types.specs.Preserving.{HasEntry, IsForeign}
use Rattle.go_shared_types.proofs.PartNames.{own_name, part_names}
use Rattle.go_shared_types.proofs.Regions.{Closed}
use Rattle.api_correspond.specs.Publics.{package_at, types_of}
use Rattle.api_kept_members.specs.inner.Entries.{had}
use Rattle.api_kept_members.proofs.Resolving.{EntriesResolve, leaves_resolve}
use Rattle.api_kept_members.proofs.ResolvingPairs.{entries_resolve}

pub some_had : (o : Option Defined) → o ≢ None → is_some o ≡ true
some_had (Some d) h = refl
some_had None h = absurd (h refl)

pub had_some : (o : Option Defined) → is_some o ≡ true → (d : Defined) × (o ≡ Some d)
had_some (Some d) h = (d, refl)
had_some None h = absurd (cc)

pub some_is : (o : Option Defined) (d : Defined) → o ≡ Some d → is_some o ≡ true
some_is o d e = ap is_some e

pub error_path : (n : TypeName) → is_error n ≡ true → n.path ≡ []
error_path n e = (bytes_decides n.path []).0 (first_so (bytes_eq n.path []) (bytes_eq n.name (codes "error")) e)

pub other_entry : (T : Table) (n : TypeName) → is_error n ≡ false → entry T n ≡ T n
other_entry T n e = ap (λ b. if b then Some error_type else T n) e

pub no_option : {A : Type 0} (x : A) → ◌≡◌ {A = Option A} None (Some x) → ⊥
no_option x e = absurd (cc)

abbrev pub AnySel : Sel → Type 0
AnySel s = Unit {0}

abbrev pub AnyMethod : Sel → Signature → Type 0
AnyMethod s g = Unit {0}

module _ (w : Packages) (i : IsWorld w) where
  abbrev T : Table
  T = types_of w

  abbrev pub IsNamed : Term → Type 0
  IsNamed t = Within (had T) t

  pub from_leaves : (t : Term) → Leaves (had T) t → IsNamed t
  from_leaves t l n h = some_had (entry T n) (leaves_resolve T t l n h)

  pub named_at : (t : Term) (n : TypeName) → IsNamed t → out-Term t ≡ Term-F.Named n → had T n ≡ true
  named_at t n g e = g n (own_name t n e)

  all_entries : EntriesResolve T
  all_entries = entries_resolve w i

  module _ (V : Table) (same : (n : TypeName) → had T n ≡ true → entry V n ≡ entry T n) where
    -- what stands in such a type, and what is beneath it, is such a type
    pub named : Closed V IsNamed AnySel AnyMethod
    named = record {
      inside = λ t u g k n h. g n (part_names t u n k h);
      fields = λ t f g k. tt;
      methods = λ t m g k. tt;
      beneath = λ t n d g e f. from_leaves d.underlying (all_entries.beneath n d (sym (same n (named_at t n g e)) ∙ f));
      declared = λ t n d m g e f k. (from_leaves (function_type m.signature) (all_entries.methods n d m (sym (same n (named_at t n g e)) ∙ f) k), tt);
    }

  -- ---- packages

  pub package_told : (path : List ℕ) (p : Package) → package_at w path ≡ Some p → (path ≢ client_path) × (path ≢ [])
  package_told path p e =
      let k = first_key path_of w.packages path p (sym e) in
      let h : IsPackage (table_of w.packages) p = each_first path_of (IsPackage (table_of w.packages)) w.packages path p (sym e) i.packaged in
      (λ f. h.foreign (k ∙ f), λ f. h.pathed (k ∙ f))

  of_option : (n : TypeName) (d : Defined) (o : Option Package) → package_at w n.path ≡ o → defined_in o n.name ≡ Some d → (p : Package) × (package_at w n.path ≡ Some p)
  of_option n d None e f = absurd (no_option d f)
  of_option n d (Some p) e f = (p, e)

  pub package_of : (n : TypeName) (d : Defined) → types_of w n ≡ Some d → (p : Package) × (package_at w n.path ≡ Some p)
  package_of n d e = of_option n d (package_at w n.path) refl e

  pub had_package : (n : TypeName) → had T n ≡ true → is_error n ≡ false → (p : Package) × (package_at w n.path ≡ Some p)
  had_package n h e = let d = had_some (entry T n) h in package_of n d.0 (sym (other_entry T n e) ∙ d.1)

  pub not_client : (n : TypeName) → had T n ≡ true → n.path ≢ client_path
  not_client n h = by (is_error n) refl
    where
      by : (b : Bool) → is_error n ≡ b → n.path ≢ client_path
      by true e = λ f. client_some (sym f ∙ error_path n e)
      by false e = let p = had_package n h e in (package_told n.path p.0 p.1).0

  by_layer : (V : Table) → ((n : TypeName) → had T n ≡ true → entry V n ≡ entry T n) → (t : Term) (l : _) → IsNamed t → out-Term t ≡ l → HasEntry V l × IsForeign l
  by_layer V same t (Term-F.Named n) g e = let h = named_at t n g e in let d = had_some (entry T n) h in ((d.0, same n h ∙ d.1), not_client n h)
  by_layer V same t l g e = (tt, tt)

  pub entered : (V : Table) → ((n : TypeName) → had T n ≡ true → entry V n ≡ entry T n) → (t : Term) → IsNamed t → HasEntry V (out-Term t) × IsForeign (out-Term t)
  entered V same t g = by_layer V same t (out-Term t) g refl
