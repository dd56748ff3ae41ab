-- What is known of the types of a world holds of them in the table that a client of it is typed over.
use Rattle.std.proofs.Common.{◌≡◌, ◌≢◌, ℕ, Bool, true, false, List, refl, sym, ap, ◌∙◌, subst, Option, Some, None}
use Rattle.go_base.specs.Lists.{Has}
use Rattle.go_model.specs.declared.types.names.Sel.{Sel}
use Rattle.go_model.specs.declared.types.names.TypeName.{TypeName}
use Rattle.go_model.specs.declared.types.package.Defined.{Defined}
use Rattle.go_model.specs.declared.types.package.Package.{Package}
use Rattle.go_model.specs.declared.types.term.Term.{Term, Term-F, out-Term}
use Rattle.go_model.specs.types.Comparison.{Comparable}
use Rattle.go_model.specs.types.MethodSets.{Implements}
use Rattle.go_model.specs.types.Selectors.{Ending, IsOnly, Spot, ends}
use Rattle.go_model.specs.types.Tables.{Table}
use Rattle.go_model.specs.types.Terms.{Layer, is_error}
use Rattle.go_model.specs.types.Underlying.{declared_methods, entry, methods_of_entry, under, under_entry, under_layer}
use Rattle.go_model.specs.worlds.Worlds.{IsWorld, Packages, defined_in}
use Rattle.go_types.specs.Regions.{AgreeOn, IsClosed}
use Rattle.go_types.proofs.Agree.{agree_back, closed_back, comparable_over, ends_over, implements_over}
use Rattle.go_type_images.specs.Parts.{function_type}
use Rattle.go_shared_types.proofs.PartNames.{names_of_function}
use Rattle.api_correspond.specs.Publics.{package_at, types_of}
use Rattle.api_kept_members.specs.inner.Entries.{had}
use Rattle.api_kept_members.proofs.ResolvingPairs.{entries_resolve}
use Rattle.api_kept_relations.specs.ClientWorlds.{Serves}
use Rattle.api_kept_relations.proofs.Names as N
use Rattle.go_shared_types.proofs.Scopes.{error_entry}
use Rattle.api_kept_relations.proofs.Names.{other_entry}

module _ (small large : Packages) (T : Table) (i : IsWorld small) (V : Serves small large T) where
  abbrev S : Table
  S = types_of small

  abbrev pub IsNamed : Term → Type 0
  IsNamed = N.IsNamed small i

  of_world : (n : TypeName) → had S n ≡ true → is_error n ≡ false → T n ≡ S n
  of_world n h e =
      let p = N.had_package small i n h e in
      V.table n (N.not_client small i n h) ∙ ap (λ (o : Option Package). defined_in o n.name) (V.holds n.path p.0 p.1 ∙ sym p.1)

  by_error : (n : TypeName) → had S n ≡ true → (b : Bool) → is_error n ≡ b → entry T n ≡ entry S n
  by_error n h true e = error_entry T n e ∙ sym (error_entry S n e)
  by_error n h false e = other_entry T n e ∙ of_world n h e ∙ sym (other_entry S n e)

  -- each name with an entry in the world has it in the table
  pub same : (n : TypeName) → had S n ≡ true → entry T n ≡ entry S n
  same n h = by_error n h (is_error n) refl

  agree : AgreeOn (had S) S T
  agree n h = sym (same n h)

  closed : IsClosed (had S) S
  closed n d h e = record {
    underneath = N.from_leaves small i d.underlying ((entries_resolve small i).beneath n d e);
    signatures = λ m k x j. N.from_leaves small i (function_type m.signature) ((entries_resolve small i).methods n d m e k) x (subst (λ (ns : List TypeName). Has ns x) (sym (names_of_function m.signature)) j);
  }

  under_by : (t : Term) (l : Layer) → IsNamed t → out-Term t ≡ l → under_layer T l ≡ under_layer S l
  under_by t (Term-F.Named n) g e = ap (under_entry n) (same n (N.named_at small i t n g e))
  under_by t l g e = refl

  pub under_is : (t : Term) → IsNamed t → under T t ≡ under S t
  under_is t g = under_by t (out-Term t) g refl

  declared_by : (t : Term) (l : Layer) → IsNamed t → out-Term t ≡ l → declared_methods T l ≡ declared_methods S l
  declared_by t (Term-F.Named n) g e = ap methods_of_entry (same n (N.named_at small i t n g e))
  declared_by t l g e = refl

  pub declared_is : (t : Term) → IsNamed t → declared_methods T (out-Term t) ≡ declared_methods S (out-Term t)
  declared_is t g = declared_by t (out-Term t) g refl

  pub ends_are : (s : Sel) (at : Spot) (k : ℕ) → IsNamed at.term → ends S s k at ≡ ends T s k at
  ends_are s at k g = ends_over (had S) S T agree closed s at k g

  pub only_in : (s : Sel) (at : Spot) (d : ℕ) (e : Ending) → IsNamed at.term → IsOnly S s at d e → IsOnly T s at d e
  only_in s at d e g o = record { none = λ k l. sym (ends_are s at k g) ∙ o.none k l; only = sym (ends_are s at d g) ∙ o.only }

  pub only_back : (s : Sel) (at : Spot) (d : ℕ) (e : Ending) → IsNamed at.term → IsOnly T s at d e → IsOnly S s at d e
  only_back s at d e g o = record { none = λ k l. ends_are s at k g ∙ o.none k l; only = ends_are s at d g ∙ o.only }

  pub implements_in : (t u : Term) → IsNamed t → IsNamed u → Implements S t u → Implements T t u
  implements_in t u g h a = implements_over (had S) S T agree closed t u g h a

  pub implements_back : (t u : Term) → IsNamed t → IsNamed u → Implements T t u → Implements S t u
  implements_back t u g h a = implements_over (had S) T S (agree_back (had S) S T agree) (closed_back (had S) S T agree closed) t u g h a

  pub comparable_in : (t : Term) → IsNamed t → Comparable S t → Comparable T t
  comparable_in t g c = comparable_over (had S) S T agree closed t g c

  pub comparable_back : (t : Term) → IsNamed t → Comparable T t → Comparable S t
  comparable_back t g c = comparable_over (had S) T S (agree_back (had S) S T agree) (closed_back (had S) S T agree closed) t g c
