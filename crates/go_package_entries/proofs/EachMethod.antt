-- Methods that are added to a type one after another.
use Rattle.std.proofs.Common.{◌≡◌, ℕ, Bool, true, false, cond, List, [], ◌∷◌, ◌++◌, Option, None, Some, refl, sym, ap, ◌∙◌, subst, append_assoc, append-nil}
use Rattle.std.specs.Str.{bytes_eq}
use Rattle.std.specs.Cmp.Lexicographic.{bytes_decides}
use Rattle.go_model.specs.declared.types.package.Defined.{Defined}
use Rattle.go_model.specs.declared.types.package.MethodOf.{MethodOf}
use Rattle.go_package_scopes.proofs.Tables.{put_here}
use Rattle.go_package_scopes.specs.KeptScopes.{Keeps, Shows, extended, with_methods}
use Rattle.go_rules.proofs.NamedEntries.{put_is}
use Rattle.go_rules.specs.Names.{Named, value_at}
use Rattle.go_rules.specs.Scopes.{Scopes, added_to, with_method}
use Rattle.go_typings.specs.PackageEnvironments.{Entries, own_defined}
use Rattle.go_typings.specs.Receivers.{methods}
use Rattle.go_typings.specs.Sources.{PackageSource, Setting}
use Rattle.go_package_entries.specs.inner.ShownMethods.{with_each}

pub each_path : (c : Scopes) (type : List ℕ) (ms : List MethodOf) → (with_each c type ms).path ≡ c.path
each_path c type [] = refl
each_path c type (m ∷ ms) = each_path (with_method c type m) type ms

pub each_both : (c : Scopes) (type : List ℕ) (ms ns : List MethodOf) → with_each c type (ms ++ ns) ≡ with_each (with_each c type ms) type ns
each_both c type [] ns = refl
each_both c type (m ∷ ms) ns = each_both (with_method c type m) type ms ns

-- nothing else changes
each_defined : (c : Scopes) (type : List ℕ) (ms : List MethodOf) → with_each c type ms ≡ record c { defined = (with_each c type ms).defined }
each_defined c type [] = refl
each_defined c type (m ∷ ms) = each_defined (with_method c type m) type ms

-- ---- what a name has then

module _ (type q : List ℕ) where
  each_here : (ms : List MethodOf) (c : Scopes) (d : Defined) → value_at c.defined type ≡ Some d → value_at (with_each c type ms).defined q ≡ cond (bytes_eq q type) (Some (record d { methods = d.methods ++ ms })) (value_at c.defined q)
  each_here [] c d e = by (bytes_eq q type) refl
    where
      by : (b : Bool) → bytes_eq q type ≡ b → value_at c.defined q ≡ cond b (Some (record d { methods = d.methods ++ [] })) (value_at c.defined q)
      by true f = ap (value_at c.defined) ((bytes_decides q type).0 f) ∙ e ∙ ap (λ (ms : List MethodOf). Some (record d { methods = ms })) (sym (append-nil d.methods))
      by false f = refl
  each_here (m ∷ ms) c d e =
      each_here ms (with_method c type m) longer (there (value_at c.defined type) e)
      ∙ ap (λ (ns : List MethodOf). cond (bytes_eq q type) (Some (record d { methods = ns })) (value_at (with_method c type m).defined q)) (append_assoc d.methods (m ∷ []) ms)
      ∙ elsewhere (value_at c.defined type) e
    where
      longer : Defined
      longer = record d { methods = d.methods ++ m ∷ [] }

      there : (o : Option Defined) → o ≡ Some d → value_at (added_to c.defined type m o) type ≡ Some longer
      there o f = ap (λ p. value_at (added_to c.defined type m p) type) f ∙ put_here type longer c.defined

      elsewhere : (o : Option Defined) → o ≡ Some d
          → cond (bytes_eq q type) (Some (record d { methods = d.methods ++ m ∷ ms })) (value_at (added_to c.defined type m o) q) ≡ cond (bytes_eq q type) (Some (record d { methods = d.methods ++ m ∷ ms })) (value_at c.defined q)
      elsewhere o f =
          ap (λ p. cond (bytes_eq q type) (Some (record d { methods = d.methods ++ m ∷ ms })) (value_at (added_to c.defined type m p) q)) f
          ∙ ap (cond (bytes_eq q type) (Some (record d { methods = d.methods ++ m ∷ ms }))) (put_is q type longer c.defined) ∙ twice (bytes_eq q type)
        where
          twice : (b : Bool) → cond b (Some (record d { methods = d.methods ++ m ∷ ms })) (cond b (Some longer) (value_at c.defined q)) ≡ cond b (Some (record d { methods = d.methods ++ m ∷ ms })) (value_at c.defined q)
          twice true = refl
          twice false = refl

  each_nowhere : (ms : List MethodOf) (c : Scopes) → value_at c.defined type ≡ None → value_at (with_each c type ms).defined q ≡ value_at c.defined q
  each_nowhere [] c e = refl
  each_nowhere (m ∷ ms) c e = each_nowhere ms (with_method c type m) (ap (λ (t : Named Defined). value_at t type) same ∙ e) ∙ ap (λ (t : Named Defined). value_at t q) same
    where
      same : (with_method c type m).defined ≡ c.defined
      same = ap (added_to c.defined type m) e

  each_is : (ms : List MethodOf) (c : Scopes) (o : Option Defined) → value_at c.defined type ≡ o → value_at (with_each c type ms).defined q ≡ value_at (extended c.defined type ms o) q
  each_is ms c None e = each_nowhere ms c e
  each_is ms c (Some d) e = each_here ms c d e ∙ sym (put_is q type (record d { methods = d.methods ++ ms }) c.defined)

-- ---- what scopes keep

module _ (s : Setting) (u : PackageSource) (a : Entries) where
  -- tables that have the same of each name keep the same
  same_kept : (c : Scopes) (t v : Named Defined) → ((q : List ℕ) → value_at v q ≡ value_at t q) → Keeps s u a (record c { defined = t }) → Keeps s u a (record c { defined = v })
  same_kept c t v same k = record {
    world = k.world;
    path = k.path;
    bits = k.bits;
    profile = k.profile;
    opened = k.opened;
    imports = k.imports;
    announced = k.announced;
    objects = k.objects;
    awaited = k.awaited;
    types = λ q. subst (Shows a (methods u q) (own_defined u a q)) (sym (same q)) (k.types q);
  }

  -- methods that are added at once are kept as those that are added one after another
  pub each_kept : (c : Scopes) (type : List ℕ) (ms : List MethodOf) → Keeps s u a (with_methods c type ms) → Keeps s u a (with_each c type ms)
  each_kept c type ms k =
      subst (Keeps s u a) (sym (each_defined c type ms))
      (same_kept c (extended c.defined type ms (value_at c.defined type)) (with_each c type ms).defined (λ q. each_is type q ms c (value_at c.defined type) refl) k)
