-- Tables of names in which one name is given another value.
use Rattle.std.proofs.Common.{◌≡◌, ℕ, false, cond, List, ◌++◌, Option, Some, None, refl, ap, ◌∙◌}
use Rattle.std.specs.Cmp.Lexicographic.{bytes_decides}
use Rattle.std.specs.Str.{bytes_eq}
use Rattle.go_model.specs.declared.types.package.Defined.{Defined}
use Rattle.go_model.specs.declared.types.package.MethodOf.{MethodOf}
use Rattle.go_rules.specs.Names.{Named, value_at, with_value}
use Rattle.go_rules.proofs.NamedEntries.{put_is}
use Rattle.go_package_scopes.specs.KeptScopes.{extended}

module _ {A : Type 0} (name : List ℕ) (v : A) (es : Named A) where
  pub put_here : value_at (with_value es name v) name ≡ Some v
  put_here = put_is name name v es ∙ ap (λ b. cond b (Some v) (value_at es name)) ((bytes_decides name name).1 refl)

  pub put_elsewhere : (q : List ℕ) → bytes_eq q name ≡ false → value_at (with_value es name v) q ≡ value_at es q
  put_elsewhere q e = put_is q name v es ∙ ap (λ b. cond b (Some v) (value_at es q)) e

-- the type with methods more, where it is had
abbrev pub more_of : List MethodOf → Option Defined → Option Defined
more_of ms None = None
more_of ms (Some d) = Some (record d { methods = d.methods ++ ms })

module _ (types : Named Defined) (name : List ℕ) (ms : List MethodOf) where
  pub extended_here : (o : Option Defined) → value_at types name ≡ o → value_at (extended types name ms o) name ≡ more_of ms o
  extended_here None e = e
  extended_here (Some d) e = put_here name (record d { methods = d.methods ++ ms }) types

  pub extended_elsewhere : (o : Option Defined) (q : List ℕ) → bytes_eq q name ≡ false → value_at (extended types name ms o) q ≡ value_at types q
  extended_elsewhere None q e = refl
  extended_elsewhere (Some d) q e = put_elsewhere name (record d { methods = d.methods ++ ms }) types q e
