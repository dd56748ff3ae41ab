-- A defined type of the package by what is underneath it and by the methods that it shows.
use Rattle.std.proofs.Common.{◌≡◌, ℕ, List, Option, Some, None, refl, sym, ap, ◌∙◌, subst}
use Rattle.go_model.specs.declared.types.names.Sel.{Sel}
use Rattle.go_model.specs.declared.types.package.Defined.{Defined}
use Rattle.go_model.specs.declared.types.package.MethodOf.{MethodOf}
use Rattle.go_model.specs.declared.types.term.Term.{Term}
use Rattle.go_syntax.specs.declared.declaration.TypeSpec.{TypeSpec}
use Rattle.go_typings.specs.Declarations.{Form, constants, variables, alias, definition, function, method, declarations, Declared, declared}
use Rattle.go_typings.specs.PackageEnvironments.{defined_at, defined_by, defined_with, Entries, had, own_defined, underlying_of}
use Rattle.go_typings.specs.Receivers.{DeclaredMethod, methods}
use Rattle.go_typings.specs.Sources.{PackageSource}
use Rattle.go_package_scopes.specs.KeptScopes.{Shows, shown, ShowsType}

-- the type underneath a defined type, where it is had
abbrev pub under_by : Entries → ℕ → Form → Option Term
under_by a number (definition spec) = underlying_of (a number)
under_by a number f = None

abbrev pub under_at : Entries → Option Declared → Option Term
under_at a None = None
under_at a (Some w) = under_by a w.number w.form

-- a type is there exactly where the type underneath it is had, and shows what is had
abbrev pub ShowsUnder : Entries → List DeclaredMethod → Option Term → Option Defined → Type 0
ShowsUnder a ms None None = Unit {0}
ShowsUnder a ms (Some t) (Some e) = ShowsType a ms t e
ShowsUnder a ms t e = ⊥

-- the same of the type of this name
abbrev pub ShowsOwn : PackageSource → Entries → List ℕ → Option Defined → Type 0
ShowsOwn u a name e = ShowsUnder a (methods u name) (under_at a (declared (declarations u) name)) e

module _ (u : PackageSource) (a : Entries) (name : List ℕ) where
  defined_under : (number : ℕ) (f : Form) → defined_by u a name number f ≡ defined_with name (had a (methods u name)) (under_by a number f)
  defined_under number (definition spec) = refl
  defined_under number (constants spec place) = refl
  defined_under number (variables spec) = refl
  defined_under number (alias spec) = refl
  defined_under number (function f) = refl
  defined_under number (method receiver f) = refl

  defined_is : (w : Option Declared) → defined_at u a name w ≡ defined_with name (had a (methods u name)) (under_at a w)
  defined_is None = refl
  defined_is (Some w) = defined_under w.number w.form

  pub own_is : own_defined u a name ≡ defined_with name (had a (methods u name)) (under_at a (declared (declarations u) name))
  own_is = defined_is (declared (declarations u) name)

  module _ (ms : List DeclaredMethod) (hs : List MethodOf) where
    to_under : (o : Option Term) (e : Option Defined) → Shows a ms (defined_with name hs o) e → ShowsUnder a ms o e
    to_under None None k = k
    to_under None (Some e) k = k
    to_under (Some t) None k = k
    to_under (Some t) (Some e) k = k

    from_under : (o : Option Term) (e : Option Defined) → ShowsUnder a ms o e → Shows a ms (defined_with name hs o) e
    from_under None None k = k
    from_under None (Some e) k = k
    from_under (Some t) None k = k
    from_under (Some t) (Some e) k = k

  pub under_of : (e : Option Defined) → Shows a (methods u name) (own_defined u a name) e → ShowsOwn u a name e
  under_of e k = to_under (methods u name) (had a (methods u name)) (under_at a (declared (declarations u) name)) e (subst (λ (o : Option Defined). Shows a (methods u name) o e) own_is k)

  pub of_under : (e : Option Defined) → ShowsOwn u a name e → Shows a (methods u name) (own_defined u a name) e
  of_under e k = subst (λ (o : Option Defined). Shows a (methods u name) o e) (sym own_is) (from_under (methods u name) (had a (methods u name)) (under_at a (declared (declarations u) name)) e k)

module _ (a b : Entries) where
  form_under : (number : ℕ) (f : Form) → ((spec : TypeSpec) → f ≡ definition spec → underlying_of (a number) ≡ underlying_of (b number)) → under_by a number f ≡ under_by b number f
  form_under number (definition spec) h = h spec refl
  form_under number (constants spec place) h = refl
  form_under number (variables spec) h = refl
  form_under number (alias spec) h = refl
  form_under number (function f) h = refl
  form_under number (method receiver f) h = refl

  -- the same is underneath, where it is that of the definition
  pub under_same : (w : Option Declared) → ((v : Declared) → w ≡ Some v → (spec : TypeSpec) → v.form ≡ definition spec → underlying_of (a v.number) ≡ underlying_of (b v.number))
      → under_at a w ≡ under_at b w
  under_same None h = refl
  under_same (Some w) h = form_under w.number w.form (h w refl)

  -- types show the same methods, where the same are shown
  pub shows_same : (ms : List DeclaredMethod) → ((s : Sel) → shown a ms s ≡ shown b ms s) → (o : Option Term) (e : Option Defined) → ShowsUnder a ms o e → ShowsUnder b ms o e
  shows_same ms h None None k = k
  shows_same ms h None (Some e) k = absurd k
  shows_same ms h (Some t) None k = absurd k
  shows_same ms h (Some t) (Some e) k = record { underlying = k.underlying; methods = λ s. k.methods s ∙ h s }

-- what is underneath the type of a definition
pub under_definition : (a : Entries) (w : Declared) (spec : TypeSpec) → w.form ≡ definition spec → under_at a (Some w) ≡ underlying_of (a w.number)
under_definition a w spec e = ap (under_by a w.number) e
