-- The name of a declaration that is left out has no object and no defined type, and that of one that is kept has its own.
use Rattle.std.proofs.Common.{◌≡◌, ℕ, true, false, List, Option, Some, None, refl, sym, ap, ◌∙◌, subst}
use Rattle.go_base.specs.Keys.{first_with}
use Rattle.go_model.specs.declared.types.package.Defined.{Defined}
use Rattle.go_model.specs.declared.types.package.Entity.{Entity}
use Rattle.go_model.specs.declared.types.package.Package.{Package}
use Rattle.go_model.specs.worlds.Worlds.{name_of, object_name}
use Rattle.go_typings.specs.go_rules.Scopes.{entity_of}
use Rattle.go_typings.specs.Declarations.{Form, constants, variables, alias, definition, function, method, Declared, declarations, declared}
use Rattle.go_typings.specs.PackageEnvironments.{Entries, defined_at, defined_by, defined_with, entity_at, entity_by, had, own_defined, own_entity, underlying_of}
use Rattle.go_typings.specs.Receivers.{methods}
use Rattle.go_typings.specs.Sources.{PackageSource, Setting}
use Rattle.go_typings.specs.TypedPackages.{AreOrdered}
use Rattle.go_exposed.specs.OfferedPackages.{IsOfferedAs, entered, kept_at}
use Rattle.go_exposed.proofs.WholePackages.{entered_same}

no_type : (u : PackageSource) (a : Entries) (name : List ℕ) (n : ℕ) (f : Form) → a n ≡ None → defined_by u a name n f ≡ None
no_type u a name n (definition c) e = ap (λ x. defined_with name (had a (methods u name)) (underlying_of x)) e
no_type u a name n (constants c place) e = refl
no_type u a name n (variables c) e = refl
no_type u a name n (alias c) e = refl
no_type u a name n (function f) e = refl
no_type u a name n (method r f) e = refl

ordered_none : (c d : Option Defined) → d ≡ None → AreOrdered c d → c ≡ None
ordered_none c d e h = choose c (subst (AreOrdered c) e h)
  where
    choose : (c : Option Defined) → AreOrdered c None → c ≡ None
    choose None h = refl
    choose (Some x) h = absurd h

module _ (s : Setting) (u : PackageSource) (p : Package) (o : IsOfferedAs s u p) (name : List ℕ) (d : Declared) (e : declared (declarations u) name ≡ Some d) where
  abbrev a : Entries
  a = o.entries

  abbrev denoted : Option Entity
  denoted = entity_by u.path a d.number d.place d.form

  object_is : entity_of (first_with object_name p.objects name) ≡ entered (a d.number) denoted
  object_is = o.«package».objects name ∙ ap (kept_at u.path a) e

  pub no_object : o.within d.number ≡ false → entity_of (first_with object_name p.objects name) ≡ None
  no_object f = object_is ∙ ap (λ c. entered c denoted) (o.kept.typing.had.only d.number f)

  pub no_defined : o.within d.number ≡ false → first_with name_of p.defined name ≡ None
  no_defined f = ordered_none (first_with name_of p.defined name) (own_defined u a name)
      (ap (defined_at u a name) e ∙ no_type u a name d.number d.form (o.kept.typing.had.only d.number f))
      (o.«package».defined name)

  pub own_object : o.within d.number ≡ true → entity_of (first_with object_name p.objects name) ≡ own_entity u a name
  own_object i =
      let k = o.kept.typing.had.below d.number i in
      object_is ∙ entered_same (a d.number) denoted k.2.0 k.2.1 ∙ ap (entity_at u.path a) (sym e)
