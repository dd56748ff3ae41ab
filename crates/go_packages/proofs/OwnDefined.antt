-- A defined type of a package has the name that it is found by, and its methods that are had.
use Rattle.std.proofs.Common.{◌≡◌, ℕ, List, Option, Some, None, refl, sym, ap, ◌∙◌}
use Rattle.go_model.specs.declared.types.package.Defined.{Defined}
use Rattle.go_model.specs.declared.types.package.MethodOf.{MethodOf}
use Rattle.go_model.specs.declared.types.term.Term.{Term}
use Rattle.go_typings.specs.Declarations.{constants, variables, alias, definition, function, method, declarations, declared, Declaration, Declared, Form}
use Rattle.go_typings.specs.PackageEnvironments.{Entries, defined_at, defined_by, defined_with, own_defined}
use Rattle.go_typings.specs.Sources.{PackageSource}
use Rattle.go_typings.proofs.Cells.{none_some, some_once}
use Rattle.go_packages.specs.inner.DefinedTypes.{underneath, underneath_by}
use Rattle.go_packages.specs.inner.HadMethods.{had_methods}

module _ (u : PackageSource) (a : Entries) (name : List ℕ) where
  by_form : (number : ℕ) (f : Form) → defined_by u a name number f ≡ defined_with name (had_methods u a name) (underneath_by a number f)
  by_form number (constants s place) = refl
  by_form number (variables s) = refl
  by_form number (alias s) = refl
  by_form number (definition s) = refl
  by_form number (function f) = refl
  by_form number (method receiver f) = refl

  -- the defined type of a name by what is underneath it
  pub by_underneath : (o : Option Declared) → defined_at u a name o ≡ defined_with name (had_methods u a name) (underneath a o)
  by_underneath None = refl
  by_underneath (Some d) = by_form d.number d.form

  by_term : (ms : List MethodOf) (o : Option Term) (d : Defined) → defined_with name ms o ≡ Some d → (d.name ≡ name) × (d.methods ≡ ms)
  by_term ms None d e = none_some (defined_with name ms None) d refl e
  by_term ms (Some t) d e =
      let h = some_once (record { name = name; underlying = t; methods = ms }) d e in
      (ap (λ (x : Defined). x.name) (sym h), ap (λ (x : Defined). x.methods) (sym h))

  pub own_parts : (d : Defined) → own_defined u a name ≡ Some d → (d.name ≡ name) × (d.methods ≡ had_methods u a name)
  own_parts d e = by_term (had_methods u a name) (underneath a (declared (declarations u) name)) d (sym (by_underneath (declared (declarations u) name)) ∙ e)

  -- the defined type of a name under which there is a type
  pub own_there : (ds : List Declaration) (t : Term) → ds ≡ declarations u → Some t ≡ underneath a (declared ds name) → own_defined u a name ≡ Some (record { name = name; underlying = t; methods = had_methods u a name })
  own_there ds t e h =
      by_underneath (declared (declarations u) name)
      ∙ ap (λ (xs : List Declaration). defined_with name (had_methods u a name) (underneath a (declared xs name))) (sym e)
      ∙ ap (defined_with name (had_methods u a name)) (sym h)
