-- Each defined type of a package that is offered has its object.
use Rattle.std.proofs.Common.{◌≡◌, ℕ, List, Option, Some, None, refl, sym, ap, ◌∙◌, subst}
use Rattle.go_base.proofs.Ordered.{first_key}
use Rattle.go_base.specs.Keys.{first_with}
use Rattle.go_base.specs.Lists.{Has}
use Rattle.go_model.specs.declared.types.package.Defined.{Defined}
use Rattle.go_model.specs.declared.types.package.Entity.{Entity}
use Rattle.go_model.specs.declared.types.package.Entity.TheVariants as entity
use Rattle.go_model.specs.declared.types.package.Object.{Object}
use Rattle.go_model.specs.declared.types.package.Package.{Package}
use Rattle.go_model.specs.worlds.Worlds.{name_of, object_name, type_object}
use Rattle.go_typings.specs.go_rules.Scopes.{entity_of}
use Rattle.go_soundness.proofs.DeclaredForms.{own_name}
use Rattle.go_typings.specs.Declarations.{Form, constants, variables, alias, definition, function, method, Declared, declarations, declared}
use Rattle.go_typings.specs.PackageEnvironments.{Entries, underlying, defined_at, defined_by, entity_by, had, own_defined, own_type, underlying_of}
use Rattle.go_typings.specs.Receivers.{methods}
use Rattle.go_typings.specs.Sources.{PackageSource}
use Rattle.go_typings.specs.TypedPackages.{AreOrdered}
use Rattle.go_typings.proofs.Cells.{none_some, some_once}
use Rattle.go_typings.proofs.GrowEnvironments.{underlying_back, with_back}
use Rattle.go_typings.proofs.OnePackage.{found, in_order}
use Rattle.go_exposed.specs.OfferedPackages.{IsPackageOf, entered, kept_at, kept_entity}
use Rattle.go_exposed.proofs.WholePackages.{entered_same}

named_object : (c : Option Object) (name : List ℕ) (y : Entity) → ((o : Object) → c ≡ Some o → o.name ≡ name) → entity_of c ≡ Some y → c ≡ Some (record { name = name; entity = y })
named_object None name y h e = none_some (entity_of None) y refl e
named_object (Some o) name y h e = let n = h o refl in let z = some_once o.entity y e in λ i. Some (record { name = n i; entity = z i })

module _ (u : PackageSource) (a : Entries) where
  form_entity : (name : List ℕ) (w : Declared) (f : Form) (d : Defined) → declared (declarations u) name ≡ Some w → w.form ≡ f → defined_by u a name w.number f ≡ Some d
      → entered (a w.number) (entity_by u.path a w.number w.place f) ≡ Some (entity.TypeOf (own_type u.path name))
  form_entity name w (definition c) d e f k =
      let q = with_back name (had a (methods u name)) (underlying_of (a w.number)) d k in
      entered_same (a w.number) (Some (entity.TypeOf (own_type u.path c.name.text))) (underlying q.0) (underlying_back (a w.number) q.0 q.1)
      ∙ ap (λ z. Some (entity.TypeOf (own_type u.path z))) (own_name (declarations u) name w c e f)
  form_entity name w (constants c at) d e f k = none_some (defined_by u a name w.number (constants c at)) d refl k
  form_entity name w (variables c) d e f k = none_some (defined_by u a name w.number (variables c)) d refl k
  form_entity name w (alias c) d e f k = none_some (defined_by u a name w.number (alias c)) d refl k
  form_entity name w (function c) d e f k = none_some (defined_by u a name w.number (function c)) d refl k
  form_entity name w (method r c) d e f k = none_some (defined_by u a name w.number (method r c)) d refl k

  type_entity : (name : List ℕ) (w : Option Declared) (d : Defined) → declared (declarations u) name ≡ w → defined_at u a name w ≡ Some d → kept_at u.path a w ≡ Some (entity.TypeOf (own_type u.path name))
  type_entity name None d e k = none_some (defined_at u a name None) d refl k
  type_entity name (Some w) d e k = form_entity name w w.form d e refl k

  had_entity : (name : List ℕ) (d : Defined) (c : Option Defined) → own_defined u a name ≡ c → AreOrdered (Some d) c → kept_entity u a name ≡ Some (entity.TypeOf (own_type u.path name))
  had_entity name d None e h = absurd h
  had_entity name d (Some b) e h = type_entity name (declared (declarations u) name) b refl e

  pub object_declared : (p : Package) → IsPackageOf u a p → (d : Defined) → Has p.defined d → first_with object_name p.objects d.name ≡ Some (type_object p.path d.name)
  object_declared p x d h =
      let f = found name_of p.defined d (in_order name_of p.defined x.defined_ordered) h in
      let k = had_entity d.name d (own_defined u a d.name) refl (subst (λ c. AreOrdered c (own_defined u a d.name)) f (x.defined d.name)) in
      named_object (first_with object_name p.objects d.name) d.name (entity.TypeOf (own_type u.path d.name)) (λ y g. first_key object_name p.objects d.name y (sym g)) (x.objects d.name ∙ k)
      ∙ ap (λ z. Some (type_object z d.name)) (sym x.path)
