-- A declaration of a closed set refers to the set alone, and so does the name of a method's base type.
use Rattle.std.proofs.Common.{◌≡◌, ℕ, zero, suc, Bool, true, false, List, Option, Some, None, refl, sym, ap, ◌∙◌, subst}
use Rattle.std.specs.Prelude.{if◌then◌else◌, length, slice_get}
use Rattle.go_base.specs.Lists.{Each, Has}
use Rattle.go_typings.specs.go_rules.Nodes.{Node, Stands, TypeLayer, type, type_parts}
use Rattle.go_typings.specs.go_rules.Regions.{NameIn, RefersIn, Region, front, front_of, node_names, type_fronts}
use Rattle.go_typings.proofs.go_rules_proofs.LocalParts.{names_here, parts_in}
use Rattle.go_typings.proofs.go_rules_proofs.LocalTypes.{each_made}
use Rattle.go_typings.specs.go_syntax.declared.expression.Element.{Element}
use Rattle.go_typings.specs.go_syntax.declared.expression.ElementValue.{ElementValue}
use Rattle.go_typings.specs.go_syntax.declared.expression.Expr.{Expr}
use Rattle.go_typings.specs.go_syntax.declared.expression.Post.{Post}
use Rattle.go_typings.specs.go_syntax.declared.name.Name.{Name}
use Rattle.go_typings.specs.go_syntax.declared.name.QualifiedName.{QualifiedName}
use Rattle.go_typings.specs.go_syntax.declared.types.FieldDecl.{FieldDecl}
use Rattle.go_typings.specs.go_syntax.declared.types.FuncResult.{FuncResult}
use Rattle.go_typings.specs.go_syntax.declared.types.InterfaceElem.{InterfaceElem}
use Rattle.go_typings.specs.go_syntax.declared.types.ParameterDecl.{ParameterDecl, out-ParameterDecl}
use Rattle.go_typings.specs.go_syntax.declared.types.Signature.{Signature}
use Rattle.go_typings.specs.go_syntax.declared.types.«Type».{«Type» as Typ, «Type-F» as Typ-F, «fold-roll-Type» as fold-roll-Typ, «ind-Type» as ind-Typ, «map-Type» as map-Typ, «out-roll-Type» as out-roll-Typ, «roll-Type» as roll-Typ}
use Rattle.go_typings.specs.DeclarationNodes.{nodes}
use Rattle.go_typings.specs.Declarations.{Form, constants, variables, alias, definition, function, method, Declaration, Declared, declarations, declared}
use Rattle.go_typings.specs.Receivers.{NameForm, after_aliases, aliased, aliased_by, base, base_in, defined_name, definition_name, form_step, name_form, next_or, own_aliased, own_definition, pointer_form, receiver_form, unaliased, written_name}
use Rattle.go_typings.specs.References.{by_name}
use Rattle.go_typings.specs.Sources.{PackageSource, Setting}
use Rattle.go_typings.specs.Typings.{IsClosed as IsClosedSet}
use Rattle.go_typings.proofs.Cells.{none_some, some_once}
use Rattle.go_soundness.specs.Apart.{IsApart}
use Rattle.go_soundness.proofs.DeclaredForms.{is_at, own_name}
use Rattle.go_soundness.proofs.NamedReferences.{named_reference}
use Rattle.go_soundness.proofs.SetRegion.{in_set, is_kept, keeps, region}

-- ---- types that are written as a name

level_form : TypeLayer → Option NameForm
level_form (Typ-F.«Type::Named» q) = Some (record { pointer = false; name = q })
level_form (Typ-F.«Type::Paren» t) = name_form t
level_form (Typ-F.Pointer t) = pointer_form (name_form t)
level_form l = None

form_rolled : (l : TypeLayer) → name_form (roll-Typ l) ≡ level_form l
unfolding level_form
form_rolled (Typ-F.Pointer t) = fold-roll-Typ (Unit {0}) (Unit {0}) (Unit {0}) (Unit {0}) (Unit {0}) (Unit {0}) (Option NameForm) (Unit {0}) (Unit {0}) (Unit {0}) (λ x. tt) (λ x. tt) (λ x. tt) (λ x. tt) (λ x. tt) (λ x. tt) form_step (λ x. tt) (λ x. tt) (λ x. tt) (Typ-F.Pointer t)
form_rolled l = fold-roll-Typ (Unit {0}) (Unit {0}) (Unit {0}) (Unit {0}) (Unit {0}) (Unit {0}) (Option NameForm) (Unit {0}) (Unit {0}) (Unit {0}) (λ x. tt) (λ x. tt) (λ x. tt) (λ x. tt) (λ x. tt) (λ x. tt) form_step (λ x. tt) (λ x. tt) (λ x. tt) l

behind_pointer : (c : Option NameForm) (f : NameForm) → pointer_form c ≡ Some f → (g : NameForm) × (c ≡ Some g) × (g.name ≡ f.name)
behind_pointer None f e = none_some (pointer_form None) f refl e
behind_pointer (Some g) f e = choose g.pointer e
  where
    choose : (b : Bool) → (if b then None else Some (record { pointer = true; name = g.name })) ≡ Some f → (h : NameForm) × (Some g ≡ Some h) × (h.name ≡ f.name)
    choose true k = none_some {A = NameForm} None f refl k
    choose false k = (g, refl, ap (λ (z : NameForm). z.name) (some_once (record { pointer = true; name = g.name }) f k))

module _ (R : Region) where
  -- the first name of the name that a type is written by is of the region
  abbrev FrontIn : Typ → Type 0
  FrontIn t = (f : NameForm) → RefersIn R (type t) → name_form t ≡ Some f → NameIn R (front_of f.name)

  abbrev LayerFrontIn : TypeLayer → Type 0
  LayerFrontIn l = (f : NameForm) → Each (NameIn R) (type_fronts l) → Each (RefersIn R) (type_parts l) → level_form l ≡ Some f → NameIn R (front_of f.name)

  abbrev A : Type 0
  A = (t : Typ) × FrontIn t

  abbrev Of : Type 0 → Type 0
  Of T = T × Unit {0}

  abbrev forget : Typ-F (Of ElementValue) (Of Expr) (Of Post) (Of FieldDecl) (Of FuncResult) (Of InterfaceElem) A (Of Element) (Of ParameterDecl) (Of Signature) → TypeLayer
  forget y = map-Typ (Of ElementValue) (Of Expr) (Of Post) (Of FieldDecl) (Of FuncResult) (Of InterfaceElem) A (Of Element) (Of ParameterDecl) (Of Signature) ElementValue Expr Post FieldDecl FuncResult InterfaceElem Typ Element ParameterDecl Signature (λ x. x.0) (λ x. x.0) (λ x. x.0) (λ x. x.0) (λ x. x.0) (λ x. x.0) (λ x. x.0) (λ x. x.0) (λ x. x.0) (λ x. x.0) y

  level_in : (y : Typ-F (Of ElementValue) (Of Expr) (Of Post) (Of FieldDecl) (Of FuncResult) (Of InterfaceElem) A (Of Element) (Of ParameterDecl) (Of Signature)) → LayerFrontIn (forget y)
  unfolding level_form
  level_in (Typ-F.«Type::Named» q) f n p e = subst (λ (z : NameForm). NameIn R (front_of z.name)) (some_once (record { pointer = false; name = q }) f e) n.0
  level_in (Typ-F.«Type::Paren» a) f n p e = a.1 f p.0 e
  level_in (Typ-F.Pointer a) f n p e = let q = behind_pointer (name_form a.0) f e in subst (λ z. NameIn R (front_of z)) q.2 (a.1 q.0 p.0 q.1)
  level_in y f n p e = none_some {A = NameForm} None f refl e

  rolled_in : (l : TypeLayer) → LayerFrontIn l → FrontIn (roll-Typ l)
  rolled_in l h f r e =
      h f (subst (λ z. Each (NameIn R) (type_fronts z)) (out-roll-Typ l) (names_here R (type (roll-Typ l)) r)) (subst (λ z. Each (RefersIn R) (type_parts z)) (out-roll-Typ l) (parts_in R (type (roll-Typ l)) r)) (sym (form_rolled l) ∙ e)

  pub front_in : (t : Typ) → FrontIn t
  front_in = ind-Typ (λ x. Unit {0}) (λ x. Unit {0}) (λ x. Unit {0}) (λ x. Unit {0}) (λ x. Unit {0}) (λ x. Unit {0}) FrontIn (λ x. Unit {0}) (λ x. Unit {0}) (λ x. Unit {0})
      (λ x y e. tt) (λ x y e. tt) (λ x y e. tt) (λ x y e. tt) (λ x y e. tt) (λ x y e. tt)
      (λ x y e. rolled_in x (subst LayerFrontIn e (level_in y)))
      (λ x y e. tt) (λ x y e. tt) (λ x y e. tt)

-- ---- the declarations of a closed set

module _ (s : Setting) (u : PackageSource) (apart : IsApart s u) (S : ℕ → Bool) (closed : IsClosedSet s u S) where
  abbrev R : Region
  R = region u S

  name_in : (m : ℕ) (d : Declaration) → S m ≡ true → slice_get (declarations u) m ≡ Some d → (at b : Node) (n : Name) → Has (nodes d.form) at → Stands at b → Has (node_names b) n → NameIn R n
  name_in m d i e at b n k t h = at_of (declared (declarations u) n.text) refl
    where
      at_of : (c : Option Declared) → declared (declarations u) n.text ≡ c → is_kept S c ≡ true
      at_of None f = refl
      at_of (Some w) f = let r = named_reference d.form at b n k t h in closed m w.number i (d, e, by_name r.0 r.1 (w, ap (λ (z : Name). declared (declarations u) z.text) r.2 ∙ f, refl))

  -- each tree of a declaration of the set refers to the set alone
  pub form_refers : (m : ℕ) (d : Declaration) → S m ≡ true → slice_get (declarations u) m ≡ Some d → Each (RefersIn R) (nodes d.form)
  form_refers m d i e = each_made (nodes d.form) (λ at k b t. each_made (node_names b) (λ n h. name_in m d i e at b n k t h))

  -- ---- the base types of methods

  abbrev QualifiedIn : QualifiedName → Type 0
  QualifiedIn q = NameIn R (front_of q)

  written : (c : Option NameForm) (q : QualifiedName) → written_name c ≡ Some q → (f : NameForm) × (c ≡ Some f) × (f.name ≡ q)
  written None q e = none_some (written_name None) q refl e
  written (Some f) q e = choose f.pointer e
    where
      choose : (b : Bool) → (if b then None else Some f.name) ≡ Some q → (g : NameForm) × (Some f ≡ Some g) × (g.name ≡ q)
      choose true k = none_some {A = QualifiedName} None q refl k
      choose false k = (f, refl, some_once f.name q k)

  alias_in : (w : Declared) (name : List ℕ) (f : Form) (q : QualifiedName) → keeps u S name ≡ true → declared (declarations u) name ≡ Some w → w.form ≡ f → aliased_by f ≡ Some q → QualifiedIn q
  alias_in w name (alias c) q i e p g =
      let d = is_at (declarations u) name w e in
      let r = subst (λ z. Each (RefersIn R) (nodes z)) (d.form ∙ p) (form_refers w.number d.declaration (in_set s u apart S closed name w i e) d.is) in
      let k = written (name_form c.type_) q g in
      subst QualifiedIn k.2 (front_in R c.type_ k.0 r.0 k.1)
  alias_in w name (constants c at) q i e p g = none_some (aliased_by (constants c at)) q refl g
  alias_in w name (variables c) q i e p g = none_some (aliased_by (variables c)) q refl g
  alias_in w name (definition c) q i e p g = none_some (aliased_by (definition c)) q refl g
  alias_in w name (function f) q i e p g = none_some (aliased_by (function f)) q refl g
  alias_in w name (method r f) q i e p g = none_some (aliased_by (method r f)) q refl g

  aliased_in : (name : List ℕ) (c : Option Declared) (q : QualifiedName) → keeps u S name ≡ true → declared (declarations u) name ≡ c → aliased c ≡ Some q → QualifiedIn q
  aliased_in name None q i e g = none_some (aliased None) q refl g
  aliased_in name (Some w) q i e g = alias_in w name w.form q i e refl g

  own_in : (c : Option Name) (n : Name) (q : QualifiedName) → NameIn R (front c n) → own_aliased (declarations u) c n ≡ Some q → QualifiedIn q
  own_in None n q i e = aliased_in n.text (declared (declarations u) n.text) q i refl e
  own_in (Some k) n q i e = none_some (own_aliased (declarations u) (Some k) n) q refl e

  unaliased_in : (n : ℕ) (q : QualifiedName) → QualifiedIn q → QualifiedIn (unaliased (declarations u) n q)
  unfolding unaliased
  unaliased_in zero q i = i
  unaliased_in (suc n) q i = choose (own_aliased (declarations u) q.qualifier q.name) (λ k e. unaliased_in n k (own_in q.qualifier q.name k i e))
    where
      choose : (c : Option QualifiedName) → ((k : QualifiedName) → c ≡ Some k → QualifiedIn (unaliased (declarations u) n k)) → QualifiedIn (next_or q c (unaliased (declarations u) n))
      choose None h = i
      choose (Some k) h = h k refl

  definition_in : (w : Declared) (name other : List ℕ) (f : Form) → keeps u S name ≡ true → declared (declarations u) name ≡ Some w → w.form ≡ f → definition_name f ≡ Some other → keeps u S other ≡ true
  definition_in w name other (definition c) i e p g = subst (λ z. keeps u S z ≡ true) (sym (own_name (declarations u) name w c e p) ∙ some_once c.name.text other g) i
  definition_in w name other (constants c at) i e p g = none_some (definition_name (constants c at)) other refl g
  definition_in w name other (variables c) i e p g = none_some (definition_name (variables c)) other refl g
  definition_in w name other (alias c) i e p g = none_some (definition_name (alias c)) other refl g
  definition_in w name other (function f) i e p g = none_some (definition_name (function f)) other refl g
  definition_in w name other (method r f) i e p g = none_some (definition_name (method r f)) other refl g

  defined_in : (name other : List ℕ) (c : Option Declared) → keeps u S name ≡ true → declared (declarations u) name ≡ c → defined_name c ≡ Some other → keeps u S other ≡ true
  defined_in name other None i e g = none_some (defined_name None) other refl g
  defined_in name other (Some w) i e g = definition_in w name other w.form i e refl g

  own_definition_in : (c : Option Name) (n : Name) (other : List ℕ) → NameIn R (front c n) → own_definition (declarations u) c n ≡ Some other → keeps u S other ≡ true
  own_definition_in None n other i e = defined_in n.text other (declared (declarations u) n.text) i refl e
  own_definition_in (Some k) n other i e = none_some (own_definition (declarations u) (Some k) n) other refl e

  base_of : (c : Option NameForm) (other : List ℕ) → ((f : NameForm) → c ≡ Some f → QualifiedIn f.name) → base_in (declarations u) c ≡ Some other → keeps u S other ≡ true
  base_of None other h e = none_some (base_in (declarations u) None) other refl e
  base_of (Some f) other h e =
      let q = after_aliases (declarations u) f.name in
      own_definition_in q.qualifier q.name other (unaliased_in (length (declarations u)) f.name (h f refl)) e

  -- the base type of a method of the set is of the set
  pub base_kept : (receiver : ParameterDecl) (other : List ℕ) → RefersIn R (type (out-ParameterDecl receiver).type_) → base (declarations u) receiver ≡ Some other → keeps u S other ≡ true
  base_kept receiver other r e = base_of (receiver_form receiver) other (λ f p. front_in R (out-ParameterDecl receiver).type_ f r p) e
