-- Constants and variables that are declared in functions, on both sides.
use Rattle.std.proofs.Common.{◌≡◌, ℕ, zero, suc, Bool, true, List, [], ◌∷◌, ◌++◌, length, map, replicate, refl, sym, ap, subst, Option, Some, None}
use Rattle.go_base.specs.Lists.{Each}
use Rattle.go_model.specs.declared.constants.value.Value.{Value}
use Rattle.go_model.specs.declared.types.names.Sel.{Sel}
use Rattle.go_model.specs.declared.types.names.TypeName.{TypeName}
use Rattle.go_model.specs.declared.types.package.ConstTerm.{ConstTerm}
use Rattle.go_model.specs.declared.types.package.Entity.{Entity}
use Rattle.go_model.specs.declared.types.package.Entity.TheVariants as entity
use Rattle.go_model.specs.declared.types.term.Term.{Term, Term-F}
use Rattle.go_rules.specs.Asks.{Meets}
use Rattle.go_rules.specs.Environments.{Env}
use Rattle.go_rules.specs.Expressions.{Has, IsTypeName, OfType}
use Rattle.go_rules.specs.Nodes.{Node, expression, optional, type}
use Rattle.go_rules.specs.Usability.{UsableAs}
use Rattle.go_rules.specs.declared.operand.Operand.{Operand}
use Rattle.go_statement_rules.specs.Scopes.{local_of}
use Rattle.go_statement_rules.specs.Statements.{fits, form_env}
use Rattle.go_syntax.specs.declared.declaration.ConstSpec.{ConstSpec}
use Rattle.go_syntax.specs.declared.declaration.VarSpec.{VarSpec}
use Rattle.go_syntax.specs.declared.expression.Expr.{Expr}
use Rattle.go_syntax.specs.declared.name.QualifiedName.{QualifiedName}
use Rattle.go_syntax.specs.declared.types.«Type».{«Type» as Typ}
use Rattle.go_type_images.specs.EntryImages.{const_to, entity_to}
use Rattle.go_type_images.specs.Images.{Naming, image, same_sels}
use Rattle.go_type_images.specs.declared.pair.TypePair.{TypePair}
use Rattle.go_typings.specs.DeclarationAsks.{ValuesFit}
use Rattle.go_typings.specs.DeclarationNodes.{nodes}
use Rattle.go_typings.specs.DeclarationRules.{AreConstants, constants_more, constants_none, Gives, gives_constants, gives_typed_variables, gives_variables, TypeOfConstant, given_type, own_kind}
use Rattle.go_typings.specs.Declarations.{Declaration, Form, alias, constants, constants_from, definition, function, method, repeated, variables}
use Rattle.go_typings.specs.PackageEnvironments.{objects}
use Rattle.go_client_types.specs.Following.{after_constant}
use Rattle.go_client_types.specs.Keeping.{EntityReached, Keeps, seen_to}
use Rattle.go_client_types.specs.Reached.{ConstReached, IsReached}
use Rattle.go_client_types.proofs.Views as V
use Rattle.go_client_operators.specs.FollowedOperands.{AreAfter}
use Rattle.go_client_expressions.proofs.Expressions as expressions
use Rattle.go_client_expressions.proofs.Results as results
use Rattle.go_client_statements.specs.LocalScopes.{LocalReached}
use Rattle.go_client_statements.proofs.Values as values

-- constants and variables, which alone are declared in functions
abbrev pub IsLocalForm : Form → Type 0
IsLocalForm (constants s place) = Unit {0}
IsLocalForm (variables s) = Unit {0}
IsLocalForm f = ⊥

pub constants_local : (before : ConstSpec) (place : ℕ) (specs : List ConstSpec) → Each IsLocalForm (constants_from before place specs)
constants_local before place [] = tt
constants_local before place (s ∷ ss) = (tt, constants_local (repeated before s) (suc place) ss)

pub variables_local : (specs : List VarSpec) → Each IsLocalForm (map variables specs)
variables_local [] = tt
variables_local (s ∷ ss) = (tt, variables_local ss)

-- the type of a spec, where it has one
typed_form : (P : Node → Type 0) (o : Option Typ) (t : Typ) (rest : List Node) → o ≡ Some t → Each P (optional type o ++ rest) → P (type t)
typed_form P None t rest e h = let f : None ≡ Some t = e in absurd (cc)
typed_form P (Some u) t rest e h = let f : u ≡ t = cc in subst (λ z. P (type z)) f h.0

pub values_of : (P : Node → Type 0) (o : Option Typ) (rest : List Node) → Each P (optional type o ++ rest) → Each P rest
values_of P None rest h = h
values_of P (Some u) rest h = h.1

module _ (E F G : Env) (r : Naming) (pairs : List TypePair) (std : TypeName → Bool) (is_open : Sel → Bool) (K : Keeps E F r pairs std is_open) (more : (q : QualifiedName) (t : Term) → IsTypeName E q t → IsTypeName G q t) (barred : G.profile ≡ true) where
  abbrev to : Term → Term
  to = image r same_sels

  abbrev R : Term → Type 0
  R = IsReached pairs std is_open

  abbrev Met : List Node → Type 0
  Met bs = Each (Meets G) bs

  abbrev entities_to : List Entity → List Entity
  entities_to xs = map (entity_to r) xs

  abbrev pub Entities : List Entity → Type 0
  Entities xs = Each (EntityReached pairs std is_open) xs

  type_kept : {t : Typ} {u : Term} → OfType E t u → Meets G (type t) → OfType F t (to u) × R u
  type_kept a m = expressions.type_kept E F G r pairs std is_open K more barred a m

  -- ---- constants

  pub constant_type_kept : {o : Option Typ} {c d : ConstTerm} {v : Value} → TypeOfConstant E o c v d → ConstReached pairs std is_open c → ((t : Typ) → o ≡ Some t → Meets G (type t)) → TypeOfConstant F o (const_to r c) v (const_to r d) × ConstReached pairs std is_open d
  constant_type_kept own_kind h m = (own_kind, h)
  constant_type_kept (given_type {t = t} {u = u} {b = b} {c = c} {v = v} a e i w) h m =
      let f = type_kept a (m t refl) in
      (given_type f.0 (V.form_kept E F r pairs std is_open K u (Term-F.Plain b) f.1 refl e).0 i (values.usable E F r pairs std is_open K (after_constant {c = c} {v = v} h) f.1 w), f.1)

  pub constants_kept : {o : Option Typ} {es : List Expr} {xs : List Entity} → AreConstants E o es xs → ((t : Typ) → o ≡ Some t → Meets G (type t)) → Met (map expression es) → AreConstants F o es (entities_to xs) × Entities xs
  constants_kept constants_none m n = (constants_none, tt)
  constants_kept (constants_more {e = e} a k x) m n =
      let f = values.has E F G r pairs std is_open K more barred a n.0 in
      let g = results.constant_after r pairs std is_open f.2 in
      let i = constant_type_kept k g.1 m in
      let j = constants_kept x m n.1 in
      (constants_more (subst (Has F e) g.0 f.1) i.0 j.0, (i.1, j.1))

  -- ---- variables

  variables_of : (ts : List Term) → entities_to (map entity.Var ts) ≡ map entity.Var (map to ts)
  variables_of [] = refl
  variables_of (t ∷ ts) = ap (λ xs. entity.Var (to t) ∷ xs) (variables_of ts)

  each_variable : (ts : List Term) → Each R ts → Entities (map entity.Var ts)
  each_variable [] h = tt
  each_variable (t ∷ ts) h = (h.0, each_variable ts h.1)

  variables_like : (n : ℕ) (t : Term) → entities_to (replicate n (entity.Var t)) ≡ replicate n (entity.Var (to t))
  variables_like zero t = refl
  variables_like (suc n) t = ap (λ xs. entity.Var (to t) ∷ xs) (variables_like n t)

  each_like : (n : ℕ) (t : Term) → R t → Entities (replicate n (entity.Var t))
  each_like zero t h = tt
  each_like (suc n) t h = (h, each_like n t h)

  -- what is given: objects with the images
  abbrev pub GivesImages : List Declaration → Form → List Entity → Type 0
  GivesImages ds f xs = Gives F ds f (objects (entities_to xs)) × Entities xs

  pub constants_given : (ds : List Declaration) (s : ConstSpec) (place : ℕ) (xs : List Entity) → Gives E ds (constants s place) (objects xs) → Met (nodes (constants s place)) → GivesImages ds (constants s place) xs
  constants_given ds s place xs (gives_constants x e) m =
      let f = constants_kept x (λ t i. typed_form (Meets G) s.type_ t (map expression s.values) i m) (values_of (Meets G) s.type_ (map expression s.values) m) in
      (gives_constants f.0 e, f.1)

  pub variables_given : (ds : List Declaration) (s : VarSpec) (xs : List Entity) → Gives E ds (variables s) (objects xs) → Met (nodes (variables s)) → GivesImages ds (variables s) xs
  variables_given ds s xs (gives_typed_variables {t = t} {u = u} e a) m =
      let f = type_kept a (typed_form (Meets G) s.type_ t (map expression s.values) e m) in
      (subst (λ ys. Gives F ds (variables s) (objects ys)) (sym (variables_like (length s.names) u)) (gives_typed_variables e f.0), each_like (length s.names) u f.1)
  variables_given ds s xs (gives_variables {ts = ts} e x y) m =
      let f = values.initialize_kept E F G r pairs std is_open K more barred x (values_of (Meets G) s.type_ (map expression s.values) m) in
      let g = values.value_types E F r pairs std is_open K f.0 f.2 y in
      (subst (λ ys. Gives F ds (variables s) (objects ys)) (sym (variables_of ts)) (gives_variables e f.1 g.0), each_variable ts g.1)

  pub local_given : (ds : List Declaration) (f : Form) (xs : List Entity) → IsLocalForm f → Gives E ds f (objects xs) → Met (nodes f) → GivesImages ds f xs
  local_given ds (constants s place) xs l g m = constants_given ds s place xs g m
  local_given ds (variables s) xs l g m = variables_given ds s xs g m
  local_given ds (alias s) xs l g m = absurd l
  local_given ds (definition s) xs l g m = absurd l
  local_given ds (function f) xs l g m = absurd l
  local_given ds (method p f) xs l g m = absurd l

  -- ---- what is asked of variables

  each_usable : (t : Term) (os qs : List Operand) → R t → AreAfter r pairs std is_open os qs → Each (λ o. UsableAs E o t) os → Each (λ o. UsableAs F o (to t)) qs
  each_usable t [] [] h a u = tt
  each_usable t [] (q ∷ qs) h a u = absurd a
  each_usable t (o ∷ os) [] h a u = absurd a
  each_usable t (o ∷ os) (q ∷ qs) h a u = (values.usable E F r pairs std is_open K a.0 h u.0, each_usable t os qs h a.1 u.1)

  fit_of : (t : Typ) (n : ℕ) (es : List Expr) → Meets G (type t) → Met (map expression es) → ValuesFit E (Some t) n es → ValuesFit F (Some t) n es
  fit_of t n [] m w h = tt
  fit_of t n (e ∷ es) m w (v, os, a, x, c) =
      let f = type_kept a m in let g = values.initialize_kept E F G r pairs std is_open K more barred x w in
      (to v, g.0, f.0, g.1, each_usable v os g.0 f.1 g.2 c)

  pub values_fit : (o : Option Typ) (n : ℕ) (es : List Expr) → Met (optional type o ++ map expression es) → ValuesFit E o n es → ValuesFit F o n es
  values_fit None n es m h = tt
  values_fit (Some t) n es m h = fit_of t n es m.0 m.1 h

-- ---- what is declared

-- the values of a declaration's form are fit in the environment around it, which differs from the declaration's own in `iota` alone
pub fits_kept : (E F : Env) (r : Naming) (pairs : List TypePair) (std : TypeName → Bool) (is_open : Sel → Bool) → Keeps E F r pairs std is_open → (f : Form) → Each (Meets (form_env E f)) (nodes f) → fits E f → fits F f
fits_kept E F r pairs std is_open K (variables s) m h = values_fit E F E r pairs std is_open K (λ q t n. n) K.barred s.type_ (length s.names) s.values m h
fits_kept E F r pairs std is_open K (constants s place) m h = tt
fits_kept E F r pairs std is_open K (alias s) m h = tt
fits_kept E F r pairs std is_open K (definition s) m h = tt
fits_kept E F r pairs std is_open K (function f) m h = tt
fits_kept E F r pairs std is_open K (method p f) m h = tt

module _ (r : Naming) where
  one_local : (x : Entity) → seen_to r (local_of x) ≡ local_of (entity_to r x)
  one_local (entity.Const c v) = refl
  one_local (entity.Var t) = refl
  one_local (entity.Function g) = refl
  one_local (entity.TypeOf t) = refl

  pub locals_of : (xs : List Entity) → map (seen_to r) (map local_of xs) ≡ map local_of (map (entity_to r) xs)
  locals_of [] = refl
  locals_of (x ∷ xs) = λ i. one_local x i ∷ locals_of xs i

module _ (pairs : List TypePair) (std : TypeName → Bool) (is_open : Sel → Bool) where
  local_reached : (x : Entity) → EntityReached pairs std is_open x → LocalReached pairs std is_open (local_of x)
  local_reached (entity.Const c v) h = h
  local_reached (entity.Var t) h = h
  local_reached (entity.Function g) h = h
  local_reached (entity.TypeOf t) h = h

  pub locals_reached : (xs : List Entity) → Each (EntityReached pairs std is_open) xs → Each (LocalReached pairs std is_open) (map local_of xs)
  locals_reached [] h = tt
  locals_reached (x ∷ xs) h = (local_reached x h.0, locals_reached xs h.1)
