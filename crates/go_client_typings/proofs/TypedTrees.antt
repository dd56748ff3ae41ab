-- In a typing each tree of a declaration that declares something is typed, but for the types of receivers.
use Rattle.std.proofs.Common.{◌≡◌, ◌⊎◌, ◌+◌, ◌<◌, ℕ, zero, suc, Bool, true, false, List, [], ◌∷◌, ◌++◌, Option, None, Some, length, map, refl, sym, ap, ◌∙◌, subst, inl, inr, arith}
use Rattle.std.specs.Prelude.{if◌then◌else◌, slice_get}
use Rattle.go_base.specs.Lists.{Each, Has}
use Rattle.go_base.proofs.Members.{has_split}
use Rattle.go_model.specs.declared.types.package.Entity.{Entity}
use Rattle.go_model.specs.declared.types.term.Term.{Term}
use Rattle.go_rules.specs.Asks.{texts}
use Rattle.go_rules.specs.Environments.{Env}
use Rattle.go_rules.specs.Expressions.{HasEach, each_more, each_none}
use Rattle.go_rules.specs.Nodes.{Node, expression, optional, signature, type}
use Rattle.go_rules.specs.declared.operand.Operand.{Operand}
use Rattle.go_soundness.proofs.DeclaredForms.{is_at}
use Rattle.go_syntax.specs.declared.expression.Expr.{Expr}
use Rattle.go_syntax.specs.declared.name.Name.{Name}
use Rattle.go_syntax.specs.declared.types.«Type».{«Type» as Typ}
use Rattle.go_typed_parts.specs.TypedNodes.{IsTypedNode, typed_expression, typed_signature, typed_type}
use Rattle.go_typings.specs.Assignments.{At, all_of}
use Rattle.go_typings.specs.DeclarationAsks.{Asks, ValuesFit}
use Rattle.go_typings.specs.DeclarationNodes.{nodes}
use Rattle.go_typings.specs.DeclarationRules.{AreConstants, constants_more, constants_none, given_type, Gives, gives_alias, gives_constants, gives_definition, gives_function, gives_method, gives_typed_variables, gives_variables}
use Rattle.go_typings.specs.Declarations.{Form, constants, variables, alias, definition, function, method, Declaration, declarations, names_of, place_from}
use Rattle.go_typings.specs.Initializers.{Initialize, by_call, by_each, by_two, GivesValueAndTruth, two_of_map, two_of_value}
use Rattle.go_typings.specs.PackageEnvironments.{Entries, Entry, environment}
use Rattle.go_typings.specs.Receivers.{DeclaredMethod, base, declared_methods, is_named, method_by, methods_from}
use Rattle.go_typings.specs.References.{IsDeclaredAs}
use Rattle.go_typings.specs.Sources.{PackageSource, Setting}
use Rattle.go_typings.specs.Typings.{IsTyping}
use Rattle.go_typings.proofs.Cells.{none_some, some_once}
use Rattle.go_typings.proofs.OneTyping.{all_hold}
use Rattle.go_typings.proofs.SoundDeclarations.{within}

-- ---- declarations that declare something

-- constants with a name: so they have a value
abbrev pub DeclaresSome : Form → Type 0
DeclaresSome (constants s place) = length s.names ≡ 0 → ⊥
DeclaresSome f = Unit {0}

abbrev pub IsSome : PackageSource → ℕ → Type 0
IsSome u n = At (declarations u) n (λ d. DeclaresSome d.form)

no_zero : (n : ℕ) → suc n ≡ 0 → ⊥
no_zero n e = omega (arith, e)

some_names : (ns : List Name) (name : List ℕ) (p : ℕ) → place_from 0 (texts ns) name ≡ Some p → length ns ≡ 0 → ⊥
some_names [] name p e l = none_some (place_from 0 [] name) p refl e
some_names (n ∷ ns) name p e l = no_zero (length ns) l

named_some : (f : Form) (name : List ℕ) (p : ℕ) → place_from 0 (texts (names_of f)) name ≡ Some p → DeclaresSome f
named_some (constants s place) name p e = some_names s.names name p e
named_some (variables s) name p e = tt
named_some (alias s) name p e = tt
named_some (definition s) name p e = tt
named_some (function f) name p e = tt
named_some (method r f) name p e = tt

-- what a name names declares something
pub named_is_some : (u : PackageSource) (name : Name) (n : ℕ) → IsDeclaredAs u name n → IsSome u n
named_is_some u name n (w, e, i) =
    let a = is_at (declarations u) name.text w e in
    (a.declaration, subst (λ (k : ℕ). slice_get (declarations u) k ≡ Some a.declaration) i a.is, subst DeclaresSome (sym a.form) (named_some w.form name.text w.place a.place))

abbrev IsMethodForm : Form → Type 0
IsMethodForm (method r f) = Unit {0}
IsMethodForm f = ⊥

method_some : (f : Form) → IsMethodForm f → DeclaresSome f
method_some (constants s place) h = absurd h
method_some (variables s) h = tt
method_some (alias s) h = tt
method_some (definition s) h = tt
method_some (function f) h = tt
method_some (method r f) h = tt

if_has : (b : Bool) (x m : DeclaredMethod) → Has (if b then x ∷ [] else []) m → x ≡ m
if_has true x m (inl e) = e
if_has true x m (inr h) = absurd h
if_has false x m h = absurd h

method_here : (u : PackageSource) (named : List ℕ) (n : ℕ) (f : Form) (m : DeclaredMethod) → Has (method_by u named n f) m → (m.number ≡ n) × IsMethodForm f
method_here u named n (method r f) m h = (sym (ap (λ (z : DeclaredMethod). z.number) (if_has (is_named named (base (declarations u) r)) _ m h)), tt)
method_here u named n (constants s p) m h = absurd h
method_here u named n (variables s) m h = absurd h
method_here u named n (alias s) m h = absurd h
method_here u named n (definition s) m h = absurd h
method_here u named n (function f) m h = absurd h

-- the declaration of a method, by its number from the first of some declarations on
record StandsBehind (k : ℕ) (ds : List Declaration) (n : ℕ) : Type 0 where
  behind : ℕ
  number : n ≡ k + behind
  declaration : Declaration
  is : slice_get ds behind ≡ Some declaration
  form : IsMethodForm declaration.form

stands_behind : (u : PackageSource) (named : List ℕ) (k : ℕ) (ds : List Declaration) (m : DeclaredMethod) → Has (methods_from u named k ds) m → StandsBehind k ds m.number
stands_behind u named k [] m h = absurd h
stands_behind u named k (d ∷ ds) m h = choose (has_split (method_by u named k d.form) (methods_from u named (suc k) ds) m h) (λ i. stands_behind u named (suc k) ds m i)
  where
    choose : Has (method_by u named k d.form) m ⊎ Has (methods_from u named (suc k) ds) m → (Has (methods_from u named (suc k) ds) m → StandsBehind (suc k) ds m.number) → StandsBehind k (d ∷ ds) m.number
    choose (inl i) r = let e = method_here u named k d.form m i in record { behind = 0; number = (let n = e.0 in omega (arith, n)); declaration = d; is = refl; form = e.1 }
    choose (inr i) r = let e = r i in record { behind = suc e.behind; number = (let n = e.number in omega (arith, n)); declaration = e.declaration; is = e.is; form = e.form }

-- a method declares something
pub method_is_some : (u : PackageSource) (named : List ℕ) (m : DeclaredMethod) → Has (declared_methods u named) m → IsSome u m.number
method_is_some u named m h =
    let e = stands_behind u named 0 (declarations u) m h in
    let n = e.number in let i : e.behind ≡ m.number = omega (arith, n) in
    (e.declaration, subst (λ (k : ℕ). slice_get (declarations u) k ≡ Some e.declaration) i e.is, method_some e.declaration.form e.form)

-- ---- their trees

module _ (E : Env) where
  abbrev AreTypedNodes : List Node → Type 0
  AreTypedNodes ns = Each (IsTypedNode E) ns

  both : (xs ys : List Node) → AreTypedNodes xs → AreTypedNodes ys → AreTypedNodes (xs ++ ys)
  both [] ys a b = b
  both (x ∷ xs) ys a b = (a.0, both xs ys a.1 b)

  constants_typed : {t : Option Typ} {es : List Expr} {xs : List Entity} → AreConstants E t es xs → AreTypedNodes (map expression es)
  constants_typed constants_none = tt
  constants_typed (constants_more a h r) = (typed_expression a, constants_typed r)

  constant_type : (t : Option Typ) {es : List Expr} {xs : List Entity} → AreConstants E t es xs → (length es ≡ 0 → ⊥) → AreTypedNodes (optional type t)
  constant_type None k h = tt
  constant_type (Some t) constants_none h = absurd (h refl)
  constant_type (Some t) (constants_more a (given_type b e i v) r) h = (typed_type b, tt)

  each_typed : {es : List Expr} {os : List Operand} → HasEach E es os → AreTypedNodes (map expression es)
  each_typed each_none = tt
  each_typed (each_more a r) = (typed_expression a, each_typed r)

  two_typed : {e : Expr} {t : Term} → GivesValueAndTruth E e t → IsTypedNode E (expression e)
  two_typed (two_of_map a) = typed_expression a
  two_typed (two_of_value i a) = typed_expression a

  values_typed : {n : ℕ} {es : List Expr} {os : List Operand} → Initialize E n es os → AreTypedNodes (map expression es)
  values_typed (by_each a e) = each_typed a
  values_typed (by_call a e l) = (typed_expression a, tt)
  values_typed (by_two a e) = (two_typed a, tt)

  fitting_typed : (t : Typ) (n : ℕ) (es : List Expr) → ValuesFit E (Some t) n es → AreTypedNodes (map expression es)
  fitting_typed t n [] h = tt
  fitting_typed t n (e ∷ es) (v, os, a, i, g) = values_typed i

  of_type_typed : (c : Option Typ) (t : Typ) → c ≡ Some t → IsTypedNode E (type t) → AreTypedNodes (optional type c)
  of_type_typed None t e h = none_some {A = Typ} None t refl e
  of_type_typed (Some x) t e h = (subst (λ (z : Typ). IsTypedNode E (type z)) (sym (some_once x t e)) h, tt)

  none_typed : (c : Option Typ) → c ≡ None → AreTypedNodes (optional type c)
  none_typed None e = tt
  none_typed (Some x) e = none_some {A = Typ} (Some x) x e refl

  -- the trees of a declaration, but for the type of a receiver
  abbrev pub TreesAreTyped : Form → Type 0
  TreesAreTyped (method r f) = IsTypedNode E (signature f.signature)
  TreesAreTyped f = AreTypedNodes (nodes f)

  pub trees_typed : (ds : List Declaration) (u : PackageSource) (n : ℕ) (f : Form) (x : Entry) → DeclaresSome f → Gives E ds f x → Asks E u n f → TreesAreTyped f
  trees_typed ds u n (constants s place) x h (gives_constants a e) k =
      both (optional type s.type_) (map expression s.values) (constant_type s.type_ a (λ i. h (e ∙ i))) (constants_typed a)
  trees_typed ds u n (variables s) x h (gives_typed_variables {t = t} e a) k =
      both (optional type s.type_) (map expression s.values) (of_type_typed s.type_ t e (typed_type a)) (fitting_typed t (length s.names) s.values (subst (λ (z : Option Typ). ValuesFit E z (length s.names) s.values) e k.form.1))
  trees_typed ds u n (variables s) x h (gives_variables e a g) k = both (optional type s.type_) (map expression s.values) (none_typed s.type_ e) (values_typed a)
  trees_typed ds u n (alias s) x h (gives_alias a) k = (typed_type a, tt)
  trees_typed ds u n (definition s) x h (gives_definition a e i m) k = (typed_type a, tt)
  trees_typed ds u n (function f) x h (gives_function a b) k = (typed_signature a, tt)
  trees_typed ds u n (method r f) x h (gives_method a b) k = typed_signature a

-- ---- in a typing

past : (n : ℕ) → ◌≡◌ {A = Option Declaration} (slice_get [] n) None
past zero = refl
past (suc n) = refl

get_below : (ds : List Declaration) (n : ℕ) (d : Declaration) → slice_get ds n ≡ Some d → n < length ds
get_below [] n d e = none_some (slice_get [] n) d (past n) e
get_below (x ∷ xs) zero d e = omega arith
get_below (x ∷ xs) (suc n) d e = let k = get_below xs n d e in omega (arith, k)

module _ (s : Setting) (u : PackageSource) (a : Entries) (T : IsTyping s u a) where
  pub asked : (n : ℕ) (d : Declaration) → slice_get (declarations u) n ≡ Some d → Asks (environment s u a d) u n d.form
  asked n d e =
      let i = within n (length (declarations u)) (get_below (declarations u) n d e) in
      let k = T.asks n i in
      let q = some_once k.0 d (sym k.1 ∙ e) in
      subst (λ (z : Declaration). Asks (environment s u a z) u n z.form) q k.2

  pub given_typed : (n : ℕ) (d : Declaration) → slice_get (declarations u) n ≡ Some d → DeclaresSome d.form → TreesAreTyped (environment s u a d) d.form
  given_typed n d e h =
      let i = within n (length (declarations u)) (get_below (declarations u) n d e) in
      let k = all_hold s u (all_of (declarations u)) a n T i in
      let q = some_once k.0 d (sym k.1 ∙ e) in
      let g = subst (λ (z : Declaration). Gives (environment s u a z) (declarations u) z.form k.2.0) q k.2.2 in
      trees_typed (environment s u a d) (declarations u) u n d.form k.2.0 h g (asked n d e)
