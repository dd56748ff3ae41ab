-- The trees of a declaration that is given something are typed, but for the type of a receiver, in which no expression stands.
use Rattle.std.proofs.Common.{◌≡◌, ◌⊎◌, inl, inr, ℕ, false, List, [], ◌∷◌, ◌++◌, map, length, refl, sym, ap, ◌∙◌, subst, Option, Some, None}
use Rattle.go_base.proofs.Members.{each_has, has_split}
use Rattle.go_base.specs.Lists.{Each, Has as HasItem}
use Rattle.go_model.specs.declared.types.package.Entity.{Entity}
use Rattle.go_model.specs.declared.types.term.Term.{Term}
use Rattle.go_rules.specs.Environments.{Env}
use Rattle.go_rules.specs.Expressions.{HasEach, each_more, each_none}
use Rattle.go_rules.specs.Nodes.{Node, Stands, TypeLayer, expression, optional, parts, signature, stands_here, stands_in, type, type_parts}
use Rattle.go_rules.specs.declared.operand.Operand.{Operand}
use Rattle.go_rules.proofs.OneName.{none_some}
use Rattle.go_syntax.specs.declared.expression.Expr.{Expr}
use Rattle.go_syntax.specs.declared.types.ParameterDecl.{ParameterDecl, out-ParameterDecl}
use Rattle.go_syntax.specs.declared.types.«Type».{«Type» as Typ, «Type-F» as Typ-F, «out-Type» as out-Typ, «roll-Type» as roll-Typ, «roll-out-Type» as roll-out-Typ, «fold-roll-Type» as fold-roll-Typ}
use Rattle.go_typed_parts.specs.TypedNodes.{IsTypedNode, typed_expression, typed_signature, typed_type}
use Rattle.go_typings.specs.DeclarationAsks.{AreUsable, FormAsks, ValuesFit}
use Rattle.go_typings.specs.DeclarationNodes.{nodes}
use Rattle.go_typings.specs.DeclarationRules.{AreConstants, Gives, constants_more, constants_none, given_type, gives_alias, gives_constants, gives_definition, gives_function, gives_method, gives_typed_variables, gives_variables}
use Rattle.go_typings.specs.Declarations.{Declaration, Form, alias, constants, declarations, definition, function, method, variables}
use Rattle.go_typings.specs.Initializers.{GivesValueAndTruth, Initialize, by_call, by_each, by_two, two_of_map, two_of_value}
use Rattle.go_typings.specs.PackageEnvironments.{Entry}
use Rattle.go_typings.specs.Receivers.{NameForm, base, base_in, form_step, name_form, pointer_form}
use Rattle.go_typings.specs.Sources.{PackageSource}

-- ---- the type of a receiver

abbrev layer_form : TypeLayer → Option NameForm
layer_form (Typ-F.«Type::Named» q) = Some (record { pointer = false; name = q })
layer_form (Typ-F.«Type::Paren» t) = name_form t
layer_form (Typ-F.Pointer t) = pointer_form (name_form t)
layer_form l = None

abbrev Rolled : TypeLayer → Type 0
Rolled l = name_form (roll-Typ l) ≡ layer_form l

rolled_form : (l : TypeLayer) → Rolled l
rolled_form (Typ-F.«Type::Named» q) = fold-roll-Typ (Unit {0}) (Unit {0}) (Unit {0}) (Unit {0}) (Unit {0}) (Unit {0}) (Option NameForm) (Unit {0}) (Unit {0}) (Unit {0}) (λ x. tt) (λ x. tt) (λ x. tt) (λ x. tt) (λ x. tt) (λ x. tt) form_step (λ x. tt) (λ x. tt) (λ x. tt) (Typ-F.«Type::Named» q)
rolled_form (Typ-F.«Type::Paren» t) = fold-roll-Typ (Unit {0}) (Unit {0}) (Unit {0}) (Unit {0}) (Unit {0}) (Unit {0}) (Option NameForm) (Unit {0}) (Unit {0}) (Unit {0}) (λ x. tt) (λ x. tt) (λ x. tt) (λ x. tt) (λ x. tt) (λ x. tt) form_step (λ x. tt) (λ x. tt) (λ x. tt) (Typ-F.«Type::Paren» t)
rolled_form (Typ-F.Pointer t) = fold-roll-Typ (Unit {0}) (Unit {0}) (Unit {0}) (Unit {0}) (Unit {0}) (Unit {0}) (Option NameForm) (Unit {0}) (Unit {0}) (Unit {0}) (λ x. tt) (λ x. tt) (λ x. tt) (λ x. tt) (λ x. tt) (λ x. tt) form_step (λ x. tt) (λ x. tt) (λ x. tt) (Typ-F.Pointer t)
rolled_form (Typ-F.«Type::Slice» t) = fold-roll-Typ (Unit {0}) (Unit {0}) (Unit {0}) (Unit {0}) (Unit {0}) (Unit {0}) (Option NameForm) (Unit {0}) (Unit {0}) (Unit {0}) (λ x. tt) (λ x. tt) (λ x. tt) (λ x. tt) (λ x. tt) (λ x. tt) form_step (λ x. tt) (λ x. tt) (λ x. tt) (Typ-F.«Type::Slice» t)
rolled_form (Typ-F.Array n t) = fold-roll-Typ (Unit {0}) (Unit {0}) (Unit {0}) (Unit {0}) (Unit {0}) (Unit {0}) (Option NameForm) (Unit {0}) (Unit {0}) (Unit {0}) (λ x. tt) (λ x. tt) (λ x. tt) (λ x. tt) (λ x. tt) (λ x. tt) form_step (λ x. tt) (λ x. tt) (λ x. tt) (Typ-F.Array n t)
rolled_form (Typ-F.Map k t) = fold-roll-Typ (Unit {0}) (Unit {0}) (Unit {0}) (Unit {0}) (Unit {0}) (Unit {0}) (Option NameForm) (Unit {0}) (Unit {0}) (Unit {0}) (λ x. tt) (λ x. tt) (λ x. tt) (λ x. tt) (λ x. tt) (λ x. tt) form_step (λ x. tt) (λ x. tt) (λ x. tt) (Typ-F.Map k t)
rolled_form (Typ-F.Chan t) = fold-roll-Typ (Unit {0}) (Unit {0}) (Unit {0}) (Unit {0}) (Unit {0}) (Unit {0}) (Option NameForm) (Unit {0}) (Unit {0}) (Unit {0}) (λ x. tt) (λ x. tt) (λ x. tt) (λ x. tt) (λ x. tt) (λ x. tt) form_step (λ x. tt) (λ x. tt) (λ x. tt) (Typ-F.Chan t)
rolled_form (Typ-F.SendChan t) = fold-roll-Typ (Unit {0}) (Unit {0}) (Unit {0}) (Unit {0}) (Unit {0}) (Unit {0}) (Option NameForm) (Unit {0}) (Unit {0}) (Unit {0}) (λ x. tt) (λ x. tt) (λ x. tt) (λ x. tt) (λ x. tt) (λ x. tt) form_step (λ x. tt) (λ x. tt) (λ x. tt) (Typ-F.SendChan t)
rolled_form (Typ-F.ReceiveChan t) = fold-roll-Typ (Unit {0}) (Unit {0}) (Unit {0}) (Unit {0}) (Unit {0}) (Unit {0}) (Option NameForm) (Unit {0}) (Unit {0}) (Unit {0}) (λ x. tt) (λ x. tt) (λ x. tt) (λ x. tt) (λ x. tt) (λ x. tt) form_step (λ x. tt) (λ x. tt) (λ x. tt) (Typ-F.ReceiveChan t)
rolled_form (Typ-F.Func g) = fold-roll-Typ (Unit {0}) (Unit {0}) (Unit {0}) (Unit {0}) (Unit {0}) (Unit {0}) (Option NameForm) (Unit {0}) (Unit {0}) (Unit {0}) (λ x. tt) (λ x. tt) (λ x. tt) (λ x. tt) (λ x. tt) (λ x. tt) form_step (λ x. tt) (λ x. tt) (λ x. tt) (Typ-F.Func g)
rolled_form (Typ-F.Struct fs) = fold-roll-Typ (Unit {0}) (Unit {0}) (Unit {0}) (Unit {0}) (Unit {0}) (Unit {0}) (Option NameForm) (Unit {0}) (Unit {0}) (Unit {0}) (λ x. tt) (λ x. tt) (λ x. tt) (λ x. tt) (λ x. tt) (λ x. tt) form_step (λ x. tt) (λ x. tt) (λ x. tt) (Typ-F.Struct fs)
rolled_form (Typ-F.Interface xs) = fold-roll-Typ (Unit {0}) (Unit {0}) (Unit {0}) (Unit {0}) (Unit {0}) (Unit {0}) (Option NameForm) (Unit {0}) (Unit {0}) (Unit {0}) (λ x. tt) (λ x. tt) (λ x. tt) (λ x. tt) (λ x. tt) (λ x. tt) form_step (λ x. tt) (λ x. tt) (λ x. tt) (Typ-F.Interface xs)

form_by_layer : (t : Typ) → name_form t ≡ layer_form (out-Typ t)
form_by_layer t = ap name_form (sym (roll-out-Typ t)) ∙ rolled_form (out-Typ t)

-- a type that is written as a name or a pointer to one
abbrev Inner : Node → Type 0
Inner c = (u : Typ) × (f : NameForm) × (name_form u ≡ Some f) × (c ≡ type u)

of_one : (t : Typ) (c : Node) (f : NameForm) → name_form t ≡ Some f → HasItem (type t ∷ []) c → Inner c
of_one t c f e (inl i) = (t, f, e, sym i)
of_one t c f e (inr i) = absurd i

pointed : (o : Option NameForm) (f : NameForm) → pointer_form o ≡ Some f → (g : NameForm) × (o ≡ Some g)
pointed None f e = absurd (none_some e)
pointed (Some g) f e = (g, refl)

within_layer : (l : TypeLayer) (c : Node) (f : NameForm) → layer_form l ≡ Some f → HasItem (type_parts l) c → Inner c
within_layer (Typ-F.«Type::Named» q) c f e i = absurd i
within_layer (Typ-F.«Type::Paren» t) c f e i = of_one t c f e i
within_layer (Typ-F.Pointer t) c f e i = let g = pointed (name_form t) f e in of_one t c g.0 g.1 i
within_layer (Typ-F.«Type::Slice» t) c f e i = absurd (none_some e)
within_layer (Typ-F.Array n t) c f e i = absurd (none_some e)
within_layer (Typ-F.Map k t) c f e i = absurd (none_some e)
within_layer (Typ-F.Chan t) c f e i = absurd (none_some e)
within_layer (Typ-F.SendChan t) c f e i = absurd (none_some e)
within_layer (Typ-F.ReceiveChan t) c f e i = absurd (none_some e)
within_layer (Typ-F.Func g) c f e i = absurd (none_some e)
within_layer (Typ-F.Struct fs) c f e i = absurd (none_some e)
within_layer (Typ-F.Interface xs) c f e i = absurd (none_some e)

other_nodes : (t : Typ) (e : Expr) → type t ≡ expression e → ⊥
other_nodes t e i = absurd (cc)

-- no expression stands in a type that is written as a name or a pointer to one
no_expression : {a b : Node} → Stands a b → (t : Typ) (f : NameForm) (e : Expr) → a ≡ type t → name_form t ≡ Some f → b ≡ expression e → ⊥
no_expression stands_here t f e i g j = other_nodes t e (sym i ∙ j)
no_expression (stands_in {b = c} k s) t f e i g j =
    let h = within_layer (out-Typ t) c f (sym (form_by_layer t) ∙ g) (subst (λ n. HasItem (parts n) c) i k) in
    no_expression s h.0 h.1 e h.3 h.2 j

based : (ds : List Declaration) (o : Option NameForm) (n : List ℕ) → base_in ds o ≡ Some n → (f : NameForm) × (o ≡ Some f)
based ds None n e = absurd (none_some e)
based ds (Some f) n e = (f, refl)

-- ---- declarations

-- constants of a spec are declared by some names
abbrev pub NamesSome : Form → Type 0
NamesSome (constants s place) = s.names ≡ [] → ⊥
NamesSome f = Unit {0}

length_none : {A B : Type 0} (xs : List A) (ys : List B) → length xs ≡ length ys → ys ≡ [] → xs ≡ []
length_none [] ys e f = refl
length_none (x ∷ xs) [] e f = absurd (cc)
length_none (x ∷ xs) (y ∷ ys) e f = absurd (cc)

module _ (E : Env) where
  -- a tree that is typed, or in which no expression stands
  abbrev pub IsSettled : Node → Type 0
  IsSettled at = IsTypedNode E at ⊎ ((e : Expr) → Stands at (expression e) → ⊥)

  constant_values : {t : Option Typ} {es : List Expr} {xs : List Entity} → AreConstants E t es xs → Each (IsTypedNode E) (map expression es)
  constant_values constants_none = tt
  constant_values (constants_more a k x) = (typed_expression a, constant_values x)

  constant_type : (t : Option Typ) (es : List Expr) {xs : List Entity} → (es ≡ [] → ⊥) → AreConstants E t es xs → Each (IsTypedNode E) (optional type t)
  constant_type None es n x = tt
  constant_type (Some t) [] n x = absurd (n refl)
  constant_type (Some t) (e ∷ es) n (constants_more a (given_type k u i v) x) = (typed_type k, tt)

  each_typed : {es : List Expr} {os : List Operand} → HasEach E es os → Each (IsTypedNode E) (map expression es)
  each_typed each_none = tt
  each_typed (each_more a x) = (typed_expression a, each_typed x)

  value_and_truth : {e : Expr} {t : Term} → GivesValueAndTruth E e t → IsTypedNode E (expression e)
  value_and_truth (two_of_map a) = typed_expression a
  value_and_truth (two_of_value i a) = typed_expression a

  initializers : {n : ℕ} {es : List Expr} {os : List Operand} → Initialize E n es os → Each (IsTypedNode E) (map expression es)
  initializers (by_each x l) = each_typed x
  initializers (by_call a l n) = (typed_expression a, tt)
  initializers (by_two g n) = (value_and_truth g, tt)

  usable_values : (t : Typ) (n : ℕ) (es : List Expr) → AreUsable E t n es → Each (IsTypedNode E) (map expression es)
  usable_values t n [] h = tt
  usable_values t n (e ∷ es) h = initializers h.3

  fitting_values : (o : Option Typ) (t : Typ) (n : ℕ) (es : List Expr) → o ≡ Some t → ValuesFit E o n es → Each (IsTypedNode E) (map expression es)
  fitting_values None t n es e h = absurd (none_some e)
  fitting_values (Some u) t n es e h = usable_values u n es h

  in_both : (xs ys : List Node) (at : Node) → Each (IsTypedNode E) xs → Each (IsTypedNode E) ys → HasItem (xs ++ ys) at → IsSettled at
  in_both xs ys at h k i = elim (has_split xs ys at i) [ inl j ↦ inl (each_has (IsTypedNode E) xs at h j) | inr j ↦ inl (each_has (IsTypedNode E) ys at k j) ]

  in_one : (n at : Node) → IsTypedNode E n → HasItem (n ∷ []) at → IsSettled at
  in_one n at h (inl e) = inl (subst (IsTypedNode E) e h)
  in_one n at h (inr i) = absurd i

  in_receiver : (ds : List Declaration) (p : ParameterDecl) (name : List ℕ) (at : Node) → base ds p ≡ Some name → type (out-ParameterDecl p).type_ ≡ at → IsSettled at
  in_receiver ds p name at b i =
      let f = based ds (name_form (out-ParameterDecl p).type_) name b in
      inr (λ e s. no_expression s (out-ParameterDecl p).type_ f.0 e (sym i) f.1 refl)

  -- the trees of a declaration that is given something
  pub settled : (u : PackageSource) (n : ℕ) (f : Form) (x : Entry) → NamesSome f → Gives E (declarations u) f x → FormAsks E u n f → (at : Node) → HasItem (nodes f) at → IsSettled at
  settled u n (constants s place) x k (gives_constants a l) asked at i = in_both (optional type s.type_) (map expression s.values) at (constant_type s.type_ s.values (λ e. k (length_none s.names s.values l e)) a) (constant_values a) i
  settled u n (variables s) x k (gives_typed_variables {t = t} e a) asked at i = in_both (optional type s.type_) (map expression s.values) at (subst (λ o. Each (IsTypedNode E) (optional type o)) (sym e) (typed_type a, tt)) (fitting_values s.type_ t (length s.names) s.values e asked.1) i
  settled u n (variables s) x k (gives_variables e a t) asked at i = in_both (optional type s.type_) (map expression s.values) at (subst (λ o. Each (IsTypedNode E) (optional type o)) (sym e) tt) (initializers a) i
  settled u n (alias s) x k (gives_alias a) asked at i = in_one (type s.type_) at (typed_type a) i
  settled u n (definition s) x k (gives_definition a e m d) asked at i = in_one (type s.type_) at (typed_type a) i
  settled u n (function f) x k (gives_function a b) asked at i = in_one (signature f.signature) at (typed_signature a) i
  settled u n (method p f) x k (gives_method a b) asked at (inl i) = in_receiver (declarations u) p asked.type at asked.of i
  settled u n (method p f) x k (gives_method a b) asked at (inr i) = in_one (signature f.signature) at (typed_signature a) i
