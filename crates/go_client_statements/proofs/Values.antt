-- Values that names are given, that are assigned and that are returned, on both sides.
use Rattle.std.proofs.Common.{◌≡◌, ℕ, suc, Bool, true, false, List, [], ◌∷◌, ◌++◌, length, map, refl, sym, ap, ◌∙◌, subst, Option, Some}
use Rattle.go_base.specs.Lists.{Each, Has as HasItem}
use Rattle.go_base.specs.declared.operator.AssignOperator.{AssignOperator}
use Rattle.go_base.specs.declared.operator.AssignOperator.TheVariants as assign
use Rattle.go_base.specs.declared.operator.PrefixOperator.TheVariants as prefix
use Rattle.go_model.specs.constants.Constants.{is_representable}
use Rattle.go_model.specs.declared.constants.value.Basic.{Basic}
use Rattle.go_model.specs.declared.constants.value.Basic.TheVariants as basic
use Rattle.go_model.specs.declared.constants.value.Untyped.{Untyped}
use Rattle.go_model.specs.declared.constants.value.Untyped.TheVariants as untyped
use Rattle.go_model.specs.declared.constants.value.Value.{Value}
use Rattle.go_model.specs.declared.types.names.Sel.{Sel}
use Rattle.go_model.specs.declared.types.names.TypeName.{TypeName}
use Rattle.go_model.specs.declared.types.package.ConstTerm.{ConstTerm}
use Rattle.go_model.specs.declared.types.package.ConstTerm.TheVariants as constant
use Rattle.go_model.specs.declared.types.term.Term.{Term, Term-F, out-roll-Term}
use Rattle.go_rules.specs.Asks.{Meets}
use Rattle.go_rules.specs.Environments.{Env}
use Rattle.go_rules.specs.Expressions.{Has, IsTypeName, has_operand, HasEach, HasForm, has_constant_prefix, has_imported, has_paren, has_prefix, has_primary, has_receive, HasPost, post_assertion, post_builtin, post_call, post_conversion, HasPosts, posts_more, posts_none, calls_at, product_operator}
use Rattle.go_rules.specs.Names.{Named, value_at}
use Rattle.go_rules.specs.Nodes.{ExprLayer, Node, PostLayer, expression, expression_parts}
use Rattle.go_rules.specs.Operands.{basic_term, computed, constant_of, default_type, is_variable, loose, plain, value_of}
use Rattle.go_rules.specs.Usability.{DefaultHolds, UsableAs}
use Rattle.go_rules.specs.declared.operand.Mode.{Mode}
use Rattle.go_rules.specs.declared.operand.Mode.TheVariants as mode
use Rattle.go_rules.specs.declared.operand.Operand.{Operand}
use Rattle.go_rules.specs.declared.operand.Shape.{Shape}
use Rattle.go_rules.specs.declared.operand.Shape.TheVariants as shape
use Rattle.go_rules.specs.declared.seen.Seen.{Seen}
use Rattle.go_rules.specs.declared.seen.Seen.TheVariants as seen
use Rattle.go_statement_rules.specs.Assignments.{AreAssigned, assigned_blank, assigned_none, assigned_side, AreDefined, defined_blank, defined_new, defined_none, defined_old, AreResults, results_more, results_none, IsAssigned, is_assigned, IsCallAlone, call_alone, call_in_parentheses, Operates, Returns, returns_call, returns_each, returns_nothing, may_be_called_alone, shape_stands_alone}
use Rattle.go_syntax.specs.declared.expression.Expr.{Expr, Expr-F}
use Rattle.go_syntax.specs.declared.expression.Post.{Post, Post-F, out-Post}
use Rattle.go_syntax.specs.declared.name.Name.{Name}
use Rattle.go_syntax.specs.declared.name.QualifiedName.{QualifiedName}
use Rattle.go_syntax.specs.declared.types.«Type».{«Type» as Typ}
use Rattle.go_type_images.specs.Images.{Naming, image, same_sels}
use Rattle.go_type_images.specs.Parts.{parts}
use Rattle.go_type_images.specs.declared.pair.TypePair.{TypePair}
use Rattle.go_type_images.proofs.ImageLevels.{image_roll}
use Rattle.go_typings.specs.Initializers.{GivesValueAndTruth, two_of_map, two_of_value, Initialize, by_call, by_each, by_two, IsAssertionOrReceive, is_assertion, is_in_parentheses, is_receive, TypeOfValue, default_of_constant, default_of_truth, own_type, TypesOfValues, types_more, types_none}
use Rattle.go_client_types.specs.Following.{After, addressable, after_bare, after_constant, after_tuple, after_value, same_mode}
use Rattle.go_client_types.specs.Keeping.{Keeps, seen_to}
use Rattle.go_client_types.specs.Reached.{IsMade, IsReached, reach_made}
use Rattle.go_client_types.proofs.Assigning.{usable_kept}
use Rattle.go_client_types.proofs.Operands.{typed_after}
use Rattle.go_client_types.proofs.TypeForms.{meets_parts}
use Rattle.go_client_operators.specs.FollowedOperands.{AreAfter}
use Rattle.go_client_operators.proofs.Operators as operators
use Rattle.go_client_expressions.proofs.Expressions as expressions
use Rattle.go_client_expressions.proofs.MetParts as met
use Rattle.go_client_expressions.proofs.Results as results
use Rattle.go_client_statements.specs.LocalScopes.{LocalReached, scope_to}
use Rattle.go_client_statements.proofs.ScopeImages.{OptionLocal, option_to, value_local, value_to}

-- ---- an assertion and a receive aren't addressable

computed_mode : (c : ConstTerm) → is_variable (computed c).mode ≡ false
computed_mode (constant.OfTerm t) = refl
computed_mode (constant.OfKind k) = refl

receive_mode : {F : Env} {x : Expr} {o : Operand} → HasForm F (Expr-F.Prefix prefix.Receive x) o → is_variable o.mode ≡ false
receive_mode (has_receive a i e c) = refl
receive_mode (has_constant_prefix x a k e) = refl
receive_mode (has_prefix {c = c} x a b i k j) = computed_mode c

assertion_mode : {F : Env} {t : Typ} {o s : Operand} → HasPost F o (Post-F.TypeAssertion t) s → is_variable s.mode ≡ false
assertion_mode (post_assertion i e a h) = refl
assertion_mode (post_conversion c a v) = elim c [ ]
assertion_mode (post_call c i e a h) = elim c [ ]
assertion_mode (post_builtin c b) = elim c [ ]

one_post : {x y : Post} {xs ys : List Post} → x ∷ xs ≡ y ∷ ys → x ≡ y
one_post e = cc

other_posts : {x y : Post} {xs ys : List Post} → x ∷ xs ≡ y ∷ ys → xs ≡ ys
other_posts e = cc

no_posts : {x : Post} {xs : List Post} → [] ≡ x ∷ xs → ⊥
no_posts e = absurd (cc)

no_more : {x y z : Post} {ys : List Post} → x ∷ y ∷ ys ≡ z ∷ [] → ⊥
no_more e = absurd (cc)

not_selected : {n : Name} {t : Typ} → ◌≡◌ {A = PostLayer} (Post-F.Selector n) (Post-F.TypeAssertion t) → ⊥
not_selected e = absurd (cc)

-- the last of some posts
last_mode : {F : Env} {t : Typ} {o s : Operand} (xs before : List Post) (p : Post) → xs ≡ before ++ p ∷ [] → out-Post p ≡ Post-F.TypeAssertion t → HasPosts F o xs s → is_variable s.mode ≡ false
last_mode [] [] p e f h = absurd (no_posts e)
last_mode [] (y ∷ before) p e f h = absurd (no_posts e)
last_mode {F = F} (x ∷ []) [] p e f (posts_more {o = o} {q = q} a b posts_none) = assertion_mode (subst (λ l. HasPost F o l q) (ap out-Post (one_post e) ∙ f) a)
last_mode (x ∷ y ∷ xs) [] p e f h = absurd (no_more e)
last_mode (x ∷ xs) (y ∷ before) p e f (posts_more a b h) = last_mode xs before p (other_posts e) f h

primary_mode : {F : Env} {t : Typ} {x : Expr} {s : Operand} (xs before : List Post) (p : Post) → xs ≡ before ++ p ∷ [] → out-Post p ≡ Post-F.TypeAssertion t → HasForm F (Expr-F.Primary x xs) s → is_variable s.mode ≡ false
primary_mode xs before p e f (has_primary a h) = last_mode xs before p e f h
primary_mode (x ∷ xs) [] p e f (has_imported i j d b h) = absurd (not_selected (sym j ∙ ap out-Post (one_post e) ∙ f))
primary_mode (x ∷ xs) (y ∷ before) p e f (has_imported i j d b h) = last_mode xs before p (other_posts e) f h

paren_has : {F : Env} {x : Expr} {o : Operand} → HasForm F (Expr-F.«Expr::Paren» x) o → Has F x o
paren_has (has_paren a) = a

given_mode : (F : Env) {e : Expr} {o : Operand} → IsAssertionOrReceive e → Has F e o → is_variable o.mode ≡ false
given_mode F {o = o} (is_receive i) (has_operand a s) = receive_mode (subst (λ l. HasForm F l o) i a)
given_mode F {o = o} (is_assertion ps p i j) (has_operand a s) = primary_mode (ps ++ p ∷ []) ps p refl j (subst (λ l. HasForm F l o) i a)
given_mode F {o = o} (is_in_parentheses i x) (has_operand a s) = given_mode F x (paren_has (subst (λ l. HasForm F l o) i a))

-- ---- lengths

pub map_length : {A B : Type 0} (f : A → B) (xs : List A) → length (map f xs) ≡ length xs
map_length f [] = refl
map_length f (x ∷ xs) = ap suc (map_length f xs)

-- ---- calls that stand alone

alone_by : (m : Mode) (s u : Shape) → (shape_stands_alone s ≡ true → shape_stands_alone u ≡ true) → may_be_called_alone m s ≡ true → may_be_called_alone m u ≡ true
alone_by mode.TypeName s u h e = e
alone_by m s u h e = h e

module _ (r : Naming) (pairs : List TypePair) (std : TypeName → Bool) (is_open : Sel → Bool) where
  abbrev A : Operand → Operand → Type 0
  A = After r pairs std is_open

  pub called_alone : {o p : Operand} → A o p → may_be_called_alone o.mode o.shape ≡ true → may_be_called_alone p.mode p.shape ≡ true
  called_alone (after_value {m = m} {t = t} same_mode h) e = alone_by m (shape.Of t) (shape.Of (image r same_sels t)) (λ k. refl) e
  called_alone (after_value addressable h) e = refl
  called_alone (after_constant h) e = refl
  called_alone (after_tuple h) e = refl
  called_alone (after_bare h) e = e

  -- what is assigned to stays so
  pub assigned_after : {o p : Operand} {t : Term} → IsAssigned o t → A o p → IsAssigned p (image r same_sels t) × IsReached pairs std is_open t
  assigned_after (is_assigned e) (after_value same_mode h) = (is_assigned e, h)
  assigned_after (is_assigned e) (after_value addressable h) = (is_assigned refl, h)
  assigned_after (is_assigned e) (after_bare h) = absurd h

  pub element_after : {t : Term} {p : Operand} → A (value_of mode.MapElement t) p → (p ≡ value_of mode.MapElement (image r same_sels t)) × IsReached pairs std is_open t
  element_after (after_value same_mode h) = (refl, h)
  element_after (after_bare h) = absurd h

  -- a value that isn't addressable on the new side is as it was
  pub plain_after : {t : Term} {p : Operand} → A (plain t) p → is_variable p.mode ≡ false → (p ≡ plain (image r same_sels t)) × IsReached pairs std is_open t
  plain_after (after_value same_mode h) e = (refl, h)
  plain_after (after_value addressable h) e = absurd (cc)
  plain_after (after_bare h) e = absurd h

module _ (E F : Env) (r : Naming) (pairs : List TypePair) (std : TypeName → Bool) (is_open : Sel → Bool) (K : Keeps E F r pairs std is_open) where
  abbrev to : Term → Term
  to = image r same_sels

  abbrev R : Term → Type 0
  R = IsReached pairs std is_open

  abbrev B : Operand → Operand → Type 0
  B = After r pairs std is_open

  abbrev Bs : List Operand → List Operand → Type 0
  Bs = AreAfter r pairs std is_open

  pub usable : {o q : Operand} {t : Term} → B o q → R t → UsableAs E o t → UsableAs F q (to t)
  usable a h u = usable_kept E F r pairs std is_open K a h u

  -- ---- default types

  pub basic_reached : (b : Basic) → R (basic_term b)
  basic_reached b = reach_made (subst IsMade (sym (out-roll-Term (Term-F.Plain b))) tt) (λ u k. absurd (subst (λ l. HasItem (parts l) u) (out-roll-Term (Term-F.Plain b)) k))

  pub basic_stays : (b : Basic) → to (basic_term b) ≡ basic_term b
  basic_stays b = image_roll r same_sels (Term-F.Plain b)

  default_reached : (k : Untyped) → R (default_type k)
  default_reached untyped.IntKind = basic_reached basic.Int
  default_reached untyped.RuneKind = basic_reached basic.Int32
  default_reached untyped.StrKind = basic_reached basic.Str
  default_reached untyped.BoolKind = basic_reached basic.Bool

  default_stays : (k : Untyped) → to (default_type k) ≡ default_type k
  default_stays untyped.IntKind = basic_stays basic.Int
  default_stays untyped.RuneKind = basic_stays basic.Int32
  default_stays untyped.StrKind = basic_stays basic.Str
  default_stays untyped.BoolKind = basic_stays basic.Bool

  default_kept : (k : Untyped) (v : Value) → DefaultHolds E k v → DefaultHolds F k v
  default_kept k v d = (d.0, d.1, subst (λ n. is_representable v d.0 n ≡ true) (sym K.bits) d.2)

  -- the type of a variable that is given the value
  pub value_type : {o q : Operand} {t : Term} → B o q → TypeOfValue E o t → TypeOfValue F q (to t) × R t
  value_type a (own_type i) = let f = typed_after r pairs std is_open a i in (own_type f.0, f.1)
  value_type (after_constant h) (default_of_constant {k = k} {v = v} d) = (subst (TypeOfValue F (constant_of (constant.OfKind k) v)) (sym (default_stays k)) (default_of_constant (default_kept k v d)), default_reached k)
  value_type (after_bare h) (default_of_constant d) = absurd h
  value_type (after_bare h) default_of_truth = (subst (TypeOfValue F (loose untyped.BoolKind)) (sym (default_stays untyped.BoolKind)) default_of_truth, default_reached untyped.BoolKind)

  pub value_types : {os : List Operand} {ts : List Term} (qs : List Operand) → Bs os qs → TypesOfValues E os ts → TypesOfValues F qs (map to ts) × Each R ts
  value_types [] a types_none = (types_none, tt)
  value_types (q ∷ qs) a types_none = absurd a
  value_types [] a (types_more x y) = absurd a
  value_types (q ∷ qs) a (types_more x y) = let f = value_type a.0 x in let g = value_types qs a.1 y in (types_more f.0 g.0, (f.1, g.1))

  -- ---- values for names

  by_plain : {e : Expr} {t : Term} → IsAssertionOrReceive e → (q : Operand) × Has F e q × B (plain t) q → GivesValueAndTruth F e (to t) × R t
  by_plain {e = e} i f = let g = plain_after r pairs std is_open f.2 (given_mode F i f.1) in (two_of_value i (subst (Has F e) g.0 f.1), g.1)

  by_element : {e : Expr} {t : Term} → (q : Operand) × Has F e q × B (value_of mode.MapElement t) q → GivesValueAndTruth F e (to t) × R t
  by_element {e = e} f = let g = element_after r pairs std is_open f.2 in (two_of_map (subst (Has F e) g.0 f.1), g.1)

  -- ---- operators of assignments

  pub operates_kept : (op : AssignOperator) {l o s m p : Operand} → B l m → B o p → Operates E op l o s → (z : Operand) × Operates F op m p z × B s z
  operates_kept (assign.Sum op) a b x = operators.computes_kept E F r pairs std is_open K a b x
  operates_kept (assign.Product op) a b x = operators.product_kept E F r pairs std is_open K (product_operator op) a b x

  -- ---- short variable declarations

  abbrev L : Seen → Type 0
  L = LocalReached pairs std is_open

  local_of_scope : (scope : Named Seen) (name : List ℕ) (t : Term) → Each (λ (x : List ℕ × Seen). L x.1) scope → value_at scope name ≡ Some (seen.Local t) → (value_at (scope_to r scope) name ≡ Some (seen.Local (to t))) × R t
  local_of_scope scope name t h e = (value_to r scope name ∙ ap (option_to r) e, subst (OptionLocal pairs std is_open) e (value_local pairs std is_open scope name h))

  pub defined_kept : (scope : Named Seen) → Each (λ (x : List ℕ × Seen). L x.1) scope → {ns : List Name} {os : List Operand} {xs : List (Option Name)} {ms : List Seen} (qs : List Operand) → Bs os qs → AreDefined E scope ns os xs ms
      → AreDefined F (scope_to r scope) ns qs xs (map (seen_to r) ms) × Each L ms
  defined_kept scope h [] a defined_none = (defined_none, tt)
  defined_kept scope h (q ∷ qs) a defined_none = absurd a
  defined_kept scope h [] a (defined_blank b t x) = absurd a
  defined_kept scope h (q ∷ qs) a (defined_blank b t x) = let f = defined_kept scope h qs a.1 x in (defined_blank b (value_type a.0 t).0 f.0, f.1)
  defined_kept scope h [] a (defined_old e u x) = absurd a
  defined_kept scope h (q ∷ qs) a (defined_old {n = n} {t = t} e u x) =
      let f = defined_kept scope h qs a.1 x in let g = local_of_scope scope n.text t h e in
      (defined_old g.0 (usable a.0 g.1 u) f.0, f.1)
  defined_kept scope h [] a (defined_new b e t x) = absurd a
  defined_kept scope h (q ∷ qs) a (defined_new {n = n} b e t x) =
      let f = defined_kept scope h qs a.1 x in let g = value_type a.0 t in
      (defined_new b (value_to r scope n.text ∙ ap (option_to r) e) g.0 f.0, (g.1, f.1))

  -- ---- results

  results_kept : {os : List Operand} {ts : List Term} (qs : List Operand) → Bs os qs → Each R ts → AreResults E os ts → AreResults F qs (map to ts)
  results_kept [] a h results_none = results_none
  results_kept (q ∷ qs) a h results_none = absurd a
  results_kept [] a h (results_more u x) = absurd a
  results_kept (q ∷ qs) a h (results_more u x) = results_more (usable a.0 h.0 u) (results_kept qs a.1 h.1 x)

-- ---- expressions, which meet what they are asked in a larger environment

module _ (E F G : Env) (r : Naming) (pairs : List TypePair) (std : TypeName → Bool) (is_open : Sel → Bool) (K : Keeps E F r pairs std is_open) (more : (q : QualifiedName) (t : Term) → IsTypeName E q t → IsTypeName G q t) (barred : G.profile ≡ true) where
  abbrev image_to : Term → Term
  image_to = image r same_sels

  abbrev Reached : Term → Type 0
  Reached = IsReached pairs std is_open

  abbrev Follows : Operand → Operand → Type 0
  Follows = After r pairs std is_open

  abbrev AllFollow : List Operand → List Operand → Type 0
  AllFollow = AreAfter r pairs std is_open

  abbrev Met : List Node → Type 0
  Met bs = Each (Meets G) bs

  pub has : {e : Expr} {o : Operand} → Has E e o → Meets G (expression e) → (q : Operand) × Has F e q × Follows o q
  has a m = expressions.has_kept E F G r pairs std is_open K more barred a m

  form : {l : ExprLayer} {o : Operand} → HasForm E l o → Met (expression_parts l) → (q : Operand) × HasForm F l q × Follows o q
  form a m = expressions.form_kept E F G r pairs std is_open K more barred a m

  each : {es : List Expr} {os : List Operand} → HasEach E es os → Met (map expression es) → (qs : List Operand) × HasEach F es qs × AllFollow os qs
  each a m = expressions.each_kept E F G r pairs std is_open K more barred a m

  two_kept : {e : Expr} {t : Term} → GivesValueAndTruth E e t → Meets G (expression e) → GivesValueAndTruth F e (image_to t) × Reached t
  two_kept (two_of_map a) m = by_element E F r pairs std is_open K (has a m)
  two_kept (two_of_value i a) m = by_plain E F r pairs std is_open K i (has a m)

  pub initialize_kept : {n : ℕ} {es : List Expr} {os : List Operand} → Initialize E n es os → Met (map expression es) → (qs : List Operand) × Initialize F n es qs × AllFollow os qs
  initialize_kept (by_each x e) m = let f = each x m in (f.0, by_each f.1 e, f.2)
  initialize_kept (by_call {e = e} {ts = ts} a l w) m =
      let f = has a m.0 in let g = results.tuple_after r pairs std is_open f.2 in
      (map plain (map image_to ts), by_call (subst (Has F e) g.0 f.1) (map_length image_to ts ∙ l) w, results.plains_after r pairs std is_open ts g.1)
  initialize_kept (by_two {t = t} x e) m = let f = two_kept x m.0 in (plain (image_to t) ∷ loose untyped.BoolKind ∷ [], by_two f.0 e, (after_value same_mode f.1, (after_bare tt, tt)))

  -- ---- assignments, results and calls that stand alone

  pub assigned_kept : {es : List Expr} {os : List Operand} (qs : List Operand) → AllFollow os qs → AreAssigned E es os → Met (map expression es) → AreAssigned F es qs
  assigned_kept [] a assigned_none m = assigned_none
  assigned_kept (q ∷ qs) a assigned_none m = absurd a
  assigned_kept [] a (assigned_blank i t x) m = absurd a
  assigned_kept (q ∷ qs) a (assigned_blank i t x) m = assigned_blank i (value_type E F r pairs std is_open K a.0 t).0 (assigned_kept qs a.1 x m.1)
  assigned_kept [] a (assigned_side b i u x) m = absurd a
  assigned_kept (q ∷ qs) a (assigned_side b i u x) m =
      let f = has b m.0 in let g = assigned_after r pairs std is_open i f.2 in
      assigned_side f.1 g.0 (usable E F r pairs std is_open K a.0 g.1 u) (assigned_kept qs a.1 x m.1)

  pub returns_kept : {ts : List Term} {es : List Expr} → Each Reached ts → Returns E ts es → Met (map expression es) → Returns F (map image_to ts) es
  returns_kept h returns_nothing m = returns_nothing
  returns_kept h (returns_each a x) m = let f = each a m in returns_each f.1 (results_kept E F r pairs std is_open K f.0 f.2 h x)
  returns_kept h (returns_call {e = e} {ts = us} a x) m =
      let f = has a m.0 in let g = results.tuple_after r pairs std is_open f.2 in
      returns_call (subst (Has F e) g.0 f.1) (results_kept E F r pairs std is_open K (map plain (map image_to us)) (results.plains_after r pairs std is_open us g.1) h x)

  pub call_kept : {e : Expr} → IsCallAlone E e → Meets G (expression e) → IsCallAlone F e
  call_kept (call_alone {x = x} before c i k a s) m =
      let q = met.calls_met G m (calls_at [] i k) in
      let f = form a (met.chain_met G x before q.operand q.posts) in
      call_alone before c i k f.1 (called_alone r pairs std is_open f.2 s)
  call_kept (call_in_parentheses {e = e} i x) m = call_in_parentheses i (call_kept x (subst (λ l. Met (expression_parts l)) i (meets_parts G (expression e) m)).0)
