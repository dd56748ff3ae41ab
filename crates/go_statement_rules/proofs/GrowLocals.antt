-- Among more entries what statements ask of operands holds as before.
use Rattle.std.proofs.Common.{inl, inr, ◌≡◌, ℕ, List, [], ◌∷◌, Option, Some, None, refl, subst, length}
use Rattle.std.specs.Option.{option_or}
use Rattle.go_base.specs.Lists.{Each}
use Rattle.go_base.specs.declared.operator.AssignOperator.{AssignOperator}
use Rattle.go_base.specs.declared.operator.AssignOperator.TheVariants as assign
use Rattle.go_base.specs.declared.operator.CompareOp.TheVariants as compare
use Rattle.go_model.specs.declared.constants.value.Basic.TheVariants as basic
use Rattle.go_model.specs.declared.constants.value.BinaryOp.{BinaryOp}
use Rattle.go_model.specs.declared.types.term.Term.{Term, Term-F}
use Rattle.go_typings.specs.go_rules.Asks.{HasOperand, IsType, Meets}
use Rattle.go_typings.specs.go_rules.Environments.{Env}
use Rattle.go_typings.specs.go_rules.Expressions.{Computes, Has, HasEach, HasForm, IsArray, IsComparison, IsString, MayHold, chain, OfSignature, OfType, ProductComputes, product_operator}
use Rattle.go_typings.specs.go_rules.Growth.{Grows}
use Rattle.go_typings.specs.go_rules.Names.{Named}
use Rattle.go_typings.specs.go_rules.Nodes.{Node}
use Rattle.go_typings.specs.go_rules.Operands.{plain}
use Rattle.go_typings.specs.go_rules.Scopes.{innermost}
use Rattle.go_typings.specs.go_rules.Usability.{Implements, UsableAs}
use Rattle.go_typings.specs.go_rules.declared.operand.Operand.{Operand}
use Rattle.go_typings.specs.go_rules.declared.seen.Seen.{Seen}
use Rattle.go_typings.proofs.go_rules_proofs.GrowAsks.{meets_more, operand_more, whole_type_more}
use Rattle.go_typings.proofs.go_rules_proofs.GrowOperand.{all_more, has_form_more, has_more, signature_more, type_more}
use Rattle.go_typings.proofs.go_rules_proofs.GrowRelations.{implements_more, usable_more}
use Rattle.go_typings.proofs.go_rules_proofs.GrowResults.{array_more, comparison_more, computes_more, product_more, string_more}
use Rattle.go_typings.proofs.go_rules_proofs.GrowTypes.{form_more, joined, joined_is}
use Rattle.go_statement_rules.specs.Assignments.{AreAssigned, assigned_blank, assigned_none, assigned_side, AreDefined, defined_blank, defined_new, defined_none, defined_old, AreResults, results_more, results_none, IsCallAlone, call_alone, call_in_parentheses, Operates, Returns, returns_call, returns_each, returns_nothing}
use Rattle.go_statement_rules.specs.Clauses.{IsCase, IsNil, is_nil, nil_in_parentheses, IsTag, no_tag, tag, Lists, lists_nil, lists_type, ListsAll, lists_more, lists_none, Ranges, ranges_array, ranges_channel, ranges_map, ranges_slice, ranges_string}
use Rattle.go_statement_rules.specs.Scopes.{Scopes, at_place, within}
use Rattle.go_statement_rules.specs.Statements.{AreListed, IsTruth, truth_typed, truth_untyped, ListsClauses, clauses_default, clauses_none, clauses_types, fits, form_env}
use Rattle.go_syntax.specs.declared.expression.Expr.{Expr}
use Rattle.go_syntax.specs.declared.name.Name.{Name}
use Rattle.go_syntax.specs.declared.statement.TypeCase.{TypeCase}
use Rattle.go_syntax.specs.declared.types.«Type».{«Type» as Typ}
use Rattle.go_syntax.specs.declared.types.FuncResult.{FuncResult}
use Rattle.go_syntax.specs.declared.types.ParameterDecl.{ParameterDecl}
use Rattle.go_model.specs.declared.types.term.Signature.{Signature}
use Rattle.go_typings.specs.DeclarationAsks.{ValuesFit}
use Rattle.go_typings.specs.Declarations.{Form, constants, variables, alias, definition, function, method}
use Rattle.go_typings.specs.Initializers.{Initialize, TypeOfValue, default_of_constant, default_of_truth, own_type}
use Rattle.go_typings.proofs.GrowRules.{initialize_more}

-- ---- scopes

meaning_in : (o : Option Seen) (x y : Option Seen) (k : Seen) → ((k : Seen) → x ≡ Some k → y ≡ Some k) → option_or o x ≡ Some k → option_or o y ≡ Some k
meaning_in None x y k f e = f k e
meaning_in (Some z) x y k f e = e

pub within_more : (E F : Env) (s : Scopes) → Grows E F → Grows (within E s) (within F s)
within_more E F s m = record {
  meaning = λ name k e. meaning_in (innermost s name) (E.meaning name) (F.meaning name) k (m.meaning name) e;
  object = m.object;
  table = λ n d e. let g = m.table n d e in record { grown = g.grown; stored = g.stored; underlying = g.underlying; methods = g.methods; told = g.told };
  path = m.path;
  bits = m.bits;
  profile = m.profile;
  iota = refl;
}

pub place_more : (E F : Env) (place : ℕ) → Grows E F → Grows (at_place E place) (at_place F place)
place_more E F place m = record {
  meaning = m.meaning;
  object = m.object;
  table = λ n d e. let g = m.table n d e in record { grown = g.grown; stored = g.stored; underlying = g.underlying; methods = g.methods; told = g.told };
  path = m.path;
  bits = m.bits;
  profile = m.profile;
  iota = refl;
}

pub form_env_more : (E F : Env) (f : Form) → Grows E F → Grows (form_env E f) (form_env F f)
form_env_more E F (constants s place) m = place_more E F place m
form_env_more E F (variables s) m = m
form_env_more E F (alias s) m = m
form_env_more E F (definition s) m = m
form_env_more E F (function f) m = m
form_env_more E F (method r f) m = m

-- ---- what operands are asked

module _ (E F : Env) (m : Grows E F) where
  to : (P : Env → Type 0) → P (joined E F) → P F
  to P x = subst P (joined_is E F m) x

  pub usable_f : {o : Operand} {t : Term} → UsableAs E o t → UsableAs F o t
  usable_f {o = o} {t = t} h = to (λ G. UsableAs G o t) (usable_more E F m h)

  pub has_f : {e : Expr} {o : Operand} → Has E e o → Has F e o
  has_f {e = e} {o = o} h = to (λ G. Has G e o) (has_more E F m h)

  pub operand_f : {e : Expr} {o : Operand} → HasOperand E e o → HasOperand F e o
  operand_f {e = e} {o = o} h = to (λ G. HasOperand G e o) (operand_more E F m h)

  pub meets_f : {n : Node} → Meets E n → Meets F n
  meets_f {n = n} h = to (λ G. Meets G n) (meets_more E F m h)

  pub signature_f : {ds : List ParameterDecl} {r : Option FuncResult} {g : Signature} → OfSignature E ds r g → OfSignature F ds r g
  signature_f {ds = ds} {r = r} {g = g} h = to (λ G. OfSignature G ds r g) (signature_more E F m h)

  pub type_f : {t : Typ} {u : Term} → OfType E t u → OfType F t u
  type_f {t = t} {u = u} h = to (λ G. OfType G t u) (type_more E F m h)

  pub computes_f : {op : BinaryOp} {o p r : Operand} → Computes E op o p r → Computes F op o p r
  computes_f {op = op} {o = o} {p = p} {r = r} h = to (λ G. Computes G op o p r) (computes_more E F m h)

  pub operates_f : (op : AssignOperator) (o p r : Operand) → Operates E op o p r → Operates F op o p r
  operates_f (assign.Sum op) o p r h = computes_f h
  operates_f (assign.Product op) o p r h = to (λ G. ProductComputes G (product_operator op) o p r) (product_more E F m (product_operator op) o p r h)

  pub initialize_f : {n : ℕ} {es : List Expr} {os : List Operand} → Initialize E n es os → Initialize F n es os
  initialize_f {n = n} {es = es} {os = os} h = to (λ G. Initialize G n es os) (initialize_more E F m h)

  value_g : {o : Operand} {t : Term} → TypeOfValue E o t → TypeOfValue (joined E F) o t
  value_g (own_type h) = own_type h
  value_g (default_of_constant h) = default_of_constant h
  value_g default_of_truth = default_of_truth

  value_f : {o : Operand} {t : Term} → TypeOfValue E o t → TypeOfValue F o t
  value_f {o = o} {t = t} h = to (λ G. TypeOfValue G o t) (value_g h)

  fit_of : (t : Typ) (n : ℕ) (es : List Expr) → ValuesFit E (Some t) n es → ValuesFit F (Some t) n es
  fit_of t n [] h = tt
  fit_of t n (e ∷ es) (v, os, a, b, c) = (v, os, type_f a, initialize_f b, each_usable os v c)
    where
      each_usable : (os : List Operand) (v : Term) → Each (λ o. UsableAs E o v) os → Each (λ o. UsableAs F o v) os
      each_usable [] v h = tt
      each_usable (o ∷ os) v h = (usable_f h.0, each_usable os v h.1)

  fit_f : (t : Option Typ) (n : ℕ) (es : List Expr) → ValuesFit E t n es → ValuesFit F t n es
  fit_f None n es h = tt
  fit_f (Some t) n es h = fit_of t n es h

  pub fits_f : (f : Form) → fits E f → fits F f
  fits_f (variables s) h = fit_f s.type_ (length s.names) s.values h
  fits_f (constants s place) h = tt
  fits_f (alias s) h = tt
  fits_f (definition s) h = tt
  fits_f (function f) h = tt
  fits_f (method r f) h = tt

  pub call_f : {e : Expr} → IsCallAlone E e → IsCallAlone F e
  call_f (call_alone {x = x} before c {o = o} i k a s) = call_alone before c i k (to (λ G. HasForm G (chain x before) o) (has_form_more E F m a)) s
  call_f (call_in_parentheses i a) = call_in_parentheses i (call_f a)

  pub assigned_f : {es : List Expr} {os : List Operand} → AreAssigned E es os → AreAssigned F es os
  assigned_f assigned_none = assigned_none
  assigned_f (assigned_blank i t r) = assigned_blank i (value_f t) (assigned_f r)
  assigned_f (assigned_side a i u r) = assigned_side (has_f a) i (usable_f u) (assigned_f r)

  pub defined_f : {scope : Named Seen} {ns : List Name} {os : List Operand} {xs : List (Option Name)} {ms : List Seen} → AreDefined E scope ns os xs ms → AreDefined F scope ns os xs ms
  defined_f defined_none = defined_none
  defined_f (defined_blank i t r) = defined_blank i (value_f t) (defined_f r)
  defined_f (defined_old i u r) = defined_old i (usable_f u) (defined_f r)
  defined_f (defined_new i k t r) = defined_new i k (value_f t) (defined_f r)

  results_f : {os : List Operand} {ts : List Term} → AreResults E os ts → AreResults F os ts
  results_f results_none = results_none
  results_f (results_more u r) = results_more (usable_f u) (results_f r)

  pub returns_f : {r : List Term} {es : List Expr} → Returns E r es → Returns F r es
  returns_f returns_nothing = returns_nothing
  returns_f (returns_each {e = e} {es = es} {os = os} a b) = returns_each (to (λ G. HasEach G (e ∷ es) os) (all_more E F m a)) (results_f b)
  returns_f (returns_call a b) = returns_call (has_f a) (results_f b)

  pub truth_f : {o : Operand} → IsTruth E o → IsTruth F o
  truth_f (truth_typed {t = t} i e) = truth_typed i (form_more E F m t (Term-F.Plain basic.Bool) refl e)
  truth_f (truth_untyped i) = truth_untyped i

  pub tag_f : {e : Option Expr} {t : Term} → IsTag E e t → IsTag F e t
  tag_f no_tag = no_tag
  tag_f (tag a v) = tag (has_f a) (value_f v)

  pub case_f : (t : Term) (es : List Expr) → Each (IsCase E t) es → Each (IsCase F t) es
  case_f t [] h = tt
  case_f t (e ∷ es) ((o, r, a, c), h) = ((o, r, has_f a, to (λ G. IsComparison G compare.Equal (plain t) o r) (comparison_more E F m c)), case_f t es h)

  nil_f : {t : Typ} → IsNil E t → IsNil F t
  nil_f (is_nil {q = q} i k e) = is_nil i k (m.meaning _ _ e)
  nil_f (nil_in_parentheses i a) = nil_in_parentheses i (nil_f a)

  hold_f : (t u : Term) → MayHold E t u → MayHold F t u
  hold_f t u (inl (ms, e)) = inl (ms, form_more E F m u (Term-F.Interface ms) refl e)
  hold_f t u (inr a) = inr (to (λ G. Implements G u t) (implements_more E F m u t a))

  lists_f : {t : Term} {x : Typ} {y : Option Term} → Lists E t x y → Lists F t x y
  lists_f (lists_nil a) = lists_nil (nil_f a)
  lists_f {t = t} {x = x} (lists_type {u = u} a h) = lists_type (to (λ G. IsType G x u) (whole_type_more E F m a)) (hold_f t u h)

  all_f : {t : Term} {xs : List Typ} {ys : List (Option Term)} → ListsAll E t xs ys → ListsAll F t xs ys
  all_f lists_none = lists_none
  all_f (lists_more a r) = lists_more (lists_f a) (all_f r)

  pub clauses_f : {t : Term} {cs : List TypeCase} {ys : List (Option Term)} → ListsClauses E t cs ys → ListsClauses F t cs ys
  clauses_f clauses_none = clauses_none
  clauses_f (clauses_default i r) = clauses_default i (clauses_f r)
  clauses_f (clauses_types i a r) = clauses_types i (all_f a) (clauses_f r)

  pub listed_f : (t : Term) (xs : Option (List Typ)) (ys : List (Option Term)) → AreListed E t xs ys → AreListed F t xs ys
  listed_f t None ys h = h
  listed_f t (Some xs) ys h = all_f h

  pub ranges_f : {o : Operand} {ts : List Term} → Ranges E o ts → Ranges F o ts
  ranges_f (ranges_array {t = t} {e = e} {pointer = p} {n = n} i a) = ranges_array i (to (λ G. IsArray G t p n e) (array_more E F m a))
  ranges_f (ranges_slice {t = t} {e = e} i a) = ranges_slice i (form_more E F m t (Term-F.Slice e) refl a)
  ranges_f {o = o} (ranges_string {n = n} a) = ranges_string (to (λ G. IsString G o n) (string_more E F m a))
  ranges_f (ranges_map {t = t} {k = k} {e = e} i a) = ranges_map i (form_more E F m t (Term-F.Map k e) refl a)
  ranges_f (ranges_channel {t = t} {e = e} {d = d} i a r) = ranges_channel i (form_more E F m t (Term-F.Chan d e) refl a) r
