-- A call of typed arguments is exactly what it makes of their operands.
use Rattle.std.proofs.Common.{◌≡◌, ℕ, Bool, true, false, Option, refl, sym, ap, ◌∙◌, subst, List, [], ◌∷◌, map}
use Rattle.std.specs.Prelude.{pos}
use Rattle.go_model.specs.constants.Constants.{is_representable}
use Rattle.go_model.specs.declared.constants.value.Basic.TheVariants as basic
use Rattle.go_model.specs.declared.constants.value.Value.TheVariants as value
use Rattle.go_model.specs.declared.types.term.Signature.{Signature, out-Signature}
use Rattle.go_model.specs.declared.types.term.Term.{Term, Term-F}
use Rattle.go_model.specs.types.Terms.{Layer}
use Rattle.go_model.specs.types.Underlying.{under}
use Rattle.go_rules.specs.Environments.{Env}
use Rattle.go_rules.specs.Expressions.{Has, HasArguments, arguments_each, arguments_tuple, HasBuiltin, append_elements, append_slice, append_string, len_string, array_constant, array_value, measure, close, copy_slice, copy_string, delete, make, new, panic, print, recover, HasEach, each_none, each_more, HasPost, post_conversion, post_call, post_builtin, HasSizes, sizes_none, sizes_more, HoldsNone, HoldsOne, IsArray, IsCall, call, call_receive_type, int_constant, measures, measures_arrays, prints, ArgumentsFit, results_of}
use Rattle.go_rules.specs.Nodes.{PostLayer}
use Rattle.go_rules.specs.Operands.{IsTyped, any_term, builtin, no_value, plain, type_name}
use Rattle.go_rules.specs.declared.operand.Operand.{Operand}
use Rattle.go_rules.specs.declared.predeclared.Predeclared.{Predeclared}
use Rattle.go_rules.specs.declared.predeclared.Predeclared.TheVariants as p
use Rattle.go_rules.proofs.OneKind.{no_truth}
use Rattle.go_rules.proofs.OneOperand.{each_once, quiet_or_loud}
use Rattle.go_syntax.specs.declared.expression.Expr.{Expr}
use Rattle.go_calls.specs.Builtins.{Appends, appends_elements, appends_slice, appends_string, AreSizes, no_sizes, more_sizes, CallsBuiltin, Closes, closes, Copies, copies_slice, copies_string, Deletes, deletes, MakesOf, makes_of, Measures, measures_string, measures_constant_array, measures_array, measures_value, News, news, OfAny, OfMore, OfNone, OfOne, OfTwo, Panics, panics, Prints, prints_each, int_value}
use Rattle.go_calls.specs.Calls.{Calls, calls_type, calls_builtin, calls_value, IsLoud, IsTold}
use Rattle.go_calls.specs.Functions.{CallsFunction, calls_function, Passes, passes_each, passes_results}

-- ---- how many operands

of_none : (P : Operand → Type 0) (os : List Operand) (dots : Bool) (r : Operand) → OfNone P os dots r → (os ≡ []) × (dots ≡ false) × P r
of_none P [] false r x = (refl, refl, x)
of_none P [] true r x = absurd x
of_none P (o ∷ os) dots r x = absurd x

of_one : (P : Operand → Operand → Type 0) (os : List Operand) (dots : Bool) (r : Operand) → OfOne P os dots r → (o : Operand) × (os ≡ o ∷ []) × (dots ≡ false) × P o r
of_one P (o ∷ []) false r x = (o, refl, refl, x)
of_one P (o ∷ []) true r x = absurd x
of_one P [] dots r x = absurd x
of_one P (o ∷ q ∷ os) dots r x = absurd x

of_two : (P : Operand → Operand → Operand → Type 0) (os : List Operand) (dots : Bool) (r : Operand) → OfTwo P os dots r → (o : Operand) × (q : Operand) × (os ≡ o ∷ q ∷ []) × (dots ≡ false) × P o q r
of_two P (o ∷ q ∷ []) false r x = (o, q, refl, refl, x)
of_two P (o ∷ q ∷ []) true r x = absurd x
of_two P [] dots r x = absurd x
of_two P (o ∷ []) dots r x = absurd x
of_two P (o ∷ q ∷ y ∷ os) dots r x = absurd x

of_more : (P : Operand → List Operand → Operand → Type 0) (os : List Operand) (dots : Bool) (r : Operand) → OfMore P os dots r → (o : Operand) × (qs : List Operand) × (os ≡ o ∷ qs) × (dots ≡ false) × P o qs r
of_more P (o ∷ os) false r x = (o, os, refl, refl, x)
of_more P (o ∷ os) true r x = absurd x
of_more P [] dots r x = absurd x

of_any : (P : List Operand → Operand → Type 0) (os : List Operand) (dots : Bool) (r : Operand) → OfAny P os dots r → (dots ≡ false) × P os r
of_any P os false r x = (refl, x)
of_any P os true r x = absurd x

-- ---- which builtin functions measure and print

measured_is : (f : Predeclared) (l : Layer) → measures f l ≡ true → measures_arrays f ≡ true
measured_is p.Len l h = refl
measured_is p.Cap l h = refl
measured_is f l h = absurd (no_truth (sym h))

-- ---- what a call of expressions has

-- what is told of the one argument of a builtin function
abbrev Tells : Env → Predeclared → List Expr → Bool → Type 0
Tells E f es loud = (e : Expr) → measures_arrays f ≡ true → es ≡ e ∷ [] → IsLoud E e loud

-- typed arguments of a builtin function, and what it makes of their operands
record Typed (E : Env) (f : Predeclared) (es : List Expr) (dots : Bool) (r : Operand) : Type 0 where
  operands : List Operand
  each : HasEach E es operands
  makes : (loud : Bool) → Tells E f es loud → CallsBuiltin E loud f operands dots r

-- typed arguments of a call, and what it makes of their operands
record TypedCall (E : Env) (o : Operand) (es : List Expr) (dots : Bool) (r : Operand) : Type 0 where
  operands : List Operand
  each : HasEach E es operands
  makes : (loud : Bool) → IsTold E o es loud → Calls E loud o operands dots r

module _ (E : Env) where
  measured_calls : (f : Predeclared) (loud : Bool) (o r : Operand) → measures_arrays f ≡ true → Measures E f loud o r → CallsBuiltin E loud f (o ∷ []) false r
  measured_calls p.Len loud o r h x = x
  measured_calls p.Cap loud o r h x = x
  measured_calls f loud o r h x = absurd (no_truth (sym h))

  printed_calls : (f : Predeclared) (loud : Bool) (os : List Operand) (r : Operand) → prints f ≡ true → Prints E os r → CallsBuiltin E loud f os false r
  printed_calls p.Print loud os r h x = x
  printed_calls p.Println loud os r h x = x
  printed_calls f loud os r h x = absurd (no_truth (sym h))

  -- ---- typed expressions

  nothing : {es : List Expr} → HasEach E es [] → es ≡ []
  nothing each_none = refl

  first : {es : List Expr} {o : Operand} {os : List Operand} → HasEach E es (o ∷ os) → (e : Expr) × (ds : List Expr) × (es ≡ e ∷ ds) × Has E e o × HasEach E ds os
  first (each_more a x) = (_, _, refl, a, x)

  one : {es : List Expr} {o : Operand} → HasEach E es (o ∷ []) → (e : Expr) × (es ≡ e ∷ []) × Has E e o
  one h = let a = first h in (a.0, a.2 ∙ ap (λ (ds : List Expr). a.0 ∷ ds) (nothing a.4), a.3)

  two : {es : List Expr} {o q : Operand} → HasEach E es (o ∷ q ∷ []) → (e : Expr) × (x : Expr) × (es ≡ e ∷ x ∷ []) × Has E e o × Has E x q
  two h = let a = first h in let b = one a.4 in (a.0, b.0, a.2 ∙ ap (λ (ds : List Expr). a.0 ∷ ds) b.1, a.3, b.2)

  typed_one : {e : Expr} {o : Operand} → Has E e o → HasEach E (e ∷ []) (o ∷ [])
  typed_one a = each_more a each_none

  typed_two : {e x : Expr} {o q : Operand} → Has E e o → Has E x q → HasEach E (e ∷ x ∷ []) (o ∷ q ∷ [])
  typed_two a b = each_more a (typed_one b)

  -- ---- sizes

  sizes : {es : List Expr} {os : List Operand} {ns : List (Option ℕ)} → HasEach E es os → AreSizes E os ns → HasSizes E es ns
  sizes each_none no_sizes = sizes_none
  sizes (each_more a x) (more_sizes i s) = sizes_more a i (sizes x s)

  sized : {es : List Expr} {ns : List (Option ℕ)} → HasSizes E es ns → (os : List Operand) × HasEach E es os × AreSizes E os ns
  sized sizes_none = ([], each_none, no_sizes)
  sized (sizes_more {o = o} a i s) = let x = sized s in (o ∷ x.0, each_more a x.1, more_sizes i x.2)

  -- ---- from operands to expressions, by function

  appends : {e : Expr} {es : List Expr} {o r : Operand} {os : List Operand} {dots : Bool} → Has E e o → HasEach E es os → Appends E (o ∷ os) dots r → HasBuiltin E p.Append (e ∷ es) dots r
  appends a x (appends_elements h e u) = append_elements a h e x u
  appends {e = d} a x (appends_slice {t = t} h e u) = let b = one x in subst (λ (ds : List Expr). HasBuiltin E p.Append (d ∷ ds) true (plain t)) (sym b.1) (append_slice a h e b.2 u)
  appends {e = d} a x (appends_string {t = t} h e s) = let b = one x in subst (λ (ds : List Expr). HasBuiltin E p.Append (d ∷ ds) true (plain t)) (sym b.1) (append_string a h e b.2 s)

  measures_one : {f : Predeclared} {loud : Bool} {e : Expr} {o r : Operand} → measures_arrays f ≡ true → IsLoud E e loud → Has E e o → Measures E f loud o r → HasBuiltin E f (e ∷ []) false r
  measures_one {e = d} m l a (measures_string {n = n} e s w) = subst (λ (g : Predeclared). HasBuiltin E g (d ∷ []) false (int_constant n)) (sym e) (len_string a s w)
  measures_one m l a (measures_constant_array h y w) = array_constant m a h y l w
  measures_one m l a (measures_array h y) = array_value m a h y l
  measures_one m l a (measures_value n h e) = measure a n h e

  closes_one : {e : Expr} {o r : Operand} → Has E e o → Closes E o r → HasBuiltin E p.Close (e ∷ []) false r
  closes_one a (closes h e s) = close a h e s

  copies_two : {e x : Expr} {o q r : Operand} → Has E e o → Has E x q → Copies E o q r → HasBuiltin E p.Copy (e ∷ x ∷ []) false r
  copies_two a b (copies_slice h e g f) = copy_slice a h e b g f
  copies_two a b (copies_string h e s) = copy_string a h e b s

  deletes_two : {e x : Expr} {o q r : Operand} → Has E e o → Has E x q → Deletes E o q r → HasBuiltin E p.Delete (e ∷ x ∷ []) false r
  deletes_two a b (deletes h e u) = delete a h e b u

  makes_more : {e : Expr} {es : List Expr} {o r : Operand} {os : List Operand} → Has E e o → HasEach E es os → MakesOf E o os r → HasBuiltin E p.Make (e ∷ es) false r
  makes_more a x (makes_of s m f) = make a (sizes x s) m f

  news_one : {e : Expr} {o r : Operand} → Has E e o → News o r → HasBuiltin E p.New (e ∷ []) false r
  news_one a news = new a

  panics_one : {e : Expr} {o r : Operand} → Has E e o → Panics E o r → HasBuiltin E p.Panic (e ∷ []) false r
  panics_one a (panics u) = panic a u

  prints_any : {f : Predeclared} {es : List Expr} {os : List Operand} {r : Operand} → prints f ≡ true → HasEach E es os → Prints E os r → HasBuiltin E f es false r
  prints_any q x (prints_each u) = print q x u

  -- ---- the operands counted

  abbrev Builtin : Predeclared → List Expr → Bool → Operand → Type 0
  Builtin f es dots r = HasBuiltin E f es dots r

  rule_of_one : (f : Predeclared) (P : Operand → Operand → Type 0) (es : List Expr) (os : List Operand) (dots : Bool) (r : Operand) → ((e : Expr) (o : Operand) → es ≡ e ∷ [] → Has E e o → P o r → Builtin f (e ∷ []) false r) → HasEach E es os → OfOne P os dots r → Builtin f es dots r
  rule_of_one f P es os dots r rule h x =
      let a = of_one P os dots r x in let b = one (subst (HasEach E es) a.1 h) in
      subst (λ (d : Bool). Builtin f es d r) (sym a.2) (subst (λ (ds : List Expr). Builtin f ds false r) (sym b.1) (rule b.0 a.0 b.1 b.2 a.3))

  rule_of_two : (f : Predeclared) (P : Operand → Operand → Operand → Type 0) (es : List Expr) (os : List Operand) (dots : Bool) (r : Operand) → ((e x : Expr) (o q : Operand) → Has E e o → Has E x q → P o q r → Builtin f (e ∷ x ∷ []) false r) → HasEach E es os → OfTwo P os dots r → Builtin f es dots r
  rule_of_two f P es os dots r rule h x =
      let a = of_two P os dots r x in let b = two (subst (HasEach E es) a.2 h) in
      subst (λ (d : Bool). Builtin f es d r) (sym a.3) (subst (λ (ds : List Expr). Builtin f ds false r) (sym b.2) (rule b.0 b.1 a.0 a.1 b.3 b.4 a.4))

  rule_of_make : (es : List Expr) (os : List Operand) (dots : Bool) (r : Operand) → HasEach E es os → OfMore (MakesOf E) os dots r → Builtin p.Make es dots r
  rule_of_make es os dots r h x =
      let a = of_more (MakesOf E) os dots r x in let b = first (subst (HasEach E es) a.2 h) in
      subst (λ (d : Bool). Builtin p.Make es d r) (sym a.3) (subst (λ (ds : List Expr). Builtin p.Make ds false r) (sym b.2) (makes_more b.3 b.4 a.4))

  rule_of_append : (es : List Expr) (os : List Operand) (dots : Bool) (r : Operand) → HasEach E es os → Appends E os dots r → Builtin p.Append es dots r
  rule_of_append es (o ∷ os) dots r h x = let b = first h in subst (λ (ds : List Expr). Builtin p.Append ds dots r) (sym b.2) (appends b.3 b.4 x)
  rule_of_append es [] dots r h x = elim x [ ]

  rule_of_print : (f : Predeclared) (es : List Expr) (os : List Operand) (dots : Bool) (r : Operand) → prints f ≡ true → HasEach E es os → OfAny (Prints E) os dots r → Builtin f es dots r
  rule_of_print f es os dots r q h x = let a = of_any (Prints E) os dots r x in subst (λ (d : Bool). Builtin f es d r) (sym a.0) (prints_any q h a.1)

  recovers : (r : Operand) → r ≡ plain any_term → Builtin p.Recover [] false r
  recovers r e = subst (λ (s : Operand). Builtin p.Recover [] false s) (sym e) recover

  rule_of_recover : (es : List Expr) (os : List Operand) (dots : Bool) (r : Operand) → HasEach E es os → OfNone (λ (s : Operand). s ≡ plain any_term) os dots r → Builtin p.Recover es dots r
  rule_of_recover es os dots r h x =
      let a = of_none (λ (s : Operand). s ≡ plain any_term) os dots r x in
      subst (λ (d : Bool). Builtin p.Recover es d r) (sym a.1) (subst (λ (ds : List Expr). Builtin p.Recover ds false r) (sym (nothing (subst (HasEach E es) a.0 h))) (recovers r a.2))

  rule_of_builtin : (f : Predeclared) (es : List Expr) (os : List Operand) (loud dots : Bool) (r : Operand) → HasEach E es os → Tells E f es loud → CallsBuiltin E loud f os dots r → Builtin f es dots r
  rule_of_builtin p.Append es os loud dots r h t x = rule_of_append es os dots r h x
  rule_of_builtin p.Cap es os loud dots r h t x = rule_of_one p.Cap (Measures E p.Cap loud) es os dots r (λ e o s a y. measures_one refl (t e refl s) a y) h x
  rule_of_builtin p.Close es os loud dots r h t x = rule_of_one p.Close (Closes E) es os dots r (λ e o s a y. closes_one a y) h x
  rule_of_builtin p.Copy es os loud dots r h t x = rule_of_two p.Copy (Copies E) es os dots r (λ e d o q a b y. copies_two a b y) h x
  rule_of_builtin p.Delete es os loud dots r h t x = rule_of_two p.Delete (Deletes E) es os dots r (λ e d o q a b y. deletes_two a b y) h x
  rule_of_builtin p.Len es os loud dots r h t x = rule_of_one p.Len (Measures E p.Len loud) es os dots r (λ e o s a y. measures_one refl (t e refl s) a y) h x
  rule_of_builtin p.Make es os loud dots r h t x = rule_of_make es os dots r h x
  rule_of_builtin p.New es os loud dots r h t x = rule_of_one p.New News es os dots r (λ e o s a y. news_one a y) h x
  rule_of_builtin p.Panic es os loud dots r h t x = rule_of_one p.Panic (Panics E) es os dots r (λ e o s a y. panics_one a y) h x
  rule_of_builtin p.Print es os loud dots r h t x = rule_of_print p.Print es os dots r refl h x
  rule_of_builtin p.Println es os loud dots r h t x = rule_of_print p.Println es os dots r refl h x
  rule_of_builtin p.Recover es os loud dots r h t x = rule_of_recover es os dots r h x
  rule_of_builtin f es os loud dots r h t x = absurd x

  -- ---- from expressions to operands

  measures_quietly : {e : Expr} {f : Predeclared} {o : Operand} {t u : Term} {pointer : Bool} {n : ℕ} (loud : Bool) → IsLoud E e loud → HoldsNone E e → IsTyped o t → IsArray E t pointer n u → is_representable (value.Int (pos n)) basic.Int E.bits ≡ true → Measures E f loud o (int_constant n)
  measures_quietly true l n h y w = absurd (quiet_or_loud E n l)
  measures_quietly false l n h y w = measures_constant_array h y w

  measures_loudly : {e : Expr} {f : Predeclared} {o : Operand} {t u : Term} {pointer : Bool} {n : ℕ} (loud : Bool) → IsLoud E e loud → HoldsOne E e → IsTyped o t → IsArray E t pointer n u → Measures E f loud o int_value
  measures_loudly true l n h y = measures_array h y
  measures_loudly false l n h y = absurd (quiet_or_loud E l n)

  of_builtin : {f : Predeclared} {es : List Expr} {dots : Bool} {r : Operand} → HasBuiltin E f es dots r → Typed E f es dots r
  of_builtin (append_elements {o = o} {os = os} a h e b u) = record { operands = o ∷ os; each = each_more a b; makes = λ loud t. appends_elements h e u }
  of_builtin (append_slice {o = o} {q = q} a h e b u) = record { operands = o ∷ q ∷ []; each = typed_two a b; makes = λ loud t. appends_slice h e u }
  of_builtin (append_string {o = o} {q = q} a h e b s) = record { operands = o ∷ q ∷ []; each = typed_two a b; makes = λ loud t. appends_string h e s }
  of_builtin (len_string {o = o} a s n) = record { operands = o ∷ []; each = typed_one a; makes = λ loud t. measures_string refl s n }
  of_builtin (array_constant {f = f} {e = e} {o = o} {n = k} m a h y n w) = record { operands = o ∷ []; each = typed_one a; makes = λ loud t. measured_calls f loud o (int_constant k) m (measures_quietly loud (t e m refl) n h y w) }
  of_builtin (array_value {f = f} {e = e} {o = o} m a h y n) = record { operands = o ∷ []; each = typed_one a; makes = λ loud t. measured_calls f loud o int_value m (measures_loudly loud (t e m refl) n h y) }
  of_builtin (measure {f = f} {o = o} {t = t} a c h m) = record { operands = o ∷ []; each = typed_one a; makes = λ loud k. measured_calls f loud o int_value (measured_is f (under E.table t) m) (measures_value c h m) }
  of_builtin (close {o = o} a h e s) = record { operands = o ∷ []; each = typed_one a; makes = λ loud t. closes h e s }
  of_builtin (copy_slice {o = o} {q = q} a h e b g d) = record { operands = o ∷ q ∷ []; each = typed_two a b; makes = λ loud t. copies_slice h e g d }
  of_builtin (copy_string {o = o} {q = q} a h e b s) = record { operands = o ∷ q ∷ []; each = typed_two a b; makes = λ loud t. copies_string h e s }
  of_builtin (delete {o = o} {q = q} a h e b u) = record { operands = o ∷ q ∷ []; each = typed_two a b; makes = λ loud t. deletes h e u }
  of_builtin (make {t = k} a s m n) = let x = sized s in record { operands = type_name k ∷ x.0; each = each_more a x.1; makes = λ loud t. makes_of x.2 m n }
  of_builtin (new {t = k} a) = record { operands = type_name k ∷ []; each = typed_one a; makes = λ loud t. news }
  of_builtin (panic {o = o} a u) = record { operands = o ∷ []; each = typed_one a; makes = λ loud t. panics u }
  of_builtin (print {f = f} {os = os} q a u) = record { operands = os; each = a; makes = λ loud t. printed_calls f loud os no_value q (prints_each u) }
  of_builtin recover = record { operands = []; each = each_none; makes = λ loud t. refl }

  -- ---- arguments

  -- what is passed to a function: typed arguments, each by itself or the results of one call
  passed : {dots : Bool} {es : List Expr} {qs : List Operand} → HasArguments E dots es qs → (os : List Operand) × HasEach E es os × Passes dots os qs
  passed (arguments_each x) = (_, x, passes_each)
  passed (arguments_tuple a) = (_, typed_one a, passes_results)

  arguments : {dots : Bool} {es : List Expr} {os qs : List Operand} → HasEach E es os → Passes dots os qs → HasArguments E dots es qs
  arguments x passes_each = arguments_each x
  arguments x (passes_results {ts = ts}) = let b = one x in subst (λ (ds : List Expr). HasArguments E false ds (map plain ts)) (sym b.1) (arguments_tuple b.2)

  -- ---- calls

  function_rule : {l : PostLayer} {es : List Expr} {os : List Operand} {dots : Bool} {o r : Operand} → IsCall l es dots → HasEach E es os → CallsFunction E dots o os r → HasPost E o l r
  function_rule k x (calls_function h e w f) = post_call k h e (arguments x w) f

  pub rule_of_call : {l : PostLayer} {es : List Expr} {os : List Operand} {loud dots : Bool} {o r : Operand} → IsCall l es dots → HasEach E es os → IsTold E o es loud → Calls E loud o os dots r → HasPost E o l r
  rule_of_call {l = l} k x t (calls_type v) = let b = one x in post_conversion (subst (λ (ds : List Expr). IsCall l ds false) b.1 k) b.2 v
  rule_of_call {es = es} {loud = loud} k x t (calls_builtin {f = f} {os = os} {dots = dots} {r = r} y) = post_builtin k (rule_of_builtin f es os loud dots r x (λ e m s. t f e refl m s) y)
  rule_of_call k x t (calls_value y) = function_rule k x y

  typed_function : {es : List Expr} {qs : List Operand} {dots : Bool} {o : Operand} {t : Term} {g : Signature} → IsTyped o t → under E.table t ≡ Term-F.Func g → HasArguments E dots es qs → ArgumentsFit E (out-Signature g).variadic dots (out-Signature g).params qs → TypedCall E o es dots (results_of (out-Signature g).results)
  typed_function h e a f = let b = passed a in record { operands = b.0; each = b.1; makes = λ loud t. calls_value (calls_function h e b.2 f) }

  typed_builtin : {f : Predeclared} {es : List Expr} {dots : Bool} {r : Operand} → HasBuiltin E f es dots r → TypedCall E (builtin f) es dots r
  typed_builtin {f = f} b = let y = of_builtin b in record { operands = y.operands; each = y.each; makes = λ loud t. calls_builtin (y.makes loud (λ e m s. t f e refl m s)) }

  of_call : {l : PostLayer} {es : List Expr} {dots : Bool} {o r : Operand} → IsCall l es dots → HasPost E o l r → TypedCall E o es dots r
  of_call call (post_conversion {o = q} call a v) = record { operands = q ∷ []; each = typed_one a; makes = λ loud t. calls_type v }
  of_call call (post_call call h e a f) = typed_function h e a f
  of_call call (post_builtin call b) = typed_builtin b
  of_call call_receive_type (post_conversion {o = q} call_receive_type a v) = record { operands = q ∷ []; each = typed_one a; makes = λ loud t. calls_type v }
  of_call call_receive_type (post_call call_receive_type h e a f) = typed_function h e a f
  of_call call_receive_type (post_builtin call_receive_type b) = typed_builtin b

  pub call_arguments : {l : PostLayer} {es : List Expr} {dots : Bool} {o r : Operand} → IsCall l es dots → HasPost E o l r → (os : List Operand) × HasEach E es os
  call_arguments k h = let y = of_call k h in (y.operands, y.each)

  pub call_of_rule : {l : PostLayer} {es : List Expr} {os : List Operand} {loud dots : Bool} {o r : Operand} → IsCall l es dots → HasEach E es os → IsTold E o es loud → HasPost E o l r → Calls E loud o os dots r
  call_of_rule {loud = loud} {dots = dots} {o = o} {r = r} k x t h = let y = of_call k h in subst (λ (qs : List Operand). Calls E loud o qs dots r) (each_once E y.each x) (y.makes loud t)
