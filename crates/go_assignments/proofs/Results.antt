-- The results that values are used as.
use Rattle.std.proofs.Common.{◌≡◌, ◌≤◌, ◌∙◌, Bool, true, false, List, [], ◌∷◌, map, length, arith, refl, sym, ap, subst}
use Rattle.std.specs.List.{AllZip}
use Rattle.go_model.specs.declared.types.term.Term.{Term}
use Rattle.go_rules.specs.Environments.{Env}
use Rattle.go_rules.specs.Expressions.{Has, each_more}
use Rattle.go_rules.specs.Operands.{is_value_mode, plain, tuple, typed_constant, typed_value}
use Rattle.go_rules.specs.Usability.{UsableAs, use_constant, use_constant_as_any, use_nil, use_truth, use_truth_as_any, use_value}
use Rattle.go_rules.specs.declared.operand.Mode.{Mode}
use Rattle.go_rules.specs.declared.operand.Mode.TheVariants as mode
use Rattle.go_rules.specs.declared.operand.Operand.{Operand}
use Rattle.go_rules.specs.declared.operand.Shape.{Shape}
use Rattle.go_rules.specs.declared.operand.Shape.TheVariants as shape
use Rattle.go_rules.proofs.OneKind.{no_truth}
use Rattle.go_rules.proofs.OneOperand.{each_once, has_once}
use Rattle.go_statement_rules.specs.Assignments.{AreResults, results_more, results_none, Returns, returns_call, returns_each, returns_nothing}
use Rattle.go_syntax.specs.declared.expression.Expr.{Expr}
use Rattle.go_typings.specs.Initializers.{Initialize}
use Rattle.go_entries.proofs.Initializing.{alone_each}
use Rattle.go_assignments.specs.inner.Results.{GivesEach, IsResult}

abbrev terms_in : Shape → List Term
terms_in (shape.Many ts) = ts
terms_in s = []

one_tuple : {ts us : List Term} → tuple ts ≡ tuple us → ts ≡ us
one_tuple e = ap (λ (o : Operand). terms_in o.shape) e

abbrev single : Mode → Bool
single mode.Tuple = false
single m = true

of_value : (m : Mode) → is_value_mode m ≡ true → single m ≡ true
of_value mode.Tuple h = h
of_value m h = refl

module _ (E : Env) where
  pub to_results : (os : List Operand) (ts : List Term) → AllZip (UsableAs E) os ts → AreResults E os ts
  to_results [] [] h = results_none
  to_results [] (t ∷ ts) h = absurd h
  to_results (o ∷ os) [] h = absurd h
  to_results (o ∷ os) (t ∷ ts) h = results_more h.0 (to_results os ts h.1)

  pub in_results : (os : List Operand) (ts : List Term) → AreResults E os ts → AllZip (UsableAs E) os ts
  in_results os ts results_none = tt
  in_results os ts (results_more u r) = (u, in_results _ _ r)

  pub to_plain : (us ts : List Term) → AllZip (IsResult E) us ts → AreResults E (map plain us) ts
  to_plain [] [] h = results_none
  to_plain [] (t ∷ ts) h = absurd h
  to_plain (u ∷ us) [] h = absurd h
  to_plain (u ∷ us) (t ∷ ts) h = results_more h.0 (to_plain us ts h.1)

  pub in_plain : (us ts : List Term) → AreResults E (map plain us) ts → AllZip (IsResult E) us ts
  in_plain [] [] h = tt
  in_plain [] (t ∷ ts) h = elim h [ ]
  in_plain (u ∷ us) [] h = elim h [ ]
  in_plain (u ∷ us) (t ∷ ts) (results_more a r) = (a, in_plain us ts r)

  used_mode : {o : Operand} {t : Term} → UsableAs E o t → single o.mode ≡ true
  used_mode (use_value (typed_value {m = m} h) a) = of_value m h
  used_mode (use_value typed_constant a) = refl
  used_mode (use_constant e f) = refl
  used_mode (use_truth e) = refl
  used_mode (use_constant_as_any e f) = refl
  used_mode (use_truth_as_any e) = refl
  used_mode (use_nil e) = refl

  -- the results of a call aren't one value
  tuple_is_no_value : {ts : List Term} {t : Term} {o : Operand} → o ≡ tuple ts → UsableAs E o t → ⊥
  tuple_is_no_value e u = no_truth (sym (used_mode u) ∙ ap (λ (o : Operand). single o.mode) e)

  -- one expression that is a call with several results
  pub call_gives : {e : Expr} {ts rs : List Term} → Has E e (tuple ts) → Returns E rs (e ∷ []) → AreResults E (map plain ts) rs
  call_gives a (returns_each (each_more b r) (results_more u s)) = absurd (tuple_is_no_value (has_once E b a) u)
  call_gives {rs = rs} a (returns_call b r) = subst (λ z. AreResults E (map plain z) rs) (one_tuple (has_once E b a)) r

  -- expressions of which none is a call with several results
  pub each_gives : {e : Expr} {es : List Expr} {rs : List Term} → (es ≡ [] → (ts : List Term) → Has E e (tuple ts) → ⊥) → Returns E rs (e ∷ es) → GivesEach E rs (e ∷ es)
  each_gives n (returns_each a r) = (_, a, r)
  each_gives n (returns_call {ts = ts} a r) = absurd (n refl ts a)

  pub gives_each : {e : Expr} {es : List Expr} {rs : List Term} → GivesEach E rs (e ∷ es) → Returns E rs (e ∷ es)
  gives_each (os, a, r) = returns_each a r

  -- where the values of the expressions aren't the results, no values of them are
  pub not_results : {es : List Expr} {os : List Operand} {rs : List Term} → Initialize E (length es) es os → (AreResults E os rs → ⊥) → GivesEach E rs es → ⊥
  not_results {es = es} {os = os} {rs = rs} a n (ps, b, r) = n (subst (λ z. AreResults E z rs) (each_once E b (alone_each E (length es) es refl os a)) r)

  -- ---- one expression

  returned_first : {e : Expr} {rs : List Term} → Returns E rs (e ∷ []) → (o : Operand) × Has E e o
  returned_first (returns_each (each_more a b) r) = (_, a)
  returned_first (returns_call a r) = (_, a)

  pub returns_first : {es : List Expr} {e : Expr} {rs : List Term} → es ≡ e ∷ [] → Returns E rs es → (o : Operand) × Has E e o
  returns_first {rs = rs} i h = returned_first (subst (Returns E rs) i h)

  module _ (es : List Expr) (e : Expr) (rs : List Term) (i : es ≡ e ∷ []) where
    module _ (o : Operand) (ts us : List Term) (a : Has E e o) (j : o ≡ tuple ts) (k : us ≡ ts) where
      pub call_returns : AreResults E (map plain us) rs → Returns E rs es
      call_returns r = subst (Returns E rs) (sym i) (returns_call (subst (Has E e) j a) (subst (λ (vs : List Term). AreResults E (map plain vs) rs) k r))

      pub call_in : Returns E rs es → AreResults E (map plain us) rs
      call_in h = subst (λ (vs : List Term). AreResults E (map plain vs) rs) (sym k) (call_gives (subst (Has E e) j a) (subst (Returns E rs) i h))

    pub each_of : GivesEach E rs es → Returns E rs es
    each_of h = subst (Returns E rs) (sym i) (gives_each (subst (GivesEach E rs) i h))

    pub each_alone : (o : Operand) → Has E e o → ((ts : List Term) → o ≡ tuple ts → ⊥) → Returns E rs es → GivesEach E rs es
    each_alone o a none h = subst (GivesEach E rs) (sym i) (each_gives (λ f ts b. none ts (has_once E a b)) (subst (Returns E rs) i h))

  -- ---- none, or several expressions

  pub nothing_of : (es : List Expr) (rs : List Term) → length es ≤ 0 → Returns E rs es
  nothing_of [] rs h = returns_nothing
  nothing_of (e ∷ es) rs h = absurd (omega arith)

  pub many_of : (es : List Expr) (rs : List Term) → 2 ≤ length es → GivesEach E rs es → Returns E rs es
  many_of [] rs h g = absurd (omega arith)
  many_of (e ∷ es) rs h g = gives_each g

  some_more : {e : Expr} {es : List Expr} → e ∷ es ≡ [] → ⊥
  some_more i = absurd (cc)

  pub many_in : (es : List Expr) (rs : List Term) → 2 ≤ length es → Returns E rs es → GivesEach E rs es
  many_in [] rs h r = absurd (omega arith)
  many_in (e ∷ []) rs h r = absurd (omega arith)
  many_in (e ∷ f ∷ es) rs h r = each_gives (λ i ts a. some_more i) r
