-- Calls of functions: what they make, and where they make nothing.
use Rattle.std.proofs.Common.{◌≡◌, ◌<◌, Bool, true, false, Option, Some, None, refl, sym, ap, ◌∙◌, subst, ◌⊎◌, inl, inr, length, List, [], ◌∷◌, ◌++◌, map, arith}
use Rattle.go_base.specs.Lists.{Each}
use Rattle.go_model.specs.declared.types.term.Signature.{Signature, out-Signature}
use Rattle.go_model.specs.declared.types.term.Term.{Term, Term-F, out-Term}
use Rattle.go_model.specs.types.Underlying.{under}
use Rattle.go_rules.specs.Environments.{Env}
use Rattle.go_rules.specs.Expressions.{ArgumentsFit, fits_none, fits_more, fits_slice, fits_rest, results_of}
use Rattle.go_rules.specs.Operands.{IsTyped, plain, tuple}
use Rattle.go_rules.specs.Usability.{UsableAs, use_value, use_constant, use_truth, use_constant_as_any, use_truth_as_any, use_nil}
use Rattle.go_rules.specs.declared.operand.Mode.TheVariants as mode
use Rattle.go_rules.specs.declared.operand.Operand.{Operand}
use Rattle.go_rules.specs.declared.operand.Shape.{Shape}
use Rattle.go_rules.specs.declared.operand.Shape.TheVariants as shape
use Rattle.go_rules.proofs.OneKind.{one_type}
use Rattle.go_selectors.specs.Answers.{Decides}
use Rattle.go_elements.specs.go_usability.Answers.{Gives}
use Rattle.go_calls.specs.Functions.{CallsFunction, calls_function, Passes, passes_each, passes_results}
use Rattle.go_calls.specs.inner.Arguments.{CallsSignature, calls_signature, CallsWith, calls_with, RestFits, rest_slice, rest_elements, UsableEach}
use Rattle.go_elements.proofs.go_operators_proofs.Answers.{decided_true, decided_false}
use Rattle.go_calls.proofs.Callees.{typed_mode}
use Rattle.go_calls.proofs.LevelParts.{same_element, same_function}

head_same : {o q : Operand} → o ∷ [] ≡ q ∷ [] → o ≡ q
head_same e = cc

many : {ts us : List Term} → ◌≡◌ {A = Shape} (shape.Many ts) (shape.Many us) → ts ≡ us
many e = cc

pub sole_results : (o : Operand) (os : List Operand) (dots : Bool) (ts : List Term) → dots ≡ false → os ≡ o ∷ [] → o ≡ tuple ts → (dots ≡ false) × (os ≡ tuple ts ∷ [])
sole_results o os dots ts f e g = (f, e ∙ ap (λ (x : Operand). x ∷ []) g)

pub no_sole_results : (o : Operand) (os : List Operand) (dots : Bool) → os ≡ o ∷ [] → ((ts : List Term) → o ≡ tuple ts → ⊥) → (ts : List Term) → dots ≡ false → os ≡ tuple ts ∷ [] → ⊥
no_sole_results o os dots e none ts f g = none ts (head_same (sym e ∙ g))

-- ---- arguments

module _ (E : Env) where
  -- of a function that isn't variadic

  each_fits : (os : List Operand) (ts : List Term) → UsableEach E os ts → ArgumentsFit E false false ts os
  each_fits [] [] u = fits_none
  each_fits (o ∷ os) (t ∷ ts) u = fits_more u.0 (each_fits os ts u.1)
  each_fits [] (t ∷ ts) u = elim u [ ]
  each_fits (o ∷ os) [] u = elim u [ ]

  fits_each : {ts : List Term} {os : List Operand} → ArgumentsFit E false false ts os → UsableEach E os ts
  fits_each fits_none = tt
  fits_each (fits_more u f) = (u, fits_each f)

  no_dots : {ts : List Term} {os : List Operand} → ArgumentsFit E false true ts os → ⊥
  no_dots (fits_more u f) = no_dots f

  pub fixed_dots : (ts : List Term) (os : List Operand) → ArgumentsFit E false true ts os → ⊥
  fixed_dots ts os x = no_dots x

  pub fixed_decides : (ts : List Term) (os : List Operand) (b : Bool) → Decides b (UsableEach E os ts) → Decides b (ArgumentsFit E false false ts os)
  fixed_decides ts os true d = each_fits os ts d
  fixed_decides ts os false d = λ x. d (fits_each x)

  pub no_dots_fixed : (variadic dots : Bool) (ts : List Term) (os : List Operand) → variadic ≡ false → dots ≡ true → ArgumentsFit E variadic dots ts os → ⊥
  no_dots_fixed variadic dots ts os e f x = fixed_dots ts os (subst (λ (b : Bool). ArgumentsFit E false b ts os) f (subst (λ (b : Bool). ArgumentsFit E b dots ts os) e x))

  pub fixed_each : (variadic dots : Bool) (ts : List Term) (os : List Operand) (b : Bool) → variadic ≡ false → dots ≡ false → Decides b (UsableEach E os ts) → Decides b (ArgumentsFit E variadic dots ts os)
  fixed_each variadic dots ts os b e f d = subst (λ (v : Bool). Decides b (ArgumentsFit E v dots ts os)) (sym e) (subst (λ (v : Bool). Decides b (ArgumentsFit E false v ts os)) (sym f) (fixed_decides ts os b d))

  -- of a variadic one

  rest_fit : {dots : Bool} {t : Term} {os : List Operand} → RestFits E dots t os → ArgumentsFit E true dots (t ∷ []) os
  rest_fit (rest_slice u) = fits_slice u
  rest_fit (rest_elements e u) = fits_rest e u

  no_param : {dots : Bool} {os : List Operand} → ArgumentsFit E true dots [] os → ⊥
  no_param x = elim x [ ]

  pub variadic_none : (dots : Bool) (os : List Operand) → ArgumentsFit E true dots [] os → ⊥
  variadic_none dots os x = no_param x

  pub variadic_no_params : (variadic dots : Bool) (ts : List Term) (os : List Operand) → variadic ≡ true → length ts ≡ 0 → ArgumentsFit E variadic dots ts os → ⊥
  variadic_no_params variadic dots [] os e f x = no_param (subst (λ (b : Bool). ArgumentsFit E b dots [] os) e x)
  variadic_no_params variadic dots (t ∷ ts) os e f x = absurd (omega arith)

  fit_rest : {dots : Bool} {t : Term} {os : List Operand} → ArgumentsFit E true dots (t ∷ []) os → RestFits E dots t os
  fit_rest (fits_more u f) = absurd (no_param f)
  fit_rest (fits_slice u) = rest_slice u
  fit_rest (fits_rest e u) = rest_elements e u

  join : (dots : Bool) (os : List Operand) (ts : List Term) (qs : List Operand) (t : Term) → UsableEach E os ts → RestFits E dots t qs → ArgumentsFit E true dots (ts ++ t ∷ []) (os ++ qs)
  join dots [] [] qs t u r = rest_fit r
  join dots (o ∷ os) (x ∷ ts) qs t u r = fits_more u.0 (join dots os ts qs t u.1 r)
  join dots [] (x ∷ ts) qs t u r = elim u [ ]
  join dots (o ∷ os) [] qs t u r = elim u [ ]

  -- where the parameters are some and a last, and the operands as many and others
  abbrev Parts : Bool → List Operand → List Term → List Operand → Term → Type 0
  Parts dots os ts qs t = UsableEach E os ts × RestFits E dots t qs

  fits_head : {dots : Bool} {t : Term} {ts : List Term} {o : Operand} {os : List Operand} → (ts ≡ [] → ⊥) → ArgumentsFit E true dots (t ∷ ts) (o ∷ os) → UsableAs E o t × ArgumentsFit E true dots ts os
  fits_head none (fits_more u f) = (u, f)
  fits_head none (fits_slice u) = absurd (none refl)
  fits_head none (fits_rest e u) = absurd (none refl)

  no_head : {dots : Bool} {t : Term} {ts : List Term} → (ts ≡ [] → ⊥) → ArgumentsFit E true dots (t ∷ ts) [] → ⊥
  no_head none (fits_rest e u) = none refl

  ends : (ts : List Term) (t : Term) → ts ++ t ∷ [] ≡ [] → ⊥
  ends [] t e = absurd (cc)
  ends (x ∷ ts) t e = absurd (cc)

  part : (dots : Bool) (os : List Operand) (ts : List Term) (qs : List Operand) (t : Term) → length os ≡ length ts → ArgumentsFit E true dots (ts ++ t ∷ []) (os ++ qs) → Parts dots os ts qs t
  part dots [] [] qs t e f = (tt, fit_rest f)
  part dots (o ∷ os) (x ∷ ts) qs t e f = let p = fits_head (ends ts t) f in let q = part dots os ts qs t (omega arith) p.1 in ((p.0, q.0), q.1)
  part dots [] (x ∷ ts) qs t e f = absurd (omega arith)
  part dots (o ∷ os) [] qs t e f = absurd (omega arith)

  few : (dots : Bool) (os : List Operand) (ts : List Term) (t : Term) → length os < length ts → ArgumentsFit E true dots (ts ++ t ∷ []) os → ⊥
  few dots os [] t h f = absurd (omega arith)
  few dots [] (x ∷ ts) t h f = no_head (ends ts t) f
  few dots (o ∷ os) (x ∷ ts) t h f = few dots os ts t (omega arith) (fits_head (ends ts t) f).1

  pub variadic_few : (dots : Bool) (os : List Operand) (all ts : List Term) (t : Term) → all ≡ ts ++ t ∷ [] → length os < length ts → ArgumentsFit E true dots all os → ⊥
  variadic_few dots os all ts t e h f = few dots os ts t h (subst (λ (x : List Term). ArgumentsFit E true dots x os) e f)

  parts_of : (dots : Bool) (every os qs : List Operand) (all ts : List Term) (t : Term) → all ≡ ts ++ t ∷ [] → every ≡ os ++ qs → length os ≡ length ts → ArgumentsFit E true dots all every → Parts dots os ts qs t
  parts_of dots every os qs all ts t e g h f = part dots os ts qs t h (subst (λ (x : List Operand). ArgumentsFit E true dots (ts ++ t ∷ []) x) g (subst (λ (x : List Term). ArgumentsFit E true dots x every) e f))

  of_parts : (dots : Bool) (every os qs : List Operand) (all ts : List Term) (t : Term) → all ≡ ts ++ t ∷ [] → every ≡ os ++ qs → UsableEach E os ts → RestFits E dots t qs → ArgumentsFit E true dots all every
  of_parts dots every os qs all ts t e g u r = subst (λ (x : List Term). ArgumentsFit E true dots x every) (sym e) (subst (λ (x : List Operand). ArgumentsFit E true dots (ts ++ t ∷ []) x) (sym g) (join dots os ts qs t u r))

  pub variadic_no_fixed : (dots : Bool) (every os qs : List Operand) (all ts : List Term) (t : Term) → all ≡ ts ++ t ∷ [] → every ≡ os ++ qs → length os ≡ length ts → (UsableEach E os ts → ⊥) → ArgumentsFit E true dots all every → ⊥
  variadic_no_fixed dots every os qs all ts t e g h none f = none (parts_of dots every os qs all ts t e g h f).0

  pub variadic_decides : (dots : Bool) (every os qs : List Operand) (all ts : List Term) (t : Term) (b : Bool) → all ≡ ts ++ t ∷ [] → every ≡ os ++ qs → length os ≡ length ts → UsableEach E os ts → Decides b (RestFits E dots t qs) → Decides b (ArgumentsFit E true dots all every)
  variadic_decides dots every os qs all ts t true e g h u d = of_parts dots every os qs all ts t e g u d
  variadic_decides dots every os qs all ts t false e g h u d = λ f. d (parts_of dots every os qs all ts t e g h f).1

  rest_one : {t : Term} {os : List Operand} → RestFits E true t os → (o : Operand) × (os ≡ o ∷ []) × UsableAs E o t
  rest_one (rest_slice u) = (_, refl, u)

  one_decides : (t : Term) (os : List Operand) (o : Operand) (b : Bool) → os ≡ o ∷ [] → Decides b (UsableAs E o t) → Decides b (RestFits E true t os)
  one_decides t os o true e d = subst (RestFits E true t) (sym e) (rest_slice d)
  one_decides t os o false e d = λ x. d (subst (λ (y : Operand). UsableAs E y t) (head_same (sym (rest_one x).1 ∙ e)) (rest_one x).2)

  pub rest_decides : (dots : Bool) (t : Term) (os : List Operand) (o : Operand) (b : Bool) → dots ≡ true → os ≡ o ∷ [] → Decides b (UsableAs E o t) → Decides b (RestFits E dots t os)
  rest_decides dots t os o b f e d = subst (λ (x : Bool). Decides b (RestFits E x t os)) (sym f) (one_decides t os o b e d)

  pub rest_none : (dots : Bool) (t : Term) (os : List Operand) → dots ≡ true → ((o : Operand) → os ≡ o ∷ [] → ⊥) → RestFits E dots t os → ⊥
  rest_none dots t os f none x = none _ (rest_one (subst (λ (b : Bool). RestFits E b t os) f x)).1

  rest_each : {t : Term} {os : List Operand} → RestFits E false t os → (e : Term) × (out-Term t ≡ Term-F.Slice e) × Each (λ o. UsableAs E o e) os
  rest_each (rest_elements e u) = (_, e, u)

  each_decides : (t : Term) (os : List Operand) (e : Term) (b : Bool) → out-Term t ≡ Term-F.Slice e → Decides b (Each (λ o. UsableAs E o e) os) → Decides b (RestFits E false t os)
  each_decides t os e true f d = rest_elements f d
  each_decides t os e false f d = λ x. d (subst (λ (y : Term). Each (λ o. UsableAs E o y) os) (same_element (sym (rest_each x).1 ∙ f)) (rest_each x).2)

  pub elements_decides : (dots : Bool) (t : Term) (os : List Operand) (e : Term) (b : Bool) → dots ≡ false → out-Term t ≡ Term-F.Slice e → Decides b (Each (λ o. UsableAs E o e) os) → Decides b (RestFits E dots t os)
  elements_decides dots t os e b g f d = subst (λ (x : Bool). Decides b (RestFits E x t os)) (sym g) (each_decides t os e b f d)

  pub elements_none : (dots : Bool) (t : Term) (os : List Operand) → dots ≡ false → ((e : Term) → out-Term t ≡ Term-F.Slice e → ⊥) → RestFits E dots t os → ⊥
  elements_none dots t os g none x = none _ (rest_each (subst (λ (b : Bool). RestFits E b t os) g x)).1

  -- ---- calls

  pub call_fits : (dots : Bool) (g : Signature) (os : List Operand) (r : Operand) → ArgumentsFit E (out-Signature g).variadic dots (out-Signature g).params os → r ≡ results_of (out-Signature g).results → CallsSignature E dots g os r
  call_fits dots g os r f e = subst (CallsSignature E dots g os) (sym e) (calls_signature f)

  signature_fits : {dots : Bool} {g : Signature} {os : List Operand} {r : Operand} → CallsSignature E dots g os r → ArgumentsFit E (out-Signature g).variadic dots (out-Signature g).params os
  signature_fits (calls_signature f) = f

  pub call_not_fit : (dots : Bool) (g : Signature) (os : List Operand) → (ArgumentsFit E (out-Signature g).variadic dots (out-Signature g).params os → ⊥) → (r : Operand) → CallsSignature E dots g os r → ⊥
  call_not_fit dots g os none r x = none (signature_fits x)

  -- by equal parameters and results

  pub call_unfit : (dots : Bool) (g : Signature) (os : List Operand) (ps : List Term) (b : Bool) → ps ≡ (out-Signature g).params → b ≡ false → Decides b (ArgumentsFit E (out-Signature g).variadic dots ps os) → (r : Operand) → CallsSignature E dots g os r → ⊥
  call_unfit dots g os ps b e f d = call_not_fit dots g os (λ x. decided_false (ArgumentsFit E (out-Signature g).variadic dots ps os) b f d (subst (λ (y : List Term). ArgumentsFit E (out-Signature g).variadic dots y os) (sym e) x))

  pub call_fit : (dots : Bool) (g : Signature) (os : List Operand) (ps ts : List Term) (b : Bool) (r : Operand) → ps ≡ (out-Signature g).params → b ≡ true → Decides b (ArgumentsFit E (out-Signature g).variadic dots ps os) → ts ≡ (out-Signature g).results → r ≡ results_of ts → CallsSignature E dots g os r
  call_fit dots g os ps ts b r e f d h i = call_fits dots g os r (subst (λ (y : List Term). ArgumentsFit E (out-Signature g).variadic dots y os) e (decided_true (ArgumentsFit E (out-Signature g).variadic dots ps os) b f d)) (i ∙ ap results_of h)

  -- the results of a call by themselves are no argument

  tuple_used : {o : Operand} {t : Term} → UsableAs E o t → o.mode ≡ mode.Tuple → ⊥
  tuple_used (use_value h a) e = typed_mode h e refl refl
  tuple_used (use_constant f r) e = absurd (cc)
  tuple_used (use_truth f) e = absurd (cc)
  tuple_used (use_constant_as_any f d) e = absurd (cc)
  tuple_used (use_truth_as_any f) e = absurd (cc)
  tuple_used (use_nil f) e = absurd (cc)

  tuple_fits : {variadic dots : Bool} {ps : List Term} {o : Operand} {os : List Operand} → ArgumentsFit E variadic dots ps (o ∷ os) → o.mode ≡ mode.Tuple → ⊥
  tuple_fits (fits_more u f) e = tuple_used u e
  tuple_fits (fits_slice u) e = tuple_used u e
  tuple_fits (fits_rest f u) e = tuple_used u.0 e

  passed : {dots : Bool} {os qs : List Operand} → Passes dots os qs → (qs ≡ os) ⊎ ((ts : List Term) × (dots ≡ false) × (os ≡ tuple ts ∷ []) × (qs ≡ map plain ts))
  passed passes_each = inl refl
  passed passes_results = inr (_, refl, refl, refl)

  same_results : {ts us : List Term} → tuple ts ∷ [] ≡ tuple us ∷ [] → ts ≡ us
  same_results e = many (ap (λ (x : Operand). x.shape) (head_same e))

  signature_tuple : {dots : Bool} {g : Signature} {ts : List Term} {r : Operand} → CallsSignature E dots g (tuple ts ∷ []) r → ⊥
  signature_tuple x = tuple_fits (signature_fits x) refl

  with_results : {g : Signature} {ts : List Term} {r : Operand} → CallsWith E false g (tuple ts ∷ []) r → CallsSignature E false g (map plain ts) r
  with_results {g = g} {r = r} (calls_with p x) = elim (passed p) [ inl e ↦ absurd (signature_tuple (subst (λ (y : List Operand). CallsSignature E false g y r) e x)) | inr s ↦ subst (λ (y : List Operand). CallsSignature E false g y r) (s.3 ∙ ap (map plain) (sym (same_results s.2))) x ]

  spread : (g : Signature) (ts : List Term) (r : Option Operand) → Gives (CallsSignature E false g (map plain ts)) r → Gives (CallsWith E false g (tuple ts ∷ [])) r
  spread g ts (Some r) d = calls_with passes_results d
  spread g ts None d = λ r x. d r (with_results x)

  pub call_spread : (dots : Bool) (g : Signature) (os : List Operand) (ts : List Term) (r : Option Operand) → dots ≡ false → os ≡ tuple ts ∷ [] → Gives (CallsSignature E false g (map plain ts)) r → Gives (CallsWith E dots g os) r
  call_spread dots g os ts r e f d = subst (λ (b : Bool). Gives (CallsWith E b g os) r) (sym e) (subst (λ (y : List Operand). Gives (CallsWith E false g y) r) (sym f) (spread g ts r d))

  with_each : {dots : Bool} {g : Signature} {os : List Operand} {r : Operand} → ((ts : List Term) → dots ≡ false → os ≡ tuple ts ∷ [] → ⊥) → CallsWith E dots g os r → CallsSignature E dots g os r
  with_each {dots = dots} {g = g} {r = r} none (calls_with p x) = elim (passed p) [ inl e ↦ subst (λ (y : List Operand). CallsSignature E dots g y r) e x | inr s ↦ absurd (none s.0 s.1 s.2) ]

  pub call_each : (dots : Bool) (g : Signature) (os : List Operand) (r : Option Operand) → ((ts : List Term) → dots ≡ false → os ≡ tuple ts ∷ [] → ⊥) → Gives (CallsSignature E dots g os) r → Gives (CallsWith E dots g os) r
  call_each dots g os (Some r) none d = calls_with passes_each d
  call_each dots g os None none d = λ r x. d r (with_each none x)

  of_passed : {dots : Bool} {o r : Operand} {os qs : List Operand} {t : Term} {g : Signature} → IsTyped o t → under E.table t ≡ Term-F.Func g → Passes dots os qs → CallsSignature E dots g qs r → CallsFunction E dots o os r
  of_passed h e p (calls_signature f) = calls_function h e p f

  of_signature : {dots : Bool} {o r : Operand} {os : List Operand} {t : Term} {g : Signature} → IsTyped o t → under E.table t ≡ Term-F.Func g → CallsWith E dots g os r → CallsFunction E dots o os r
  of_signature h e (calls_with p x) = of_passed h e p x

  to_signature : {dots : Bool} {o r : Operand} {os : List Operand} {t : Term} {g : Signature} → IsTyped o t → under E.table t ≡ Term-F.Func g → CallsFunction E dots o os r → CallsWith E dots g os r
  to_signature {dots = dots} {r = r} {os = os} h e (calls_function {g = x} i f p a) = subst (λ (y : Signature). CallsWith E dots y os (results_of (out-Signature x).results)) (same_function (sym f ∙ ap (under E.table) (one_type i h) ∙ e)) (calls_with p (calls_signature a))

  pub call_gives : (dots : Bool) (o : Operand) (os : List Operand) (t : Term) (g : Signature) (r : Option Operand) → IsTyped o t → under E.table t ≡ Term-F.Func g → Gives (CallsWith E dots g os) r → Gives (CallsFunction E dots o os) r
  call_gives dots o os t g (Some r) h e d = of_signature h e d
  call_gives dots o os t g None h e d = λ r x. d r (to_signature h e x)

  called : {dots : Bool} {o r : Operand} {os : List Operand} → CallsFunction E dots o os r → (t : Term) × (g : Signature) × IsTyped o t × (under E.table t ≡ Term-F.Func g)
  called (calls_function h e p f) = (_, _, h, e)

  pub call_no_type : (dots : Bool) (o : Operand) (os : List Operand) → ((t : Term) → IsTyped o t → ⊥) → (r : Operand) → CallsFunction E dots o os r → ⊥
  call_no_type dots o os none r x = none _ (called x).2

  pub call_no_function : (dots : Bool) (o : Operand) (os : List Operand) (t : Term) → IsTyped o t → ((g : Signature) → under E.table t ≡ Term-F.Func g → ⊥) → (r : Operand) → CallsFunction E dots o os r → ⊥
  call_no_function dots o os t h none r x = none _ (ap (under E.table) (one_type h (called x).2) ∙ (called x).3)
