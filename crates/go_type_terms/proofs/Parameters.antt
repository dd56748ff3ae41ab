-- The types of parameters and results.
use Rattle.std.proofs.Common.{◌≡◌, ◌≤◌, ◌<◌, ◌-◌, ℕ, zero, suc, List, [], ◌∷◌, ◌++◌, refl, sym, ap, ◌∙◌, subst, Bool, true, false, length, arith, Option, Some, None, Result}
use mathlib.Core.Bool.{true≢false}
use Rattle.std.specs.Prelude.{replicate}
use Rattle.go_model.specs.declared.types.term.Signature.{Signature}
use Rattle.go_model.specs.declared.types.term.Term.{Term}
use Rattle.go_syntax.specs.declared.name.Name.{Name}
use Rattle.go_syntax.specs.declared.types.FuncResult.{FuncResult, FuncResult-F}
use Rattle.go_syntax.specs.declared.types.ParameterDecl.{ParameterDecl}
use Rattle.go_syntax.specs.declared.types.«Type».{«Type» as Typ}
use Rattle.go_rules.specs.Environments.{Env}
use Rattle.go_model.specs.types.Terms.{slice_of}
use Rattle.go_rules.specs.Expressions.{OfParameters, OfResult, OfSignature, OfType, for_names, result_parameters, result_type, signature, signature_alone, signature_result}
use Rattle.go_rules.specs.Nodes.{ResultLayer, optional_result_parts, result_parts}
use Rattle.go_rules.proofs.OneOperand.{parameters_once}
use Rattle.go_type_terms.specs.Answers.{Types}
use Rattle.go_type_terms.specs.Results.{OfResults}
use Rattle.go_type_terms.specs.declared.error.ExprError.{ExprError}
use Rattle.go_type_terms.specs.inner.Parameters.{GivesTerms}

-- the last of so many equal items
pub replicate_last : {A : Type 0} (n : ℕ) (x : A) → replicate n x ++ x ∷ [] ≡ replicate (suc n) x
replicate_last zero x = refl
replicate_last (suc n) x = ap (λ xs. x ∷ xs) (replicate_last n x)

pub names_more : (n : Name) (ns : List Name) (t : Term) → replicate (length ns) t ++ t ∷ [] ≡ for_names (n ∷ ns) t
names_more n ns t = replicate_last (length ns) t

minus_one : (n : ℕ) → suc n - 1 ≡ n
minus_one n = omega arith

pub names_last : (ns : List Name) (t : Term) → replicate (length ns - 1) t ++ t ∷ [] ≡ for_names ns t
names_last [] t = refl
names_last (n ∷ ns) t = ap (λ k. replicate k t ++ t ∷ []) (minus_one (length ns)) ∙ names_more n ns t

-- what a declaration gives, by whether it is variadic
pub gives_names : (v : Bool) (ns : List Name) (u : Term) (us : List Term) → v ≡ false → us ≡ for_names ns u → GivesTerms v ns u us
gives_names false ns u us e h = h
gives_names true ns u us e h = absurd (true≢false e)

pub gives_slice : (v : Bool) (ns : List Name) (u : Term) (us : List Term) → v ≡ true → length ns ≤ 1 → us ≡ slice_of u ∷ [] → GivesTerms v ns u us
gives_slice true ns u us e n h = (n, h)
gives_slice false ns u us e n h = absurd (true≢false (sym e))

pub gives_none : (v : Bool) (ns : List Name) (u : Term) → v ≡ true → 1 < length ns → (us : List Term) → GivesTerms v ns u us → ⊥
gives_none true ns u e n us h = absurd (omega (arith, h.0))
gives_none false ns u e n us h = true≢false (sym e)

module _ {E : Env} where
  -- results in parentheses aren't variadic
  pub not_results : (ds : List ParameterDecl) (ts : List Term) (v : Bool) → OfParameters E ds ts v → v ≡ true → (us : List Term) → OfParameters E ds us false → ⊥
  not_results ds ts v h e us k = true≢false (sym e ∙ (parameters_once E h k).1)

  -- results
  pub to_result : {ds : List ParameterDecl} {us : List Term} → OfParameters E ds us false → OfResult E (FuncResult-F.Parameters ds) us
  to_result h = result_parameters h

  pub in_result : {ds : List ParameterDecl} {us : List Term} → OfResult E (FuncResult-F.Parameters ds) us → OfParameters E ds us false
  in_result (result_parameters h) = h

  pub in_result_type : {t : Typ} {us : List Term} → OfResult E (FuncResult-F.«FuncResult::Type» t) us → (u : Term) × OfType E t u
  in_result_type (result_type h) = (_, h)

  -- a signature of parameters and results
  pub to_signature : {ds : List ParameterDecl} {ts us : List Term} {v : Bool} (r : Option FuncResult) → OfParameters E ds ts v → OfResults E r us → OfSignature E ds r (signature ts v us)
  to_signature {ds = ds} {ts = ts} {v = v} None p e = subst (λ (us : List Term). OfSignature E ds None (signature ts v us)) (sym e) (signature_alone p)
  to_signature (Some r) p h = signature_result p h

  pub to_signature_at : {ds es : List ParameterDecl} {ts us : List Term} {v : Bool} (r : Option FuncResult) → ds ≡ es → OfParameters E ds ts v → OfResults E r us → OfSignature E es r (signature ts v us)
  to_signature_at {ts = ts} {us = us} {v = v} r e p h = subst (λ (xs : List ParameterDecl). OfSignature E xs r (signature ts v us)) e (to_signature r p h)

  pub in_signature : {ds : List ParameterDecl} (r : Option FuncResult) {g : Signature} → OfSignature E ds r g → (ts : List Term) × (v : Bool) × (us : List Term) × OfParameters E ds ts v × OfResults E r us
  in_signature r (signature_alone p) = (_, _, [], p, refl)
  in_signature r (signature_result p h) = (_, _, _, p, h)

  pub parameters_in : {ds : List ParameterDecl} (r : Option FuncResult) {g : Signature} → OfSignature E ds r g → (ts : List Term) × (v : Bool) × OfParameters E ds ts v
  parameters_in r h = let i = in_signature r h in (i.0, i.1, i.3)

  pub results_in : {ds : List ParameterDecl} (r : Option FuncResult) {g : Signature} → OfSignature E ds r g → (us : List Term) × OfResults E r us
  results_in r h = let i = in_signature r h in (i.2, i.4)

-- a result, by its form
pub by_result : (E : Env) (l k : ResultLayer) (r : Result (List Term × Bool) ExprError) → l ≡ k → Types {A = List Term} E (OfResult E k) (result_parts k) r → Types {A = List Term} E (OfResult E l) (result_parts l) r
by_result E l k r e t = subst (λ (f : ResultLayer). Types {A = List Term} E (OfResult E f) (result_parts f) r) (sym e) t

pub by_results : (E : Env) (o p : Option FuncResult) (r : Result (List Term × Bool) ExprError) → o ≡ p → Types {A = List Term} E (OfResults E p) (optional_result_parts p) r → Types {A = List Term} E (OfResults E o) (optional_result_parts o) r
by_results E o p r e t = subst (λ (f : Option FuncResult). Types {A = List Term} E (OfResults E f) (optional_result_parts f) r) (sym e) t
