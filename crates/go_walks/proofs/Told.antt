-- Answers that tell of expressions, as tests and look-ups.
use Rattle.std.proofs.Common.{◌≡◌, Bool, Option, Result, Ok, Err, sym, subst}
use Rattle.std.specs.Prelude.{IfOk}
use Rattle.go_base.specs.declared.memory.NoMemory.{NoMemory as Starved}
use Rattle.go_rules.specs.Environments.{Env}
use Rattle.go_rules.specs.Scopes.{Scopes as Known, env_of}
use Rattle.go_selectors.specs.Answers.{Decides}
use Rattle.go_expr.specs.go_type_terms.Answers.{Tells}
use Rattle.go_expr.specs.go_type_terms.declared.error.ExprError.{ExprError}
use Rattle.go_expr.specs.go_type_terms.declared.error.ExprError.TheVariants.{NoMemory, Untyped}
use Rattle.go_expr.specs.go_usability.Answers.{Gives}
use Rattle.go_walks.specs.Told.{found_by, holds_by}

held : (P : Type 0) (a : Result (Unit {0}) ExprError) → Tells {A = Unit {0}} (λ u. P) a → IfOk (holds_by a) (λ b. Decides b P)
held P (Ok u) t = t
held P (Err Untyped) t = λ p. t tt p
held P (Err NoMemory) t = tt

pub told_holds : (P : Type 0) (a : Result (Unit {0}) ExprError) (r : Result Bool Starved) → r ≡ holds_by a → Tells {A = Unit {0}} (λ u. P) a → IfOk r (λ b. Decides b P)
told_holds P a r e t = subst (λ (x : Result Bool Starved). IfOk x (λ b. Decides b P)) (sym e) (held P a t)

module _ {A : Type 0} (P : A → Type 0) where
  given : (a : Result A ExprError) → Tells {A = A} P a → IfOk (found_by a) (Gives P)
  given (Ok x) t = t
  given (Err Untyped) t = t
  given (Err NoMemory) t = tt

  pub told_found : (a : Result A ExprError) (r : Result (Option A) Starved) → r ≡ found_by a → Tells {A = A} P a → IfOk r (Gives P)
  told_found a r e t = subst (λ (x : Result (Option A) Starved). IfOk x (Gives P)) (sym e) (given a t)

-- ---- in the environment that a context asks

pub asked_holds : (P : Env → Type 0) (k e : Known) → k ≡ e → (a : Result (Unit {0}) ExprError) (r : Result Bool Starved) → r ≡ holds_by a → Tells {A = Unit {0}} (λ u. P (env_of k)) a → IfOk r (λ b. Decides b (P (env_of e)))
asked_holds P k e i a r h t = told_holds (P (env_of e)) a r h (subst (λ (g : Known). Tells {A = Unit {0}} (λ u. P (env_of g)) a) i t)

pub asked_found : {A : Type 0} (P : Env → A → Type 0) (k e : Known) → k ≡ e → (a : Result A ExprError) (r : Result (Option A) Starved) → r ≡ found_by a → Tells {A = A} (P (env_of k)) a → IfOk r (Gives (P (env_of e)))
asked_found {A} P k e i a r h t = told_found (P (env_of e)) a r h (subst (λ (g : Known). Tells {A = A} (P (env_of g)) a) i t)

pub asked_so : (P : Env → Type 0) (k e : Known) → k ≡ e → (r : Result Bool Starved) → IfOk r (λ b. Decides b (P (env_of k))) → IfOk r (λ b. Decides b (P (env_of e)))
asked_so P k e i r t = subst (λ (g : Known). IfOk r (λ b. Decides b (P (env_of g)))) i t
