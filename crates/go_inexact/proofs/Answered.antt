-- What answers say of facts that are the same, and of ones that are told untyped.
use Rattle.std.proofs.Common.{◌≡◌, Bool, true, false, Result, Ok, Err, subst}
use Rattle.go_selectors.specs.Answers.{Decides}
use Rattle.go_type_terms.specs.Answers.{Tells}
use Rattle.go_type_terms.specs.declared.error.ExprError.{ExprError}
use Rattle.go_type_terms.specs.declared.error.ExprError.TheVariants.{NoMemory, Untyped}

pub untold : {A : Type 0} (P : A → Type 0) (e : ExprError) → e ≡ Untyped → Tells P (Err e) → (a : A) → P a → ⊥
untold {A} P e q t = subst (λ (z : ExprError). Tells {A = A} P (Err z)) q t

pub tells_as : {A : Type 0} (P Q : A → Type 0) (r : Result A ExprError) → ((a : A) → P a → Q a) → ((a : A) → Q a → P a) → Tells P r → Tells Q r
tells_as P Q (Ok a) f g t = f a t
tells_as P Q (Err NoMemory) f g t = tt
tells_as P Q (Err Untyped) f g t = λ a q. t a (g a q)

pub of_fact : {P Q : Type 0} (b : Bool) → (P → Q) → (Q → P) → Decides b P → Decides b Q
of_fact true f g d = f d
of_fact false f g d = λ q. d (g q)

pub is_so : (P : Type 0) (b : Bool) → b ≡ true → Decides b P → P
is_so P b e d = subst (λ (z : Bool). Decides z P) e d

pub is_not : (P : Type 0) (b : Bool) → b ≡ false → Decides b P → P → ⊥
is_not P b e d = subst (λ (z : Bool). Decides z P) e d
