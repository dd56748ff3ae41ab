-- Answers that are handed on.
use Rattle.std.proofs.Common.{◌≡◌, List, Bool, Result, Ok, Err}
use Rattle.std.specs.Result.{IsErrAnd}
use Rattle.go_rules.specs.Environments.{Env}
use Rattle.go_rules.specs.Nodes.{Node}
use Rattle.go_type_terms.specs.Answers.{Tells, Types}
use Rattle.go_type_terms.specs.declared.error.ExprError.{ExprError}
use Rattle.go_type_terms.specs.declared.error.ExprError.TheVariants.{NoMemory, Untyped}

-- the error is handed on, and what it is of has none either
pub handed : {A B : Type 0} (E : Env) (P : A → Type 0) (Q : B → Type 0) (ns ms : List Node) (e : ExprError) (r : Result (B × Bool) ExprError)
    → IsErrAnd r (λ x. x ≡ e) → Types {A = A} E P ns (Err e) → ((b : B) → Q b → (a : A) × P a) → Types {A = B} E Q ms r
handed E P Q ns ms e (Ok a) h t f = absurd h
handed E P Q ns ms e (Err NoMemory) h t f = tt
handed E P Q ns ms Untyped (Err Untyped) h t f = λ b q. t (f b q).0 (f b q).1
handed E P Q ns ms NoMemory (Err Untyped) h t f = absurd (cc)

-- the same from an answer without a flag
pub handed_told : {A B : Type 0} (E : Env) (P : A → Type 0) (Q : B → Type 0) (ms : List Node) (e : ExprError) (r : Result (B × Bool) ExprError)
    → IsErrAnd r (λ x. x ≡ e) → Tells {A = A} P (Err e) → ((b : B) → Q b → (a : A) × P a) → Types {A = B} E Q ms r
handed_told E P Q ms e (Ok a) h t f = absurd h
handed_told E P Q ms e (Err NoMemory) h t f = tt
handed_told E P Q ms Untyped (Err Untyped) h t f = λ b q. t (f b q).0 (f b q).1
handed_told E P Q ms NoMemory (Err Untyped) h t f = absurd (cc)

-- the same between answers without a flag
pub told_told : {A B : Type 0} (P : A → Type 0) (Q : B → Type 0) (e : ExprError) (r : Result B ExprError)
    → IsErrAnd r (λ x. x ≡ e) → Tells {A = A} P (Err e) → ((b : B) → Q b → (a : A) × P a) → Tells {A = B} Q r
told_told P Q e (Ok a) h t f = absurd h
told_told P Q e (Err NoMemory) h t f = tt
told_told P Q Untyped (Err Untyped) h t f = λ b q. t (f b q).0 (f b q).1
told_told P Q NoMemory (Err Untyped) h t f = absurd (cc)

-- want of memory
pub starved : {B : Type 0} (E : Env) (Q : B → Type 0) (ms : List Node) (r : Result (B × Bool) ExprError) → IsErrAnd r (λ x. x ≡ NoMemory) → Types {A = B} E Q ms r
starved E Q ms (Ok a) h = absurd h
starved E Q ms (Err NoMemory) h = tt
starved E Q ms (Err Untyped) h = absurd (cc)

pub starved_told : {B : Type 0} (Q : B → Type 0) (r : Result B ExprError) → IsErrAnd r (λ x. x ≡ NoMemory) → Tells {A = B} Q r
starved_told Q (Ok a) h = absurd h
starved_told Q (Err NoMemory) h = tt
starved_told Q (Err Untyped) h = absurd (cc)

-- two facts that hold of the same
pub same_types : {A : Type 0} (E : Env) (P Q : A → Type 0) (ns : List Node) (r : Result (A × Bool) ExprError)
    → ((a : A) → P a → Q a) → ((a : A) → Q a → P a) → Types {A = A} E P ns r → Types {A = A} E Q ns r
same_types E P Q ns (Ok a) to from t = (to a.0 t.0, t.1)
same_types E P Q ns (Err NoMemory) to from t = tt
same_types E P Q ns (Err Untyped) to from t = λ a q. t a (from a q)
