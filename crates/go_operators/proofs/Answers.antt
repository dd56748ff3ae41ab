-- Answers of searches, from the answers of their parts.
use Rattle.std.proofs.Common.{◌≡◌, Bool, true, false, Option, Some, None, Result, Ok, refl, sym, subst, ◌∙◌, if◌then◌else◌}
use Rattle.go_usability.specs.go_selectors.Answers.{Decides}
use Rattle.go_usability.specs.Answers.{Gives}

pub none_some : {A : Type 0} {x : A} → None ≡ Some x → ⊥
none_some e = absurd (cc)

pub false_true : false ≡ true → ⊥
false_true e = absurd (cc)

-- what stands in the relation exactly where a fact holds, and then alone
pub given : {A : Type 0} (P : A → Type 0) (Q : Type 0) (b : Bool) (x : A) → Decides b Q → (Q → P x) → ((y : A) → P y → Q) → Gives P (if b then Some x else None)
given P Q true x d f g = f d
given P Q false x d f g = λ y p. d (g y p)

-- the same of a fact that a test decides
pub given_test : {A : Type 0} (P : A → Type 0) (b : Bool) (x : A) → (b ≡ true → P x) → ((y : A) → P y → b ≡ true) → Gives P (if b then Some x else None)
given_test P true x f g = f refl
given_test P false x f g = λ y p. false_true (g y p)

-- an answer that is another one
pub same_answer : {A : Type 0} (P : A → Type 0) (a b : Option A) → a ≡ b → Gives P b → Gives P a
same_answer P a b e g = subst (Gives P) (sym e) g

pub same_ok : {A B : Type 0} {a b : A} → ◌≡◌ {A = Result A B} (Ok a) (Ok b) → a ≡ b
same_ok e = cc

-- what an answer that was taken apart says
pub found_some : {A : Type 0} (P : A → Type 0) (o : Option A) (x : A) → o ≡ Some x → Gives P o → P x
found_some P o x e g = subst (Gives P) e g

pub found_none : {A : Type 0} (P : A → Type 0) (o : Option A) → o ≡ None → Gives P o → (x : A) → P x → ⊥
found_none P o e g = subst (Gives P) e g

pub decided_true : (P : Type 0) (b : Bool) → b ≡ true → Decides b P → P
decided_true P b e d = subst (λ b. Decides b P) e d

pub decided_false : (P : Type 0) (b : Bool) → b ≡ false → Decides b P → P → ⊥
decided_false P b e d = subst (λ b. Decides b P) e d
