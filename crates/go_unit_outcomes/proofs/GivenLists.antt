-- Lists that follow from others, where each item gives something.
use Rattle.std.proofs.Common.{List, [], ◌∷◌, ◌++◌, append_assoc, append-nil, Option, refl, sym, subst, inl, inr}
use Rattle.go_base.specs.Growing.{Grows}
use Rattle.go_base.specs.Lists.{Has}
use Rattle.go_existence.specs.Existence.{AreFinite, NotNone}
use Rattle.go_existence.proofs.DoubleNegation.{so, sure, bind}
use Rattle.go_existence.proofs.FiniteSets.{all_of}
use Rattle.go_imports.specs.Gives.{Gives, next, none, optional}

module _ {A B : Type 0} (R : A → Option B → Type 0) where
  abbrev IsGiven : List A → Type 0
  IsGiven xs = (ys : List B) × Gives R xs ys

  given_on : (done rest : List A) → IsGiven done → ((x : A) → Has rest x → NotNone ((r : Option B) × R x r)) → NotNone (IsGiven (done ++ rest))
  given_on done [] g h = sure (subst IsGiven (sym (append-nil done)) g)
  given_on done (x ∷ rest) g h = bind (h x (inl refl)) (λ r.
      so (given_on (done ++ x ∷ []) rest (g.0 ++ optional r.0, next x r.0 g.1 r.1) (λ y k. h y (inr k))) (subst IsGiven (append_assoc done (x ∷ []) rest)))

  pub given : (xs : List A) → ((x : A) → Has xs x → NotNone ((r : Option B) × R x r)) → NotNone ((ys : List B) × Gives R xs ys)
  given xs h = given_on [] xs ([], none) h

-- a set with exactly the finitely many things of a property
pub grown : {A : Type 0} (P : A → Type 0) → AreFinite P → NotNone ((xs : List A) × Grows P [] xs)
grown P h = so (all_of P h) (λ k. (k.0, record { sound = λ x i. inr (k.1.sound x i); kept = λ x i. absurd i; complete = k.1.complete }))
