-- What holds of each item of a list.
use Rattle.std.proofs.Common.{List, [], ◌∷◌, ◌++◌, map}
use Rattle.go_base.specs.Gathered.{gather}
use Rattle.go_base.specs.Lists.{Each}

pub each_as : {A : Type 0} (P Q : A → Type 0) (xs : List A) → ((x : A) → P x → Q x) → Each P xs → Each Q xs
each_as P Q [] f h = tt
each_as P Q (x ∷ xs) f h = (f x h.0, each_as P Q xs f h.1)

pub each_joined : {A : Type 0} (P : A → Type 0) (xs ys : List A) → Each P xs → Each P ys → Each P (xs ++ ys)
each_joined P [] ys h k = k
each_joined P (x ∷ xs) ys h k = (h.0, each_joined P xs ys h.1 k)

pub each_gathered : {A B : Type 0} (P : B → Type 0) (f : A → List B) (xs : List A) → Each (λ x. Each P (f x)) xs → Each P (gather f xs)
each_gathered P f [] h = tt
each_gathered P f (x ∷ xs) h = each_joined P (f x) (gather f xs) h.0 (each_gathered P f xs h.1)

pub each_mapped : {A B : Type 0} (P : B → Type 0) (f : A → B) (xs : List A) → Each (λ x. P (f x)) xs → Each P (map f xs)
each_mapped P f [] h = tt
each_mapped P f (x ∷ xs) h = (h.0, each_mapped P f xs h.1)
