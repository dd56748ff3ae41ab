-- The rows in front of a place, and one more.
use Rattle.std.proofs.Common.{◌≡◌, ◌+◌, ◌<◌, ℕ, List, [], ◌∷◌, ◌++◌, length, take, get_or, ap, ◌∙◌, inl, inr, ◌⊎◌}
use Rattle.std.proofs.lemmas.List.{map-append, take_more}
use Rattle.go_base.specs.Lists.{Has}
use Rattle.go_base.proofs.Members.{has_split}
use Rattle.go_declared.specs.declared.methods.MethodRow.{MethodRow}
use Rattle.go_typings.specs.Declarations.{Declaration}
use Rattle.go_met.specs.inner.SharedNames.{row_names}
use Rattle.go_declared.specs.MethodTables.{method_name}

pub has_left : {A : Type 0} (xs ys : List A) (x : A) → Has xs x → Has (xs ++ ys) x
has_left [] ys x h = absurd h
has_left (y ∷ xs) ys x (inl e) = inl e
has_left (y ∷ xs) ys x (inr h) = inr (has_left xs ys x h)

pub has_right : {A : Type 0} (xs ys : List A) (x : A) → Has ys x → Has (xs ++ ys) x
has_right [] ys x h = h
has_right (y ∷ xs) ys x h = inr (has_right xs ys x h)

-- a member of one more is one of those before, or the last
pub has_last : {A : Type 0} (xs : List A) (y x : A) → Has (xs ++ y ∷ []) x → Has xs x ⊎ (y ≡ x)
has_last xs y x h = elim (has_split xs (y ∷ []) x h) [ inl k ↦ inl k | inr k ↦ inr (one k) ]
  where
    one : Has (y ∷ []) x → y ≡ x
    one (inl e) = e
    one (inr k) = absurd k

pub names_more : (ds : List Declaration) (rows : List MethodRow) (i : ℕ) (r : MethodRow) → i < length rows → row_names ds (take (i + 1) rows) ≡ row_names ds (take i rows) ++ method_name ds (get_or rows i r).number ∷ []
names_more ds rows i r h = ap (row_names ds) (take_more rows i r h) ∙ map-append (λ (x : MethodRow). method_name ds x.number) (take i rows) (get_or rows i r ∷ [])
