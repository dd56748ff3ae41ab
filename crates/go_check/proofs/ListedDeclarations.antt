-- Borrowed declarations and those that they are.
use Rattle.std.proofs.Common.{◌≡◌, ◌<◌, ℕ, zero, suc, List, [], ◌∷◌, Some, arith, get_or, length, refl, slice_get, sym, ap, ◌∙◌, subst}
use Rattle.go_declarations.specs.Listings.{declaration_of, declarations_of}
use Rattle.go_declarations.specs.declared.listing.Declaration.{Declaration}
use Rattle.go_typings.specs.Assignments.{At}
use Rattle.go_typings.specs.Declarations.{Declaration as Declared}

same_length : (ds : List Declaration) → length ds ≡ length (declarations_of ds)
same_length [] = refl
same_length (d ∷ ds) = ap suc (same_length ds)

-- they are as many
pub listed_length : (ds : List Declaration) (all : List Declared) → declarations_of ds ≡ all → length ds ≡ length all
listed_length ds all listed = same_length ds ∙ ap length listed

item_at : (ds : List Declaration) (n : ℕ) (d : Declaration) → n < length ds → d ≡ get_or ds n d → slice_get (declarations_of ds) n ≡ Some (declaration_of d)
item_at [] n d h is = absurd (omega (arith, h))
item_at (x ∷ ds) zero d h is = ap (λ y. Some (declaration_of y)) (sym is)
item_at (x ∷ ds) (suc n) d h is = item_at ds n d (omega (arith, h)) is

-- the declaration of a number is the one that is borrowed
pub listed_at : (ds : List Declaration) (all : List Declared) (n : ℕ) (d : Declaration) (P : Declared → Type 0) → declarations_of ds ≡ all → n < length all → d ≡ get_or ds n d → P (declaration_of d) → At all n P
listed_at ds all n d P listed within is p = (declaration_of d, ap (λ es. slice_get es n) (sym listed) ∙ item_at ds n d (subst (λ k. n < k) (sym (listed_length ds all listed)) within) is, p)
