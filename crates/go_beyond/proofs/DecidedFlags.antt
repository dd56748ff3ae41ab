-- Flags of declarations of which a fact is decided one by one.
use Rattle.std.proofs.Common.{◌≡◌, ℕ, zero, suc, ◌+◌, ◌<◌, Bool, true, false, List, [], ◌∷◌, ◌++◌, Some, arith, get_or, length, slice_get, refl, sym, ap, ◌∙◌, subst}
use Rattle.go_declarations.specs.Listings.{declaration_of, declarations_of}
use Rattle.go_declarations.specs.declared.listing.Declaration.{Declaration as Borrowed}
use Rattle.go_graphs.specs.Flags.{AreFlagsOf}
use Rattle.go_graphs.proofs.Pushed.{flags_next}
use Rattle.go_selectors.specs.Answers.{Decides}
use Rattle.go_typings.specs.Assignments.{At}
use Rattle.go_typings.specs.Declarations.{Declaration}
use Rattle.go_typings.proofs.Cells.{some_once}

-- the declaration of a number is the one that is borrowed
pub borrowed_at : (ds : List Borrowed) (n : ℕ) (x : Borrowed) → n < length ds → x ≡ get_or ds n x → slice_get (declarations_of ds) n ≡ Some (declaration_of x)
borrowed_at [] n x h is = absurd (omega (arith, h))
borrowed_at (d ∷ ds) zero x h is = ap (λ y. Some (declaration_of y)) (sym is)
borrowed_at (d ∷ ds) (suc n) x h is = borrowed_at ds n x (omega (arith, h)) is

module _ (ds : List Borrowed) (k : ℕ) (x : Borrowed) (P : Declaration → Type 0) (within : k < length ds) (is : x ≡ get_or ds k x) where
  at_number : P (declaration_of x) → At (declarations_of ds) k P
  at_number p = (declaration_of x, borrowed_at ds k x within is, p)

  at_only : At (declarations_of ds) k P → P (declaration_of x)
  at_only a = subst P (sym (some_once (declaration_of x) a.0 (sym (borrowed_at ds k x within is) ∙ a.1))) a.2

  -- of one more it is decided
  pub decided_next : (flags : List Bool) (b : Bool) → AreFlagsOf k (λ n. At (declarations_of ds) n P) flags → Decides b (P (declaration_of x)) → AreFlagsOf (k + 1) (λ n. At (declarations_of ds) n P) (flags ++ b ∷ [])
  decided_next flags b are d =
      flags_next k (λ n. At (declarations_of ds) n P) flags b are (λ e. at_number (subst (λ (z : Bool). Decides z (P (declaration_of x))) e d)) (λ e a. subst (λ (z : Bool). Decides z (P (declaration_of x))) e d (at_only a))

-- they are as many
pub listed_length : (ds : List Borrowed) → length (declarations_of ds) ≡ length ds
listed_length [] = refl
listed_length (d ∷ ds) = ap suc (listed_length ds)
