-- Nothing is listed twice exactly where no bytes of what is listed are.
use Rattle.std.proofs.Common.{◌≡◌, List, [], ◌∷◌, Option, None, Some, Bool, map, refl, sym, ap, inl, inr}
use Rattle.go_base.specs.Lists.{Has, Once}
use Rattle.go_model.specs.declared.types.term.Term.{Term}
use Rattle.go_selectors.specs.Answers.{Decides}
use Rattle.go_type_codes.proofs.PrefixFree.{some_code, types_told}
use Rattle.go_clauses.proofs.go_assignments_proofs.Decided.{decided_so}
use Rattle.go_type_switches.specs.inner.Listing.{code_in}

listed_told : (x y : Option Term) → code_in x ≡ code_in y → x ≡ y
listed_told None None e = refl
listed_told None (Some u) e = absurd (some_code u (sym e))
listed_told (Some t) None e = absurd (some_code t e)
listed_told (Some t) (Some u) e = ap Some (types_told t u e)

has_code : (xs : List (Option Term)) (x : Option Term) → Has xs x → Has (map code_in xs) (code_in x)
has_code [] x h = absurd h
has_code (y ∷ ys) x (inl e) = inl (ap code_in e)
has_code (y ∷ ys) x (inr h) = inr (has_code ys x h)

has_listed : (xs : List (Option Term)) (x : Option Term) → Has (map code_in xs) (code_in x) → Has xs x
has_listed [] x h = absurd h
has_listed (y ∷ ys) x (inl e) = inl (listed_told y x e)
has_listed (y ∷ ys) x (inr h) = inr (has_listed ys x h)

once_listed : (xs : List (Option Term)) → Once (map code_in xs) → Once xs
once_listed [] o = tt
once_listed (x ∷ xs) o = ((λ h. o.0 (has_code xs x h)), once_listed xs o.1)

once_codes : (xs : List (Option Term)) → Once xs → Once (map code_in xs)
once_codes [] o = tt
once_codes (x ∷ xs) o = ((λ h. o.0 (has_listed xs x h)), once_codes xs o.1)

pub once_decided : (xs : List (Option Term)) (b : Bool) → Decides b (Once (map code_in xs)) → Decides b (Once xs)
once_decided xs b d = decided_so (Once (map code_in xs)) (Once xs) b (once_listed xs) (once_codes xs) d
