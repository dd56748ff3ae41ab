-- The forms of what is listed.
use Rattle.std.proofs.Common.{◌≡◌, ℕ, List, [], ◌∷◌, ◌++◌, map, refl, sym, ap, ◌∙◌}
use Rattle.go_declarations.specs.Listings.{declaration_of, declarations_of}
use Rattle.go_declarations.specs.declared.listing.Declaration.{Declaration}
use Rattle.go_local_specs.specs.LocalForms.{forms_in}
use Rattle.go_typings.specs.Declarations.{Declaration as Declared, Form, in_file}

form_there : Declared → Form
form_there d = d.form

listed_forms : (ds : List Declaration) → map form_there (declarations_of ds) ≡ forms_in ds
unfolding form_there
listed_forms [] = refl
listed_forms (d ∷ ds) = ap (λ fs. form_there (declaration_of d) ∷ fs) (listed_forms ds)

of_file : (file : ℕ) (fs : List Form) → map form_there (map (in_file file) fs) ≡ fs
unfolding form_there
of_file file [] = refl
of_file file (f ∷ fs) = ap (λ gs. f ∷ gs) (of_file file fs)

pub forms_listed : (file : ℕ) (ds none : List Declaration) (fs : List Form) → none ≡ [] → declarations_of ds ≡ declarations_of none ++ map (in_file file) fs → forms_in ds ≡ fs
forms_listed file ds none fs n e = sym (listed_forms ds) ∙ ap (map form_there) (e ∙ ap (λ (xs : List Declaration). declarations_of xs ++ map (in_file file) fs) n) ∙ of_file file fs
