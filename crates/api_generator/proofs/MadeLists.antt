-- The list of made files as it grows.
use Rattle.std.proofs.Common.{◌≡◌, ℕ, suc, List, [], ◌∷◌, ◌++◌, codes, sym, ap, ◌∙◌, subst, append_assoc}
use Rattle.go_outside.specs.declared.memory_files.FilePair.{FilePair}
use Rattle.api_generator.specs.MadeTrees.{file_at, new_file, old_file, package_files}

two_more : (old new rest all : List FilePair) (x y : FilePair) → new ≡ old ++ x ∷ y ∷ [] → old ++ x ∷ y ∷ rest ≡ all → new ++ rest ≡ all
two_more old new rest all x y e r = ap (λ (w : List FilePair). w ++ rest) e ∙ append_assoc old (x ∷ y ∷ []) rest ∙ r

-- a package is added, and one less is left
pub package_added : (seed left less : ℕ) (old new all : List FilePair) → suc less ≡ left
    → new ≡ old ++ file_at (codes "old") less (old_file seed less) ∷ file_at (codes "new") less (new_file seed less) ∷ []
    → old ++ package_files seed left ≡ all → new ++ package_files seed less ≡ all
package_added seed left less old new all is e r =
    two_more old new (package_files seed less) all (file_at (codes "old") less (old_file seed less)) (file_at (codes "new") less (new_file seed less)) e
    (subst (λ (n : ℕ). old ++ package_files seed n ≡ all) (sym is) r)
