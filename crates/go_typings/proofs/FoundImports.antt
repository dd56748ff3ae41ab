-- Where no import is the first that isn't found, each is found.
use Rattle.std.proofs.Common.{◌≡◌, ℕ, zero, suc, true, List, [], ◌∷◌, map, inl, inr}
use Rattle.std.specs.Prelude.{slice_get}
use Rattle.go_references.specs.go_base.Lists.{Each, Has}
use Rattle.go_rules.proofs.LocalParts.{each_left, each_right}
use Rattle.go_rules.proofs.LocalTerms.{each_has}
use Rattle.go_references.specs.go_syntax.declared.name.Place.{Place}
use Rattle.go_typings.specs.Refusals.{IsFirstMissing, missing_here, missing_later, IsMissing, import_at, imports_from}
use Rattle.go_typings.specs.Sources.{AreFound, Import, PackageSource, SourceFile, imports_in}
use Rattle.go_typings.proofs.Cells.{either}

abbrev IsFound : ℕ × Import → Type 0
IsFound x = x.1.is_found ≡ true

each_found : (xs : List (ℕ × Import)) → ((p : Place) → IsFirstMissing xs p → ⊥) → Each IsFound xs
each_found [] h = tt
each_found (x ∷ xs) h = elim (either x.1.is_found) [
  | inl e ↦ (e, each_found xs (λ p k. h p (missing_later e k)))
  | inr e ↦ absurd (h (record { file = x.0; offset = x.1.place }) (missing_here e))
]

own_found : (file : ℕ) (is : List Import) → Each IsFound (map (import_at file) is) → Each (λ (i : Import). i.is_found ≡ true) is
own_found file [] k = tt
own_found file (i ∷ is) k = (k.0, own_found file is k.1)

file_found : (from : ℕ) (fs : List SourceFile) (file : ℕ) (i : Import) → Each IsFound (imports_from from fs) → Has (imports_in (slice_get fs file)) i → i.is_found ≡ true
file_found from [] file i k h = absurd h
file_found from (f ∷ fs) zero i k h = each_has (λ (i : Import). i.is_found ≡ true) f.imports i (own_found from f.imports (each_left IsFound (map (import_at from) f.imports) (imports_from (suc from) fs) k)) h
file_found from (f ∷ fs) (suc n) i k h = file_found (suc from) fs n i (each_right IsFound (map (import_at from) f.imports) (imports_from (suc from) fs) k) h

pub are_found : (u : PackageSource) → ((p : Place) → IsMissing u p → ⊥) → AreFound u
are_found u h file i k = file_found 0 u.files file i (each_found (imports_from 0 u.files) h) k
